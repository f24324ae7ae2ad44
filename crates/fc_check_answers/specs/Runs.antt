-- How places go on by an entry, and the runs that are kept for them.
use Rattle.std.specs.Prelude.{◌≡◌, ◌⊎◌, ℕ, List, [], Contains}
use Rattle.fc_base.specs.declared.size.GrainSize.{GrainSize}
use Rattle.fc_check_answers.specs.Places.{Place}
use Rattle.fc_check_answers.specs.declared.run.Run.{Run}
use Rattle.fc_check_follow.specs.Following.{IsReachedAt}
use Rattle.fc_check_lines.specs.Asked.{IsAskedBy, entry_by}
use Rattle.fc_check_lines.specs.Bytes.{by_grammar}
use Rattle.fc_check_lines.specs.Leading.{LeadTo}
use Rattle.fc_check_lines.specs.Standing.{Standing}
use Rattle.fc_check_record.specs.Judged.{Judged}
use Rattle.fc_entry.specs.declared.entry.Entry.{Entry}
use Rattle.fc_legal.specs.Agenda.{Agenda, behind_entry}
use Rattle.fc_legal.specs.Steps.{Step}
use Rattle.fc_legal.specs.Whole.{Whole}
use Rattle.law_stands.specs.Names.{named}

-- ---- places

-- What is left of an agenda behind an entry of the actor with this name, after which this is told, leads to this place.
abbrev pub LeadsOn : GrainSize → Agenda → List ℕ → Entry → Whole → Place → Type 0
LeadsOn grain agenda name entry next q =
    LeadTo grain by_grammar (behind_entry grain agenda next (entry_by next.actors name entry)) next [] q.agenda q.told

-- From the one place an entry of the actor with this name leads to the other: it is asked there, and right.
pub record GoesOn (grain : GrainSize) (name : List ℕ) (entry : Entry) (p q : Place) : Type 0 where
  pub asked : IsAskedBy grain p.agenda p.told name entry.request
  pub next : Whole
  pub step : Step grain p.told entry next
  pub leads : LeadsOn grain p.agenda name entry next q

-- ---- lists

-- What one of these gives.
abbrev pub OneGives : {A X : Type 0} → (A → X → Type 0) → List A → X → Type 0
OneGives {A} Gives from x = (a : A) × Contains from a × Gives a x

-- To a list came just those that are so.
pub record Came {X : Type 0} (IsSo : X → Type 0) (old new : List X) : Type 0 where
  pub only : (x : X) → Contains new x → Contains old x ⊎ IsSo x
  pub kept : (x : X) → Contains old x → Contains new x
  pub all : (x : X) → IsSo x → Contains new x

-- Just all places to which the entry leads from one of these.
pub record AreNext (grain : GrainSize) (name : List ℕ) (entry : Entry) (old new : List Place) : Type 0 where
  pub only : (q : Place) → Contains new q → OneGives (GoesOn grain name entry) old q
  pub all : (q : Place) → OneGives (GoesOn grain name entry) old q → Contains new q

-- ---- runs

-- Where a run has come to.
abbrev pub place_of : Judged → Standing → Place
place_of way lines = record { told = named lines.names way.whole; agenda = lines.agenda }

abbrev pub place_at : Run → Place
place_at run = place_of run.way run.lines

-- A way after so many entries, of this grain size.
pub record IsWayAt (grain : GrainSize) (entries : ℕ) (way : Judged) : Type 0 where
  pub grain_is : way.grain ≡ grain
  pub reached : IsReachedAt entries way

abbrev pub AreRunsAt : GrainSize → ℕ → List Run → Type 0
AreRunsAt grain entries runs = (run : Run) → Contains runs run → IsWayAt grain entries run.way

-- With these lines left before the entry, this way after it leads to the place.
abbrev pub WayLeadsOn : Standing → List ℕ → Entry → Judged → Place → Type 0
WayLeadsOn lines name entry way q = LeadsOn way.grain lines.agenda name entry (named lines.names way.whole) q
