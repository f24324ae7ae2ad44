-- Where a session may have come to behind the entries of a printed history.
use Rattle.std.specs.Prelude.{◌≡◌, ℕ, List, [], Contains, Some, slice_index_or}
use Rattle.std.specs.List.{AllZip}
use Rattle.fc_base.specs.declared.size.GrainSize.{GrainSize}
use Rattle.fc_blocks.specs.Segments.{Segment}
use Rattle.fc_check_lines.specs.Bytes.{by_grammar}
use Rattle.fc_check_lines.specs.Leading.{LeadTo}
use Rattle.fc_entry.specs.HistoryState.{place_of_name}
use Rattle.fc_entry.specs.declared.entry.Entry.{Entry}
use Rattle.fc_legal.specs.Agenda.{Agenda, Session}
use Rattle.fc_legal.specs.Whole.{Whole}

-- What is told there, where actors have the names that the session gives them, and what is still to be asked.
pub record Place : Type 0 where
  pub told : Whole
  pub agenda : Agenda

-- Entries of a history whose actors have these names, as entries of one whose actors have those: only the numbers of actors differ.
abbrev pub AreAs : List (List ℕ) → List (List ℕ) → List Entry → List Entry → Type 0
AreAs own names told entries =
    AllZip (λ (t e : Entry). (e ≡ record t { actor = e.actor }) × (place_of_name names (slice_index_or own t.actor []) ≡ Some e.actor)) told entries

-- The entries, as the session numbers their actors, lead to this place.
pub record IsLedTo (grain : GrainSize) (start : Whole) (segs : List Segment) (own : List (List ℕ)) (told : List Entry) (p : Place) : Type 0 where
  pub entries : List Entry
  pub same : AreAs own p.told.actors told entries
  pub leads : LeadTo grain by_grammar (Session segs) start entries p.agenda p.told

-- These are all such places.
pub record AreAllPlaces (grain : GrainSize) (start : Whole) (segs : List Segment) (own : List (List ℕ)) (told : List Entry) (places : List Place) : Type 0 where
  pub only : (p : Place) → Contains places p → IsLedTo grain start segs own told p
  pub all : (p : Place) → IsLedTo grain start segs own told p → Contains places p

-- Nothing is left to be asked at one of these places.
pub record HasEnd (places : List Place) : Type 0 where
  pub place : Place
  pub there : Contains places place
  pub over : place.agenda ≡ Session []

-- The grain size, how many entries there are, and all places behind them.
pub record Answers : Type 0 where
  pub grain : GrainSize
  pub entries : ℕ
  pub places : List Place
