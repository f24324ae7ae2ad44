-- The changes of a lawful decision fit, and the id of what comes isn't the last that there is.
use Rattle.std.proofs.Common.{ℕ, suc, ◌+◌, ◌^◌, ◌<◌, ◌≤◌, List, [], ◌∷◌, filter, fold, length, Bool, arith}
use Rattle.fc_base.specs.Tables.{Tables, after_change}
use Rattle.fc_base.specs.declared.decision.Decision.{Decision}
use Rattle.fc_base.specs.declared.decision.LaneEvent.{LaneEvent}
use Rattle.fc_base.specs.declared.size.GrainSize.{GrainSize}
use Rattle.fc_base.specs.declared.volume.Change.{Change}
use Rattle.fc_base.specs.declared.volume.Change.TheVariants.{AddVolume, AddMapping, AddGroup}
use Rattle.fc_books.specs.After.{after_event, after_table_change}
use Rattle.fc_books.specs.Books.{Books}
use Rattle.fc_desk.specs.Changes.{AreCountable, FitChanges, adds}
use Rattle.fc_follow.specs.Following.{restarts}
use Rattle.fc_legal.specs.Lawful.{FitChanges as FitTables, IsLawful}
use Rattle.fc_legal.specs.Whole.{Whole}

-- Both say it in the same words.
pub fits : (t : Tables) (changes : List Change) → FitTables t changes → FitChanges t changes
fits t [] fit = tt
fits t (change ∷ changes) fit = (fit.0, fits (after_change t change) changes fit.1)

-- ---- ids

-- The ids that come next are at most these.
record AreNext (b : Books) (bound : ℕ) : Type 0 where
  volume : b.next_volume ≤ bound
  mapping : b.next_mapping ≤ bound
  group : b.next_group ≤ bound

-- They stay through events, and where no object comes.
through_events : (sets : ℕ → List Bool) (events : List LaneEvent) (b : Books) (bound : ℕ) → AreNext (fold (after_event sets) b events) bound → AreNext b bound
through_events sets [] b bound next = next
through_events sets (e ∷ es) b bound next =
    let rest = through_events sets es (after_event sets b e) bound next in record { volume = rest.volume; mapping = rest.mapping; group = rest.group }

too_many : {X : Type 0} (n : ℕ) → suc n ≤ 0 → X
too_many n le = absurd (omega (arith, le))

without : (b : Books) (changes : List Change) (bound : ℕ) → length (filter adds changes) ≤ 0 → AreNext (fold after_table_change b changes) bound → AreNext b bound
without b [] bound none next = next
without b (AddVolume v ∷ cs) bound none next = too_many (length (filter adds cs)) none
without b (AddMapping m ∷ cs) bound none next = too_many (length (filter adds cs)) none
without b (AddGroup g ∷ cs) bound none next = too_many (length (filter adds cs)) none
without b (change ∷ cs) bound none next =
    let rest = without (after_table_change b change) cs bound none next in record { volume = rest.volume; mapping = rest.mapping; group = rest.group }

none_countable : (changes : List Change) → length (filter adds changes) ≤ 0 → AreCountable changes
none_countable [] none = tt
none_countable (AddVolume v ∷ cs) none = too_many (length (filter adds cs)) none
none_countable (AddMapping m ∷ cs) none = too_many (length (filter adds cs)) none
none_countable (AddGroup g ∷ cs) none = too_many (length (filter adds cs)) none
none_countable (change ∷ cs) none = (tt, none_countable cs none)

no_more : (n : ℕ) → suc n ≤ 1 → n ≤ 0
no_more n le = omega (arith, le)

-- What comes has an id below those that come next.
all_countable : (b : Books) (changes : List Change) (bound : ℕ) → bound < 2 ^ 32 → length (filter adds changes) ≤ 1 → AreNext (fold after_table_change b changes) bound → AreCountable changes
all_countable b [] bound few one next = tt
all_countable b (AddVolume v ∷ cs) bound few one next =
    let none : length (filter adds cs) ≤ 0 = no_more (length (filter adds cs)) one in
    let now = without (after_table_change b (AddVolume v)) cs bound none next in
    (omega (arith, few, now.volume), none_countable cs none)
all_countable b (AddMapping m ∷ cs) bound few one next =
    let none : length (filter adds cs) ≤ 0 = no_more (length (filter adds cs)) one in
    let now = without (after_table_change b (AddMapping m)) cs bound none next in
    (omega (arith, few, now.mapping), none_countable cs none)
all_countable b (AddGroup g ∷ cs) bound few one next =
    let none : length (filter adds cs) ≤ 0 = no_more (length (filter adds cs)) one in
    let now = without (after_table_change b (AddGroup g)) cs bound none next in
    (omega (arith, few, now.group), none_countable cs none)
all_countable b (change ∷ cs) bound few one next = (tt, all_countable (after_table_change b change) cs bound few one next)

pub countable : (grain : GrainSize) (decisions : ℕ) (w : Whole) (d : Decision) → decisions + 2 < 2 ^ 32 → IsLawful grain decisions w d → length (filter adds d.changes) ≤ 1 → AreCountable d.changes
countable grain decisions w d small lawful one =
    let few = lawful.stands.few in
    all_countable w.books d.changes (decisions + 2) small one
    (through_events (restarts w.rows) d.events (fold after_table_change w.books d.changes) (decisions + 2)
    (record { volume = omega (arith, few.volumes); mapping = omega (arith, few.mappings); group = omega (arith, few.groups) }))
