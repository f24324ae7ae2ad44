-- What the chains and the rows of a lane need for an event, and what it does to the chains.
use Rattle.std.specs.Prelude.{◌≡◌, ◌≢◌, ℕ, ◌<◌, ◌≤◌, Bool, true, fold, List, ◌∷◌, length, All, AllPairs, cond, not, ◌&&◌, []}
use Rattle.fc_alike.specs.Law.{NewSlot}
use Rattle.fc_base.specs.Sheet.{Slot, Sheet, slot_at, volume_grains}
use Rattle.fc_base.specs.SheetFacts.{IsSound}
use Rattle.fc_base.specs.SheetFits.{FitsEvent}
use Rattle.fc_base.specs.SheetStep.{sheet_step}
use Rattle.fc_base.specs.declared.decision.LaneEvent.{LaneEvent}
use Rattle.fc_base.specs.declared.decision.LaneEvent.TheVariants.{Trigger}
use Rattle.fc_base.specs.declared.request.Pair.{Pair}
use Rattle.fc_books.specs.After.{begun}
use Rattle.fc_chain.specs.Chains.{Chains, lane_grains}
use Rattle.fc_events.specs.Room.{BirthsFit, grains_come, slots_made}
use Rattle.fc_changed.specs.Row.{Row, restart_in, row_names, is_of}
use Rattle.fc_diff.specs.State.{ChangesState, NewRow}
use Rattle.std.specs.List.{list_any}

-- The chains after an event; the new slots of a trigger begin with the restart sets.
abbrev pub chains_after : (ℕ → List Bool) → (ℕ → ℕ) → Sheet → LaneEvent → Sheet
chains_after restarts local s (Trigger pairs) = fold (begun restarts) (sheet_step local s (Trigger pairs)) pairs
chains_after restarts local s e = sheet_step local s e

-- A row has as many grains as each slot of its volumes.
abbrev pub IsSized : List Slot → Row → Type 0
IsSized slots row = (k : ℕ) → k < length slots → row_names row (slot_at slots k).volume ≡ true → length row.same ≡ length (slot_at slots k).held

-- The pairs are of different mappings.
abbrev pub AreOfOthers : List Pair → Type 0
AreOfOthers pairs = AllPairs (λ (p q : Pair). p.map.0 ≢ q.map.0) pairs

-- Those of a trigger that comes first are.
abbrev pub TriggersOthers : List LaneEvent → Type 0
TriggersOthers (Trigger pairs ∷ events) = AreOfOthers pairs
TriggersOthers events = Unit {0}

-- The slot of a pair is new, and has the grains of the set.
pub record IsBeginning (s : Sheet) (p : Pair) (set : List Bool) : Type 0 where
  pub sound : IsSound s
  pub grains : ℕ
  pub place : ℕ
  pub slot : NewSlot s.slots p grains place
  pub size : length set ≤ grains

-- The rows of the mappings that are followed from a trigger on: those of incremental mappings that aren't followed yet.
abbrev pub new_row : List Slot → Pair → NewRow
new_row slots p = record { map = p.map.0; source = p.source.0; target = p.target.0; grains = volume_grains slots p.target.0 }

abbrev pub new_rows : List Slot → List Row → List Pair → List NewRow
new_rows slots rows [] = []
new_rows slots rows (p ∷ ps) =
    cond (p.incremental && not (list_any (is_of p.map.0) rows)) (new_row slots p ∷ new_rows slots rows ps) (new_rows slots rows ps)

-- They are ready, where the events begin with a trigger.
abbrev pub AreRowsReady : List Slot → ChangesState → List LaneEvent → Type 0
AreRowsReady slots s (Trigger pairs ∷ events) = s.ready ≡ new_rows slots s.rows pairs
AreRowsReady slots s events = Unit {0}

-- The rows that begin with an event stand ready, and those that are there have no more grains than the targets.
abbrev pub CanBeginRows : List Slot → ChangesState → LaneEvent → Type 0
CanBeginRows slots s (Trigger pairs) =
    (s.ready ≡ new_rows slots s.rows pairs) × All (λ (p : Pair). length (restart_in p.map.0 s.rows) ≤ volume_grains slots p.target.0) pairs
CanBeginRows slots s event = Unit {0}

-- An event can be done to chains and rows.
pub record CanFollow (c : Chains) (s : ChangesState) (e : LaneEvent) : Type 0 where
  pub sound : IsSound c.sheet
  pub fits : FitsEvent c.sheet e
  pub births : BirthsFit (sheet_step (lane_grains c.lane c.lanes) c.sheet e)
  pub slots : slots_made e ≤ c.room
  pub grains : grains_come (lane_grains c.lane c.lanes) e ≤ c.width
  pub sized : All (IsSized c.sheet.slots) s.rows
  pub begins : CanBeginRows c.sheet.slots s e
