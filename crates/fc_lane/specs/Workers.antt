-- Background work, by who does it.
use Rattle.std.specs.Prelude.{◌≡◌, ℕ, List, Option, Some, IsSome}
use Rattle.fc_base.specs.Sheet.{Slot}
use Rattle.fc_base.specs.declared.ids.GrainNo.{GrainNo}
use Rattle.fc_base.specs.declared.ids.MapId.{MapId}
use Rattle.fc_base.specs.declared.request.Pick.{Pick}
use Rattle.fc_base.specs.declared.request.Pick.TheVariants.{Any, Grain}
use Rattle.fc_base.specs.declared.request.Request.{Request}
use Rattle.fc_base.specs.declared.request.Request.TheVariants.{CopyTurn, CleanTurn}
use Rattle.fc_lane.specs.Entering.{IsFill}
use Rattle.fc_lane.specs.Lane.{LaneView, IsLaneOf, of}
use Rattle.fc_lane.specs.declared.worker.Worker.{Worker}
use Rattle.fc_lane.specs.declared.worker.Worker.TheVariants.{Copier, Cleaner}
use Rattle.fc_steps.specs.Asking.{request_of}
use Rattle.fc_steps.specs.declared.ask.Ask.{Ask}
use Rattle.fc_steps.specs.declared.ask.Ask.TheVariants.{Copy, Clean}
use Rattle.fc_rules.specs.LaneTold.{LaneOf, LaneTold, place_of}
use Rattle.fc_rules.specs.LaneTurn.{cleaned_slot, copied_slot, next_clean, next_copy}

-- Which slot it fills for a mapping, at a place among the lane's grains.
abbrev pub filled_slot : Worker → List Slot → ℕ → ℕ → Option ℕ
filled_slot Copier slots = copied_slot slots
filled_slot Cleaner slots = cleaned_slot slots

-- The first mapping by id that has work for it in the lane, and the least grain of it.
abbrev pub next_of : Worker → LaneOf → LaneTold → Option (MapId × GrainNo)
next_of Copier l told = next_copy l told
next_of Cleaner l told = next_clean l told

-- What it asks of one grain, of a turn, and of either.
abbrev pub ask_of : Worker → MapId → GrainNo → Ask
ask_of Copier m grain = Copy m grain
ask_of Cleaner m grain = Clean m grain

abbrev pub turn_of : Worker → ℕ → Request
turn_of Copier lane = CopyTurn lane
turn_of Cleaner lane = CleanTurn lane

abbrev pub pick_of : Worker → ℕ → Pick → Request
pick_of worker lane Any = turn_of worker lane
pick_of worker lane (Grain m grain) = request_of (ask_of worker m grain)

-- For whatever is told and where it has something to fill, the slot with this name is the one that it fills.
abbrev pub IsFilled : LaneView → Worker → MapId → GrainNo → ℕ → Type 0
IsFilled v worker m grain slot =
    (told : LaneTold) → IsLaneOf v told → IsSome (filled_slot worker told.sheet.slots m.0 (place_of (of v) grain.0)) →
    (k : ℕ) × (filled_slot worker told.sheet.slots m.0 (place_of (of v) grain.0) ≡ Some k) × IsFill (of v) told slot grain.0 k
