-- A step of an entry in one lane of a store.
use Rattle.std.specs.Prelude.{◌≡◌, ℕ, [], slice_index_or, slice_set}
use Rattle.fc_base.specs.declared.request.Move.{Move}
use Rattle.fc_base.specs.declared.request.WritePart.{WritePart}
use Rattle.fc_base.specs.declared.size.GrainSize.TheVariants.{K64}
use Rattle.fc_grains.specs.Grains.{opened}
use Rattle.fc_grains.specs.Volumes.{stored}
use Rattle.fc_lane.specs.Doing.{FitsAsk, IsUnderWay}
use Rattle.fc_lane.specs.Lane.{LaneView, IsLaneOf, of}
use Rattle.fc_lane.specs.declared.doing.Doing.{Doing}
use Rattle.fc_rules.specs.LaneTold.{LaneTold}
use Rattle.fc_stands.specs.Store.{StoreView}
use Rattle.fc_steps.specs.UnderWay.{MoveStored, OwnStored, after_step, next_of}
use Rattle.fc_steps.specs.declared.body.StepEnd.{StepEnd}
use Rattle.fc_steps.specs.declared.stepping.Next.TheVariants.{Move as NextMove, Own}

-- A lane that is none, over no disks.
abbrev pub no_lane : LaneView
no_lane =
    record {
      lane = 0;
      lanes = 0;
      chains = record { lane = 0; lanes = 0; sheet = record { births = 0; slots = [] }; room = 0; width = 0 };
      grains = opened K64 [];
      accesses = record { volumes = []; room = 0 };
      work = record { flags = []; known = [] };
      changes = record { rows = []; ready = [] };
      plan_room = 0;
      entry_room = 0;
    }

-- The lane at a place.
abbrev pub lane_in : StoreView → ℕ → LaneView
lane_in s place = slice_index_or s.lanes place no_lane

-- Nothing changed but this lane.
abbrev pub IsInLane : ℕ → StoreView → StoreView → Type 0
IsInLane place old new = new ≡ record old { lanes = slice_set old.lanes place (lane_in new place) }

-- The next step of an entry was made in its lane, and ended so.
pub record IsStepOf (doing : Doing) (old : LaneView) (end : StepEnd) (doing_new : Doing) (new : LaneView) : Type 0 where
  pub way : (lane : LaneView) → IsUnderWay lane doing old → IsUnderWay lane doing_new new
  pub after : doing_new ≡ record doing { steps = after_step (next_of doing.steps) end doing.steps }
  pub moved : (m : Move) → next_of doing.steps ≡ NextMove m →
      MoveStored old.chains.sheet.slots doing.steps.place m end (stored old.grains.volumes) (stored new.grains.volumes)
  pub wrote : (part : WritePart) → next_of doing.steps ≡ Own part → (lane : LaneView) → IsUnderWay lane doing old →
      (told : LaneTold) → IsLaneOf lane told → FitsAsk (of lane) doing.steps.ask told →
      OwnStored (of lane) told part end.stop (stored old.grains.volumes) (stored new.grains.volumes)
