use Rattle.std.proofs.Common.{◌≡◌, ◌*◌, ◌≤◌, ◌^◌, take}
use Rattle.std.specs.List.{sum_by}
use Rattle.fc_base.specs.Room.{used_in}
use Rattle.fc_grains.specs.Volumes.{rooms_of}
use Rattle.fc_lane.specs.Lane.{LaneView}
use Rattle.fc_lane_sheet.proofs.sheet.sum_room.Given as goal

abbrev pub invariant-loop-lane : goal.invariant-loop-lane
invariant-loop-lane g l =
    (l.grains ≡ sum_by (λ (v : LaneView). used_in (rooms_of v.grains.volumes) l.volume.0) (take l.lane-index l.lanes))
    × (l.grains ≤ l.lane-index * 2 ^ 32)
