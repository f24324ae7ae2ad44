use Rattle.std.proofs.Common.{◌≡◌, take}
use Rattle.std.specs.List.{sum_by}
use Rattle.fc_base.specs.SheetView.{count_true, held_of}
use Rattle.fc_lane.specs.Lane.{LaneView}
use Rattle.fc_lane_sheet.proofs.sheet.sum_held.Given as goal

abbrev pub invariant-loop-lane : goal.invariant-loop-lane
invariant-loop-lane g l = l.held ≡ sum_by (λ (v : LaneView). count_true (held_of v.chains.sheet.slots l.map.0)) (take l.lane-index l.lanes)
