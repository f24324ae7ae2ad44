use Rattle.std.proofs.Common.{◌≡◌, take}
use Rattle.std.specs.List.{sum_by}
use Rattle.fc_base.specs.SheetView.{needed_of}
use Rattle.fc_lane.specs.Lane.{LaneView}
use Rattle.fc_lane_sheet.proofs.sheet.sum_needed.Given as goal

abbrev pub invariant-loop-lane : goal.invariant-loop-lane
invariant-loop-lane g l = l.needed ≡ sum_by (λ (v : LaneView). needed_of v.chains.sheet.slots l.map.0) (take l.lane-index l.lanes)
