use Rattle.std.proofs.Common.{◌≡◌, take}
use Rattle.std.specs.List.{sum_by}
use Rattle.fc_base.specs.SheetView.{count_true}
use Rattle.fc_changed.specs.Row.{restart_in}
use Rattle.fc_lane.specs.Lane.{LaneView}
use Rattle.fc_lane_sheet.proofs.sheet.sum_restart.Given as goal

abbrev pub invariant-loop-lane : goal.invariant-loop-lane
invariant-loop-lane g l = l.grains ≡ sum_by (λ (v : LaneView). count_true (restart_in l.map.0 v.changes.rows)) (take l.lane-index l.lanes)
