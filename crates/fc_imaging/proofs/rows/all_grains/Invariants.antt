use Rattle.std.proofs.Common.{◌≡◌, length, take}
use Rattle.std.specs.List.{sum_by}
use Rattle.fc_lane.specs.Lane.{LaneView}
use Rattle.fc_sums.specs.Parts.{row_at}
use Rattle.fc_imaging.proofs.rows.all_grains.Given as goal

abbrev pub invariant-loop-lane : goal.invariant-loop-lane
invariant-loop-lane g l = l.grains ≡ sum_by (λ (v : LaneView). length (row_at v.changes.rows l.place).same) (take l.lane-index l.lanes)
