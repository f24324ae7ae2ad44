use Rattle.std.proofs.Common.{◌≡◌, take, map}
use Rattle.std.specs.Prelude.{fold}
use Rattle.fc_lane.specs.Lane.{LaneView}
use Rattle.fc_sums.specs.Parts.{common, unneeded_in}
use Rattle.fc_lane_sheet.proofs.sheet.common_to_all.Given as goal

abbrev pub invariant-loop-lane : goal.invariant-loop-lane
invariant-loop-lane g l = l.names ≡ fold common l.fn.first (map (λ (v : LaneView). unneeded_in v.chains.sheet.slots) (take l.lane-index l.lanes))
