use Rattle.std.proofs.Common.{◌≡◌, take}
use Rattle.fc_check_sheet.specs.View.{pools_of}
use Rattle.fc_check_follow.specs.Ways.{pools_told}
use Rattle.fc_check_follow.proofs.first.lane_pools.Given as goal

abbrev pub invariant-loop-lane : goal.invariant-loop-lane
invariant-loop-lane l = pools_of l.pools.items ≡ pools_told (take l.lane-index l.lanes)
