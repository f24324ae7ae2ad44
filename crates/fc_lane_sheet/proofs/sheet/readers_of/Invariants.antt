use Rattle.std.proofs.Common.{◌≡◌, take}
use Rattle.fc_lane_sheet.specs.LaneSheet.{readers_in}
use Rattle.fc_lane_sheet.proofs.sheet.readers_of.Given as goal

abbrev pub invariant-loop-lane : goal.invariant-loop-lane
invariant-loop-lane g l = l.names ≡ readers_in (take l.lane-index l.lanes) l.slot
