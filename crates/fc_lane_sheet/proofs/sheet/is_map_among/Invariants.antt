use Rattle.std.proofs.Common.{◌≡◌, take, false}
use Rattle.fc_lane_sheet.specs.LaneSheet.{has_map}
use Rattle.fc_lane_sheet.proofs.sheet.is_map_among.Given as goal

abbrev pub invariant-loop-other : goal.invariant-loop-other
invariant-loop-other l = has_map (take l.other-index l.maps) l.map ≡ false
