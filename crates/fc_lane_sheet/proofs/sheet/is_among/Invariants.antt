use Rattle.std.proofs.Common.{◌≡◌, take, false}
use Rattle.fc_sums.specs.Parts.{has_name}
use Rattle.fc_lane_sheet.proofs.sheet.is_among.Given as goal

abbrev pub invariant-loop-other : goal.invariant-loop-other
invariant-loop-other l = has_name (take l.other-index l.names) l.name ≡ false
