use Rattle.std.proofs.Common.{◌≡◌, take}
use Rattle.fc_sums.specs.Parts.{common}
use Rattle.fc_lane_sheet.proofs.sheet.common_names.Given as goal

abbrev pub invariant-loop-name : goal.invariant-loop-name
invariant-loop-name l = l.both ≡ common (take l.name-index l.names) l.others
