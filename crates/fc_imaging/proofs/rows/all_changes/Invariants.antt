use Rattle.std.proofs.Common.{◌≡◌, map}
use Rattle.std.specs.List.{range_with_len}
use Rattle.fc_kept.specs.Images.{changes_told}
use Rattle.fc_lane_sheet.specs.LaneSheet.{rows_of}
use Rattle.fc_sums.specs.Parts.{joined_row}
use Rattle.fc_imaging.proofs.rows.all_changes.Given as goal

abbrev pub invariant-loop-place : goal.invariant-loop-place
invariant-loop-place g l = l.changes ≡ map changes_told (map (joined_row (rows_of l.lanes)) (range_with_len 0 l.place))
