use Rattle.std.proofs.Common.{◌+◌, ◌∙◌, arith}
use Rattle.fc_kept.specs.Images.{changes_told}
use Rattle.fc_lane_sheet.specs.LaneSheet.{rows_of}
use Rattle.fc_sums.specs.Parts.{joined_row}
use Rattle.fc_imaging.proofs.Adding.{mapped_more}
use Rattle.fc_imaging.proofs.rows.all_changes.Goals as goal

pub loop-place-preserved : goal.loop-place-preserved
loop-place-preserved g c =
    c.in_ok-push.ensures.ok
    ∙ mapped_more changes_told (joined_row (rows_of c.args.lanes.now)) 0 c.loop-place.place (c.loop-place.place + 1) c.loop-place.place c.loop-place.changes c.in_ok-row_told.field-0
    (omega arith) (omega arith) c.loop-place.invariant c.in_ok-row_told.ensures
