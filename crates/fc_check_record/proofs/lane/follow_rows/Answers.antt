use Rattle.std.proofs.Common.{sym, ap, ◌∙◌}
use Rattle.fc_changed.specs.Row.{Row}
use Rattle.fc_check_rows.proofs.Plain.{entry_plain}
use Rattle.fc_check_rows.specs.Marks.{rows_torn, rows_written}
use Rattle.fc_rules.specs.LaneRight.{done_write}
use Rattle.std.proofs.Common.{List}
use Rattle.fc_check_record.proofs.lane.follow_rows.Goals as goal

pub returns : goal.returns
returns c =
    let entry = c.args.entry.now in
    let written = c.follow_write.ensures ∙ ap (rows_written c.args.size c.args.rows.now) c.done_write.ensures in
    c.follow_torn.ensures ∙ (ap (λ (rows : List Row). rows_torn rows entry.torn) written ∙ sym (entry_plain c.args.size c.args.rows.now (done_write entry.request entry.reply) entry.torn))
