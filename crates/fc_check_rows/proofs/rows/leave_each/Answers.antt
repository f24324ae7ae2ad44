use Rattle.std.proofs.Common.{◌∙◌, sym, ap}
use Rattle.fc_changed.specs.Row.{row_left}
use Rattle.fc_plain.proofs.Lists.{mapped_more}
use Rattle.fc_check_rows.proofs.rows.leave_each.Goals as goal

pub loop-row-preserved : goal.loop-row-preserved
loop-row-preserved c =
    mapped_more (row_left c.args.target c.args.held.now) _ _ _ c.row-item.result _ c.loop-row.invariant c.loop-row-test.true c.row-item.is (c.left.ensures ∙ ap (row_left c.args.target c.args.held.now) (sym c.row-item.is))
