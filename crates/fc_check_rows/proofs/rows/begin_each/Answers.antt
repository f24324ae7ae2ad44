use Rattle.std.proofs.Common.{◌∙◌, sym, ap}
use Rattle.fc_changed.specs.Row.{row_began}
use Rattle.fc_plain.proofs.Lists.{mapped_more}
use Rattle.fc_check_rows.proofs.rows.begin_each.Goals as goal

pub loop-row-preserved : goal.loop-row-preserved
loop-row-preserved c =
    mapped_more (row_began c.args.source c.args.target) _ _ _ c.row-item.result _ c.loop-row.invariant c.loop-row-test.true c.row-item.is (c.began.ensures ∙ ap (row_began c.args.source c.args.target) (sym c.row-item.is))
