use Rattle.std.proofs.Common.{◌∙◌, sym, ap}
use Rattle.fc_changed.specs.Row.{row_wrote}
use Rattle.fc_plain.proofs.Lists.{mapped_more}
use Rattle.fc_check_rows.proofs.rows.write_each.Goals as goal

pub loop-row-preserved : goal.loop-row-preserved
loop-row-preserved c =
    mapped_more (row_wrote c.args.volume c.args.grain) _ _ _ c.row-item.result _ c.loop-row.invariant c.loop-row-test.true c.row-item.is (c.wrote.ensures ∙ ap (row_wrote c.args.volume c.args.grain) (sym c.row-item.is))
