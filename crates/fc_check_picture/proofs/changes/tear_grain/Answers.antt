use Rattle.std.proofs.Common.{◌∙◌, sym, ap}
use Rattle.fc_plain.specs.Changes.{tear_if}
use Rattle.fc_plain.proofs.Lists.{mapped_more}
use Rattle.fc_check_picture.proofs.changes.tear_grain.Goals as goal

pub loop-volume-preserved : goal.loop-volume-preserved
loop-volume-preserved g c =
    mapped_more (tear_if c.args.torn) _ _ _ c.volume-item.result _ c.loop-volume.invariant c.loop-volume-test.true c.volume-item.is
    (c.tear_where.ensures ∙ ap (tear_if c.args.torn) (sym c.volume-item.is))
