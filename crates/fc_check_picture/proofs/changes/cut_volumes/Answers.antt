use Rattle.std.proofs.Common.{◌∙◌, sym, ap}
use Rattle.fc_plain.specs.Changes.{cut_if}
use Rattle.fc_plain.proofs.Lists.{mapped_more}
use Rattle.fc_check_picture.proofs.changes.cut_volumes.Goals as goal

pub loop-volume-preserved : goal.loop-volume-preserved
loop-volume-preserved g c =
    mapped_more (cut_if c.args.id c.args.kept.now) _ _ _ c.volume-item.result _ c.loop-volume.invariant c.loop-volume-test.true c.volume-item.is
    (c.in_ok-cut_where.ensures ∙ ap (cut_if c.args.id c.args.kept.now) (sym c.volume-item.is))
