use Rattle.std.proofs.Common.{◌∙◌, sym, ap}
use Rattle.fc_plain.specs.Changes.{write_if}
use Rattle.fc_plain.proofs.Lists.{mapped_more}
use Rattle.fc_check_picture.specs.Blocks.{marked_part}
use Rattle.fc_check_picture.proofs.changes.write_blocks.Goals as goal

pub loop-volume-preserved : goal.loop-volume-preserved
loop-volume-preserved g c =
    mapped_more (write_if c.args.size (marked_part (g.M.Mark.number c.args.mark) c.args.part)) _ _ _ c.volume-item.result _ c.loop-volume.invariant c.loop-volume-test.true c.volume-item.is
    (c.in_ok-write_where.ensures ∙ ap (write_if c.args.size (marked_part (g.M.Mark.number c.args.mark) c.args.part)) (sym c.volume-item.is))
