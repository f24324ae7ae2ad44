use Rattle.std.proofs.Common.{refl}
use Rattle.fc_check_sheet.proofs.Measuring.{link_at, item_is, level_more, level_done}
use Rattle.fc_check_sheet.proofs.distances.note_level.Goals as goal

pub loop-link-preserved : goal.loop-link-preserved
loop-link-preserved c =
    level_more c.args.links.now c.args.start c.args.away c.loop-link.link-index c.args.distances.now.items c.loop-link.distances.items c.note_link.new.distances.items c.loop-link.any c.in_ok-noted.noted _
    (link_at c.args.links.now c.loop-link.link-index) c.loop-link-test.true (item_is c.args.links.now c.loop-link.link-index c.loop-link-test.true) c.loop-link.invariant c.in_ok-noted.ensures refl

pub returns : goal.returns
returns c = level_done c.args.links.now c.args.start c.args.away c.loop-link.link-index c.args.distances.now.items c.loop-link.distances.items c.loop-link.any c.loop-link-test.false c.loop-link.invariant
