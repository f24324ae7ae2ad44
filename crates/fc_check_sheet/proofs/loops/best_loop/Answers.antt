use Rattle.fc_check_sheet.proofs.Looping.{way_more, way_done}
use Rattle.fc_check_sheet.proofs.loops.best_loop.Goals as goal

pub loop-next-preserved : goal.loop-next-preserved
loop-next-preserved c =
    way_more c.args.links.now c.args.distances.now c.args.start c.args.long c.loop-next.here c.loop-next.away c.in-Some.next c.next_volume.result c.loop-next.names c.push-in-Some.new.self
    c.requires.distances c.in-Some.is c.next_volume.ensures c.in_ok-push-2.ensures.ok c.loop-next.invariant

pub returns : goal.returns
returns c =
    way_done c.args.links.now c.args.distances.now c.args.start c.args.long c.loop-next.here c.loop-next.away c.next_volume.result c.loop-next.names c.requires.distances c.in_default.is c.next_volume.ensures c.loop-next.invariant
