use Rattle.std.proofs.Common.{get_or, arith}
use Rattle.fc_check_sheet.specs.Links.{HasLink}
use Rattle.fc_check_sheet.proofs.Looping.{volume_is, loop_more, loop_done}
use Rattle.fc_check_sheet.proofs.loops.least_on_loop.Goals as goal

pub loop-volume-preserved : goal.loop-volume-preserved
loop-volume-preserved c =
    loop_more (HasLink c.args.links.now) c.args.volumes.now c.loop-volume.volume-index (get_or c.args.volumes.now c.loop-volume.volume-index 0) c.loop-volume.least c.in_ok-least.least c.loop-volume-test.true
    (volume_is c.args.volumes.now c.loop-volume.volume-index c.loop-volume-test.true) c.in_ok-least.ensures c.loop-volume.invariant

pub returns : goal.returns
returns c = loop_done (HasLink c.args.links.now) c.args.volumes.now c.loop-volume.volume-index c.loop-volume.least (omega arith) c.loop-volume-test.false c.loop-volume.invariant
