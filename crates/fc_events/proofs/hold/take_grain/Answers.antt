use Rattle.fc_events.proofs.Volumes.{turned_more, all_taken}
use Rattle.fc_events.proofs.hold.take_grain.Goals as goal

pub loop-entry-preserved : goal.loop-entry-preserved
loop-entry-preserved c = turned_more c.requires c.loop-entry-test.true c.index-slots-entry.is c.take.ensures c.loop-entry.invariant

pub returns : goal.returns
returns c = all_taken c.args.volume c.args.grain c.requires c.loop-entry-test.false c.loop-entry.invariant
