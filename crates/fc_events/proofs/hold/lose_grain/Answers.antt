use Rattle.fc_events.proofs.Volumes.{turned_more, all_lost}
use Rattle.fc_events.proofs.hold.lose_grain.Goals as goal

pub loop-entry-preserved : goal.loop-entry-preserved
loop-entry-preserved c = turned_more c.requires c.loop-entry-test.true c.index-slots-entry.is c.lose.ensures c.loop-entry.invariant

pub returns : goal.returns
returns c = all_lost c.args.volume c.args.grain c.requires c.loop-entry-test.false c.loop-entry.invariant
