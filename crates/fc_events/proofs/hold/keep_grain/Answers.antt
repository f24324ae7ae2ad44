use Rattle.fc_events.proofs.Volumes.{turned_more, all_kept}
use Rattle.fc_events.proofs.hold.keep_grain.Goals as goal

pub loop-entry-preserved : goal.loop-entry-preserved
loop-entry-preserved c = turned_more c.requires c.loop-entry-test.true c.index-slots-entry.is c.keep.ensures c.loop-entry.invariant

pub returns : goal.returns
returns c = all_kept c.args.volume c.args.grain c.requires c.loop-entry-test.false c.loop-entry.invariant
