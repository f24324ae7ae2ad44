use Rattle.fc_tallies.proofs.OwnCounts.{left_own}
use Rattle.fc_tallies.proofs.pairs.leave_out_own.Goals as goal

pub returns : goal.returns
returns c = left_own c.args.slots.now c.args.change.grain c.args.change.volume c.args.entries.now c.loop-entry.tallies c.loop-entry.entry-index c.requires.listed c.loop-entry-test.false c.loop-entry.invariant.done
