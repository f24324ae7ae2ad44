use Rattle.fc_places.specs.Indexing.{entry_at}
use Rattle.fc_tallies.specs.Tallies.{tally_of}
use Rattle.fc_tallies.proofs.OwnCounts.{but_own, tally_more, room_more, put_own}
use Rattle.fc_tallies.proofs.pairs.put_in_own.Goals as goal

pub loop-entry-preserved : goal.loop-entry-preserved
loop-entry-preserved c = record {
  room = room_more c.args.slots.now c.loop-entry.tallies c.put_in_at.new.tallies (entry_at c.args.entries.now c.loop-entry.entry-index).place (tally_of c.args.slots.now (entry_at c.args.entries.now c.loop-entry.entry-index).place) c.loop-entry.invariant.room c.put_in_at.ensures;
  done = tally_more c.args.slots.now c.args.change.volume c.args.entries.now (but_own c.args.slots.now c.args.change.grain c.args.change.volume) (tally_of c.args.slots.now) c.loop-entry.tallies c.put_in_at.new.tallies c.loop-entry.entry-index
      c.requires.listed c.loop-entry-test.true c.loop-entry.invariant.room c.put_in_at.ensures c.loop-entry.invariant.done;
}

pub returns : goal.returns
returns c = put_own c.args.slots.now c.args.change.grain c.args.change.volume c.args.entries.now c.loop-entry.tallies c.loop-entry.entry-index c.requires.listed c.loop-entry-test.false c.loop-entry.invariant.done
