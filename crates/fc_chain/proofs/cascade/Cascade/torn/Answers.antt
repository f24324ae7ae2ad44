use Rattle.std.proofs.Common.{◌/◌}
use Rattle.fc_base.specs.SheetStep.{grain_taken, grain_lost}
use Rattle.fc_sheets.proofs.Holding.{regrained, bit_lost, bit_taken}
use Rattle.fc_chain.proofs.Keeps.{kept_written, kept_lost}
use Rattle.fc_chain.proofs.Parts.{countable, taken_fits, lost_fits, slots_fit, mapped_parts}
use Rattle.fc_chain.proofs.cascade.Cascade.torn.Goals as goal

pub take-requires-clause-countable : goal.take-requires-clause-countable
take-requires-clause-countable c = countable c.self.inside.lane c.self.inside.lanes c.self.inside.table.sheet c.self.invariant.kept

pub take-requires-clause-fits : goal.take-requires-clause-fits
take-requires-clause-fits c = taken_fits c.args.self.now c.self.inside.lane c.self.inside.lanes c.self.inside.room c.self.inside.width c.args.volume.0 c.args.grain c.self.inside.table c.self.view_is c.requires.fits

pub take-requires-clause-room : goal.take-requires-clause-room
take-requires-clause-room c = slots_fit c.self.inside.table c.self.inside.tallies c.self.inside.room c.self.inside.width c.self.invariant.counted

pub lose-requires-clause-countable : goal.lose-requires-clause-countable
lose-requires-clause-countable c = countable c.self.inside.lane c.self.inside.lanes c.self.inside.table.sheet c.self.invariant.kept

pub lose-requires-clause-fits : goal.lose-requires-clause-fits
lose-requires-clause-fits c = lost_fits c.args.self.now c.self.inside.lane c.self.inside.lanes c.self.inside.room c.self.inside.width c.args.volume.0 c.args.grain c.self.inside.table c.self.view_is (c.requires.under c.in-Under.is)

pub lose-requires-clause-room : goal.lose-requires-clause-room
lose-requires-clause-room c = slots_fit c.self.inside.table c.self.inside.tallies c.self.inside.room c.self.inside.width c.self.invariant.counted

pub invariant_of-self : goal.invariant_of-self
invariant_of-self c =
    mapped_parts (grain_taken c.args.volume.0 (c.args.grain / c.self.inside.lanes)) (regrained (grain_taken c.args.volume.0 (c.args.grain / c.self.inside.lanes)) (c.args.grain / c.self.inside.lanes) (bit_taken c.args.volume.0 (c.args.grain / c.self.inside.lanes))) c.self.inside.lane c.self.inside.lanes c.self.inside.table c.take.new.table c.self.inside.tallies c.take.new.self c.self.inside.directory c.self.inside.room c.self.inside.width c.self.invariant
    (kept_written c.args.self.now _ _ c.self.inside.room c.self.inside.width c.args.volume.0 c.args.grain c.self.inside.table _ c.self.view_is c.self.invariant.kept c.requires.fits c.take.ensures.table)
    c.take.ensures.table c.take.ensures.tallied c.take.ensures.slots c.take.ensures.words

pub invariant_of-self-in-Under : goal.invariant_of-self-in-Under
invariant_of-self-in-Under c =
    mapped_parts (grain_lost c.args.volume.0 (c.args.grain / c.self.inside.lanes)) (regrained (grain_lost c.args.volume.0 (c.args.grain / c.self.inside.lanes)) (c.args.grain / c.self.inside.lanes) (bit_lost c.args.volume.0 (c.args.grain / c.self.inside.lanes))) c.self.inside.lane c.self.inside.lanes c.self.inside.table c.lose.new.table c.self.inside.tallies c.lose.new.self c.self.inside.directory c.self.inside.room c.self.inside.width c.self.invariant
    (kept_lost c.args.self.now _ _ c.self.inside.room c.self.inside.width c.args.volume.0 c.args.grain c.self.inside.table _ c.self.view_is c.self.invariant.kept (c.requires.under c.in-Under.is) c.lose.ensures.table)
    c.lose.ensures.table c.lose.ensures.tallied c.lose.ensures.slots c.lose.ensures.words
