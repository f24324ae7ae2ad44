use Rattle.std.proofs.Common.{◌/◌}
use Rattle.fc_base.specs.SheetStep.{grain_taken, grain_kept}
use Rattle.fc_sheets.proofs.Holding.{regrained, bit_kept, bit_taken}
use Rattle.fc_chain.proofs.Keeps.{kept_written, kept_in_place, fits_moved}
use Rattle.fc_chain.proofs.Parts.{countable, taken_fits, slots_fit, mapped_parts}
use Rattle.fc_chain.proofs.cascade.Cascade.moved.Goals as goal

pub keep-requires-clause-countable : goal.keep-requires-clause-countable
keep-requires-clause-countable c = countable c.self.inside.lane c.self.inside.lanes c.self.inside.table.sheet c.self.invariant.kept

pub keep-requires-clause-room : goal.keep-requires-clause-room
keep-requires-clause-room c = slots_fit c.self.inside.table c.self.inside.tallies c.self.inside.room c.self.inside.width c.self.invariant.counted

pub take-requires-clause-countable : goal.take-requires-clause-countable
take-requires-clause-countable c = countable c.self.inside.lane c.self.inside.lanes c.self.inside.table.sheet c.self.invariant.kept

pub take-requires-clause-fits : goal.take-requires-clause-fits
take-requires-clause-fits c =
    taken_fits c.args.self.now c.self.inside.lane c.self.inside.lanes c.self.inside.room c.self.inside.width c.volume-volume.result.0 c.args.grain c.self.inside.table c.self.view_is
    (fits_moved _ c.args.slot _ _ c.args.in_place c.requires.there c.if-in_place.false c.volume-volume.ensures c.requires.fits)

pub take-requires-clause-room : goal.take-requires-clause-room
take-requires-clause-room c = slots_fit c.self.inside.table c.self.inside.tallies c.self.inside.room c.self.inside.width c.self.invariant.counted

pub invariant_of-self : goal.invariant_of-self
invariant_of-self c =
    mapped_parts (grain_kept c.volume-volume.result.0 (c.args.grain / c.self.inside.lanes)) (regrained (grain_kept c.volume-volume.result.0 (c.args.grain / c.self.inside.lanes)) (c.args.grain / c.self.inside.lanes) (bit_kept c.volume-volume.result.0 (c.args.grain / c.self.inside.lanes))) c.self.inside.lane c.self.inside.lanes c.self.inside.table c.keep.new.table c.self.inside.tallies c.keep.new.self c.self.inside.directory c.self.inside.room c.self.inside.width c.self.invariant
    (kept_in_place _ _ _ _ c.self.inside.table _ c.self.invariant.kept c.keep.ensures.table) c.keep.ensures.table c.keep.ensures.tallied c.keep.ensures.slots c.keep.ensures.words

pub invariant_of-self-else-in_place : goal.invariant_of-self-else-in_place
invariant_of-self-else-in_place c =
    mapped_parts (grain_taken c.volume-volume.result.0 (c.args.grain / c.self.inside.lanes)) (regrained (grain_taken c.volume-volume.result.0 (c.args.grain / c.self.inside.lanes)) (c.args.grain / c.self.inside.lanes) (bit_taken c.volume-volume.result.0 (c.args.grain / c.self.inside.lanes))) c.self.inside.lane c.self.inside.lanes c.self.inside.table c.take.new.table c.self.inside.tallies c.take.new.self c.self.inside.directory c.self.inside.room c.self.inside.width c.self.invariant
    (kept_written c.args.self.now _ _ c.self.inside.room c.self.inside.width _ c.args.grain c.self.inside.table _ c.self.view_is c.self.invariant.kept
    (fits_moved _ c.args.slot _ _ c.args.in_place c.requires.there c.if-in_place.false c.volume-volume.ensures c.requires.fits)
    c.take.ensures.table) c.take.ensures.table c.take.ensures.tallied c.take.ensures.slots c.take.ensures.words
