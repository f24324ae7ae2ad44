use Rattle.std.proofs.Common.{◌∙◌, ◌/◌, ◌*◌, ℕ, List, is_err, ap, sym, subst}
use Rattle.fc_base.specs.Grain.{block_bytes}
use Rattle.fc_entry.specs.Picture.{Bytes, byte_in_grain}
use Rattle.fc_entry.specs.Reads.{IsRightIn}
use Rattle.fc_recovered.specs.Walk.{id_number}
use Rattle.fc_recovered.proofs.Answered.{asked, found_by, lost_by, found_one, found_grain, when_lost, when_whole, when_done, one_read}
use Rattle.fc_recovered.proofs.Called.{one_stays}
use Rattle.fc_recovered.proofs.read.read_online.Goals as goal

pub returns-then-is_lost-clause-shown : goal.returns-then-is_lost-clause-shown
returns-then-is_lost-clause-shown g c =
    when_lost c.args.grain c.args.image.now c.args.disks.now.items c.args.buffer.now.items c.args.part (c.args.part.block / c.blocks-2.result) (asked c.args.grain c.args.image.now c.args.disks.now.items c.args.buffer.now.items c.args.part c.blocks-2.result c.requires.holds c.requires.inside c.blocks-2.ensures)
    c.in-Some.source (ap id_number (sym c.in-Some.is) ∙ found_by c.args.image.now c.as_slice.result.now c.args.part.volume.0 (c.args.part.block / c.blocks-2.result) c.holder_volume.result c.as_slice.ensures c.requires.holds.sound c.holder_volume.ensures) c.is_lost.result
    (lost_by c.args.image.now c.as_slice-in-Some.result.now c.in-Some.source.0 (c.args.part.block / c.blocks-2.result) c.is_lost.result c.as_slice-in-Some.ensures c.requires.holds.sound c.is_lost.ensures) c.if-is_lost.true

pub read_grain-requires-clause-there : goal.read_grain-requires-clause-there
read_grain-requires-clause-there g c =
    found_grain c.args.grain c.args.image.now c.args.disks.now.items c.args.buffer.now.items c.args.part (c.args.part.block / c.blocks-2.result) (asked c.args.grain c.args.image.now c.args.disks.now.items c.args.buffer.now.items c.args.part c.blocks-2.result c.requires.holds c.requires.inside c.blocks-2.ensures)
    c.in-Some.source (ap id_number (sym c.in-Some.is) ∙ found_by c.args.image.now c.as_slice.result.now c.args.part.volume.0 (c.args.part.block / c.blocks-2.result) c.holder_volume.result c.as_slice.ensures c.requires.holds.sound c.holder_volume.ensures)

pub unreachable-requires : goal.unreachable-requires
unreachable-requires g c =
    found_one c.args.grain c.args.image.now c.args.disks.now.items c.args.buffer.now.items c.args.part (c.args.part.block / c.blocks-2.result) (asked c.args.grain c.args.image.now c.args.disks.now.items c.args.buffer.now.items c.args.part c.blocks-2.result c.requires.holds c.requires.inside c.blocks-2.ensures)
    (ap id_number (sym c.in-None.is) ∙ found_by c.args.image.now c.as_slice.result.now c.args.part.volume.0 (c.args.part.block / c.blocks-2.result) c.holder_volume.result c.as_slice.ensures c.requires.holds.sound c.holder_volume.ensures)

pub returns-in-Err-clause-holds : goal.returns-in-Err-clause-holds
returns-in-Err-clause-holds g c =
    one_stays c.args.grain c.args.image.now c.args.disks.now.items c.read_grain.new.disks.items (is_err c.read_grain.result) c.args.buffer.now.items c.read_grain.new.out.items
    (one_read c.args.disks.now.items c.read_grain.new.disks.items c.in-Some.source.0 (c.args.part.block / c.blocks-2.result) (is_err c.read_grain.result) c.read_grain.new.out.items c.requires.holds.some c.read_grain.ensures.reads)
    c.read_grain.ensures.size c.requires.holds

pub returns-in-Ok-runs_of-clause-holds : goal.returns-in-Ok-runs_of-clause-holds
returns-in-Ok-runs_of-clause-holds g c =
    one_stays c.args.grain c.args.image.now c.args.disks.now.items c.read_grain.new.disks.items (is_err c.read_grain.result) c.args.buffer.now.items c.read_grain.new.out.items
    (one_read c.args.disks.now.items c.read_grain.new.disks.items c.in-Some.source.0 (c.args.part.block / c.blocks-2.result) (is_err c.read_grain.result) c.read_grain.new.out.items c.requires.holds.some c.read_grain.ensures.reads)
    c.read_grain.ensures.size c.requires.holds

pub returns-in-Err-runs_of-clause-holds : goal.returns-in-Err-runs_of-clause-holds
returns-in-Err-runs_of-clause-holds g c =
    one_stays c.args.grain c.args.image.now c.args.disks.now.items c.read_grain.new.disks.items (is_err c.read_grain.result) c.args.buffer.now.items c.read_grain.new.out.items
    (one_read c.args.disks.now.items c.read_grain.new.disks.items c.in-Some.source.0 (c.args.part.block / c.blocks-2.result) (is_err c.read_grain.result) c.read_grain.new.out.items c.requires.holds.some c.read_grain.ensures.reads)
    c.read_grain.ensures.size c.requires.holds

pub returns-in-Err-clause-shown : goal.returns-in-Err-clause-shown
returns-in-Err-clause-shown g c =
    when_whole c.args.grain c.args.image.now c.args.disks.now.items c.args.buffer.now.items c.args.part (c.args.part.block / c.blocks-2.result) (asked c.args.grain c.args.image.now c.args.disks.now.items c.args.buffer.now.items c.args.part c.blocks-2.result c.requires.holds c.requires.inside c.blocks-2.ensures)
    c.in-Some.source (ap id_number (sym c.in-Some.is) ∙ found_by c.args.image.now c.as_slice.result.now c.args.part.volume.0 (c.args.part.block / c.blocks-2.result) c.holder_volume.result c.as_slice.ensures c.requires.holds.sound c.holder_volume.ensures) c.is_lost.result
    (lost_by c.args.image.now c.as_slice-in-Some.result.now c.in-Some.source.0 (c.args.part.block / c.blocks-2.result) c.is_lost.result c.as_slice-in-Some.ensures c.requires.holds.sound c.is_lost.ensures) c.if-is_lost.false (is_err c.read_grain.result) c.read_grain.new.out.items _ c.read_grain.ensures.reads.reads

pub returns-in-Err-runs_of-clause-shown : goal.returns-in-Err-runs_of-clause-shown
returns-in-Err-runs_of-clause-shown g c =
    when_whole c.args.grain c.args.image.now c.args.disks.now.items c.args.buffer.now.items c.args.part (c.args.part.block / c.blocks-2.result) (asked c.args.grain c.args.image.now c.args.disks.now.items c.args.buffer.now.items c.args.part c.blocks-2.result c.requires.holds c.requires.inside c.blocks-2.ensures)
    c.in-Some.source (ap id_number (sym c.in-Some.is) ∙ found_by c.args.image.now c.as_slice.result.now c.args.part.volume.0 (c.args.part.block / c.blocks-2.result) c.holder_volume.result c.as_slice.ensures c.requires.holds.sound c.holder_volume.ensures) c.is_lost.result
    (lost_by c.args.image.now c.as_slice-in-Some.result.now c.in-Some.source.0 (c.args.part.block / c.blocks-2.result) c.is_lost.result c.as_slice-in-Some.ensures c.requires.holds.sound c.is_lost.ensures) c.if-is_lost.false (is_err c.read_grain.result) c.read_grain.new.out.items _ c.read_grain.ensures.reads.reads

pub returns-in-Ok-runs_of-clause-shown : goal.returns-in-Ok-runs_of-clause-shown
returns-in-Ok-runs_of-clause-shown g c =
    when_done c.args.grain c.args.image.now c.args.disks.now.items c.args.buffer.now.items c.args.part (c.args.part.block / c.blocks-2.result) (asked c.args.grain c.args.image.now c.args.disks.now.items c.args.buffer.now.items c.args.part c.blocks-2.result c.requires.holds c.requires.inside c.blocks-2.ensures)
    c.in-Some.source (ap id_number (sym c.in-Some.is) ∙ found_by c.args.image.now c.as_slice.result.now c.args.part.volume.0 (c.args.part.block / c.blocks-2.result) c.holder_volume.result c.as_slice.ensures c.requires.holds.sound c.holder_volume.ensures) c.is_lost.result
    (lost_by c.args.image.now c.as_slice-in-Some.result.now c.in-Some.source.0 (c.args.part.block / c.blocks-2.result) c.is_lost.result c.as_slice-in-Some.ensures c.requires.holds.sound c.is_lost.ensures) c.if-is_lost.false c.read_grain.new.out.items _ c.in-Ok.ensures.reads.reads c.in-Ok-runs_of.runs
    (subst (λ (bytes : List ℕ). IsRightIn (byte_in_grain c.args.grain c.args.part.block) (block_bytes * c.args.part.count) (Bytes bytes) c.in-Ok-runs_of.runs) c.as_slice-in-Ok.ensures.value c.in-Ok-runs_of.ensures)
