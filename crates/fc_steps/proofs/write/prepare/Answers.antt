use Rattle.std.proofs.Common.{◌≡◌, ap, sym, subst, ◌∙◌, refl, ℕ, ◌+◌, ◌*◌, ◌++◌, take, drop, replicate}
use Rattle.fc_base.specs.Grain.{block_bytes, grain_blocks}
use Rattle.fc_base.specs.declared.size.GrainSize.{GrainSize}
use Rattle.fc_entry.specs.Picture.{byte_in_grain}
use Rattle.fc_grains.specs.Grains.{GrainsState}
use Rattle.fc_grains.specs.Volumes.{stored}
use Rattle.fc_steps.proofs.WritePrepare.{whole_prepared, part_prepared, failed_prepared}
use Rattle.fc_steps.proofs.write.prepare.Goals as goal

pub returns-then-part-blocks : goal.returns-then-part-blocks
returns-then-part-blocks g c =
    let n : ℕ = c.bytes-bytes.result in
    whole_prepared c.args.grains.now.grain c.args.part c.requires.part (stored c.args.grains.now.volumes c.args.source.0 c.args.place)
    (c.if-part-blocks.true ∙ (c.blocks-2.ensures ∙ ap grain_blocks c.grain.ensures)) c.args.grains.now c.fill.new.self c.bytes-bytes.ensures.hand (c.bytes-bytes.ensures.whole c.args.source.0 c.args.place)
    (subst (λ (z : ℕ). c.fill.new.self ≡ record c.args.grains.now { buffer = take 0 c.args.grains.now.buffer ++ replicate z c.args.part.byte ++ drop (0 + z) c.args.grains.now.buffer }) c.bytes-bytes.ensures.value c.fill.ensures)

pub returns-in-Err : goal.returns-in-Err
returns-in-Err g c =
    failed_prepared c.args.grains.now.grain c.args.part c.requires.part (stored c.args.grains.now.volumes c.args.source.0 c.args.place)
    (λ e. c.if-part-blocks.false (e ∙ (ap grain_blocks (sym c.grain.ensures) ∙ sym c.blocks-2.ensures))) c.args.grains.now c.read.new.self c.args.source.0 c.args.place c.requires.there refl c.in-Err.ensures

pub returns : goal.returns
returns g c =
    part_prepared c.args.grains.now.grain c.args.part c.requires.part (stored c.args.grains.now.volumes c.args.source.0 c.args.place)
    (λ e. c.if-part-blocks.false (e ∙ (ap grain_blocks (sym c.grain.ensures) ∙ sym c.blocks-2.ensures))) c.args.grains.now c.read.new.self c.args.source.0 c.args.place c.requires.there refl
    c.fill-2.new.self c.in-Ok.ensures
    (subst (λ (z : ℕ). c.fill-2.new.self ≡ record c.read.new.self { buffer = take z c.read.new.self.buffer ++ replicate (block_bytes * c.args.part.count) c.args.part.byte ++ drop (z + block_bytes * c.args.part.count) c.read.new.self.buffer })
    (c.start_in_grain-from.ensures ∙ ap (λ (z : GrainSize). byte_in_grain z c.args.part.block) (c.grain-2.ensures ∙ ap (λ (s : GrainsState). s.grain) c.in-Ok.ensures.rest)) c.fill-2.ensures)
