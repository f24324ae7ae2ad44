use Rattle.std.proofs.Common.{◌+◌, ◌∙◌, get_or, sym, ap, arith}
use Rattle.fc_plain.proofs.BlockLemmas.{has_bytes, grain_there, one_more_block, one_more_size, none_more}
use Rattle.fc_plain.proofs.reading.read_blocks.Goals as goal

pub loop-offset-preserved : goal.loop-offset-preserved
loop-offset-preserved c =
    let has = has_bytes c.args.grain c.args.volume.now (c.args.block + c.loop-offset.offset) c.grain_at.result c.index-now-grain_at.result c.in-Some.bytes.now c.grain_at.ensures
    (grain_there _ _ _ c.grain_at.ensures (c.requires.there (c.args.block + c.loop-offset.offset) (omega arith) (omega arith))) (ap (λ z. get_or z c.grain_at.result c.index-now-grain_at.result) (sym c.now.ensures) ∙ (sym c.index-now-grain_at.is ∙ c.in-Some.ensures)) in
    record {
      bytes = one_more_block c.args.grain c.args.volume.now c.args.block c.loop-offset.offset c.byte_at.result _ _ c.in-Some.bytes.now c.loop-offset.invariant.bytes c.byte_at.ensures has c.in_ok-add_block-in-Some.ensures;
      size = one_more_size _ _ c.in-Some.bytes.now c.loop-offset.offset c.byte_at.result 512 c.loop-offset.invariant.size c.in_ok-add_block-in-Some.ensures;
      none_lost = none_more c.args.grain c.args.volume.now c.args.block c.loop-offset.offset c.in-Some.bytes.now c.loop-offset.invariant.none_lost has;
    }
