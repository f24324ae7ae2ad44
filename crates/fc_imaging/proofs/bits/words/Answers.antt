use Rattle.std.proofs.Common.{◌≡◌, ℕ, map, replicate, ap, ◌∙◌, arith}
use Rattle.std.specs.List.{range_with_len}
use Rattle.fc_bits.specs.Words.{words_for}
use Rattle.fc_imaging.specs.Bits.{bit_told}
use Rattle.fc_kept.specs.Images.{words_from}
use Rattle.fc_imaging.proofs.Putting.{put_more, all_put}
use Rattle.fc_imaging.proofs.bits.words.Goals as goal

pub loop-grain-preserved : goal.loop-grain-preserved
loop-grain-preserved g c =
    c.put.ensures
    ∙ put_more (bit_told c.args.lanes.now c.args.bits) c.loop-grain.grain c.loop-grain.words (replicate (words_for c.args.grains) 0) c.bit.result c.loop-grain.invariant c.bit.ensures

pub returns : goal.returns
returns g c =
    let all : c.loop-grain.grain ≡ c.args.grains = omega (arith, c.loop-grain.auto.grain-end, c.loop-grain-test.false) in
    c.loop-grain.invariant
    ∙ (ap (λ (n : ℕ). words_from (map (bit_told c.args.lanes.now c.args.bits) (range_with_len 0 n)) 0 (replicate (words_for c.args.grains) 0)) all
    ∙ all_put (bit_told c.args.lanes.now c.args.bits) c.args.grains)
