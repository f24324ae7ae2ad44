use Rattle.std.proofs.Common.{bit_and, refl, arith}
use Rattle.fc_bits.proofs.Pairs.{made_more, made_all, bit_of-kept}
use Rattle.fc_bits.proofs.words.keep_others.Goals as goal

pub loop-index-preserved : goal.loop-index-preserved
loop-index-preserved c = made_more (λ x y. bit_and x y) c.args.words.now c.args.others.now c.loop-index.words c.loop-index.index (omega arith) c.loop-index.invariant

pub returns : goal.returns
returns c =
    bit_of-kept c.args.words.now c.args.others.now c.loop-index.words
    (made_all (λ x y. bit_and x y) c.args.words.now c.args.others.now refl c.loop-index.words (omega arith) (omega arith) (λ k low. c.loop-index.invariant.0 k (omega arith)))
