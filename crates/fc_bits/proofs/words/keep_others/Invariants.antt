use Rattle.std.proofs.Common.{bit_and}
use Rattle.fc_bits.proofs.Pairs.{MadeUpTo}
use Rattle.fc_bits.proofs.words.keep_others.Given as goal

abbrev pub invariant-loop-index : goal.invariant-loop-index
invariant-loop-index l = MadeUpTo (λ x y. bit_and x y) l.initial.words l.others l.words l.index
