use Rattle.std.proofs.Common.{◌*◌, ◌∙◌, length}
use Rattle.fc_bits.proofs.Least.{least_from-same}
use Rattle.fc_bits.proofs.Pairs.{bit_in-apart}
use Rattle.fc_bits.proofs.words.first_in_difference.Goals as goal

pub returns : goal.returns
returns c = c.least_set_bit.ensures ∙ least_from-same _ _ c.args.from (64 * length c.args.a.now) (λ g low high. bit_in-apart c.args.a.now c.args.b.now (λ k. (c.type_inv.b k).fits) g)
