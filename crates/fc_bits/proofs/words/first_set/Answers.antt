use Rattle.std.proofs.Common.{◌*◌, ◌∙◌, length}
use Rattle.fc_bits.proofs.Least.{least_from-same}
use Rattle.fc_bits.proofs.Pairs.{bit_in-words}
use Rattle.fc_bits.proofs.words.first_set.Goals as goal

pub returns : goal.returns
returns c = c.least_set_bit.ensures ∙ least_from-same _ _ c.args.from (64 * length c.args.words.now) (λ g low high. bit_in-words c.args.words.now g)
