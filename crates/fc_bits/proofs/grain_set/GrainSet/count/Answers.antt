use Rattle.std.proofs.Common.{List, ℕ, ◌∙◌, ap, arith}
use Rattle.fc_bits.specs.Grains.{count_set}
use Rattle.fc_bits.specs.Words.{bits_of}
use Rattle.fc_bits.proofs.Sets.{count_held, count_bound}
use Rattle.fc_bits.proofs.grain_set.GrainSet.count.Goals as goal

pub count_words-requires : goal.count_words-requires
count_words-requires c =
    omega (arith, ap (λ (x : List ℕ). count_set (bits_of x)) c.deref.ensures.value, count_bound c.self.inside.grains c.self.inside.words.items c.args.self.now c.self.view_is c.self.invariant)

pub returns : goal.returns
returns c =
    c.count_words.ensures ∙ ap (λ (x : List ℕ). count_set (bits_of x)) c.deref.ensures.value
    ∙ count_held c.self.inside.grains c.self.inside.words.items c.args.self.now c.self.view_is c.self.invariant
