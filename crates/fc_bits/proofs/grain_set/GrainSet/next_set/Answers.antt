use Rattle.std.proofs.Common.{◌≡◌, ◌*◌, ℕ, List, length, ◌∙◌, subst, arith}
use Rattle.fc_bits.specs.Grains.{least_from}
use Rattle.fc_bits.specs.Words.{bit_of}
use Rattle.fc_bits.proofs.Sets.{set_held_from}
use Rattle.fc_bits.proofs.grain_set.GrainSet.next_set.Goals as goal

pub first_set-requires : goal.first_set-requires
first_set-requires c = omega (arith, c.self.invariant.enough, c.self.invariant.numbered)

pub returns : goal.returns
returns c =
    subst (λ (x : List ℕ). c.first_set.result ≡ least_from (bit_of x) c.args.from (64 * length x)) c.deref.ensures.value c.first_set.ensures
    ∙ set_held_from c.self.inside.grains c.self.inside.words.items c.args.self.now c.self.view_is c.self.invariant c.args.from (64 * length c.self.inside.words.items) (omega (arith, c.self.invariant.enough))
