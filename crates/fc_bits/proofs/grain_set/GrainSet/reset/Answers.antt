use Rattle.std.proofs.Common.{◌≡◌, ℕ, List, length, arith, ap, ◌∙◌, subst, sym}
use Rattle.std.specs.Vec.{vec_len}
use Rattle.fc_bits.specs.Words.{grains_of, IsTidy, words_for}
use Rattle.fc_bits.proofs.Bridge.{grains_of-zeros, tidy-zeros}
use Rattle.fc_bits.proofs.Sets.{length_held}
use Rattle.fc_bits.proofs.grain_set.GrainSet.reset.Goals as goal

-- as many words as the grains take
cut : (c : goal.After-self-1) → vec_len c.truncate.new.self ≡ words_for c.args.grains
cut c =
    let long : length c.args.self.now ≡ c.self.inside.grains = length_held c.self.inside.grains c.self.inside.words.items c.args.self.now c.self.view_is in
    omega (arith, long, c.requires, c.self.invariant.enough, c.truncate.ensures.len, c.div_ceil.ensures)

pub invariant_of-self : goal.invariant_of-self
invariant_of-self c =
    subst (λ (x : List ℕ). IsTidy c.args.grains x) (sym (c.fill.ensures.items (λ y e. e))) (tidy-zeros c.args.grains (vec_len c.truncate.new.self) c.ranges.grains.fits (cut c))

pub returns : goal.returns
returns c = ap (λ (x : List ℕ). grains_of c.args.grains x) (c.fill.ensures.items (λ y e. e)) ∙ grains_of-zeros c.args.grains (vec_len c.truncate.new.self)
