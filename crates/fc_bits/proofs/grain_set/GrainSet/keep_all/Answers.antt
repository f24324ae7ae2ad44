use Rattle.std.proofs.Common.{◌≡◌, ℕ, List, ◌&&◌, refl, ap₂, ◌∙◌, sym, subst, arith}
use Rattle.std.proofs.lemmas.List.{with_items_is}
use Rattle.std.specs.Vec.{with_items}
use Rattle.fc_bits.specs.Grains.{common}
use Rattle.fc_bits.specs.Words.{bit_of, IsTidy, grains_of}
use Rattle.fc_bits.proofs.Sets.{same_words, made_held}
use Rattle.fc_bits.proofs.grain_set.GrainSet.keep_all.Goals as goal

pub keep_others-requires : goal.keep_others-requires
keep_others-requires c = omega (
  arith,
  same_words c.self.inside.grains c.other.inside.grains c.self.inside.words.items c.other.inside.words.items c.args.self.now c.args.other.now c.self.view_is c.other.view_is c.requires c.self.invariant c.other.invariant,
)

-- the words that the vector has at the end
kept : (c : goal.After-self-1)
    → IsTidy c.self.inside.grains (with_items c.self.inside.words c.keep_others.new.words).items × (grains_of c.self.inside.grains (with_items c.self.inside.words c.keep_others.new.words).items ≡ common c.args.self.now c.args.other.now)
kept c =
    let made : (g : ℕ) → bit_of c.keep_others.new.words g ≡ (bit_of c.self.inside.words.items g && bit_of c.other.inside.words.items g) =
    λ g. c.keep_others.ensures g ∙ ap₂ (λ (x y : List ℕ). bit_of x g && bit_of y g) c.deref_mut.ensures.value c.deref.ensures.value in
    subst (λ (x : List ℕ). IsTidy c.self.inside.grains x × (grains_of c.self.inside.grains x ≡ common c.args.self.now c.args.other.now))
    (sym (with_items_is c.self.inside.words c.keep_others.new.words (omega arith)))
    (made_held c.self.inside.grains c.other.inside.grains c.self.inside.words.items c.other.inside.words.items c.args.self.now c.args.other.now c.self.view_is c.other.view_is c.requires
    (λ x y. x && y) refl c.keep_others.new.words c.self.invariant c.other.invariant (omega arith) made)

pub invariant_of-self : goal.invariant_of-self
invariant_of-self c = (kept c).0

pub returns : goal.returns
returns c = (kept c).1
