-- A request of one part: what its calls ask.
use Rattle.std.proofs.Common.{◌≡◌, ℕ, ◌+◌, ◌<◌, ◌≤◌, List, [], ◌∷◌, ◌++◌, length, sym, ap, ◌∙◌, subst, refl, arith, Option, Some}
use mathlib.Core.Option.{some}
use lib.ListN.{get_elem?}
use Rattle.fc_yard.specs.declared.rule.View.{View}
use Rattle.fc_yard.specs.Views.{held_of}
use Rattle.fc_yard.specs.Whole.{OpensWith, Knows, Commits, Stays}
use Rattle.fc_yard.proofs.Turning.{at_length}
use Rattle.fc_tasks.specs.Acting.{IsSamePass, Went}
use Rattle.fc_tasks.specs.Tasks.{IsTold, IsPartOf, PartLeads}
use Rattle.fc_tasks.specs.declared.script.Needs.{Needs}

pub some_same : {A : Type 0} (o : Option A) (a b : A) → o ≡ Some a → o ≡ Some b → a ≡ b
some_same o a b e f = cc

module _ {W E P : Type 0} (fits : P → W → ℕ → P → Type 0) (sound : W → W → Type 0) (count : W → ℕ) (steps : W → ℕ → E → W → Type 0) (v : View P E) (p : ℕ) (x new : P) (held : held_of v p ≡ Some x) where
  -- the part has its share wherever the part as it is held has it
  pub stays_with : ((w : W) (q : ℕ) (x0 : P) → fits x0 w q x → fits x0 w q new) → Stays fits sound count steps v p new
  stays_with stays w x0 old at has fit = stays w p x0 (subst (fits x0 w p) (some_same (held_of v p) old x has held) fit)

  pub stays_same : Stays fits sound count steps v p x
  stays_same w x0 old at has fit = subst (fits x0 w p) (some_same (held_of v p) old x has held) fit

  -- the part is one of the yard's
  pub is_part : (w0 : W) → OpensWith fits sound count steps v.openings v.first w0 → Knows fits sound count steps v → 0 < v.tickets → p < length v.openings
      → ((w : W) (q : ℕ) (x0 : P) → fits x0 w q x → fits x0 w q new) → IsPartOf fits sound count steps v.openings v.limit p new
  is_part w0 opens knows has near stays =
      let told = knows w0 opens in let opening = at_length v.openings p near in let few = told.2 in record {
        first = v.first;
        w0 = w0;
        w = told.0;
        opening = opening.0;
        told = record { opens = opens; sound_is = told.1; room = omega arith };
        at = opening.1;
        fit = stays told.0 p opening.0 (told.3 p opening.0 x opening.1 held);
      }

  -- and what was done of it leads on
  pub commits_with : (done : P) (e : E) → 0 < v.tickets → ((w : W) (q : ℕ) (x0 : P) → fits x0 w q x → fits x0 w q new)
      → ((w0 w : W) (opening : P) → IsTold fits sound count steps v.openings v.first v.limit w0 w → get_elem? v.openings p ≡ some opening → fits opening w p new → PartLeads fits sound count steps w0 w p opening done e)
      → Commits fits sound count steps v p done e
  commits_with done e has stays leads w0 w x0 old opens is_sound few at was fit =
      let told : IsTold fits sound count steps v.openings v.first v.limit w0 w = record { opens = opens; sound_is = is_sound; room = omega arith } in
      let l = leads w0 w x0 told at (stays w p x0 (subst (fits x0 w p) (some_same (held_of v p) old x was held) fit)) in
      (l.next, l.leads, l.sound_is, l.counted, l.part, l.others)

-- What was done of a script, and then one request more.
module _ {E P S : Type 0} (needed : S → Needs) (suits : S → List P → ℕ → Type 0) (goes : S → E → S → Type 0) where
  pub went_more : (first s last : S) (es : List E) (e : E) → Went needed suits goes first es s → goes s e last → Went needed suits goes first (es ++ e ∷ []) last
  went_more first s last [] e is one = (last, subst (λ (x : S). goes x e last) is one, refl)
  went_more first s last (f ∷ fs) e went one = (went.0, went.1, went_more went.0 s last fs e went.2 one)

pub more_behind : {A : Type 0} (xs ys : List A) (x : A) → (xs ++ ys) ++ x ∷ [] ≡ xs ++ (ys ++ x ∷ [])
more_behind [] ys x = refl
more_behind (z ∷ zs) ys x = ap (λ (l : List _). z ∷ l) (more_behind zs ys x)

module _ {P E : Type 0} where
  pub still_same : (u v w : View P E) → IsSamePass u v → IsSamePass v w → IsSamePass u w
  still_same u v w one two = record {
    openings = two.openings ∙ one.openings;
    first = two.first ∙ one.first;
    limit = two.limit ∙ one.limit;
    passes = two.passes ∙ one.passes;
    shares = two.shares ∙ one.shares;
  }
