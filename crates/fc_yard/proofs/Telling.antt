-- What is told, after the steps that change it.
use Rattle.std.proofs.Common.{◌≡◌, ◌≢◌, ℕ, ◌+◌, ◌<◌, ◌≤◌, List, [], ◌∷◌, ◌++◌, length, sym, refl, ◌∙◌, subst, arith, length-append, Option, Some}
use mathlib.Core.Option.{some}
use mathlib.Core.Logic.{dite}
use native.Mathlib.Decide.{ℕ_discrete}
use lib.ListN.{get_elem?}
use Rattle.fc_yard.specs.declared.rule.View.{View}
use Rattle.fc_yard.specs.Views.{held_of}
use Rattle.fc_yard.specs.Whole.{OpensWith, Tells, Commits, CommitsAll, Stays}
use Rattle.fc_yard.proofs.Places.{runs_more}

module _ {A : Type 0} where
  -- the parts as they are, but that at p
  abbrev pub put : (ℕ → A) → ℕ → A → ℕ → A
  put now p a q = elim (ℕ_discrete q p) [ yes e ↦ a | no n ↦ now q ]

  pub put_here : (now : ℕ → A) (p : ℕ) (a : A) → put now p a p ≡ a
  put_here now p a = elim (ℕ_discrete p p) as (λ (d : Dec (p ≡ p)). elim d as (λ _. A) [ yes e ↦ a | no n ↦ now p ] ≡ a) [ yes e ↦ refl | no n ↦ absurd (n refl) ]

  pub put_else : (now : ℕ → A) (p q : ℕ) (a : A) → q ≢ p → put now p a q ≡ now q
  put_else now p q a n = elim (ℕ_discrete q p) as (λ (d : Dec (q ≡ p)). elim d as (λ _. A) [ yes e ↦ a | no n ↦ now q ] ≡ now q) [ yes e ↦ absurd (n e) | no n ↦ refl ]

module _ {W E P : Type 0} (fits : P → W → ℕ → P → Type 0) (sound : W → W → Type 0) (count : W → ℕ) (steps : W → ℕ → E → W → Type 0) (parts : List P) (first : ℕ) (w0 : W) where
  abbrev Told : (ℕ → Option P) → List E → Type 0
  Told now es = Tells fits sound count steps parts first w0 now es

  -- a part is put back as one that has its share too
  pub told_given : (now : ℕ → Option P) (es : List E) (v : View P E) (p : ℕ) (old new : P) → v.openings ≡ parts → held_of v p ≡ Some old → now p ≡ Some old → Stays fits sound count steps v p new
      → Told now es → Told (put now p (Some new)) es
  told_given now es v p old new opened held is stays k = record {
    last = k.last;
    runs = k.runs;
    sound_is = k.sound_is;
    counted = k.counted;
    fit = λ q x0 x at has. dite (ℕ_discrete q p)
        (λ (e : q ≡ p). let here : get_elem? parts p ≡ some x0 = subst (λ (z : ℕ). get_elem? parts z ≡ some x0) e at in
        let it : Some new ≡ Some x = sym (put_here now p (Some new)) ∙ subst (λ (z : ℕ). put now p (Some new) z ≡ Some x) e has in
        let same : new ≡ x = cc in
        subst (λ (z : ℕ × P). fits x0 k.last z.0 z.1) (λ i. (sym e i, same i)) (stays k.last x0 old (subst (λ (ys : List P). get_elem? ys p ≡ some x0) (sym opened) here) held (k.fit p x0 old here is)))
        (λ (n : q ≢ p). k.fit q x0 x at (sym (put_else now p q (Some new) n) ∙ has));
  }

  -- a number is drawn for an entry of one part
  pub told_drawn : (now : ℕ → Option P) (es : List E) (v : View P E) (p : ℕ) (x0 old new : P) (e : E) → v.openings ≡ parts → get_elem? parts p ≡ some x0 → held_of v p ≡ Some old → now p ≡ Some old
      → OpensWith fits sound count steps v.openings v.first w0 → v.tickets + (first + length es) ≤ v.limit → Commits fits sound count steps v p new e → Told now es → Told (put now p (Some new)) (es ++ e ∷ [])
  told_drawn now es v p x0 old new e opened at held is opens room commits k =
      let at' : get_elem? v.openings p ≡ some x0 = subst (λ (ys : List P). get_elem? ys p ≡ some x0) (sym opened) at in
      let c = commits w0 k.last x0 old opens k.sound_is (subst (λ (n : ℕ). v.tickets + n ≤ v.limit) (sym k.counted) room) at' held (k.fit p x0 old at is) in record {
        last = c.0;
        runs = runs_more fits sound count steps w0 first es k.last c.0 e k.runs (subst (λ (z : ℕ). steps k.last z e c.0) k.counted c.1);
        sound_is = c.2;
        counted = let long = length-append es (e ∷ []) in let one = c.3 in let before = k.counted in omega arith;
        fit = λ q y0 y there has. dite (ℕ_discrete q p)
            (λ (s : q ≡ p). let here : get_elem? parts p ≡ some y0 = subst (λ (z : ℕ). get_elem? parts z ≡ some y0) s there in
            let start : some x0 ≡ some y0 = sym at ∙ here in let same0 : x0 ≡ y0 = mathlib.Core.Option.some-injective x0 y0 start in
            let it : Some new ≡ Some y = sym (put_here now p (Some new)) ∙ subst (λ (z : ℕ). put now p (Some new) z ≡ Some y) s has in
            let same : new ≡ y = cc in
            subst (λ (z : P × ℕ × P). fits z.0 c.0 z.1 z.2) (λ i. (same0 i, sym s i, same i)) c.4)
            (λ (n : q ≢ p). c.5 q y0 y n (k.fit q y0 y there (sym (put_else now p q (Some new) n) ∙ has)));
      }

  -- a number is drawn for an entry of all parts
  pub told_drawn_all : (now now' : ℕ → Option P) (es : List E) (v : View P E) (news : List P) (e : E) → v.openings ≡ parts
      → ((q : ℕ) (x : P) → q < length parts → held_of v q ≡ Some x → now q ≡ Some x)
      → ((q : ℕ) (x0 x : P) → get_elem? parts q ≡ some x0 → now' q ≡ Some x → get_elem? news q ≡ some x)
      → OpensWith fits sound count steps v.openings v.first w0 → v.tickets + (first + length es) ≤ v.limit → CommitsAll fits sound count steps (length parts) v news e → Told now es → Told now' (es ++ e ∷ [])
  told_drawn_all now now' es v news e opened held becomes opens room commits k =
      let c = commits w0 k.last opens k.sound_is (subst (λ (n : ℕ). v.tickets + n ≤ v.limit) (sym k.counted) room) (λ q x0 old l at has. k.fit q x0 old (subst (λ (ys : List P). get_elem? ys q ≡ some x0) opened at) (held q old l has)) in record {
        last = c.0;
        runs = runs_more fits sound count steps w0 first es k.last c.0 e k.runs (subst (λ (z : ℕ). steps k.last z e c.0) k.counted c.1);
        sound_is = c.2;
        counted = let long = length-append es (e ∷ []) in let one = c.3 in let before = k.counted in omega arith;
        fit = λ q x0 x at has. c.4 q x0 x (subst (λ (ys : List P). get_elem? ys q ≡ some x0) (sym opened) at) (becomes q x0 x at has);
      }
