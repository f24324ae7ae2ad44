-- The duties of an actor that counts.
use Rattle.std.proofs.Common.{◌≡◌, ◌≢◌, ℕ, zero, suc, ◌+◌, ◌<◌, List, [], ◌∷◌, map, length, get_or, set, sym, refl, ap, ◌∙◌, subst, arith, length-set, get_or-set_other, get_or-set_same, Option, Some, None, slice_index_or}
use mathlib.Core.Option.{some, some-injective, some-ne-none}
use lib.ListN.{get_elem?, length-map}
use Rattle.fc_yard.specs.declared.rule.View.{View}
use Rattle.fc_yard.specs.Views.{held_of, HoldsNone, HoldsOnly, HoldsAll, took, drew}
use Rattle.fc_yard.specs.Whole.{Commits, CommitsAll, Stays}
use Rattle.fc_yard.proofs.Calling.{only_took, only_drew}
use Rattle.fc_yard.proofs.Totals.{write_here, write_else}
use Rattle.yard_tests.specs.declared.counter.Counts.{Counts}
use Rattle.yard_tests.specs.declared.counter.Counter.{Counter}
use Rattle.yard_tests.specs.declared.counter.Tally.{Tally}
use Rattle.yard_tests.specs.declared.counter.Tally.TheVariants.{One, All}
use Rattle.yard_tests.specs.Counting.{after, HasShare, Counted}

some_is : {A : Type 0} (o : Option A) (a b : A) → o ≡ Some a → o ≡ Some b → a ≡ b
some_is o a b e f = cc

-- a counter that went up by one
pub commits : (v : View Counter Tally) (p : ℕ) (old new : Counter) → held_of v p ≡ Some old → new.count ≡ after old.count
    → Commits {W = Counts} {E = Tally} {P = Counter} (λ x0 w q x. HasShare w q x) (λ w0 w. Unit {0}) (λ w. w.told) (λ w n e next. Counted w e next) v p new (One p)
commits v p old new held up w0 w x0 was opens sound room at has share =
    let same = some_is (held_of v p) old was held has in
    let more : ℕ = after (get_or w.counters p 0) in
    let next : Counts = record { counters = set w.counters p more; told = w.told + 1 } in (
      next,
      (refl, refl),
      tt,
      refl,
      (
        let long = length-set w.counters p more in let l = share.0 in omega arith,
        get_or-set_same w.counters p more 0 share.0 ∙ ap after share.1 ∙ sym (up ∙ ap (λ (c : Counter). after c.count) same),
      ),
      λ q y0 y n there. (let long = length-set w.counters p more in let l = there.0 in omega arith, get_or-set_other w.counters p q more 0 n ∙ there.1),
    )

-- a part that is put back as it is held
pub stays : (v : View Counter Tally) (p : ℕ) (x : Counter) → held_of v p ≡ Some x
    → Stays {W = Counts} {E = Tally} {P = Counter} (λ x0 w q y. HasShare w q y) (λ w0 w. Unit {0}) (λ w. w.told) (λ w n e next. Counted w e next) v p x
stays v p x held w x0 old at has share = subst (HasShare w p) (some_is (held_of v p) old x has held) share

mapped_at : (f : ℕ → ℕ) (xs : List ℕ) (p : ℕ) → p < length xs → get_or (map f xs) p 0 ≡ f (get_or xs p 0)
mapped_at f [] p l = absurd (omega arith)
mapped_at f (x ∷ xs) zero l = refl
mapped_at f (x ∷ xs) (suc p) l = mapped_at f xs p (omega arith)

after_share : (w : Counts) (p : ℕ) (old new : Counter) → new.count ≡ after old.count → HasShare w p old → HasShare (record { counters = map after w.counters; told = w.told + 1 }) p new
after_share w p old new up share =
    (let long = length-map w.counters after in let l = share.0 in omega arith, mapped_at after w.counters p share.0 ∙ ap after share.1 ∙ sym up)

-- two counters that both went up by one
pub commits_both : (v : View Counter Tally) (a b c d : Counter) (news : List Counter) → held_of v 0 ≡ Some a → held_of v 1 ≡ Some b → news ≡ c ∷ d ∷ [] → c.count ≡ after a.count → d.count ≡ after b.count
    → CommitsAll {W = Counts} {E = Tally} {P = Counter} (λ x0 w q x. HasShare w q x) (λ w0 w. Unit {0}) (λ w. w.told) (λ w n e next. Counted w e next) 2 v news All
commits_both v a b c d news first second are up more w0 w opens sound room fit = (
  record { counters = map after w.counters; told = w.told + 1 },
  (refl, refl),
  tt,
  refl,
  λ q x0 x at there.
      both q x0 x at (subst (λ (xs : List Counter). get_elem? xs q ≡ some x) are there),
) where
  both : (q : ℕ) (x0 x : Counter) → get_elem? v.openings q ≡ some x0 → get_elem? (c ∷ d ∷ []) q ≡ some x → HasShare (record { counters = map after w.counters; told = w.told + 1 }) q x
  both zero x0 x at e = subst (HasShare (record { counters = map after w.counters; told = w.told + 1 }) 0) (some-injective c x e) (after_share w 0 a c up (fit 0 x0 a (omega arith) at first))
  both (suc zero) x0 x at e = subst (HasShare (record { counters = map after w.counters; told = w.told + 1 }) 1) (some-injective d x e) (after_share w 1 b d more (fit 1 x0 b (omega arith) at second))
  both (suc (suc q)) x0 x at e = absurd (some-ne-none x (sym e))

-- the one part that a pass holds: once it was taken and a ticket was asked for, and once a number was drawn
pub still_only : (v0 v1 v2 : View Counter Tally) (p : ℕ) (x : Counter) → HoldsNone v0 → v1 ≡ took v0 p x → v2.held ≡ v1.held → HoldsOnly v2 p x
still_only v0 v1 v2 p x free one two =
    let only = subst (λ (v : View Counter Tally). HoldsOnly v p x) (sym one) (only_took v0 p x free) in
    (ap (λ held. slice_index_or held p None) two ∙ only.0, λ q n. ap (λ held. slice_index_or held q None) two ∙ only.1 q n)

pub counted_only : (v0 v1 : View Counter Tally) (p : ℕ) (old new : Counter) (n : ℕ) → HoldsOnly v0 p old → v1 ≡ drew v0 p new n (One p) → HoldsOnly v1 p new
counted_only v0 v1 p old new n only one = subst (λ (v : View Counter Tally). HoldsOnly v p new) (sym one) (only_drew v0 p old new n (One p) only)

-- two parts that were taken one after the other
pub two_held : (v0 v1 v2 : View Counter Tally) (a b : Counter) → HoldsNone v0 → v1 ≡ took v0 0 a → v2 ≡ took v1 1 b → (held_of v2 0 ≡ Some a) × (held_of v2 1 ≡ Some b)
two_held v0 v1 v2 a b free one two =
    let apart : zero ≢ suc zero = λ (e : zero ≡ suc zero). omega arith in (
      ap (λ (v : View Counter Tally). held_of v 0) two ∙ write_else None v1.held 1 0 (Some b) apart ∙ ap (λ (v : View Counter Tally). held_of v 0) one ∙ write_here None v0.held 0 (Some a),
      ap (λ (v : View Counter Tally). held_of v 1) two ∙ write_here None v1.held 1 (Some b),
    )

pub both_held : (v : View Counter Tally) (a b : Counter) → held_of v 0 ≡ Some a → held_of v 1 ≡ Some b → HoldsAll v 2
both_held v a b first second zero near = (a, first)
both_held v a b first second (suc zero) near = (b, second)
both_held v a b first second (suc (suc p)) near = absurd (omega arith)
