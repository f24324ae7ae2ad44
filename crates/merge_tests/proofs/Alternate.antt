-- Two lists of two, whose numbers alternate, can be merged.
use Rattle.std.proofs.Common.{◌≡◌, ◌≢◌, ℕ, zero, suc, ◌+◌, ◌==◌, ◌<◌, cond, List, [], ◌∷◌, ◌++◌, get_or, All, AllPairs, Contains, refl, sym, ◌∙◌, ap, subst, arith}
use Rattle.std.proofs.lemmas.List.Elements.{All-cons, All-nil}
use Rattle.fc_entry.specs.declared.entry.Entry.{Entry}
use Rattle.fc_merge.proofs.Left.{count-cons, count_at, one_at}
use Rattle.fc_merge.specs.Merging.{AreNumbered, AreOwn, IsOwn, Own, all_of}
use Rattle.merge_tests.specs.Two.{HasTwo}

pair : {X : Type 0} (R : X → X → Type 0) (x y : X) → R x y → AllPairs R (x ∷ y ∷ [])
pair R x y h zero zero d lt inside = absurd (omega (arith, lt))
pair R x y h zero (suc zero) d lt inside = h
pair R x y h zero (suc (suc j)) d lt inside = absurd (omega (arith, inside))
pair R x y h (suc i) j d lt inside = absurd (omega (arith, lt, inside))

two_own : (actor first second : ℕ) (own : Own) → first < second → HasTwo actor first second own → IsOwn own
two_own actor first second own less h =
    let Mine : Entry → Type 0 = λ e. e.actor ≡ own.actor in
    let Rises : Entry → Entry → Type 0 = λ a b. a.number < b.number in
    let P : List Entry → Type 0 = λ es. All Mine es × AllPairs Rises es in
    let rises : h.one.number < h.other.number = omega (arith, h.one_is.number_is, h.other_is.number_is, less) in
    subst P (sym h.entries_are) (
      All-cons Mine h.one (h.other ∷ []) (h.one_is.actor_is ∙ sym h.actor_is)
          (All-cons Mine h.other [] (h.other_is.actor_is ∙ sym h.actor_is) (All-nil Mine)),
      pair Rises h.one h.other rises,
    )

module _ (a b : Own) (one : HasTwo 1 0 2 a) (two : HasTwo 2 1 3 b) where
  pub alternate_own : AreOwn (a ∷ b ∷ [])
  alternate_own = (
    All-cons IsOwn a (b ∷ []) (two_own 1 0 2 a (omega arith) one) (All-cons IsOwn b [] (two_own 2 1 3 b (omega arith) two) (All-nil IsOwn)),
    pair (λ (x y : Own). x.actor ≢ y.actor) a b (λ same. absurd (omega (arith, same, one.actor_is, two.actor_is))),
  )

  entries_are : all_of (a ∷ b ∷ []) ≡ one.one ∷ one.other ∷ two.one ∷ two.other ∷ []
  entries_are =
      ap (λ (es : List Entry). es ++ (b.entries ++ [])) one.entries_are
      ∙ ap (λ (es : List Entry). one.one ∷ one.other ∷ (es ++ [])) two.entries_are

  counts : (n : ℕ) → count_at n (one.one ∷ one.other ∷ two.one ∷ two.other ∷ []) ≡ cond (0 == n) 1 0 + (cond (2 == n) 1 0 + (cond (1 == n) 1 0 + (cond (3 == n) 1 0 + 0)))
  counts n =
      let is : (e : Entry) (x : ℕ) → e.number ≡ x → one_at n e ≡ cond (x == n) 1 0 = λ e x same. ap (λ y. cond (y == n) 1 0) same in
      count-cons n one.one (one.other ∷ two.one ∷ two.other ∷ [])
      ∙ ap (λ k. k + count_at n (one.other ∷ two.one ∷ two.other ∷ [])) (is one.one 0 one.one_is.number_is)
      ∙ ap (λ k. cond (0 == n) 1 0 + k) (
      count-cons n one.other (two.one ∷ two.other ∷ [])
      ∙ ap (λ k. k + count_at n (two.one ∷ two.other ∷ [])) (is one.other 2 one.other_is.number_is)
      ∙ ap (λ k. cond (2 == n) 1 0 + k) (
      count-cons n two.one (two.other ∷ [])
      ∙ ap (λ k. k + count_at n (two.other ∷ [])) (is two.one 1 two.one_is.number_is)
      ∙ ap (λ k. cond (1 == n) 1 0 + k) (count-cons n two.other [] ∙ ap (λ k. k + 0) (is two.other 3 two.other_is.number_is))))

  once_each : (n : ℕ) → n < 4 → cond (0 == n) 1 0 + (cond (2 == n) 1 0 + (cond (1 == n) 1 0 + (cond (3 == n) 1 0 + 0))) ≡ 1
  once_each zero below = refl
  once_each (suc zero) below = refl
  once_each (suc (suc zero)) below = refl
  once_each (suc (suc (suc zero))) below = refl
  once_each (suc (suc (suc (suc n)))) below = absurd (omega (arith, below))

  below_four : (e : Entry) (k : ℕ) → k < 4 → get_or (one.one ∷ one.other ∷ two.one ∷ two.other ∷ []) k e ≡ e → e.number < 4
  below_four e zero inside is = omega (arith, ap (λ (x : Entry). x.number) is, one.one_is.number_is)
  below_four e (suc zero) inside is = omega (arith, ap (λ (x : Entry). x.number) is, one.other_is.number_is)
  below_four e (suc (suc zero)) inside is = omega (arith, ap (λ (x : Entry). x.number) is, two.one_is.number_is)
  below_four e (suc (suc (suc zero))) inside is = omega (arith, ap (λ (x : Entry). x.number) is, two.other_is.number_is)
  below_four e (suc (suc (suc (suc k)))) inside is = absurd (omega (arith, inside))

  pub alternate_numbered : AreNumbered 0 4 (a ∷ b ∷ [])
  alternate_numbered =
      record {
        once = λ n from below. ap (count_at n) entries_are ∙ counts n ∙ once_each n (omega (arith, below));
        none = λ e at.
            let P : List Entry → Type 0 = λ es. Contains es e in
            let there = subst P entries_are at in
            let small : e.number < 4 = below_four e there.0 (omega (arith, there.1)) there.2 in
            (omega arith, omega (arith, small));
      }
