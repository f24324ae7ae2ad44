-- The greatest and the least number below a bound that pass a test.
use Rattle.std.proofs.Common.{◌≡◌, ℕ, zero, suc, ◌<◌, Bool, true, false, Option, Some, None, refl, sym, ap, subst, ◌∙◌, arith, ◌⊎◌, inl, inr}
use Rattle.std.proofs.lemmas.Bool.{cases_Bool, both_ways, cases_order}
use Rattle.fc_base.specs.Column.{last_below, first_below}

last_step_true : (test : ℕ → Bool) (n : ℕ) → test n ≡ true → last_below test (suc n) ≡ Some n
unfolding last_below
last_step_true test n e = rw e refl

last_step_false : (test : ℕ → Bool) (n : ℕ) → test n ≡ false → last_below test (suc n) ≡ last_below test n
unfolding last_below
last_step_false test n e = rw e refl

last_at_zero : (test : ℕ → Bool) → last_below test zero ≡ None
unfolding last_below
last_at_zero test = refl

first_step : (test : ℕ → Bool) (n k : ℕ) → first_below test n ≡ Some k → first_below test (suc n) ≡ Some k
unfolding first_below
first_step test n k e = rw e refl

first_step_true : (test : ℕ → Bool) (n : ℕ) → first_below test n ≡ None → test n ≡ true → first_below test (suc n) ≡ Some n
unfolding first_below
first_step_true test n e t = rw (e, t) refl

first_step_false : (test : ℕ → Bool) (n : ℕ) → first_below test n ≡ None → test n ≡ false → first_below test (suc n) ≡ None
unfolding first_below
first_step_false test n e t = rw (e, t) refl

first_at_zero : (test : ℕ → Bool) → first_below test zero ≡ None
unfolding first_below
first_at_zero test = refl

-- what an answer says
pub record IsLast (test : ℕ → Bool) (n k : ℕ) : Type 0 where
  pub below : k < n
  pub passes : test k ≡ true
  pub last : (j : ℕ) → k < j → j < n → test j ≡ false

pub record IsFirst (test : ℕ → Bool) (n k : ℕ) : Type 0 where
  pub below : k < n
  pub passes : test k ≡ true
  pub first : (j : ℕ) → j < k → test j ≡ false

-- an option is none or some
pub cases_option : {A : Type 0} (o : Option A) → (o ≡ None) ⊎ ((a : A) × (o ≡ Some a))
cases_option None = inl refl
cases_option (Some a) = inr (a, refl)

last_none_more : (test : ℕ → Bool) (n : ℕ) → (last_below test n ≡ None → (j : ℕ) → j < n → test j ≡ false) → last_below test (suc n) ≡ None → (j : ℕ) → j < suc n → test j ≡ false
last_none_more test n ih e j lt =
    elim (cases_Bool (test n)) [
      | inl t ↦ let s : last_below test (suc n) ≡ Some n = last_step_true test n t in cc
      | inr f ↦ let s : last_below test (suc n) ≡ last_below test n = last_step_false test n f in
          elim (cases_order j n) [ inl q ↦ rw q f | inr r ↦ ih (sym s ∙ e) j (omega arith) ]
    ]

pub last_none : (test : ℕ → Bool) (n : ℕ) → last_below test n ≡ None → (j : ℕ) → j < n → test j ≡ false
last_none test zero e j lt = absurd (omega arith)
last_none test (suc n) e j lt = last_none_more test n (last_none test n) e j lt

last_some_more : (test : ℕ → Bool) (n k : ℕ) → (last_below test n ≡ Some k → IsLast test n k) → last_below test (suc n) ≡ Some k → IsLast test (suc n) k
last_some_more test n k ih e =
    elim (cases_Bool (test n)) [
      | inl t ↦ let s : last_below test (suc n) ≡ Some n = last_step_true test n t in
          let q : n ≡ k = cc in
          let P : ℕ → Type 0 = λ x. IsLast test (suc n) x in
          subst P q (record { below = omega arith; passes = t; last = λ j a b. absurd (omega arith) })
      | inr f ↦ let s : last_below test (suc n) ≡ last_below test n = last_step_false test n f in
          let h = ih (sym s ∙ e) in
          record { below = omega (arith, h.below); passes = h.passes; last = λ j a b. elim (cases_order j n) [ inl q ↦ rw q f | inr r ↦ h.last j a (omega arith) ] }
    ]

pub last_some : (test : ℕ → Bool) (n k : ℕ) → last_below test n ≡ Some k → IsLast test n k
last_some test zero k e = let z : last_below test zero ≡ None = last_at_zero test in absurd cc
last_some test (suc n) k e = last_some_more test n k (last_some test n k) e

pub last_is : (test : ℕ → Bool) (n k : ℕ) → IsLast test n k → last_below test n ≡ Some k
last_is test n k h =
    elim (cases_option (last_below test n)) [
      | inl e ↦ absurd (both_ways (test k) (last_none test n e k h.below) h.passes)
      | inr s ↦ let g = last_some test n s.0 s.1 in
          elim (cases_order s.0 k) [
            | inl q ↦ s.1 ∙ ap Some q
            | inr r ↦ elim r [
              | inl lt ↦ absurd (both_ways (test k) (g.last k lt h.below) h.passes)
              | inr gt ↦ absurd (both_ways (test s.0) (h.last s.0 gt g.below) g.passes)
            ]
          ]
    ]

pub last_is_none : (test : ℕ → Bool) (n : ℕ) → ((j : ℕ) → j < n → test j ≡ false) → last_below test n ≡ None
last_is_none test n h =
    elim (cases_option (last_below test n)) [
      | inl e ↦ e
      | inr s ↦ let g = last_some test n s.0 s.1 in absurd (both_ways (test s.0) (h s.0 g.below) g.passes)
    ]

first_none_more : (test : ℕ → Bool) (n : ℕ) → (first_below test n ≡ None → (j : ℕ) → j < n → test j ≡ false) → first_below test (suc n) ≡ None → (j : ℕ) → j < suc n → test j ≡ false
first_none_more test n ih e j lt =
    elim (cases_option (first_below test n)) [
      | inr s ↦ let g : first_below test (suc n) ≡ Some s.0 = first_step test n s.0 s.1 in absurd cc
      | inl no' ↦ elim (cases_Bool (test n)) [
        | inl t ↦ let g : first_below test (suc n) ≡ Some n = first_step_true test n no' t in absurd cc
        | inr f ↦ elim (cases_order j n) [ inl q ↦ rw q f | inr r ↦ ih no' j (omega arith) ]
      ]
    ]

pub first_none : (test : ℕ → Bool) (n : ℕ) → first_below test n ≡ None → (j : ℕ) → j < n → test j ≡ false
first_none test zero e j lt = absurd (omega arith)
first_none test (suc n) e j lt = first_none_more test n (first_none test n) e j lt

first_some_more : (test : ℕ → Bool) (n k : ℕ) → ((k : ℕ) → first_below test n ≡ Some k → IsFirst test n k) → first_below test (suc n) ≡ Some k → IsFirst test (suc n) k
first_some_more test n k ih e =
    elim (cases_option (first_below test n)) [
      | inr s ↦ let g : first_below test (suc n) ≡ Some s.0 = first_step test n s.0 s.1 in
          let q : s.0 ≡ k = cc in
          let h = ih s.0 s.1 in
          let P : ℕ → Type 0 = λ x. IsFirst test (suc n) x in
          subst P q (record { below = omega (arith, h.below); passes = h.passes; first = h.first })
      | inl no' ↦ elim (cases_Bool (test n)) [
        | inl t ↦ let g : first_below test (suc n) ≡ Some n = first_step_true test n no' t in
            let q : n ≡ k = cc in
            let P : ℕ → Type 0 = λ x. IsFirst test (suc n) x in
            subst P q (record { below = omega arith; passes = t; first = first_none test n no' })
        | inr f ↦ let g : first_below test (suc n) ≡ None = first_step_false test n no' f in absurd cc
      ]
    ]

pub first_some : (test : ℕ → Bool) (n k : ℕ) → first_below test n ≡ Some k → IsFirst test n k
first_some test zero k e = let z : first_below test zero ≡ None = first_at_zero test in absurd cc
first_some test (suc n) k e = first_some_more test n k (first_some test n) e

pub first_is : (test : ℕ → Bool) (n k : ℕ) → IsFirst test n k → first_below test n ≡ Some k
first_is test n k h =
    elim (cases_option (first_below test n)) [
      | inl e ↦ absurd (both_ways (test k) (first_none test n e k h.below) h.passes)
      | inr s ↦ let g = first_some test n s.0 s.1 in
          elim (cases_order s.0 k) [
            | inl q ↦ s.1 ∙ ap Some q
            | inr r ↦ elim r [
              | inl lt ↦ absurd (both_ways (test s.0) (h.first s.0 lt) g.passes)
              | inr gt ↦ absurd (both_ways (test k) (g.first k gt) h.passes)
            ]
          ]
    ]

pub first_is_none : (test : ℕ → Bool) (n : ℕ) → ((j : ℕ) → j < n → test j ≡ false) → first_below test n ≡ None
first_is_none test n h =
    elim (cases_option (first_below test n)) [
      | inl e ↦ e
      | inr s ↦ let g = first_some test n s.0 s.1 in absurd (both_ways (test s.0) (h s.0 g.below) g.passes)
    ]
