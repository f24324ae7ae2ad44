-- The old slots of a volume, least birth first.
use Rattle.std.proofs.Common.{◌≡◌, ◌≢◌, ℕ, zero, suc, ◌<◌, ◌≤◌, Bool, true, false, ◌&&◌, not, ltb, Option, Some, None, List, [], ◌∷◌, length, refl, sym, ap, subst, ◌∙◌, arith, inl, inr}
use Rattle.std.proofs.lemmas.Bool.{cases_Bool, cases_eq, and_parts, and_from, and_left, and_right, ltb-true, lt-ltb, le-ltb, not-true}
use Rattle.fc_base.specs.Column.{is_old_of, put_by_birth, places_by_birth}
use Rattle.fc_base.specs.Sheet.{Slot, slot_at, shape_of}
use Rattle.fc_slots.specs.Births.{is_after}
use Rattle.fc_places.specs.Olds.{NextOld, HasApartBirths}

-- ---- lists of places by birth

step_true : (birth : ℕ → ℕ) (test : ℕ → Bool) (n : ℕ) → test n ≡ true → places_by_birth birth test (suc n) ≡ put_by_birth birth n (places_by_birth birth test n)
unfolding places_by_birth
step_true birth test n t = rw t refl

step_false : (birth : ℕ → ℕ) (test : ℕ → Bool) (n : ℕ) → test n ≡ false → places_by_birth birth test (suc n) ≡ places_by_birth birth test n
unfolding places_by_birth
step_false birth test n t = rw t refl

at_zero : (birth : ℕ → ℕ) (test : ℕ → Bool) → places_by_birth birth test zero ≡ []
unfolding places_by_birth
at_zero birth test = refl

pub places_same : (birth : ℕ → ℕ) (p q : ℕ → Bool) (n : ℕ) → ((j : ℕ) → j < n → p j ≡ q j) → places_by_birth birth p n ≡ places_by_birth birth q n
places_same birth p q zero f = at_zero birth p ∙ sym (at_zero birth q)
places_same birth p q (suc n) f =
    let e : places_by_birth birth p n ≡ places_by_birth birth q n = places_same birth p q n (λ j jn. f j (omega arith)) in
    elim (cases_Bool (p n)) [
      | inl t ↦ step_true birth p n t ∙ (ap (put_by_birth birth n) e ∙ sym (step_true birth q n (sym (f n (omega arith)) ∙ t)))
      | inr t ↦ step_false birth p n t ∙ (e ∙ sym (step_false birth q n (sym (f n (omega arith)) ∙ t)))
    ]

pub places_none : (birth : ℕ → ℕ) (test : ℕ → Bool) (n : ℕ) → ((j : ℕ) → j < n → test j ≡ false) → places_by_birth birth test n ≡ []
places_none birth test zero f = at_zero birth test
places_none birth test (suc n) f = step_false birth test n (f n (omega arith)) ∙ places_none birth test n (λ j jn. f j (omega arith))

-- every place of the list passes
abbrev AllIn : (ℕ → Type 0) → List ℕ → Type 0
AllIn P [] = Unit {0}
AllIn P (k ∷ ks) = P k × AllIn P ks

all_put : (P : ℕ → Type 0) (birth : ℕ → ℕ) (k : ℕ) (js : List ℕ) → P k → AllIn P js → AllIn P (put_by_birth birth k js)
all_put P birth k [] p a = (p, tt)
all_put P birth k (j ∷ js) p a =
    elim (cases_Bool (ltb (birth k) (birth j))) [
      | inl t ↦ let e : put_by_birth birth k (j ∷ js) ≡ k ∷ j ∷ js = rw t refl in subst (λ (z : List ℕ). AllIn P z) (sym e) (p, a)
      | inr f ↦ let e : put_by_birth birth k (j ∷ js) ≡ j ∷ put_by_birth birth k js = rw f refl in subst (λ (z : List ℕ). AllIn P z) (sym e) (a.0, all_put P birth k js p a.1)
    ]

all_places : (P : ℕ → Type 0) (birth : ℕ → ℕ) (test : ℕ → Bool) (n : ℕ) → ((j : ℕ) → j < n → test j ≡ true → P j) → AllIn P (places_by_birth birth test n)
all_places P birth test zero f = subst (λ (z : List ℕ). AllIn P z) (sym (at_zero birth test)) tt
all_places P birth test (suc n) f =
    let r = all_places P birth test n (λ j jn t. f j (omega arith) t) in
    elim (cases_Bool (test n)) [
      | inl t ↦ subst (λ (z : List ℕ). AllIn P z) (sym (step_true birth test n t)) (all_put P birth n (places_by_birth birth test n) (f n (omega arith) t) r)
      | inr t ↦ subst (λ (z : List ℕ). AllIn P z) (sym (step_false birth test n t)) r
    ]

put_first : (birth : ℕ → ℕ) (k : ℕ) (js : List ℕ) → AllIn (λ j. birth k < birth j) js → put_by_birth birth k js ≡ k ∷ js
put_first birth k [] a = refl
put_first birth k (j ∷ js) a = rw (lt-ltb (birth k) (birth j) a.0) refl

-- the least of them comes first, and then those born after it
pub places_first : (birth : ℕ → ℕ) (test : ℕ → Bool) (k n : ℕ) → k < n → test k ≡ true → ((j : ℕ) → j < n → test j ≡ true → j ≢ k → birth k < birth j) →
    places_by_birth birth test n ≡ k ∷ places_by_birth birth (λ j. test j && ltb (birth k) (birth j)) n
places_first birth test k zero lt t least = absurd (omega arith)
places_first birth test k (suc n) lt t least =
    let later : ℕ → Bool = λ j. test j && ltb (birth k) (birth j) in
    elim (cases_eq n k) [
      | inl e ↦
          let same : places_by_birth birth test n ≡ places_by_birth birth later n = places_same birth test later n (λ j jn. elim (cases_Bool (test j)) [
            | inl y ↦ y ∙ sym (and_from (test j) _ y (lt-ltb (birth k) (birth j) (least j (omega arith) y (omega arith))))
            | inr f ↦ f ∙ sym (and_left (test j) _ f)
          ]) in
          let all : AllIn (λ j. birth n < birth j) (places_by_birth birth test n) = all_places (λ j. birth n < birth j) birth test n
          (λ j jn y. let b : birth k < birth j = least j (omega arith) y (omega arith) in let q : birth n ≡ birth k = ap birth e in omega arith) in
          let gone : later n ≡ false = and_right (test n) _ (le-ltb (birth k) (birth n) (let q : birth n ≡ birth k = ap birth e in omega arith)) in
          step_true birth test n (ap test e ∙ t) ∙ (put_first birth n (places_by_birth birth test n) all ∙
          (ap (λ z. n ∷ z) (same ∙ sym (step_false birth later n gone)) ∙ ap (λ z. z ∷ places_by_birth birth later (suc n)) e))
      | inr ne ↦
          let ih : places_by_birth birth test n ≡ k ∷ places_by_birth birth later n = places_first birth test k n (omega arith) t (λ j jn y d. least j (omega arith) y d) in
          elim (cases_Bool (test n)) [
            | inl y ↦ let b : birth k < birth n = least n (omega arith) y ne in
                let put : put_by_birth birth n (k ∷ places_by_birth birth later n) ≡ k ∷ put_by_birth birth n (places_by_birth birth later n) = rw (le-ltb (birth n) (birth k) (omega arith)) refl in
                step_true birth test n y ∙ (ap (put_by_birth birth n) ih ∙ (put ∙ ap (λ z. k ∷ z) (sym (step_true birth later n (and_from (test n) _ y (lt-ltb (birth k) (birth n) b))))))
            | inr f ↦ step_false birth test n f ∙ (ih ∙ ap (λ z. k ∷ z) (sym (step_false birth later n (and_left (test n) _ f))))
          ]
    ]

-- ---- the slot with the least birth

abbrev pub is_old_after : List Slot → ℕ → Option ℕ → ℕ → Bool
is_old_after slots v after k = is_old_of (shape_of slots) v k && is_after after (slot_at slots k).birth

pub record IsLeast (slots : List Slot) (v : ℕ) (after : Option ℕ) (bound k : ℕ) : Type 0 where
  pub below : k < bound
  pub there : k < length slots
  pub passes : is_old_after slots v after k ≡ true
  pub least : (j : ℕ) → j < bound → is_old_after slots v after j ≡ true → (slot_at slots k).birth ≤ (slot_at slots j).birth

abbrev pub LeastSoFar : List Slot → ℕ → Option ℕ → ℕ → Option ℕ → Type 0
LeastSoFar slots v after bound None = (j : ℕ) → j < bound → is_old_after slots v after j ≡ false
LeastSoFar slots v after bound (Some k) = IsLeast slots v after bound k

pub least_found : (slots : List Slot) (v : ℕ) (after : Option ℕ) (bound : ℕ) (o : Option ℕ) → HasApartBirths slots → length slots ≤ bound → LeastSoFar slots v after bound o → NextOld slots v after o
least_found slots v after bound None apart le f = places_none (shape_of slots).birth (is_old_after slots v after) (length slots) (λ j jl. f j (omega arith))
least_found slots v after bound (Some k) apart le f =
    let birth : ℕ → ℕ = (shape_of slots).birth in
    let p = and_parts (is_old_of (shape_of slots) v k) _ f.passes in
    let q = and_parts (not (slot_at slots k).is_live) _ p.0 in
    record {
      there = f.there;
      is_old = not-true _ q.0;
      rest = places_first birth (is_old_after slots v after) k (length slots) f.there f.passes
          (λ j jl t ne. let b : birth k ≤ birth j = f.least j (omega arith) t in let d : birth k ≢ birth j = λ e. ne (apart j k jl f.there (sym e)) in omega arith)
          ∙ ap (λ z. k ∷ z) (places_same birth (λ j. is_old_after slots v after j && ltb (birth k) (birth j)) (is_old_after slots v (Some (birth k))) (length slots)
          (λ j jl. same_test (is_old_of (shape_of slots) v j) after (birth k) (birth j) p.1));
    }
  where
    same_test : (old : Bool) (after : Option ℕ) (b c : ℕ) → is_after after b ≡ true → ((old && is_after after c) && ltb b c) ≡ (old && ltb b c)
    same_test false after b c t = refl
    same_test true after b c t =
        elim (cases_Bool (ltb b c)) [
          | inl y ↦ and_from _ _ (after_on after b c t (ltb-true b c y)) y ∙ sym y
          | inr n ↦ and_right (is_after after c) _ n ∙ sym n
        ]
      where
        after_on : (after : Option ℕ) (b c : ℕ) → is_after after b ≡ true → b < c → is_after after c ≡ true
        after_on None b c t lt = refl
        after_on (Some a) b c t lt = lt-ltb a c (let q : a < b = ltb-true a b t in omega arith)
