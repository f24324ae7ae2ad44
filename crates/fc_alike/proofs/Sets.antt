-- Sets of grains: filled up to a length, the first grains of one, and those of a test.
use Rattle.std.proofs.Common.{◌≡◌, ℕ, zero, suc, ◌+◌, ◌<◌, ◌≤◌, Bool, true, false, List, [], ◌∷◌, ◌++◌, length, get_or, set, take, replicate, refl, sym, ap, ◌∙◌, arith, inl, inr}
use Rattle.std.proofs.lemmas.Bool.{both_ways, cases_eq, cases_lt}
use Rattle.std.proofs.lemmas.List.{length-set, length-append, length-replicate, length-take-le, get_or-take, get_or-set_same, get_or-set_other, ext_get_or, get_or_past, take_all}
use Rattle.std.proofs.lemmas.List.FromFn.{length-map-range_with_len, get_or-map-range_with_len}
use Rattle.fc_books.specs.After.{of_length}
use Rattle.fc_changed.specs.Notes.{has, grains_with}
use Rattle.fc_pictures.proofs.Slots.{none_held}

-- ---- filled up

padded : (xs : List Bool) (n g : ℕ) → get_or (xs ++ replicate n false) g false ≡ get_or xs g false
padded [] n g = none_held n g
padded (x ∷ xs) n zero = refl
padded (x ∷ xs) n (suc g) = padded xs n g

pub length_of : (n : ℕ) (xs : List Bool) → length (of_length n xs) ≡ n
length_of n xs =
    length-take-le n (xs ++ replicate n false) (let a = length-append xs (replicate n false) in let b = length-replicate n false in omega (arith, a, b))

pub at_of : (n g : ℕ) (xs : List Bool) → g < n → get_or (of_length n xs) g false ≡ get_or xs g false
at_of n g xs lt = get_or-take n (xs ++ replicate n false) g false lt ∙ padded xs n g

-- what is held is in the set
pub held_of : (n g : ℕ) (xs : List Bool) → get_or (of_length n xs) g false ≡ true → get_or xs g false ≡ true
held_of n g xs e =
    elim (cases_lt g n) [
      | inl lt ↦ sym (at_of n g xs lt) ∙ e
      | inr ge ↦ absurd (both_ways (get_or (of_length n xs) g false) (get_or_past (of_length n xs) g false (let l = length_of n xs in omega (arith, l))) e)
    ]

-- sets that agree on the grains up to a length
pub of_same : (n : ℕ) (xs ys : List Bool) → ((g : ℕ) → g < n → get_or xs g false ≡ get_or ys g false) → of_length n xs ≡ of_length n ys
of_same n xs ys same =
    ext_get_or false (of_length n xs) (of_length n ys) (length_of n xs ∙ sym (length_of n ys))
    (λ g lt. let l = length_of n xs in let below : g < n = omega (arith, l) in at_of n g xs below ∙ same g below ∙ sym (at_of n g ys below))

pub of_none : (n : ℕ) → of_length n [] ≡ replicate n false
of_none n = take_all n (replicate n false) (let l = length-replicate n false in omega (arith, l))

-- ---- the first grains

at_first : (n g : ℕ) (xs : List Bool) → g < n → get_or (take n xs) g false ≡ get_or xs g false
at_first n g xs lt = get_or-take n xs g false lt

past_first : (n g : ℕ) (xs : List Bool) → n ≤ g → get_or (take n xs) g false ≡ false
past_first zero g xs le = refl
past_first (suc n) g [] le = refl
past_first (suc n) zero (x ∷ xs) le = absurd (omega arith)
past_first (suc n) (suc g) (x ∷ xs) le = past_first n g xs (omega arith)

-- one more of them, that is in the set
pub of_more : (n g : ℕ) (xs : List Bool) → get_or xs g false ≡ true → set (of_length n (take g xs)) g true ≡ of_length n (take (g + 1) xs)
of_more n g xs e =
    let before : List Bool = of_length n (take g xs) in
    let size = length-set before g true ∙ length_of n (take g xs) in
    ext_get_or false (set before g true) (of_length n (take (g + 1) xs)) (size ∙ sym (length_of n (take (g + 1) xs)))
    (λ y yl.
    let below : y < n = omega (arith, size, yl) in
    let long : length before ≡ n = length_of n (take g xs) in
    let right = at_of n y (take (g + 1) xs) below in
    elim (cases_eq y g) [
      | inl same ↦
          ap (λ (z : ℕ). get_or (set before g true) z false) same
          ∙ get_or-set_same before g true false (omega (arith, same, below, long))
          ∙ sym e ∙ ap (λ (z : ℕ). get_or xs z false) (sym same)
          ∙ sym (at_first (g + 1) y xs (omega (arith, same))) ∙ sym right
      | inr ne ↦ get_or-set_other before g y true false ne ∙ at_of n y (take g xs) below ∙ (elim (cases_lt y g) [
        | inl lt ↦ at_first g y xs lt ∙ sym (at_first (g + 1) y xs (omega (arith, lt)))
        | inr ge ↦ past_first g y xs ge ∙ sym (past_first (g + 1) y xs (omega (arith, ge, ne)))
      ]) ∙ sym right
    ])

-- more of them, of which none is in the set
pub of_past : (n g h : ℕ) (xs : List Bool) → g ≤ h → ((y : ℕ) → g ≤ y → y < h → get_or xs y false ≡ false) → of_length n (take g xs) ≡ of_length n (take h xs)
of_past n g h xs le none =
    of_same n (take g xs) (take h xs) (λ y yl. elim (cases_lt y g) [
      | inl lt ↦ at_first g y xs lt ∙ sym (at_first h y xs (omega (arith, lt)))
      | inr ge ↦ past_first g y xs ge ∙ (elim (cases_lt y h) [
        | inl lt ↦ sym (at_first h y xs lt ∙ none y ge lt)
        | inr past ↦ sym (past_first h y xs past)
      ])
    ])

-- ---- those that pass a test

pub length_with : (test : ℕ → Bool) (n : ℕ) → length (grains_with test n) ≡ n
length_with test n = length-map-range_with_len test 0 n

pub passes : (test : ℕ → Bool) (n g : ℕ) → has (grains_with test n) g ≡ true → test g ≡ true
passes test n g e =
    elim (cases_lt g n) [
      | inl lt ↦ sym (get_or-map-range_with_len test 0 n g g false lt (omega arith)) ∙ e
      | inr ge ↦ absurd (both_ways (has (grains_with test n) g) (get_or_past (grains_with test n) g false (let l = length_with test n in omega (arith, l))) e)
    ]
