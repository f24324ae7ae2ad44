-- Marks that are set one by one.
use Rattle.std.proofs.Common.{◌≡◌, ℕ, zero, suc, ◌+◌, ◌<◌, ◌≤◌, min, Bool, false, List, [], ◌∷◌, ◌++◌, take, drop, set, get_or, length, length-append, replicate, refl, sym, ap, ◌∙◌, arith, add-one}
use Rattle.std.proofs.lemmas.List.{length-take, length-replicate}
use Rattle.fc_books.specs.After.{of_length}

-- one mark more is as it is to be
mark_step : (target old : List Bool) (i : ℕ) → i < length old → length target ≡ length old → set (take i target ++ drop i old) i (get_or target i false) ≡ take (suc i) target ++ drop (suc i) old
mark_step target [] i lt e = absurd (omega arith)
mark_step [] (y ∷ ys) i lt e = absurd (omega arith)
mark_step (x ∷ xs) (y ∷ ys) zero lt e = refl
mark_step (x ∷ xs) (y ∷ ys) (suc i) lt e = ap (λ z. x ∷ z) (mark_step xs ys i (omega arith) (omega arith))

pub mark_more : (target old now : List Bool) (i : ℕ) (m : Bool) → i < length old → length target ≡ length old → now ≡ take i target ++ drop i old → m ≡ get_or target i false → set now i m ≡ take (i + 1) target ++ drop (i + 1) old
mark_more target old now i m lt e is q =
    ap (λ z. set z i m) is ∙ (ap (set (take i target ++ drop i old) i) q ∙ (mark_step target old i lt e ∙ ap (λ n. take n target ++ drop n old) (sym (add-one i))))

-- those to come are as they were
pub mark_to_come : (target old : List Bool) (i : ℕ) → i < length old → length target ≡ length old → get_or (take i target ++ drop i old) i false ≡ get_or old i false
mark_to_come target [] i lt e = absurd (omega arith)
mark_to_come [] (y ∷ ys) i lt e = absurd (omega arith)
mark_to_come (x ∷ xs) (y ∷ ys) zero lt e = refl
mark_to_come (x ∷ xs) (y ∷ ys) (suc i) lt e = mark_to_come xs ys i (omega arith) (omega arith)

-- all are
pub marks_done : (target old now : List Bool) (i : ℕ) → length old ≤ i → length target ≡ length old → now ≡ take i target ++ drop i old → now ≡ target
marks_done target old now i le e is = is ∙ done target old i le e
  where
    done : (target old : List Bool) (i : ℕ) → length old ≤ i → length target ≡ length old → take i target ++ drop i old ≡ target
    done [] [] zero le e = refl
    done [] [] (suc i) le e = refl
    done (x ∷ xs) [] i le e = absurd (omega arith)
    done [] (y ∷ ys) i le e = absurd (omega arith)
    done (x ∷ xs) (y ∷ ys) zero le e = absurd (omega arith)
    done (x ∷ xs) (y ∷ ys) (suc i) le e = ap (λ z. x ∷ z) (done xs ys i (omega arith) (omega arith))

-- ---- a set as so many marks

no_marks : (n i j : ℕ) → get_or (take n (replicate j false)) i false ≡ false
no_marks zero i j = refl
no_marks (suc n) i zero = refl
no_marks (suc n) zero (suc j) = refl
no_marks (suc n) (suc i) (suc j) = no_marks n i j

mark_in : (n j i : ℕ) (marks : List Bool) → i < n → get_or (take n (marks ++ replicate j false)) i false ≡ get_or marks i false
mark_in n j i [] lt = no_marks n i j
mark_in zero j i (x ∷ xs) lt = absurd (omega arith)
mark_in (suc n) j zero (x ∷ xs) lt = refl
mark_in (suc n) j (suc i) (x ∷ xs) lt = mark_in n j i xs (omega arith)

pub length_of_length : (n : ℕ) (marks : List Bool) → length (of_length n marks) ≡ n
length_of_length n marks =
    let a : length (marks ++ replicate n false) ≡ length marks + length (replicate n false) = length-append marks (replicate n false) in
    let b : length (replicate n false) ≡ n = length-replicate n false in
    let c : length (take n (marks ++ replicate n false)) ≡ min n (length (marks ++ replicate n false)) = length-take n (marks ++ replicate n false) in
    omega arith

pub set_mark : (marks old now : List Bool) (i : ℕ) (m : Bool) → i < length old → now ≡ take i (of_length (length old) marks) ++ drop i old → m ≡ get_or marks i false →
    set now i m ≡ take (i + 1) (of_length (length old) marks) ++ drop (i + 1) old
set_mark marks old now i m lt is q = mark_more (of_length (length old) marks) old now i m lt (length_of_length (length old) marks) is (q ∙ sym (mark_in (length old) (length old) i marks lt))
