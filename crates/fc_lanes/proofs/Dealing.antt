-- What disks dealt to lanes still are.
use Rattle.std.proofs.Common.{◌≡◌, ◌≢◌, ℕ, suc, zero, ◌+◌, ◌%◌, ◌<◌, ◌≤◌, ◌==◌, Bool, true, false, cond, List, [], ◌∷◌, ◌++◌, length, map, get_or, slice_set, refl, sym, ap, ap₂, ◌∙◌, arith}
use Rattle.std.specs.List.{All, range_with_len}
use Rattle.std.proofs.lemmas.List.Elements.{All-nil, All-cons}
use Rattle.std.proofs.lemmas.List.FromFn.{get_or-map-range_with_len}
use Rattle.std.proofs.lemmas.Nat.{mod_below}
use Rattle.fc_mdisk.specs.Disk.{DiskState}
use Rattle.fc_sums.proofs.Sums.{total, total_more, total_none}
use Rattle.fc_lanes.specs.Dealing.{dealt, dealt_from, all_dealt}

same_number : (i : ℕ) → (i == i) ≡ true
same_number i = grind arith

other_number : (i j : ℕ) → i ≢ j → (i == j) ≡ false
other_number i j other = grind (arith, other)

-- ---- the lists, as one more disk is dealt

joined : (own : Bool) (d : DiskState) (rest longer more : List DiskState) → longer ≡ rest ++ more → cond own (d ∷ longer) longer ≡ cond own (d ∷ rest) rest ++ more
joined true d rest longer more is = ap (λ (z : List DiskState). d ∷ z) is
joined false d rest longer more is = is

taken_from : (n i place : ℕ) (disks : List DiskState) (disk : DiskState) →
    dealt_from n i place (disks ++ disk ∷ []) ≡ dealt_from n i place disks ++ cond ((place + length disks) % n == i) (disk ∷ []) []
taken_from n i place [] disk = ap (λ p. cond (p % n == i) (disk ∷ []) []) (omega arith)
taken_from n i place (d ∷ ds) disk =
    let e : (place + 1) + length ds ≡ place + suc (length ds) = omega arith in
    let more : List DiskState = cond ((place + suc (length ds)) % n == i) (disk ∷ []) [] in
    joined (place % n == i) d (dealt_from n i (place + 1) ds) (dealt_from n i (place + 1) (ds ++ disk ∷ [])) more
    (taken_from n i (place + 1) ds disk ∙ ap (λ p. dealt_from n i (place + 1) ds ++ cond (p % n == i) (disk ∷ []) []) e)

append_none : (xs : List DiskState) → xs ++ [] ≡ xs
append_none [] = refl
append_none (x ∷ xs) = ap (λ (z : List DiskState). x ∷ z) (append_none xs)

taken : (n : ℕ) (disks : List DiskState) (disk : DiskState) (i : ℕ) → dealt n (disks ++ disk ∷ []) i ≡ dealt n disks i ++ cond (length disks % n == i) (disk ∷ []) []
taken n disks disk i =
    let e : 0 + length disks ≡ length disks = omega arith in
    taken_from n i 0 disks disk ∙ ap (λ p. dealt_from n i 0 disks ++ cond (p % n == i) (disk ∷ []) []) e

own_taken : (n : ℕ) (disks : List DiskState) (disk : DiskState) → dealt n (disks ++ disk ∷ []) (length disks % n) ≡ dealt n disks (length disks % n) ++ disk ∷ []
own_taken n disks disk =
    taken n disks disk (length disks % n)
    ∙ ap (λ (own : Bool). dealt n disks (length disks % n) ++ cond own (disk ∷ []) []) (same_number (length disks % n))

others_taken : (n : ℕ) (disks : List DiskState) (disk : DiskState) (i : ℕ) → i ≢ length disks % n → dealt n (disks ++ disk ∷ []) i ≡ dealt n disks i
others_taken n disks disk i other =
    taken n disks disk i
    ∙ ap (λ (own : Bool). dealt n disks i ++ cond own (disk ∷ []) []) (other_number (length disks % n) i (λ e. other (sym e)))
    ∙ append_none (dealt n disks i)

behind_same : {X : Type 0} → (f h : ℕ → X) (a n : ℕ) → ((i : ℕ) → a ≤ i → h i ≡ f i) → map h (range_with_len a n) ≡ map f (range_with_len a n)
behind_same f h a zero same = refl
behind_same f h a (suc n) same = ap₂ (λ x xs. x ∷ xs) (same a (omega arith)) (behind_same f h (a + 1) n (λ i le. same i (omega (arith, le))))

set_in_range : {X : Type 0} → (f h : ℕ → X) (a n k : ℕ) (x : X) → k < n → h (a + k) ≡ x → ((i : ℕ) → i ≢ a + k → h i ≡ f i) →
    slice_set (map f (range_with_len a n)) k x ≡ map h (range_with_len a n)
set_in_range f h a zero k x lt here same = absurd (omega arith)
set_in_range f h a (suc n) zero x lt here same =
    let e : a + zero ≡ a = omega arith in
    ap₂ (λ y ys. y ∷ ys) (sym here ∙ ap h e) (sym (behind_same f h (a + 1) n (λ i le. same i (omega (arith, le, e)))))
set_in_range f h a (suc n) (suc k) x lt here same =
    let e : a + suc k ≡ (a + 1) + k = omega arith in
    ap₂ (λ y ys. y ∷ ys) (sym (same a (omega arith))) (set_in_range f h (a + 1) n k x (omega arith) (ap h (sym e) ∙ here) (λ i other. same i (λ q. other (q ∙ e))))

pub deal_step : (n : ℕ) → 0 < n → (disks : List DiskState) (disk : DiskState) →
    slice_set (all_dealt n disks) (length disks % n) (get_or (all_dealt n disks) (length disks % n) [] ++ disk ∷ []) ≡ all_dealt n (disks ++ disk ∷ [])
deal_step n some disks disk =
    let k : ℕ = length disks % n in
    let lt : k < n = mod_below (length disks) n some in
    let z : 0 + k ≡ k = omega arith in
    ap (λ (own : List DiskState). slice_set (all_dealt n disks) k (own ++ disk ∷ [])) (get_or-map-range_with_len (dealt n disks) 0 n k k [] lt (omega arith))
    ∙ set_in_range (dealt n disks) (dealt n (disks ++ disk ∷ [])) 0 n k (dealt n disks k ++ disk ∷ []) lt (ap (dealt n (disks ++ disk ∷ [])) z ∙ own_taken n disks disk) (λ i other. others_taken n disks disk i (λ q. other (q ∙ sym z)))

-- ---- each list

few_with : (own : Bool) (d : DiskState) (ds rest : List DiskState) → length rest ≤ length ds → length (cond own (d ∷ rest) rest) ≤ suc (length ds)
few_with true d ds rest few = omega (arith, few)
few_with false d ds rest few = omega (arith, few)

few_from : (n i place : ℕ) (disks : List DiskState) → length (dealt_from n i place disks) ≤ length disks
few_from n i place [] = omega arith
few_from n i place (d ∷ ds) = few_with (place % n == i) d ds (dealt_from n i (place + 1) ds) (few_from n i (place + 1) ds)

pub few_dealt : (n : ℕ) (disks : List DiskState) (i : ℕ) → length (dealt n disks i) ≤ length disks
few_dealt n disks i = few_from n i 0 disks

all_with : (P : DiskState → Type 0) (own : Bool) (d : DiskState) (rest : List DiskState) → P d → All P rest → All P (cond own (d ∷ rest) rest)
all_with P true d rest first all = All-cons P d rest first all
all_with P false d rest first all = all

all_from : (P : DiskState → Type 0) (n i place : ℕ) (disks : List DiskState) → All P disks → All P (dealt_from n i place disks)
all_from P n i place [] all = All-nil P
all_from P n i place (d ∷ ds) all =
    all_with P (place % n == i) d (dealt_from n i (place + 1) ds) (all 0 d (omega arith)) (all_from P n i (place + 1) ds (λ k e lt. all (suc k) e (omega (arith, lt))))

pub all_of_dealt : (P : DiskState → Type 0) (n : ℕ) (disks : List DiskState) (i : ℕ) → All P disks → All P (dealt n disks i)
all_of_dealt P n disks i = all_from P n i 0 disks

-- ---- sums over all lists

module _ (one : DiskState → ℕ) (sum : List DiskState → ℕ) (none : sum [] ≡ 0) (more : (d : DiskState) (ds : List DiskState) → sum (d ∷ ds) ≡ one d + sum ds) where
  total_from : (n : ℕ) → 0 < n → (place : ℕ) (disks : List DiskState) → total (λ i. sum (dealt_from n i place disks)) n ≡ sum disks
  total_from n some place [] = total_none (λ i. sum []) n (λ i lt. none) ∙ sym none
  total_from n some place (d ∷ ds) =
      let rest : ℕ → List DiskState = λ i. dealt_from n i (place + 1) ds in
      let now : (i : ℕ) → Bool → ℕ = λ i own. sum (cond own (d ∷ rest i) (rest i)) in
      let own : sum (dealt_from n (place % n) place (d ∷ ds)) ≡ sum (rest (place % n)) + one d =
      ap (now (place % n)) (same_number (place % n)) ∙ more d (rest (place % n)) ∙ turned (one d) (sum (rest (place % n))) in
      total_more (λ i. sum (dealt_from n i place (d ∷ ds))) (λ i. sum (rest i)) n (place % n) (one d) (mod_below place n some) own
      (λ i lt other. ap (now i) (other_number (place % n) i (λ e. other (sym e))))
      ∙ ap (λ z. z + one d) (total_from n some (place + 1) ds)
      ∙ turned (sum ds) (one d)
      ∙ sym (more d ds)
    where
      turned : (a b : ℕ) → a + b ≡ b + a
      turned a b = omega arith

  pub total_dealt : (n : ℕ) → 0 < n → (disks : List DiskState) → total (λ i. sum (dealt n disks i)) n ≡ sum disks
  total_dealt n some disks = total_from n some 0 disks
