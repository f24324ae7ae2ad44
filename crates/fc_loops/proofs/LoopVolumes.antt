-- The volumes that have old rows, in rising order, each once.
use Rattle.std.proofs.Common.{◌≡◌, ℕ, ◌+◌, ◌<◌, ◌≤◌, true, Result, Ok, Err, List, [], ◌∷◌, ◌++◌, length, take, drop, get_or, Contains, nat_cmp, MatchResult, sym, ap, subst, ◌∙◌, arith, inl, inr, length-append}
use Rattle.std.specs.List.Sorted.{IsPermutation, IsBinarySearchResult}
use Rattle.std.proofs.lemmas.Bool.{cases_eq, cases_lt, both_ways}
use Rattle.std.proofs.lemmas.List.Sorted.{Contains-permutation, searched}
use Rattle.std.proofs.Math.ListN.{get_or-append}
use Rattle.std.proofs.Math.Seq.{get_or-append_seam, take-length}
use Rattle.std.proofs.lemmas.List.{get_or_default, take-append-le}
use Rattle.fc_loops.specs.declared.rows.Row.{Row}
use Rattle.fc_loops.specs.Rows.{row_at}
use Rattle.fc_loops.specs.Joins.{volume_at, HasOld, IsListedAt, IsListed, IsRising, NeverFalls, AreOldVolumes}

-- ---- lists of volumes

listed_before : (volumes : List ℕ) (v w : ℕ) → IsListed volumes v → IsListed (volumes ++ w ∷ []) v
listed_before volumes v w (at, l) = (
  at,
  record {
    there = (let t : at < length volumes = l.there in let e : length (volumes ++ w ∷ []) ≡ length volumes + length (w ∷ []) = length-append volumes (w ∷ []) in omega arith);
    is = get_or-append volumes (w ∷ []) 0 at l.there ∙ l.is;
  },
)

listed_last : (volumes : List ℕ) (w : ℕ) → IsListed (volumes ++ w ∷ []) w
listed_last volumes w = (length volumes, record { there = (let e : length (volumes ++ w ∷ []) ≡ length volumes + length (w ∷ []) = length-append volumes (w ∷ []) in omega arith); is = get_or-append_seam volumes w [] 0 })

listed_contains : (volumes : List ℕ) (v : ℕ) → IsListed volumes v → Contains volumes v
listed_contains volumes v (at, l) = (at, l.there, get_or_default volumes at v 0 l.there ∙ l.is)

contains_listed : (volumes : List ℕ) (v : ℕ) → Contains volumes v → IsListed volumes v
contains_listed volumes v (at, lt, e) = (at, record { there = lt; is = get_or_default volumes at 0 v lt ∙ e })

pub listed_sorted : (old new : List ℕ) (v : ℕ) → IsPermutation old new → IsListed old v → IsListed new v
listed_sorted old new v p l = contains_listed new v (Contains-permutation old new v p (listed_contains old v l))

take_whole : (xs ys : List ℕ) → take (length xs) (xs ++ ys) ≡ xs
take_whole xs ys = take-append-le (length xs) xs ys (omega arith) ∙ take-length xs

-- ---- the old rows

abbrev pub ListsOld : List Row → ℕ → List ℕ → Type 0
ListsOld rows bound volumes = (v : ℕ) → HasOld rows bound v → IsListed volumes v

pub lists_none : (rows : List Row) (volumes : List ℕ) → ListsOld rows 0 volumes
lists_none rows volumes = λ v h. absurd (let t : h.at < 0 = h.there in omega arith)

pub lists_passed : (rows : List Row) (bound : ℕ) (volumes : List ℕ) → (row_at rows bound).is_live ≡ true → ListsOld rows bound volumes → ListsOld rows (bound + 1) volumes
lists_passed rows bound volumes live all = λ v h. elim (cases_eq h.at bound) [
  | inl e ↦ absurd (both_ways (row_at rows bound).is_live (ap (λ z. (row_at rows z).is_live) (sym e) ∙ h.is_old) live)
  | inr ne ↦ all v (record { at = h.at; there = (let t : h.at < bound + 1 = h.there in omega arith); is_old = h.is_old; of_volume = h.of_volume })
]

pub lists_more : (rows : List Row) (bound : ℕ) (volumes new : List ℕ) → new ≡ volumes ++ (row_at rows bound).volume ∷ [] → ListsOld rows bound volumes → ListsOld rows (bound + 1) new
lists_more rows bound volumes new is all = λ v h. subst (λ (z : List ℕ). IsListed z v) (sym is) (elim (cases_eq h.at bound) [
  | inl e ↦ subst (λ (z : ℕ). IsListed (volumes ++ (row_at rows bound).volume ∷ []) z) (ap (λ z. (row_at rows z).volume) (sym e) ∙ h.of_volume) (listed_last volumes (row_at rows bound).volume)
  | inr ne ↦ listed_before volumes v (row_at rows bound).volume (all v (record { at = h.at; there = (let t : h.at < bound + 1 = h.there in omega arith); is_old = h.is_old; of_volume = h.of_volume }))
])

-- ---- each once

pub all_more : (sorted volumes new : List ℕ) (bound : ℕ) → ((j : ℕ) → j < bound → IsListed volumes (volume_at sorted j)) → ((v : ℕ) → IsListed volumes v → IsListed new v) → IsListed new (volume_at sorted bound) →
    (j : ℕ) → j < bound + 1 → IsListed new (volume_at sorted j)
all_more sorted volumes new bound all kept put j lt = elim (cases_eq j bound) [ inl e ↦ subst (λ (z : ℕ). IsListed new (volume_at sorted z)) (sym e) put | inr ne ↦ kept (volume_at sorted j) (all j (omega arith)) ]

pub all_listed : (sorted volumes : List ℕ) (bound : ℕ) → length sorted ≤ bound → ((j : ℕ) → j < bound → IsListed volumes (volume_at sorted j)) → (v : ℕ) → IsListed sorted v → IsListed volumes v
all_listed sorted volumes bound le all v (at, l) = subst (λ (z : ℕ). IsListed volumes z) l.is (all at (let t : at < length sorted = l.there in omega arith))

pub last_more : (sorted new : List ℕ) (bound : ℕ) → NeverFalls sorted → ((k : ℕ) → k < length new → volume_at new k ≤ volume_at sorted bound) → (k j : ℕ) → k < length new → bound + 1 ≤ j → j < length sorted → volume_at new k ≤ volume_at sorted j
last_more sorted new bound order last k j kl bj jl =
    let a : volume_at new k ≤ volume_at sorted bound = last k kl in
    let b : volume_at sorted bound ≤ volume_at sorted j = order bound j (omega arith) jl in
    omega arith

-- ---- searching

pub never_falls : (volumes : List ℕ) → IsRising volumes → NeverFalls volumes
never_falls volumes rising i j le lt = elim (cases_eq i j) [ inl e ↦ subst (λ (z : ℕ). volume_at volumes i ≤ volume_at volumes z) e (omega arith) | inr ne ↦ (let r : volume_at volumes i < volume_at volumes j = rising i j (omega arith) lt in omega arith) ]

pub not_listed : (volumes : List ℕ) (v : ℕ) (r : Result ℕ ℕ) (place : ℕ) → IsRising volumes → IsBinarySearchResult (λ y. nat_cmp y v) volumes r → r ≡ Err place → (at : ℕ) → IsListedAt volumes v at → ⊥
not_listed volumes v r place rising found e at l = apart r e (searched volumes v r found (never_falls volumes rising))
  where
    apart : (r : Result ℕ ℕ) → r ≡ Err place → MatchResult r (λ i. (i < length volumes) × (get_or volumes i 0 ≡ v)) (λ i. (i ≤ length volumes) × ((k : ℕ) → k < i → get_or volumes k 0 < v) × ((k : ℕ) → i ≤ k → k < length volumes → v < get_or volumes k 0)) → ⊥
    apart (Ok i) q m = cc
    apart (Err i) q m = elim (cases_lt at i) [
      | inl lt ↦ (let a : volume_at volumes at < v = m.1 at lt in let b : volume_at volumes at ≡ v = l.is in omega arith)
      | inr le ↦ (let a : v < volume_at volumes at = m.2 at le l.there in let b : volume_at volumes at ≡ v = l.is in omega arith)
    ]

-- two places with one volume are one
pub one_place : (volumes : List ℕ) (v i j : ℕ) → IsRising volumes → IsListedAt volumes v i → IsListedAt volumes v j → i ≡ j
one_place volumes v i j rising a b =
    let ai : volume_at volumes i ≡ v = a.is in
    let bj : volume_at volumes j ≡ v = b.is in
    elim (cases_eq i j) [
      | inl e ↦ e
      | inr ne ↦ elim (cases_lt i j) [
        | inl lt ↦ (let r : volume_at volumes i < volume_at volumes j = rising i j lt b.there in absurd (omega arith))
        | inr le ↦ (let r : volume_at volumes j < volume_at volumes i = rising j i (omega arith) a.there in absurd (omega arith))
      ]
    ]

-- what is read back after the sort is what was sorted
pub volumes_sorted : (rows : List Row) (old before sorted after new : List ℕ) (len : ℕ) → ListsOld rows (length rows) old → before ≡ old → length before ≡ len → length sorted ≡ length before → IsPermutation before sorted →
    after ≡ take len (sorted ++ drop (length sorted) old) → IsRising new → ((v : ℕ) → IsListed after v → IsListed new v) → AreOldVolumes rows new
volumes_sorted rows old before sorted after new len all b l s p a rising each =
    record {
      rising = rising;
      all = λ v h. each v (subst (λ (z : List ℕ). IsListed z v) (sym same) (listed_sorted before sorted v p (subst (λ (z : List ℕ). IsListed z v) (sym b) (all v h))));
    }
  where
    whole : len ≡ length sorted
    whole = omega arith

    same : after ≡ sorted
    same = a ∙ (ap (λ n. take n (sorted ++ drop (length sorted) old)) whole ∙ take_whole sorted (drop (length sorted) old))
