-- Rows of volumes whose ids rise: a row is where the search finds it, and what a new row, a changed one and one that goes leave.
use Rattle.std.proofs.Common.{◌≡◌, ℕ, zero, suc, ◌<◌, ◌≤◌, Bool, true, false, not, cond, ◌||◌, nat_eq, List, [], ◌∷◌, ◌++◌, length, map, filter, get_or, set, slice_index_or, refl, sym, ◌∙◌, ap, subst, inl, inr, Less, Equal, Greater, arith, All, true≢false}
use Rattle.std.specs.List.{HoldsAt}
use Rattle.std.specs.List.Sorted.{IsNonDecreasingBy, IsPartitionPoint}
use Rattle.std.specs.Ordering.{nat_cmp, ordering_index}
use Rattle.std.proofs.lemmas.Bool.Decides.{nat_tests}
use Rattle.std.proofs.lemmas.Bool.{cases_Bool, cases_lt, cond-true, cond-false}
use Rattle.std.proofs.lemmas.Cmp.{ranked}
use Rattle.std.proofs.lemmas.List.Folds.{list_any_none}
use Rattle.std.proofs.lemmas.List.Kept.{AllPairs-cons, AllPairs-filter}
use Rattle.std.proofs.lemmas.List.Elements.{All-nil, All-cons}
use Rattle.fc_base.specs.declared.ids.VolId.{VolId}
use Rattle.fc_base.specs.declared.state.Access.{Access}
use Rattle.fc_base.specs.declared.state.Access.TheVariants.{Online}
use Rattle.fc_rules.specs.LaneTold.{LaneVolume, lane_access}
use Rattle.fc_apply.specs.Accesses.{AccessState, AreRising, has_row, has_volume, volume_of_row}
use Rattle.fc_apply.specs.declared.access.AccessRow.{AccessRow}

same_numbers : (a b : ℕ) → a ≡ b → nat_eq a b ≡ true
same_numbers a b same = grind (arith, nat_tests)

lesser : (a b : ℕ) → a < b → nat_eq a b ≡ false
lesser a b below = grind (arith, nat_tests)

greater : (a b : ℕ) → b < a → nat_eq a b ≡ false
greater a b above = grind (arith, nat_tests)

higher : (a b x : ℕ) → a ≤ b → ordering_index (nat_cmp a x) ≤ ordering_index (nat_cmp b x)
higher a b x le = grind (arith, nat_tests)

-- ---- the search

module _ (xs : List AccessRow) (rising : AreRising xs) (id : ℕ) where
  ids_rise : (i j : ℕ) (d : AccessRow) → i ≤ j → j < length xs → (slice_index_or xs i d).volume.0 ≤ (slice_index_or xs j d).volume.0
  ids_rise i j d le within = grind (arith, rising i j d, λ (same : i ≡ j). ap (λ (k : ℕ). (slice_index_or xs k d).volume.0) same)

  comparisons_rise : IsNonDecreasingBy (λ (v : AccessRow). ordering_index (nat_cmp v.volume.0 id)) xs
  comparisons_rise i j d le within = higher _ _ id (ids_rise i j d le within)

  -- where it misses, there is no row
  pub missed : (at : ℕ)
      → (IsNonDecreasingBy (λ (v : AccessRow). ordering_index (nat_cmp v.volume.0 id)) xs
      → IsPartitionPoint (λ (v : AccessRow). nat_cmp v.volume.0 id ≡ Less) (λ (v : AccessRow). nat_cmp v.volume.0 id ≡ Greater) xs at) → has_row id xs ≡ false
  missed at parted =
      let before = (parted comparisons_rise).0 in
      let behind = (parted comparisons_rise).1 in
      list_any_none (λ (v : AccessRow). nat_eq v.volume.0 id) xs (λ k d within.
      elim (cases_lt k at) [
        | inl below ↦ lesser _ id (ranked _ id Less (sym (before k d (omega arith) below)))
        | inr above ↦ greater _ id (ranked _ id Greater (sym (behind k d above within)))
      ])

pub hit : (xs : List AccessRow) (id at : ℕ) → HoldsAt (λ (v : AccessRow). nat_cmp v.volume.0 id ≡ Equal) xs at
    → (d : AccessRow) → (slice_index_or xs at d).volume.0 ≡ id
hit xs id at equal d = ranked _ id Equal (sym (equal d))

-- ---- what is read

abbrev IsAt : List AccessRow → ℕ → ℕ → Type 0
IsAt xs id at = (d : AccessRow) → (get_or xs at d).volume.0 ≡ id

rise-tail : (x : AccessRow) (xs : List AccessRow) → AreRising (x ∷ xs) → AreRising xs
rise-tail x xs rise i j d before within = rise (suc i) (suc j) d (omega arith) (omega arith)

pub access_at : (xs : List AccessRow) (id : VolId) (at : ℕ) (d : AccessRow) → AreRising xs → at < length xs → IsAt xs id.0 at → (get_or xs at d).access ≡ lane_access (map volume_of_row xs) id
access_at [] id at d rise within is_at = absurd (omega arith)
access_at (x ∷ xs) id zero d rise within is_at = sym (cond-true (nat_eq x.volume.0 id.0) x.access (lane_access (map volume_of_row xs) id) (same_numbers _ id.0 (is_at d)))
access_at (x ∷ xs) id (suc at) d rise within is_at =
    let first : x.volume.0 < (get_or xs at d).volume.0 = rise 0 (suc at) d (omega arith) within in
    let same : (get_or xs at d).volume.0 ≡ id.0 = is_at d in
    access_at xs id at d (rise-tail x xs rise) (omega arith) is_at
    ∙ sym (cond-false (nat_eq x.volume.0 id.0) x.access (lane_access (map volume_of_row xs) id) (lesser x.volume.0 id.0 (omega arith)))

pub access_none : (xs : List AccessRow) (id : VolId) → has_row id.0 xs ≡ false → Online ≡ lane_access (map volume_of_row xs) id
access_none [] id none = refl
access_none (x ∷ xs) id none =
    elim (cases_Bool (nat_eq x.volume.0 id.0)) [
      | inl here ↦ absurd (true≢false (ap (λ (b : Bool). b || has_row id.0 xs) (sym here) ∙ none))
      | inr other ↦ let rest : has_row id.0 xs ≡ false = rw other at none in rw other (access_none xs id rest)
    ]

-- ---- a new access

abbrev pub with_access : VolId → Access → LaneVolume → LaneVolume
with_access id access v = cond (nat_eq v.volume.0 id.0) (record v { access = access }) v

abbrev pub row_with : Access → AccessRow → AccessRow
row_with access x = record x { access = access }

pub set_none : (xs : List AccessRow) (id : VolId) (access : Access) → has_row id.0 xs ≡ false → map volume_of_row xs ≡ map (with_access id access) (map volume_of_row xs)
set_none [] id access none = refl
set_none (x ∷ xs) id access none =
    elim (cases_Bool (nat_eq x.volume.0 id.0)) [
      | inl here ↦ absurd (true≢false (ap (λ (b : Bool). b || has_row id.0 xs) (sym here) ∙ none))
      | inr other ↦ let rest : has_row id.0 xs ≡ false = rw other at none in rw other (ap (λ vs. volume_of_row x ∷ vs) (set_none xs id access rest))
    ]

set_behind : (x : AccessRow) (xs : List AccessRow) (id : ℕ) → AreRising (x ∷ xs) → x.volume.0 ≡ id → has_row id xs ≡ false
set_behind x xs id rise same =
    list_any_none (λ (v : AccessRow). nat_eq v.volume.0 id) xs (λ k d within.
    let above : x.volume.0 < (get_or xs k d).volume.0 = rise 0 (suc k) d (omega arith) (omega arith) in greater _ id (omega arith))

pub set_at : (xs : List AccessRow) (id : VolId) (access : Access) (at : ℕ) (d : AccessRow) → AreRising xs → at < length xs → IsAt xs id.0 at →
    map volume_of_row (set xs at (row_with access (get_or xs at d))) ≡ map (with_access id access) (map volume_of_row xs)
set_at [] id access at d rise within is_at = absurd (omega arith)
set_at (x ∷ xs) id access zero d rise within is_at = λ k.
    sym (cond-true (nat_eq x.volume.0 id.0) (record (volume_of_row x) { access = access }) (volume_of_row x) (same_numbers _ id.0 (is_at d))) k
    ∷ set_none xs id access (set_behind x xs id.0 rise (is_at d)) k
set_at (x ∷ xs) id access (suc at) d rise within is_at =
    let first : x.volume.0 < (get_or xs at d).volume.0 = rise 0 (suc at) d (omega arith) within in
    let same : (get_or xs at d).volume.0 ≡ id.0 = is_at d in
    λ k. sym (cond-false (nat_eq x.volume.0 id.0) (record (volume_of_row x) { access = access }) (volume_of_row x) (lesser x.volume.0 id.0 (omega arith))) k
    ∷ set_at xs id access at d (rise-tail x xs rise) (omega arith) is_at k

-- ---- a row that goes

pub map_removed : (xs : List AccessRow) (id : ℕ) → map volume_of_row (filter (λ (x : AccessRow). not (nat_eq x.volume.0 id)) xs) ≡ filter (λ (v : LaneVolume). not (nat_eq v.volume.0 id)) (map volume_of_row xs)
map_removed [] id = refl
map_removed (x ∷ xs) id =
    elim (cases_Bool (nat_eq x.volume.0 id)) [
      | inl here ↦ rw here (map_removed xs id)
      | inr other ↦ rw other (ap (λ vs. volume_of_row x ∷ vs) (map_removed xs id))
    ]

pub removed_rises : (xs : List AccessRow) (id : ℕ) → AreRising xs → AreRising (filter (λ (x : AccessRow). not (nat_eq x.volume.0 id)) xs)
removed_rises xs id rise = AllPairs-filter (λ (x y : AccessRow). x.volume.0 < y.volume.0) (λ (x : AccessRow). not (nat_eq x.volume.0 id)) xs rise

-- ---- a new row

added_all : (k : ℕ) (xs : List AccessRow) (x : AccessRow) → All (λ (y : AccessRow). k < y.volume.0) xs → k < x.volume.0 → All (λ (y : AccessRow). k < y.volume.0) (xs ++ x ∷ [])
added_all k [] x all above = All-cons (λ (y : AccessRow). k < y.volume.0) x [] above (All-nil (λ (y : AccessRow). k < y.volume.0))
added_all k (y ∷ ys) x all above =
    All-cons (λ (y : AccessRow). k < y.volume.0) y (ys ++ x ∷ []) (all 0 y (omega arith)) (added_all k ys x (λ i d within. all (suc i) d (omega arith)) above)

pub added_rises : (xs : List AccessRow) (x : AccessRow) (vs : List LaneVolume) → map volume_of_row xs ≡ vs → AreRising xs → All (λ (v : LaneVolume). v.volume.0 < x.volume.0) vs → AreRising (xs ++ x ∷ [])
added_rises xs x vs seen rise newest = by xs rise (subst (λ (z : List LaneVolume). All (λ (v : LaneVolume). v.volume.0 < x.volume.0) z) (sym seen) newest)
  where
    by : (xs : List AccessRow) → AreRising xs → All (λ (v : LaneVolume). v.volume.0 < x.volume.0) (map volume_of_row xs) → AreRising (xs ++ x ∷ [])
    by [] rise newest = λ i j d before within. absurd (omega arith)
    by (y ∷ ys) rise newest =
        AllPairs-cons (λ (x y : AccessRow). x.volume.0 < y.volume.0) y (ys ++ x ∷ [])
        (added_all y.volume.0 ys x (λ i d within. rise 0 (suc i) d (omega arith) (omega arith)) (newest 0 (volume_of_row y) (omega arith)))
        (by ys (rise-tail y ys rise) (λ i d within. newest (suc i) d (omega arith)))

rows_there : (xs : List AccessRow) (id : ℕ) → has_volume id (map volume_of_row xs) ≡ has_row id xs
rows_there [] id = refl
rows_there (x ∷ xs) id = ap (λ (b : Bool). nat_eq x.volume.0 id || b) (rows_there xs id)

there_at : (xs : List AccessRow) (id at : ℕ) → at < length xs → IsAt xs id at → has_volume id (map volume_of_row xs) ≡ true
there_at [] id at within is_at = absurd (omega arith)
there_at (x ∷ xs) id zero within is_at = ap (λ (b : Bool). b || has_volume id (map volume_of_row xs)) (same_numbers x.volume.0 id (is_at x))
there_at (x ∷ xs) id (suc at) within is_at =
    elim (cases_Bool (nat_eq x.volume.0 id)) [
      | inl here ↦ rw here refl
      | inr other ↦ rw other (there_at xs id at (omega arith) is_at)
    ]

-- ---- as the state has them

module _ (xs : List AccessRow) (state : AccessState) (room : ℕ) (seen : record { volumes = map volume_of_row xs; room = room } ≡ state) where
  volumes_are : map volume_of_row xs ≡ state.volumes
  volumes_are = ap (λ (s : AccessState). s.volumes) seen

  pub seen_access : (rows : List AccessRow) → rows ≡ xs → AreRising xs → (id : VolId) (at : ℕ) (d : AccessRow) → at < length rows → ((e : AccessRow) → (slice_index_or rows at e).volume.0 ≡ id.0) →
      (get_or xs at d).access ≡ lane_access state.volumes id
  seen_access rows same rise id at d within found =
      access_at xs id at d rise (omega (arith, ap (length {A = AccessRow}) same)) (λ e. ap (λ (l : List AccessRow). (slice_index_or l at e).volume.0) (sym same) ∙ found e)
      ∙ ap (λ (vs : List LaneVolume). lane_access vs id) volumes_are

  pub seen_none : (rows : List AccessRow) → rows ≡ xs → (id : VolId) → has_row id.0 rows ≡ false → Online ≡ lane_access state.volumes id
  seen_none rows same id none = access_none xs id (ap (has_row id.0) (sym same) ∙ none) ∙ ap (λ (vs : List LaneVolume). lane_access vs id) volumes_are

  pub seen_set : (rows : List AccessRow) → rows ≡ xs → AreRising xs → (id : VolId) (access : Access) (at : ℕ) (d : AccessRow) → at < length rows → ((e : AccessRow) → (slice_index_or rows at e).volume.0 ≡ id.0) →
      map volume_of_row (set xs at (row_with access (get_or xs at d))) ≡ map (with_access id access) state.volumes
  seen_set rows same rise id access at d within found =
      set_at xs id access at d rise (omega (arith, ap (length {A = AccessRow}) same)) (λ e. ap (λ (l : List AccessRow). (slice_index_or l at e).volume.0) (sym same) ∙ found e)
      ∙ ap (map (with_access id access)) volumes_are

  pub seen_set_none : (rows : List AccessRow) → rows ≡ xs → (id : VolId) (access : Access) → has_row id.0 rows ≡ false → state.volumes ≡ map (with_access id access) state.volumes
  seen_set_none rows same id access none =
      sym volumes_are ∙ (set_none xs id access (ap (has_row id.0) (sym same) ∙ none) ∙ ap (map (with_access id access)) volumes_are)

  pub seen_removed : (now : List AccessRow) (id : ℕ) → now ≡ filter (λ (x : AccessRow). not (nat_eq x.volume.0 id)) xs → map volume_of_row now ≡ filter (λ (v : LaneVolume). not (nat_eq v.volume.0 id)) state.volumes
  seen_removed now id is = ap (map volume_of_row) is ∙ (map_removed xs id ∙ ap (filter (λ (v : LaneVolume). not (nat_eq v.volume.0 id))) volumes_are)

  pub seen_rising : (now : List AccessRow) (id : ℕ) → AreRising xs → now ≡ filter (λ (x : AccessRow). not (nat_eq x.volume.0 id)) xs → AreRising now
  seen_rising now id rise is = subst AreRising (sym is) (removed_rises xs id rise)

  -- ---- whether a volume is there

  pub seen_there : (rows : List AccessRow) → rows ≡ xs → AreRising xs → (id at : ℕ) → at < length rows → ((e : AccessRow) → (slice_index_or rows at e).volume.0 ≡ id) → true ≡ has_volume id state.volumes
  seen_there rows same rise id at within found =
      sym (there_at xs id at (omega (arith, ap (length {A = AccessRow}) same)) (λ e. ap (λ (l : List AccessRow). (slice_index_or l at e).volume.0) (sym same) ∙ found e)) ∙ ap (has_volume id) volumes_are

  pub seen_absent : (rows : List AccessRow) → rows ≡ xs → (id : ℕ) → has_row id rows ≡ false → false ≡ has_volume id state.volumes
  seen_absent rows same id none = sym (rows_there xs id ∙ (ap (has_row id) (sym same) ∙ none)) ∙ ap (has_volume id) volumes_are
