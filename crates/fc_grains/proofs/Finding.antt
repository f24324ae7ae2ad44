-- A volume is where the search finds its id.
use Rattle.std.proofs.Common.{◌≡◌, ℕ, zero, suc, ◌<◌, ◌≤◌, Bool, true, false, not, cond, ◌||◌, nat_eq, List, [], ◌∷◌, length, map, get_or, slice_set, slice_index_or, refl, sym, ◌∙◌, ap, inl, inr, Less, Equal, Greater, arith}
use Rattle.std.specs.List.{All, AllPairs, HoldsAt, list_any, remove}
use Rattle.std.specs.List.Sorted.{IsNonDecreasingBy, IsPartitionPoint}
use Rattle.std.specs.Ordering.{nat_cmp, ordering_index}
use Rattle.std.proofs.lemmas.Bool.Decides.{nat_tests}
use Rattle.std.proofs.lemmas.Bool.{cases_lt, cond-true, cond-false}
use Rattle.std.proofs.lemmas.Cmp.{ranked}
use Rattle.std.proofs.lemmas.List.Folds.{list_any_none}
use Rattle.fc_grains.specs.Parts.{VolumeDiskState, grains_of}
use Rattle.fc_grains.specs.Volumes.{VolumeGrains, is_there, volume_of, changed, without}

same_numbers : (a b : ℕ) → a ≡ b → nat_eq a b ≡ true
same_numbers a b same = grind (arith, nat_tests)

lesser : (a b : ℕ) → a < b → nat_eq a b ≡ false
lesser a b below = grind (arith, nat_tests)

greater : (a b : ℕ) → b < a → nat_eq a b ≡ false
greater a b above = grind (arith, nat_tests)

higher : (a b x : ℕ) → a ≤ b → ordering_index (nat_cmp a x) ≤ ordering_index (nat_cmp b x)
higher a b x le = grind (arith, nat_tests)

is_there-map : (xs : List VolumeDiskState) (id : ℕ) → is_there (map grains_of xs) id ≡ list_any (λ (v : VolumeDiskState). nat_eq v.volume.0 id) xs
is_there-map [] id = refl
is_there-map (x ∷ xs) id = ap (λ (b : Bool). nat_eq x.volume.0 id || b) (is_there-map xs id)

abbrev pub AreRising : List VolumeDiskState → Type 0
AreRising xs = AllPairs (λ (v w : VolumeDiskState). v.volume.0 < w.volume.0) xs

module _ (xs : List VolumeDiskState) (rising : AreRising xs) (id : ℕ) where
  ids_rise : (i j : ℕ) (d : VolumeDiskState) → i ≤ j → j < length xs → (slice_index_or xs i d).volume.0 ≤ (slice_index_or xs j d).volume.0
  ids_rise i j d le within = grind (arith, rising i j d, λ (same : i ≡ j). ap (λ (k : ℕ). (slice_index_or xs k d).volume.0) same)

  comparisons_rise : IsNonDecreasingBy (λ (v : VolumeDiskState). ordering_index (nat_cmp v.volume.0 id)) xs
  comparisons_rise i j d le within = higher _ _ id (ids_rise i j d le within)

  -- where the search finds no volume none is there
  pub none_there : (at : ℕ) → (IsNonDecreasingBy (λ (v : VolumeDiskState). ordering_index (nat_cmp v.volume.0 id)) xs
      → IsPartitionPoint (λ (v : VolumeDiskState). nat_cmp v.volume.0 id ≡ Less) (λ (v : VolumeDiskState). nat_cmp v.volume.0 id ≡ Greater) xs at)
      → is_there (map grains_of xs) id ≡ false
  none_there at parted =
      let before = (parted comparisons_rise).0 in
      let behind = (parted comparisons_rise).1 in
      let none : list_any (λ (v : VolumeDiskState). nat_eq v.volume.0 id) xs ≡ false =
      list_any_none (λ (v : VolumeDiskState). nat_eq v.volume.0 id) xs (λ k d within.
      elim (cases_lt k at) [
        | inl below ↦ lesser _ id (ranked _ id Less (sym (before k d (omega arith) below)))
        | inr above ↦ greater _ id (ranked _ id Greater (sym (behind k d above within)))
      ]) in
      is_there-map xs id ∙ none

pub found_at : (xs : List VolumeDiskState) (id at : ℕ) → HoldsAt (λ (v : VolumeDiskState). nat_cmp v.volume.0 id ≡ Equal) xs at
    → (d : VolumeDiskState) → (slice_index_or xs at d).volume.0 ≡ id
found_at xs id at equal d = ranked _ id Equal (sym (equal d))

-- a place in a slice is one in the list behind it
pub at_within : (xs vs : List VolumeDiskState) (at : ℕ) → xs ≡ vs → at < length xs → at < length vs
at_within xs vs at same within = omega (arith, ap (length {A = VolumeDiskState}) same)

pub at_found : (xs vs : List VolumeDiskState) (at id : ℕ) → xs ≡ vs → ((d : VolumeDiskState) → (slice_index_or xs at d).volume.0 ≡ id)
    → (d : VolumeDiskState) → (slice_index_or vs at d).volume.0 ≡ id
at_found xs vs at id same found d = ap (λ (l : List VolumeDiskState). (slice_index_or l at d).volume.0) (sym same) ∙ found d

-- a volume with a grain is there
with_grain : (b more : Bool) (v rest : VolumeGrains) (place : ℕ) → place < length (cond b v rest).contents → (place < length rest.contents → more ≡ true) → (b || more) ≡ true
with_grain true more v rest place here later = refl
with_grain false more v rest place here later = later here

pub is_there_by : (vs : List VolumeGrains) (id place : ℕ) → place < length (volume_of vs id).contents → is_there vs id ≡ true
is_there_by [] id place here = absurd (omega arith)
is_there_by (v ∷ vs) id place here = with_grain (nat_eq v.volume.0 id) (is_there vs id) v (volume_of vs id) place here (λ later. is_there_by vs id place later)

abbrev Rise : List VolumeGrains → Type 0
Rise vs = AllPairs (λ (v w : VolumeGrains). v.volume.0 < w.volume.0) vs

rise-tail : (v : VolumeGrains) (vs : List VolumeGrains) → Rise (v ∷ vs) → Rise vs
rise-tail v vs rise i j d before within = rise (suc i) (suc j) d (omega arith) (omega arith)

abbrev IsAt : List VolumeGrains → ℕ → ℕ → Type 0
IsAt vs id at = (d : VolumeGrains) → (get_or vs at d).volume.0 ≡ id

pub volume_of-at : (vs : List VolumeGrains) (id at : ℕ) (d : VolumeGrains) → Rise vs → at < length vs → IsAt vs id at → volume_of vs id ≡ get_or vs at d
volume_of-at [] id at d rise within is_at = absurd (omega arith)
volume_of-at (v ∷ vs) id zero d rise within is_at = cond-true (nat_eq v.volume.0 id) v (volume_of vs id) (same_numbers _ id (is_at d))
volume_of-at (v ∷ vs) id (suc at) d rise within is_at =
    let first : v.volume.0 < (get_or vs at d).volume.0 = rise 0 (suc at) d (omega arith) within in
    let same : (get_or vs at d).volume.0 ≡ id = is_at d in
    cond-false (nat_eq v.volume.0 id) v (volume_of vs id) (lesser v.volume.0 id (omega arith))
    ∙ volume_of-at vs id at d (rise-tail v vs rise) (omega arith) is_at

-- none of the volumes has the id
changed-none : (vs : List VolumeGrains) (id : ℕ) (change : VolumeGrains → VolumeGrains) → All (λ (v : VolumeGrains). nat_eq v.volume.0 id ≡ false) vs → changed id change vs ≡ vs
changed-none [] id change none = refl
changed-none (v ∷ vs) id change none = λ k.
    cond-false (nat_eq v.volume.0 id) (change v) v (none 0 v (omega arith)) k
    ∷ changed-none vs id change (λ i d within. none (suc i) d (omega arith)) k

without-none : (vs : List VolumeGrains) (id : ℕ) → All (λ (v : VolumeGrains). nat_eq v.volume.0 id ≡ false) vs → without id vs ≡ vs
without-none [] id none = refl
without-none (v ∷ vs) id none =
    cond-true (not (nat_eq v.volume.0 id)) (v ∷ without id vs) (without id vs) (ap not (none 0 v (omega arith)))
    ∙ ap (λ (rest : List VolumeGrains). v ∷ rest) (without-none vs id (λ i d within. none (suc i) d (omega arith)))

behind_first : (v : VolumeGrains) (vs : List VolumeGrains) (id : ℕ) → Rise (v ∷ vs) → v.volume.0 ≡ id → All (λ (w : VolumeGrains). nat_eq w.volume.0 id ≡ false) vs
behind_first v vs id rise same k d within =
    let above : v.volume.0 < (get_or vs k d).volume.0 = rise 0 (suc k) d (omega arith) (omega arith) in
    greater _ id (omega arith)

pub changed-at : (vs : List VolumeGrains) (id at : ℕ) (d : VolumeGrains) (change : VolumeGrains → VolumeGrains) → Rise vs → at < length vs → IsAt vs id at
    → changed id change vs ≡ slice_set vs at (change (get_or vs at d))
changed-at [] id at d change rise within is_at = absurd (omega arith)
changed-at (v ∷ vs) id zero d change rise within is_at = λ k.
    cond-true (nat_eq v.volume.0 id) (change v) v (same_numbers _ id (is_at d)) k
    ∷ changed-none vs id change (behind_first v vs id rise (is_at d)) k
changed-at (v ∷ vs) id (suc at) d change rise within is_at =
    let first : v.volume.0 < (get_or vs at d).volume.0 = rise 0 (suc at) d (omega arith) within in
    let same : (get_or vs at d).volume.0 ≡ id = is_at d in
    λ k.
    cond-false (nat_eq v.volume.0 id) (change v) v (lesser v.volume.0 id (omega arith)) k
    ∷ changed-at vs id at d change (rise-tail v vs rise) (omega arith) is_at k

pub without-at : (vs : List VolumeGrains) (id at : ℕ) → Rise vs → at < length vs → IsAt vs id at → without id vs ≡ remove vs at
without-at [] id at rise within is_at = absurd (omega arith)
without-at (v ∷ vs) id zero rise within is_at =
    cond-false (not (nat_eq v.volume.0 id)) (v ∷ without id vs) (without id vs) (ap not (same_numbers _ id (is_at v)))
    ∙ without-none vs id (behind_first v vs id rise (is_at v))
without-at (v ∷ vs) id (suc at) rise within is_at =
    let first : v.volume.0 < (get_or vs at v).volume.0 = rise 0 (suc at) v (omega arith) within in
    let same : (get_or vs at v).volume.0 ≡ id = is_at v in
    cond-true (not (nat_eq v.volume.0 id)) (v ∷ without id vs) (without id vs) (ap not (lesser v.volume.0 id (omega arith)))
    ∙ ap (λ (rest : List VolumeGrains). v ∷ rest) (without-at vs id at (rise-tail v vs rise) (omega arith) is_at)
