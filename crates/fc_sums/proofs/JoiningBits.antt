-- Records with a truth value for each grain, counted lane by lane, and found again from their parts.
use Rattle.std.proofs.Common.{◌≡◌, ℕ, zero, suc, ◌/◌, ◌%◌, ◌<◌, Bool, false, List, [], ◌∷◌, length, get_or, map, refl, sym, ap, ◌∙◌, arith}
use Rattle.std.specs.List.{sum_by, range_with_len}
use Rattle.std.proofs.lemmas.List.{length-map}
use Rattle.std.proofs.lemmas.List.FromFn.{length-map-range_with_len, get_or-map-range_with_len, fill_by_all}
use Rattle.std.proofs.lemmas.Nat.{mod_below}
use Rattle.fc_base.specs.SheetView.{count_true}
use Rattle.fc_base.specs.declared.size.GrainSize.{GrainSize}
use Rattle.fc_legal.specs.Whole.{part}
use Rattle.fc_rules.specs.LaneTold.{LaneOf}
use Rattle.fc_parts.proofs.Numbers.{IsLane, part_length, part_at_grain}
use Rattle.fc_parts.proofs.Views.{part_nil}
use Rattle.fc_sums.specs.Parts.{lane_of}
use Rattle.fc_sums.proofs.Dividing.{count_part}
use Rattle.fc_sums.proofs.Sums.{total, total_same, sum_total, passed, passed_by_lanes, share, shares, counted}

-- What is read of such a record is what was put there, and the record with no grains has none.
pub record HaveBits {R : Type 0} (bits : R → List Bool) (with_bits : R → List Bool → R) (none : R) : Type 0 where
  pub put : (r : R) (b : List Bool) → bits (with_bits r b) ≡ b
  pub last : (r : R) (a b : List Bool) → with_bits (with_bits r a) b ≡ with_bits r b
  pub own : (r : R) → with_bits r (bits r) ≡ r
  pub empty : bits none ≡ []

module _ {R : Type 0} (bits : R → List Bool) (with_bits : R → List Bool → R) (none : R) (laws : HaveBits bits with_bits none) where
  -- ---- the parts by number

  abbrev part_of : LaneOf → R → R
  part_of l r = with_bits r (part l false (bits r))

  abbrev part_of_all : LaneOf → List R → List R
  part_of_all l rs = map (part_of l) rs

  abbrev parts : GrainSize → ℕ → List R → List (List R)
  parts grain lanes rs = map (λ i. part_of_all (lane_of grain lanes i) rs) (range_with_len 0 lanes)

  count_is : (grain : GrainSize) (lanes : ℕ) (rs : List R) → length (parts grain lanes rs) ≡ lanes
  count_is grain lanes rs = length-map-range_with_len (λ i. part_of_all (lane_of grain lanes i) rs) 0 lanes

  part_is : (grain : GrainSize) (lanes : ℕ) (rs : List R) (i : ℕ) → i < lanes → get_or (parts grain lanes rs) i [] ≡ part_of_all (lane_of grain lanes i) rs
  part_is grain lanes rs i lt = get_or-map-range_with_len (λ i. part_of_all (lane_of grain lanes i) rs) 0 lanes i i [] lt (omega arith)

  -- a sum over parts, from what each part adds
  sum_parts : (grain : GrainSize) (lanes : ℕ) (rs : List R) (f : List R → ℕ) (each : ℕ → ℕ) → ((i : ℕ) → i < lanes → f (part_of_all (lane_of grain lanes i) rs) ≡ each i) →
      sum_by f (parts grain lanes rs) ≡ total each lanes
  sum_parts grain lanes rs f each e =
      sum_total f (λ i. part_of_all (lane_of grain lanes i) rs) lanes ∙ total_same (λ i. f (part_of_all (lane_of grain lanes i) rs)) each lanes e

  -- ---- the truth values that are found in them

  pub found_sum : (f : List R → List Bool) → ((l : LaneOf) → IsLane l → (rs : List R) → f (part_of_all l rs) ≡ part l false (f rs)) →
      (grain : GrainSize) (lanes : ℕ) (rs : List R) → 0 < lanes → sum_by (λ (rs : List R). count_true (f rs)) (parts grain lanes rs) ≡ count_true (f rs)
  found_sum f each grain lanes rs above =
      let found : List Bool = f rs in
      sum_parts grain lanes rs (λ (rs : List R). count_true (f rs)) (passed (λ g. get_or found g false) lanes (length found))
      (λ i lt. ap count_true (each (lane_of grain lanes i) lt rs) ∙ count_part (lane_of grain lanes i) lt found)
      ∙ (passed_by_lanes (λ g. get_or found g false) lanes above (length found)
      ∙ sym (counted found))

  -- ---- one record

  part_none : (l : LaneOf) → IsLane l → part_of l none ≡ none
  part_none l i = ap (with_bits none) (ap (part l false) laws.empty ∙ (part_nil l i false ∙ sym laws.empty)) ∙ laws.own none

  one_part : (l : LaneOf) → IsLane l → (rs : List R) (k : ℕ) → get_or (part_of_all l rs) k none ≡ part_of l (get_or rs k none)
  one_part l i [] k = sym (part_none l i)
  one_part l i (r ∷ rs) zero = refl
  one_part l i (r ∷ rs) (suc k) = one_part l i rs k

  bits_part : (l : LaneOf) → IsLane l → (rs : List R) (k : ℕ) → bits (get_or (part_of_all l rs) k none) ≡ part l false (bits (get_or rs k none))
  bits_part l i rs k = ap bits (one_part l i rs k) ∙ laws.put (get_or rs k none) (part l false (bits (get_or rs k none)))

  abbrev bit_at : List (List R) → ℕ → ℕ → Bool
  bit_at ps k g = get_or (bits (get_or (get_or ps (g % length ps) []) k none)) (g / length ps) false

  bit_there : (grain : GrainSize) (lanes : ℕ) (rs : List R) → 0 < lanes → (k g : ℕ) → get_or (bits (get_or rs k none)) g false ≡ bit_at (parts grain lanes rs) k g
  bit_there grain lanes rs above k g =
      let ps : List (List R) = parts grain lanes rs in
      let l : LaneOf = lane_of grain lanes (g % lanes) in
      let lt : g % lanes < lanes = mod_below g lanes above in
      sym (ap (λ n. get_or (bits (get_or (get_or ps (g % n) []) k none)) (g / n) false) (count_is grain lanes rs)
      ∙ (ap (λ (p : List R). get_or (bits (get_or p k none)) (g / lanes) false) (part_is grain lanes rs (g % lanes) lt)
      ∙ (ap (λ (z : List Bool). get_or z (g / lanes) false) (bits_part l lt rs k)
      ∙ part_at_grain l lt false (bits (get_or rs k none)) g false refl)))

  size_sum : (grain : GrainSize) (lanes : ℕ) (rs : List R) → 0 < lanes → (k : ℕ) →
      sum_by (λ (p : List R). length (bits (get_or p k none))) (parts grain lanes rs) ≡ length (bits (get_or rs k none))
  size_sum grain lanes rs above k =
      sum_parts grain lanes rs (λ (p : List R). length (bits (get_or p k none))) (λ i. share lanes i (length (bits (get_or rs k none))))
      (λ i lt. ap (λ (z : List Bool). length z) (bits_part (lane_of grain lanes i) lt rs k) ∙ part_length (lane_of grain lanes i) false (bits (get_or rs k none)))
      ∙ shares lanes above (length (bits (get_or rs k none)))

  abbrev joined_bits : List (List R) → ℕ → List Bool
  joined_bits ps k = map (bit_at ps k) (range_with_len 0 (sum_by (λ (p : List R). length (bits (get_or p k none))) ps))

  bits_joined : (grain : GrainSize) (lanes : ℕ) (rs : List R) → 0 < lanes → (k : ℕ) → bits (get_or rs k none) ≡ joined_bits (parts grain lanes rs) k
  bits_joined grain lanes rs above k =
      let ps : List (List R) = parts grain lanes rs in
      fill_by_all (bit_at ps k) (bits (get_or rs k none)) (sum_by (λ (p : List R). length (bits (get_or p k none))) ps) false
      (sym (size_sum grain lanes rs above k))
      (λ g lt. bit_there grain lanes rs above k g)

  abbrev joined_one : List (List R) → ℕ → R
  joined_one ps k = with_bits (get_or (get_or ps 0 []) k none) (joined_bits ps k)

  one_joined : (grain : GrainSize) (lanes : ℕ) (rs : List R) → 0 < lanes → (k : ℕ) → get_or rs k none ≡ joined_one (parts grain lanes rs) k
  one_joined grain lanes rs above k =
      let r : R = get_or rs k none in
      let all : List Bool = joined_bits (parts grain lanes rs) k in
      sym (laws.own r)
      ∙ (ap (with_bits r) (bits_joined grain lanes rs above k)
      ∙ (sym (laws.last r (part (lane_of grain lanes 0) false (bits r)) all)
      ∙ (ap (λ (z : R). with_bits z all) (sym (one_part (lane_of grain lanes 0) above rs k))
      ∙ ap (λ (p : List R). with_bits (get_or p k none) all) (sym (part_is grain lanes rs 0 above)))))

  -- ---- all records

  pub joined_parts : (grain : GrainSize) (lanes : ℕ) (rs : List R) → 0 < lanes → map (joined_one (parts grain lanes rs)) (range_with_len 0 (length (get_or (parts grain lanes rs) 0 []))) ≡ rs
  joined_parts grain lanes rs above =
      let ps : List (List R) = parts grain lanes rs in
      let first : get_or ps 0 [] ≡ part_of_all (lane_of grain lanes 0) rs = part_is grain lanes rs 0 above in
      sym (fill_by_all (joined_one ps) rs (length (get_or ps 0 [])) none
      (sym (ap (λ (p : List R). length p) first ∙ length-map rs (part_of (lane_of grain lanes 0))))
      (λ k lt. one_joined grain lanes rs above k))
