-- What lanes count of their grains adds up.
use Rattle.std.proofs.Common.{◌≡◌, ℕ, ◌/◌, ◌%◌, ◌<◌, Bool, false, is_some, Option, Some, None, List, length, get_or, refl, sym, ap, ◌∙◌, arith}
use Rattle.std.specs.List.{sum_by}
use Rattle.std.proofs.lemmas.List.FromFn.{length-map-range_with_len, get_or-map-range_with_len}
use Rattle.std.proofs.lemmas.Nat.{mod_below}
use Rattle.fc_base.specs.Column.{Column, needer}
use Rattle.fc_base.specs.Counts.{count_below, is_needed_at, need_count_of}
use Rattle.fc_base.specs.Sheet.{Slot, Sheet, no_slots, slot_at, mapping_place, volume_grains}
use Rattle.fc_base.specs.SheetView.{held_at, held_of, needed_at, needed_of, count_true}
use Rattle.fc_base.specs.declared.size.GrainSize.{GrainSize}
use Rattle.fc_legal.specs.Whole.{part}
use Rattle.fc_rules.specs.LaneTold.{LaneOf, number_at, grains_in}
use Rattle.fc_parts.proofs.Numbers.{IsLane, part_length, part_at, part_at_grain}
use Rattle.fc_parts.proofs.Views.{parts, part_nil, slot_parts, column_parts, mapping_parts, size_parts, grains_parts}
use Rattle.fc_sums.specs.Law.{PartsLaw, CountsLaw}
use Rattle.fc_sums.specs.Parts.{lane_of, part_of, parts_of}
use Rattle.fc_sums.proofs.Sums.{total, total_same, total_none, sum_total, passed, passed_by_lanes, share, shares, count_same, counted}

-- ---- the parts by number

pub parts_law : (grain : GrainSize) (lanes : ℕ) (s : Sheet) → PartsLaw grain lanes s
parts_law grain lanes s = record {
  count = length-map-range_with_len (part_of grain lanes s) 0 lanes;
  part = λ i lt. get_or-map-range_with_len (part_of grain lanes s) 0 lanes i i no_slots lt (omega arith);
}

-- a sum over parts, from what each part adds
pub sum_parts : (grain : GrainSize) (lanes : ℕ) (s : Sheet) (f : Sheet → ℕ) (each : ℕ → ℕ) → ((i : ℕ) → i < lanes → f (part_of grain lanes s i) ≡ each i) →
    sum_by f (parts_of grain lanes s) ≡ total each lanes
sum_parts grain lanes s f each e = sum_total f (part_of grain lanes s) lanes ∙ total_same (λ i. f (part_of grain lanes s i)) each lanes e

-- ---- what a mapping's slot holds

held_at_part : (l : LaneOf) → IsLane l → (slots : List Slot) (o : Option ℕ) → held_at (parts l slots) o ≡ part l false (held_at slots o)
held_at_part l i slots None = sym (part_nil l i false)
held_at_part l i slots (Some k) = ap (λ (z : Slot). z.held) (slot_parts l i slots k)

pub held_part : (l : LaneOf) → IsLane l → (slots : List Slot) (m : ℕ) → held_of (parts l slots) m ≡ part l false (held_of slots m)
held_part l i slots m = ap (held_at (parts l slots)) (mapping_parts l i slots m) ∙ held_at_part l i slots (mapping_place slots m)

pub count_part : (l : LaneOf) → IsLane l → (bits : List Bool) → count_true (part l false bits) ≡ count_below (λ p. get_or bits (number_at l p) false) (grains_in l (length bits))
count_part l i bits =
    counted (part l false bits)
    ∙ (ap (count_below (λ g. get_or (part l false bits) g false)) (part_length l false bits)
    ∙ count_same (λ g. get_or (part l false bits) g false) (λ p. get_or bits (number_at l p) false) (grains_in l (length bits)) (λ p lt. part_at l i false bits p false))

held_sum : (grain : GrainSize) (lanes : ℕ) (s : Sheet) → 0 < lanes → (m : ℕ) → sum_by (λ (p : Sheet). count_true (held_of p.slots m)) (parts_of grain lanes s) ≡ count_true (held_of s.slots m)
held_sum grain lanes s above m =
    let bits : List Bool = held_of s.slots m in
    sum_parts grain lanes s (λ (p : Sheet). count_true (held_of p.slots m)) (passed (λ g. get_or bits g false) lanes (length bits))
    (λ i lt. ap count_true (held_part (lane_of grain lanes i) lt s.slots m) ∙ count_part (lane_of grain lanes i) lt bits)
    ∙ (passed_by_lanes (λ g. get_or bits g false) lanes above (length bits)
    ∙ sym (counted bits))

-- ---- at how many grains it is needed

need_part : (l : LaneOf) → IsLane l → (slots : List Slot) (k : ℕ) →
    need_count_of (parts l slots) k ≡ count_below (λ p. is_needed_at slots k (number_at l p)) (grains_in l (length (slot_at slots k).held))
need_part l i slots k =
    ap (count_below (is_needed_at (parts l slots) k)) (size_parts l i slots k)
    ∙ count_same (is_needed_at (parts l slots) k) (λ p. is_needed_at slots k (number_at l p)) (grains_in l (length (slot_at slots k).held))
    (λ p lt. ap (λ (c : Column). is_some (needer c k)) (column_parts l i slots p))

pub need_sum : (grain : GrainSize) (lanes : ℕ) (s : Sheet) → 0 < lanes → (k : ℕ) → sum_by (λ (p : Sheet). need_count_of p.slots k) (parts_of grain lanes s) ≡ need_count_of s.slots k
need_sum grain lanes s above k =
    sum_parts grain lanes s (λ (p : Sheet). need_count_of p.slots k) (passed (is_needed_at s.slots k) lanes (length (slot_at s.slots k).held))
    (λ i lt. need_part (lane_of grain lanes i) lt s.slots k)
    ∙ passed_by_lanes (is_needed_at s.slots k) lanes above (length (slot_at s.slots k).held)

needed_at_sum : (grain : GrainSize) (lanes : ℕ) (s : Sheet) → 0 < lanes → (o : Option ℕ) → sum_by (λ (p : Sheet). needed_at p.slots o) (parts_of grain lanes s) ≡ needed_at s.slots o
needed_at_sum grain lanes s above None = sum_parts grain lanes s (λ p. 0) (λ i. 0) (λ i lt. refl) ∙ total_none (λ i. 0) lanes (λ i lt. refl)
needed_at_sum grain lanes s above (Some k) = need_sum grain lanes s above k

needed_sum : (grain : GrainSize) (lanes : ℕ) (s : Sheet) → 0 < lanes → (m : ℕ) → sum_by (λ (p : Sheet). needed_of p.slots m) (parts_of grain lanes s) ≡ needed_of s.slots m
needed_sum grain lanes s above m =
    let o : Option ℕ = mapping_place s.slots m in
    sum_parts grain lanes s (λ (p : Sheet). needed_of p.slots m) (λ i. needed_at (part_of grain lanes s i).slots o)
    (λ i lt. ap (needed_at (part_of grain lanes s i).slots) (mapping_parts (lane_of grain lanes i) lt s.slots m))
    ∙ (sym (sum_parts grain lanes s (λ (p : Sheet). needed_at p.slots o) (λ i. needed_at (part_of grain lanes s i).slots o) (λ i lt. refl))
    ∙ needed_at_sum grain lanes s above o)

-- ---- grains

-- what has its share of grains in each part
shared : (grain : GrainSize) (lanes : ℕ) (s : Sheet) (f : Sheet → ℕ) (grains : ℕ) → 0 < lanes → ((i : ℕ) → i < lanes → f (part_of grain lanes s i) ≡ share lanes i grains) →
    sum_by f (parts_of grain lanes s) ≡ grains
shared grain lanes s f grains above e = sum_parts grain lanes s f (λ i. share lanes i grains) e ∙ shares lanes above grains

holds_part : (grain : GrainSize) (lanes : ℕ) (s : Sheet) → 0 < lanes → (m g : ℕ) →
    get_or (held_of (part_of grain lanes s (g % lanes)).slots m) (g / lanes) false ≡ get_or (held_of s.slots m) g false
holds_part grain lanes s above m g =
    let l : LaneOf = lane_of grain lanes (g % lanes) in
    let lt : g % lanes < lanes = mod_below g lanes above in
    ap (λ (z : List Bool). get_or z (g / lanes) false) (held_part l lt s.slots m)
    ∙ part_at_grain l lt false (held_of s.slots m) g false refl

pub counts_law : (grain : GrainSize) (lanes : ℕ) (s : Sheet) → 0 < lanes → CountsLaw grain lanes s
counts_law grain lanes s above = record {
  held = held_sum grain lanes s above;
  needed = needed_sum grain lanes s above;
  slot_size = λ k. shared grain lanes s (λ (p : Sheet). length (slot_at p.slots k).held) (length (slot_at s.slots k).held) above (λ i lt. size_parts (lane_of grain lanes i) lt s.slots k);
  size = λ m. shared grain lanes s (λ (p : Sheet). length (held_of p.slots m)) (length (held_of s.slots m)) above
      (λ i lt. ap (λ (z : List Bool). length z) (held_part (lane_of grain lanes i) lt s.slots m) ∙ part_length (lane_of grain lanes i) false (held_of s.slots m));
  grains = λ v. shared grain lanes s (λ (p : Sheet). volume_grains p.slots v) (volume_grains s.slots v) above (λ i lt. grains_parts (lane_of grain lanes i) lt s.slots v);
  holds = holds_part grain lanes s above;
}
