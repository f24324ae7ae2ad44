-- A slot reads from another at some grain of all where it does at some grain of some lane.
use Rattle.std.proofs.Common.{◌≡◌, ℕ, zero, suc, ◌+◌, ◌/◌, ◌%◌, ◌<◌, Bool, true, false, not, ◌&&◌, ◌||◌, eqb, List, [], ◌∷◌, length, map, refl, sym, ap, ◌∙◌, arith}
use Rattle.std.specs.List.{list_any, range_with_len}
use Rattle.std.proofs.lemmas.Bool.{and_parts, and_from}
use Rattle.std.proofs.lemmas.List.Folds.{list_any-append}
use Rattle.std.proofs.lemmas.List.FromFn.{map-range_with_len_more}
use Rattle.std.proofs.lemmas.Nat.{mod_below}
use Rattle.fc_base.specs.Column.{Column, holder, is_at}
use Rattle.fc_base.specs.Counts.{any_below, reads_some, is_direct}
use Rattle.fc_base.specs.Need.{ReadsAt}
use Rattle.fc_base.specs.Sheet.{Slot, Sheet, slot_at, column}
use Rattle.fc_base.specs.SheetView.{ReadsMapping}
use Rattle.fc_base.specs.declared.size.GrainSize.{GrainSize}
use Rattle.fc_books.proofs.Using.{any_below-found, any_below-there}
use Rattle.fc_rules.specs.LaneTold.{LaneOf, number_at, grains_in}
use Rattle.fc_parts.proofs.Numbers.{IsLane, number_below, grain_below, number_of_place}
use Rattle.fc_parts.proofs.Views.{parts, count_parts, slot_parts, column_parts, mapping_parts, size_parts}
use Rattle.fc_sums.specs.Law.{ReadsLaw}
use Rattle.fc_sums.specs.Parts.{lane_of, part_of, parts_of}

pub same_when : (a b : Bool) → (a ≡ true → b ≡ true) → (b ≡ true → a ≡ true) → a ≡ b
same_when true true f g = refl
same_when true false f g = sym (f refl)
same_when false true f g = g refl
same_when false false f g = refl

-- ---- some lane

pub or_last : (a b : Bool) → (a || (b || false)) ≡ (a || b)
or_last true b = refl
or_last false true = refl
or_last false false = refl

pub any_listed : {X : Type 0} → (test : X → Bool) (at : ℕ → X) (n : ℕ) → list_any test (map at (range_with_len 0 n)) ≡ any_below (λ i. test (at i)) n
any_listed test at zero = refl
any_listed test at (suc n) =
    let e : suc n ≡ n + 1 = omega arith in
    ap (λ z. list_any test (map at (range_with_len 0 z))) e
    ∙ (ap (list_any test) (map-range_with_len_more at 0 n n (omega arith))
    ∙ (list_any-append test (map at (range_with_len 0 n)) (at n ∷ [])
    ∙ (or_last (list_any test (map at (range_with_len 0 n))) (test (at n))
    ∙ ap (λ b. b || test (at n)) (any_listed test at n))))

pub some_part : (grain : GrainSize) (lanes : ℕ) (s : Sheet) (test : Sheet → Bool) → list_any test (parts_of grain lanes s) ≡ true → (i : ℕ) × (i < lanes) × (test (part_of grain lanes s i) ≡ true)
some_part grain lanes s test e = any_below-found (λ i. test (part_of grain lanes s i)) lanes (sym (any_listed test (part_of grain lanes s) lanes) ∙ e)

pub by_part : (grain : GrainSize) (lanes : ℕ) (s : Sheet) (test : Sheet → Bool) (i : ℕ) → i < lanes → test (part_of grain lanes s i) ≡ true → list_any test (parts_of grain lanes s) ≡ true
by_part grain lanes s test i lt e = any_listed test (part_of grain lanes s) lanes ∙ any_below-there (λ i. test (part_of grain lanes s i)) lanes i lt e

-- ---- readers

pub live_part : (l : LaneOf) → IsLane l → (slots : List Slot) (k : ℕ) → (slot_at (parts l slots) k).is_live ≡ (slot_at slots k).is_live
live_part l i slots k = ap (λ (z : Slot). z.is_live) (slot_parts l i slots k)

pub from_part : (l : LaneOf) → IsLane l → (slots : List Slot) (k h d : ℕ) → ReadsAt (parts l slots) k h d → ReadsAt slots k h d
from_part l i slots k h d r = record {
  grain = number_at l r.grain;
  there = (let n : length (parts l slots) ≡ length slots = count_parts l slots in let t = r.there in omega arith);
  is_live = sym (live_part l i slots d) ∙ r.is_live;
  other = r.other;
  reads = ap (λ (c : Column). holder c d) (sym (column_parts l i slots r.grain)) ∙ r.reads;
}

column_place : (grain : GrainSize) (lanes g : ℕ) (slots : List Slot) → 0 < lanes → column (parts (lane_of grain lanes (g % lanes)) slots) (g / lanes) ≡ column slots g
column_place grain lanes g slots above =
    let l : LaneOf = lane_of grain lanes (g % lanes) in
    column_parts l (mod_below g lanes above) slots (g / lanes) ∙ ap (column slots) (number_of_place l g refl)

pub in_part : (grain : GrainSize) (lanes : ℕ) (slots : List Slot) → 0 < lanes → (k h d : ℕ) → (r : ReadsAt slots k h d) → ReadsAt (parts (lane_of grain lanes (r.grain % lanes)) slots) k h d
in_part grain lanes slots above k h d r =
    let l : LaneOf = lane_of grain lanes (r.grain % lanes) in
    record {
      grain = r.grain / lanes;
      there = (let n : length (parts l slots) ≡ length slots = count_parts l slots in let t = r.there in omega arith);
      is_live = live_part l (mod_below r.grain lanes above) slots d ∙ r.is_live;
      other = r.other;
      reads = ap (λ (c : Column). holder c d) (column_place grain lanes r.grain slots above) ∙ r.reads;
    }

-- ---- the tests

abbrev reads_at : List Slot → ℕ → ℕ → ℕ → Bool
reads_at slots h k g = is_at (holder (column slots g) k) h

reads_in : (grain : GrainSize) (lanes : ℕ) (s : Sheet) → 0 < lanes → (h k : ℕ) → reads_some s.slots h k ≡ true → list_any (λ (p : Sheet). reads_some p.slots h k) (parts_of grain lanes s) ≡ true
reads_in grain lanes s above h k e =
    let f = any_below-found (reads_at s.slots h k) (length (slot_at s.slots k).held) e in
    let g : ℕ = f.0 in
    let l : LaneOf = lane_of grain lanes (g % lanes) in
    let lt : g % lanes < lanes = mod_below g lanes above in
    let n : length (slot_at (parts l s.slots) k).held ≡ grains_in l (length (slot_at s.slots k).held) = size_parts l lt s.slots k in
    let below : g / lanes < grains_in l (length (slot_at s.slots k).held) = grain_below l lt g (length (slot_at s.slots k).held) refl f.1 in
    by_part grain lanes s (λ (p : Sheet). reads_some p.slots h k) (g % lanes) lt
    (any_below-there (reads_at (parts l s.slots) h k) (length (slot_at (parts l s.slots) k).held) (g / lanes) (omega arith)
    (ap (λ (c : Column). is_at (holder c k) h) (column_place grain lanes g s.slots above) ∙ f.2))

reads_out : (l : LaneOf) → IsLane l → (slots : List Slot) (h k : ℕ) → reads_some (parts l slots) h k ≡ true → reads_some slots h k ≡ true
reads_out l i slots h k e =
    let f = any_below-found (reads_at (parts l slots) h k) (length (slot_at (parts l slots) k).held) e in
    let n : length (slot_at (parts l slots) k).held ≡ grains_in l (length (slot_at slots k).held) = size_parts l i slots k in
    let lt : f.0 < length (slot_at (parts l slots) k).held = f.1 in
    any_below-there (reads_at slots h k) (length (slot_at slots k).held) (number_at l f.0) (number_below l i f.0 (length (slot_at slots k).held) (omega arith))
    (ap (λ (c : Column). is_at (holder c k) h) (sym (column_parts l i slots f.0)) ∙ f.2)

reads_by_lanes : (grain : GrainSize) (lanes : ℕ) (s : Sheet) → 0 < lanes → (h k : ℕ) → reads_some s.slots h k ≡ list_any (λ (p : Sheet). reads_some p.slots h k) (parts_of grain lanes s)
reads_by_lanes grain lanes s above h k =
    same_when (reads_some s.slots h k) (list_any (λ (p : Sheet). reads_some p.slots h k) (parts_of grain lanes s))
    (reads_in grain lanes s above h k)
    (λ e. let f = some_part grain lanes s (λ (p : Sheet). reads_some p.slots h k) e in reads_out (lane_of grain lanes f.0) f.1 s.slots h k f.2)

-- a slot is direct where it may be and reads
may_part : (l : LaneOf) → IsLane l → (slots : List Slot) (k j : ℕ) → ((slot_at (parts l slots) j).is_live && not (eqb j k)) ≡ ((slot_at slots j).is_live && not (eqb j k))
may_part l i slots k j = ap (λ b. b && not (eqb j k)) (live_part l i slots j)

direct_by_lanes : (grain : GrainSize) (lanes : ℕ) (s : Sheet) → 0 < lanes → (k j : ℕ) → is_direct s.slots k j ≡ list_any (λ (p : Sheet). is_direct p.slots k j) (parts_of grain lanes s)
direct_by_lanes grain lanes s above k j =
    same_when (is_direct s.slots k j) (list_any (λ (p : Sheet). is_direct p.slots k j) (parts_of grain lanes s))
    (λ e. let both = and_parts ((slot_at s.slots j).is_live && not (eqb j k)) (reads_some s.slots k j) e in
    let f = some_part grain lanes s (λ (p : Sheet). reads_some p.slots k j) (reads_in grain lanes s above k j both.1) in
    by_part grain lanes s (λ (p : Sheet). is_direct p.slots k j) f.0 f.1
    (and_from ((slot_at (part_of grain lanes s f.0).slots j).is_live && not (eqb j k)) (reads_some (part_of grain lanes s f.0).slots k j) (may_part (lane_of grain lanes f.0) f.1 s.slots k j ∙ both.0) f.2))
    (λ e. let f = some_part grain lanes s (λ (p : Sheet). is_direct p.slots k j) e in
    let both = and_parts ((slot_at (part_of grain lanes s f.0).slots j).is_live && not (eqb j k)) (reads_some (part_of grain lanes s f.0).slots k j) f.2 in
    and_from ((slot_at s.slots j).is_live && not (eqb j k)) (reads_some s.slots k j) (sym (may_part (lane_of grain lanes f.0) f.1 s.slots k j) ∙ both.0) (reads_out (lane_of grain lanes f.0) f.1 s.slots k j both.1))

-- ---- mappings

mapping_in : (grain : GrainSize) (lanes : ℕ) (s : Sheet) → 0 < lanes → (m n : ℕ) → ReadsMapping s.slots m n → (i : ℕ) × (i < lanes) × ReadsMapping (part_of grain lanes s i).slots m n
mapping_in grain lanes s above m n r =
    let i : ℕ = r.reads.grain % lanes in
    let lt : i < lanes = mod_below r.reads.grain lanes above in (
      i,
      lt,
      record {
        from = r.from;
        reader = r.reader;
        from_there = mapping_parts (lane_of grain lanes i) lt s.slots m ∙ r.from_there;
        reader_there = mapping_parts (lane_of grain lanes i) lt s.slots n ∙ r.reader_there;
        reads = in_part grain lanes s.slots above r.from r.from r.reader r.reads;
      },
    )

pub mapping_out : (l : LaneOf) → IsLane l → (slots : List Slot) (m n : ℕ) → ReadsMapping (parts l slots) m n → ReadsMapping slots m n
mapping_out l i slots m n r = record {
  from = r.from;
  reader = r.reader;
  from_there = sym (mapping_parts l i slots m) ∙ r.from_there;
  reader_there = sym (mapping_parts l i slots n) ∙ r.reader_there;
  reads = from_part l i slots r.from r.from r.reader r.reads;
}

pub reads_law : (grain : GrainSize) (lanes : ℕ) (s : Sheet) → 0 < lanes → ReadsLaw grain lanes s
reads_law grain lanes s above = record {
  in_lane = λ k h d r. (r.grain % lanes, mod_below r.grain lanes above, in_part grain lanes s.slots above k h d r);
  from_lane = λ i k h d lt r. from_part (lane_of grain lanes i) lt s.slots k h d r;
  reads = reads_by_lanes grain lanes s above;
  direct = direct_by_lanes grain lanes s above;
  mapping_in_lane = mapping_in grain lanes s above;
  mapping_from_lane = λ i m n lt r. mapping_out (lane_of grain lanes i) lt s.slots m n r;
}
