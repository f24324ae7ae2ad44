-- Ranges that grow grain by grain, and what lanes hold of a slot.
use Rattle.std.proofs.Common.{◌≡◌, ℕ, zero, suc, ◌+◌, ◌<◌, ◌≤◌, ◌/◌, ◌%◌, Bool, true, false, cond, ◌&&◌, ◌||◌, Option, Some, None, List, [], ◌∷◌, ◌++◌, length, get_or, refl, sym, ap, subst, ◌∙◌, arith}
use Rattle.std.specs.Prelude.{slice_index_or, nat_le, ltb, eqb, IsSome, Result, Ok, Err, IfOk}
use Rattle.std.proofs.lemmas.List.Folds.{list_any-append}
use Rattle.fc_base.specs.Ranges.{IsRising, IsRisingFrom, StandsBehind, is_kept}
use Rattle.fc_base.specs.Sheet.{Slot, Sheet, slot_at, column, birth_place, mapping_place}
use Rattle.fc_base.specs.SheetView.{held_at, held_of}
use Rattle.fc_base.specs.declared.ids.SlotId.{SlotId}
use Rattle.fc_base.specs.declared.ranges.Range.{Range}
use Rattle.fc_lane_sheet.specs.HeldRanges.{held_by, with_last, CanGrow, IsGrown, AreFound, held_from}
use Rattle.fc_base.proofs.RangeLemmas.{IsRising-push}
use Rattle.std.proofs.lemmas.Bool.{both_ways, eqb-true, eq-eqb}
use Rattle.std.proofs.lemmas.Bool.Decides.{nat_tests}
use Rattle.std.proofs.lemmas.Nat.{mod_below}
use Rattle.fc_base.specs.Column.{holder}
use Rattle.fc_base.specs.declared.outcome.NoMemory.{NoMemory}
use Rattle.fc_base.specs.declared.size.GrainSize.{GrainSize}
use Rattle.fc_chain.specs.Chains.{Chains, IsThere, IsOfLane, in_lane, found}
use Rattle.fc_desk.proofs.Counting.{count_cons}
use Rattle.fc_lane.specs.Lane.{LaneView}
use Rattle.fc_moves.proofs.Readers.{holder_is, is_holder, own_holder}
use Rattle.fc_parts.proofs.Numbers.{part_at_grain}
use Rattle.fc_parts.proofs.Views.{count_parts, slot_parts}
use Rattle.fc_rules.specs.LaneTold.{LaneOf}
use Rattle.fc_sheets.proofs.Finding.{birth_place_at}
use Rattle.fc_sums.specs.Law.{SlotsLaw}
use Rattle.fc_sums.specs.Parts.{lane_of, part_of}
use Rattle.fc_sums.proofs.Lawful.{sum_law_holds}
use Rattle.fc_lane_sheet.specs.LaneSheet.{sheet_of, HaveSheet}
use Rattle.fc_lane_sheet.proofs.LaneSheets.{lane_part}
use Rattle.fc_lane_sheet.proofs.Readers.{HasPlace, there_in_lanes}

-- ---- one range behind others

abbrev range_has : ℕ → Range → Bool
range_has g range = nat_le range.first g && nat_le g range.last

kept_push : (ended : List Range) (last : Range) (g : ℕ) → is_kept (ended ++ last ∷ []) g ≡ (is_kept ended g || range_has g last)
kept_push ended last g = list_any-append (range_has g) ended (last ∷ []) ∙ ap (λ b. is_kept ended g || b) (or_none (range_has g last))
  where
    or_none : (b : Bool) → (b || false) ≡ b
    or_none true = refl
    or_none false = refl

-- a range behind one at the end of others
behind_last : (ended : List Range) (last next : Range) → last.last + 1 < next.first → next.first ≤ next.last → StandsBehind (ended ++ last ∷ []) next
behind_last [] last next gap full = (gap, full)
behind_last (a ∷ []) last next gap full = (gap, full)
behind_last (a ∷ b ∷ ended) last next gap full = behind_last (b ∷ ended) last next gap full

-- the one at the end of others stands behind them, and they rise; so does a longer one
from_behind : (before : Range) (ended : List Range) (last : Range) → IsRisingFrom before (ended ++ last ∷ []) → StandsBehind (before ∷ ended) last
from_behind before [] last rising = (rising.0, rising.1)
from_behind before (a ∷ ended) last rising = from_behind a ended last rising.2

pub end_behind : (ended : List Range) (last : Range) → IsRising (ended ++ last ∷ []) → StandsBehind ended last
end_behind [] last rising = rising.0
end_behind (a ∷ ended) last rising = from_behind a ended last rising.1

longer_from : (before : Range) (ended : List Range) (last : Range) (to : ℕ) → last.last ≤ to → IsRisingFrom before (ended ++ last ∷ []) → IsRisingFrom before (ended ++ record last { last = to } ∷ [])
longer_from before [] last to le rising = (rising.0, let full = rising.1 in omega arith, tt)
longer_from before (a ∷ ended) last to le rising = (rising.0, rising.1, longer_from a ended last to le rising.2)

longer : (ended : List Range) (last : Range) (to : ℕ) → last.last ≤ to → IsRising (ended ++ last ∷ []) → IsRising (ended ++ record last { last = to } ∷ [])
longer [] last to le rising = (let full = rising.0 in omega arith, tt)
longer (a ∷ ended) last to le rising = (rising.0, longer_from a ended last to le rising.1)

full_end : (ended : List Range) (last : Range) → StandsBehind ended last → last.first ≤ last.last
full_end [] last behind = behind
full_end (a ∷ []) last behind = behind.1
full_end (a ∷ b ∷ ended) last behind = full_end (b ∷ ended) last behind

-- ---- a grain more

or_assoc : (a b c : Bool) → (a || (b || c)) ≡ ((a || b) || c)
or_assoc true b c = refl
or_assoc false b c = refl

has_more : (first last to g : ℕ) → first ≤ last → last + 1 ≡ to → (nat_le first g && nat_le g to) ≡ ((nat_le first g && nat_le g last) || eqb g to)
has_more first last to g full next = grind (arith, nat_tests, full, next)

has_one : (to g : ℕ) → (nat_le to g && nat_le g to) ≡ eqb g to
has_one to g = grind (arith, nat_tests)

pub grown_longer : (ended : List Range) (last : Range) (grain : ℕ) → CanGrow grain ended (Some last) → last.last + 1 ≡ grain → IsGrown grain (ended ++ last ∷ []) ended (record last { last = grain })
grown_longer ended last grain can next =
    let full = full_end ended last (end_behind ended last can.rising) in
    record {
      rising = longer ended last grain (omega (arith, next)) can.rising;
      ends = refl;
      kept = λ g. (
          kept_push ended (record last { last = grain }) g
          ∙ (ap (λ b. is_kept ended g || b) (has_more last.first last.last grain g full next)
          ∙ (or_assoc (is_kept ended g) (range_has g last) (eqb g grain)
          ∙ ap (λ b. b || eqb g grain) (sym (kept_push ended last g)))));
    }

abbrev one : ℕ → Range
one grain = record { first = grain; last = grain }

pub grown_next : (ended : List Range) (last : Range) (grain : ℕ) → CanGrow grain ended (Some last) → (last.last + 1 ≡ grain → ⊥) → IsGrown grain (ended ++ last ∷ []) (ended ++ last ∷ []) (one grain)
grown_next ended last grain can apart =
    let before : last.last < grain = can.before in
    record {
      rising = IsRising-push (ended ++ last ∷ []) (one grain) can.rising (behind_last ended last (one grain) (omega (arith, before, apart)) (omega arith));
      ends = refl;
      kept = λ g. kept_push (ended ++ last ∷ []) (one grain) g ∙ ap (λ b. is_kept (ended ++ last ∷ []) g || b) (has_one grain g);
    }

pub grown_first : (ended : List Range) (grain : ℕ) → CanGrow grain ended None → IsGrown grain ended ended (one grain)
grown_first ended grain can =
    let P : List Range → Type 0 = λ z. IsGrown grain z z (one grain) in
    let none : ended ≡ [] = can.before in
    subst P (sym none) (record { rising = (omega arith, tt); ends = refl; kept = λ g. kept_push [] (one grain) g ∙ has_one grain g })

-- ---- past a grain

passed_bit : (b : Bool) (g grain : ℕ) (h : Bool) → (eqb g grain ≡ true → b ≡ h) → ((ltb g grain && b) || (h && eqb g grain)) ≡ (ltb g (grain + 1) && b)
passed_bit true g grain true e = grind (arith, nat_tests)
passed_bit false g grain false e = grind (arith, nat_tests)
passed_bit true g grain false e = grind (arith, nat_tests, e)
passed_bit false g grain true e = grind (arith, nat_tests, e)

later : (ended : List Range) (last : Option Range) (grain : ℕ) → CanGrow grain ended last → CanGrow (grain + 1) ended last
later ended None grain can = record { rising = can.rising; before = can.before }
later ended (Some last) grain can = record { rising = can.rising; before = let lt : last.last < grain = can.before in omega arith }

bit_at : (bits : List Bool) (grain : ℕ) (h : Bool) → h ≡ slice_index_or bits grain false → (g : ℕ) → eqb g grain ≡ true → slice_index_or bits g false ≡ h
bit_at bits grain h e g same = ap (λ z. slice_index_or bits z false) (eqb-true g grain same) ∙ sym e

or_false : (b : Bool) → b ≡ (b || false)
or_false true = refl
or_false false = refl

pub passed_free : (ended : List Range) (last : Option Range) (grain : ℕ) (held : Bool) → held ≡ false → (bits : List Bool) → AreFound bits grain ended last → held ≡ slice_index_or bits grain false → AreFound bits (grain + 1) ended last
passed_free ended last grain held free bits found here = record {
  can_grow = later ended last grain found.can_grow;
  kept = λ g. (
      found.kept g
      ∙ (or_false (ltb g grain && slice_index_or bits g false)
      ∙ passed_bit (slice_index_or bits g false) g grain false (bit_at bits grain false (sym free ∙ here) g)));
}

pub passed_held : (ended : List Range) (last : Option Range) (grain : ℕ) (held : Bool) (now : List Range) (range : Range) → held ≡ true → IsGrown grain (with_last ended last) now range →
    (bits : List Bool) → AreFound bits grain ended last → held ≡ slice_index_or bits grain false → AreFound bits (grain + 1) now (Some range)
passed_held ended last grain held now range is grown bits found here = record {
  can_grow = record { rising = grown.rising; before = omega (arith, grown.ends) };
  kept = λ g. (
      grown.kept g
      ∙ (ap (λ b. b || eqb g grain) (found.kept g)
      ∙ passed_bit (slice_index_or bits g false) g grain true (bit_at bits grain true (sym is ∙ here) g)));
}

-- ---- how many are left

none_from : (n : ℕ) → held_from [] n ≡ 0
none_from zero = refl
none_from (suc n) = refl

plus_none : (n : ℕ) → n ≡ 0 + n
plus_none n = omega arith

pub left_of : (bits : List Bool) (i : ℕ) → held_from bits i ≡ cond (slice_index_or bits i false) 1 0 + held_from bits (i + 1)
left_of [] zero = refl
left_of [] (suc i) = sym (none_from (suc i + 1)) ∙ plus_none (held_from [] (suc i + 1))
left_of (b ∷ bits) zero = count_cons (λ (x : Bool). x) b bits ∙ by b
  where
    by : (x : Bool) → cond x (suc (held_from bits 0)) (held_from bits 0) ≡ cond x 1 0 + held_from bits 0
    by true = omega arith
    by false = plus_none (held_from bits 0)
left_of (b ∷ bits) (suc i) =
    let next : suc (i + 1) ≡ suc i + 1 = omega arith in
    left_of bits i ∙ ap (λ n. cond (slice_index_or bits i false) 1 0 + held_from (b ∷ bits) n) next

none_left : (bits : List Bool) (i : ℕ) → held_from bits i ≡ 0 → (g : ℕ) → i ≤ g → slice_index_or bits g false ≡ false
none_left [] i none g le = refl
none_left (b ∷ bits) zero none zero le = by b (left_of (b ∷ bits) zero)
  where
    by : (x : Bool) → held_from (b ∷ bits) 0 ≡ cond x 1 0 + held_from bits 0 → x ≡ false
    by true e = absurd (omega (arith, none, e))
    by false e = refl
none_left (b ∷ bits) zero none (suc g) le = none_left bits zero (let e = left_of (b ∷ bits) zero in omega (arith, none, e)) g (omega arith)
none_left (b ∷ bits) (suc i) none zero le = absurd (omega (arith, le))
none_left (b ∷ bits) (suc i) none (suc g) le = none_left bits i none g (omega (arith, le))

pub found_none : (bits : List Bool) → AreFound bits 0 [] None
found_none bits = record { can_grow = record { rising = tt; before = refl }; kept = λ g. none g }
  where
    none : (g : ℕ) → false ≡ (ltb g 0 && slice_index_or bits g false)
    none g = grind (arith, nat_tests)

all_before : (bits : List Bool) (grain g : ℕ) → (grain ≤ g → slice_index_or bits g false ≡ false) → (ltb g grain && slice_index_or bits g false) ≡ slice_index_or bits g false
all_before bits grain g past = by (slice_index_or bits g false) past
  where
    by : (b : Bool) → (grain ≤ g → b ≡ false) → (ltb g grain && b) ≡ b
    by false e = grind (arith, nat_tests)
    by true e = grind (arith, nat_tests, e)

-- No grain is left: all are found.
pub all_found : (bits : List Bool) (grain : ℕ) (ended : List Range) (last : Option Range) → AreFound bits grain ended last → held_from bits grain ≡ 0 → (g : ℕ) → is_kept (with_last ended last) g ≡ slice_index_or bits g false
all_found bits grain ended last found none g = found.kept g ∙ all_before bits grain g (λ le. none_left bits grain none g le)

past_all : (bits : List Bool) (grain : ℕ) → length bits ≤ grain → held_from bits grain ≡ 0
past_all [] i le = none_from i
past_all (b ∷ bits) zero le = absurd (omega (arith, le))
past_all (b ∷ bits) (suc i) le = past_all bits i (omega (arith, le))

pub answered : (bits : List Bool) (grain : ℕ) (ended : List Range) (last : Option Range) → AreFound bits grain ended last → held_from bits grain ≡ 0 → (r : Result (List Range) NoMemory) →
    IfOk r (λ ranges. ranges ≡ with_last ended last) → IfOk r (λ ranges. (g : ℕ) → is_kept ranges g ≡ slice_index_or bits g false)
answered bits grain ended last found none (Ok ranges) e = λ g. ap (λ z. is_kept z g) e ∙ all_found bits grain ended last found none g
answered bits grain ended last found none (Err error) e = e

-- ---- what lanes hold

same_bit : (a b : Bool) → (a ≡ true → b ≡ true) → (b ≡ true → a ≡ true) → a ≡ b
same_bit true true f g = refl
same_bit false false f g = refl
same_bit true false f g = sym (f refl)
same_bit false true f g = g refl

-- a slot is its own holder where it holds the grain
abbrev pub has_holder : Option SlotId → ℕ → Bool
has_holder None name = false
has_holder (Some h) name = eqb h.0 name

own_named : (slots : List Slot) (k g name : ℕ) → ((a b : ℕ) → a < length slots → b < length slots → (slot_at slots a).birth ≡ (slot_at slots b).birth → a ≡ b) →
    k < length slots → (slot_at slots k).birth ≡ name → (o : Option ℕ) → holder (column slots g) k ≡ o → has_holder (found slots o) name ≡ slice_index_or (slot_at slots k).held g false
own_named slots k g name apart kl named None e =
    same_bit false (slice_index_or (slot_at slots k).held g false) (λ f. absurd (both_ways false refl f))
    (λ t. absurd (let q : Some k ≡ None = sym (is_holder (column slots g) k k (own_holder (column slots g) k t)) ∙ e in cc))
own_named slots k g name apart kl named (Some j) e =
    let i = holder_is (column slots g) k j e in
    same_bit (eqb (slot_at slots j).birth name) (slice_index_or (slot_at slots k).held g false)
    (λ t. (
    let same : j ≡ k = apart j k (omega (arith, i.before, kl)) kl (eqb-true _ _ t ∙ sym named) in
    ap (λ z. slice_index_or (slot_at slots z).held g false) (sym same) ∙ i.holds
    ))
    (λ t. (
    let q : Some j ≡ Some k = sym e ∙ is_holder (column slots g) k k (own_holder (column slots g) k t) in
    let same : j ≡ k = cc in
    eq-eqb _ _ (ap (λ z. (slot_at slots z).birth) same ∙ named)
    ))

part_holds : (grain : GrainSize) (lanes : ℕ) (s : Sheet) → 0 < lanes → (k g : ℕ) → slice_index_or (slot_at (part_of grain lanes s (g % lanes)).slots k).held (g / lanes) false ≡ slice_index_or (slot_at s.slots k).held g false
part_holds grain lanes s above k g =
    let l : LaneOf = lane_of grain lanes (g % lanes) in
    let lt : g % lanes < lanes = mod_below g lanes above in
    ap (λ (z : Slot). slice_index_or z.held (g / lanes) false) (slot_parts l lt s.slots k)
    ∙ part_at_grain l lt false (slot_at s.slots k).held g false refl

-- the lane of a grain answers for all
pub lane_answers : (lanes : List LaneView) → (h : HaveSheet lanes) → (name : SlotId) (g : ℕ) → IsThere (sheet_of lanes).slots name → (v : LaneView) (chains : Chains) → v ≡ get_or lanes (g % length lanes) v → chains ≡ v.chains →
    (r : Option SlotId) → ((k : ℕ) → birth_place chains.sheet.slots name.0 ≡ Some k → r ≡ found chains.sheet.slots (holder (column chains.sheet.slots (in_lane chains g)) k)) →
    has_holder r name.0 ≡ slice_index_or (held_by lanes name) g false
lane_answers lanes h name g there v chains at is r answer = by (birth_place s.slots name.0) refl there
  where
    s : Sheet
    s = sheet_of lanes

    n : ℕ
    n = length lanes

    lt : g % n < n
    lt = mod_below g n h.some

    p : Sheet
    p = part_of h.grain n s (g % n)

    law : SlotsLaw s p
    law = sum_law_holds.slots h.grain n (g % n) s lt

    sheet_is : chains.sheet ≡ p
    sheet_is = ap (λ (c : Chains). c.sheet) is ∙ (ap (λ (z : LaneView). z.chains.sheet) at ∙ lane_part lanes h (g % n) v lt)

    lanes_are : chains.lanes ≡ n
    lanes_are = ap (λ (c : Chains). c.lanes) is ∙ (ap (λ (z : LaneView). z.chains.lanes) at ∙ (h.in_order (g % n) v lt).1)

    apart : (a b : ℕ) → a < length p.slots → b < length p.slots → (slot_at p.slots a).birth ≡ (slot_at p.slots b).birth → a ≡ b
    apart a b al bl e =
        let count : length p.slots ≡ length s.slots = count_parts (lane_of h.grain n (g % n)) s.slots in
        let birth : (k : ℕ) → (slot_at p.slots k).birth ≡ (slot_at s.slots k).birth = λ k. ap (λ (x : SlotId). x.0) (law.name k) in
        h.sound.names.apart a b (omega (arith, al, count)) (omega (arith, bl, count)) (sym (birth a) ∙ (e ∙ birth b))

    by : (o : Option ℕ) → birth_place s.slots name.0 ≡ o → IsSome o → has_holder r name.0 ≡ slice_index_or (held_at s.slots o) g false
    by None e some = absurd cc
    by (Some k) e some =
        let in_part : birth_place p.slots name.0 ≡ Some k = law.names name.0 ∙ e in
        let f = birth_place_at p.slots name.0 k in_part in
        let told : r ≡ found chains.sheet.slots (holder (column chains.sheet.slots (g / chains.lanes)) k) = answer k (ap (λ (z : Sheet). birth_place z.slots name.0) sheet_is ∙ in_part) in
        let told_part : r ≡ found p.slots (holder (column p.slots (g / n)) k) = told
        ∙ (ap (λ (z : Sheet). found z.slots (holder (column z.slots (g / chains.lanes)) k)) sheet_is
        ∙ ap (λ z. found p.slots (holder (column p.slots (g / z)) k)) lanes_are) in
        ap (λ o. has_holder o name.0) told_part
        ∙ (own_named p.slots k (g / n) name.0 apart f.0 f.1 (holder (column p.slots (g / n)) k) refl
        ∙ part_holds h.grain n s h.some k g)

-- what `holder` asks
pub lane_of_grain : (lanes : List LaneView) → (h : HaveSheet lanes) → (name : SlotId) (g : ℕ) → IsThere (sheet_of lanes).slots name → (v : LaneView) (chains : Chains) → v ≡ get_or lanes (g % length lanes) v → chains ≡ v.chains →
    IsThere chains.sheet.slots name × IsOfLane chains g
lane_of_grain lanes h name g there v chains at is =
    let lt : g % length lanes < length lanes = mod_below g (length lanes) h.some in
    let place = some_of (birth_place (sheet_of lanes).slots name.0) there in
    let P : Chains → Type 0 = λ c. IsThere c.sheet.slots name in
    let Q : LaneView → Type 0 = λ z. IsThere z.chains.sheet.slots name in
    let order = h.in_order (g % length lanes) v lt in
    let lane_is : chains.lane ≡ g % length lanes = ap (λ (c : Chains). c.lane) is ∙ (ap (λ (z : LaneView). z.chains.lane) at ∙ order.0) in
    let lanes_are : chains.lanes ≡ length lanes = ap (λ (c : Chains). c.lanes) is ∙ (ap (λ (z : LaneView). z.chains.lanes) at ∙ order.1) in
    (subst P (sym is) (subst Q (sym at) (there_in_lanes lanes h name place.0 place.1 (g % length lanes) v lt)), ap (λ z. g % z) lanes_are ∙ sym lane_is)
  where
    some_of : (o : Option ℕ) → IsSome o → (k : ℕ) × (o ≡ Some k)
    some_of None some = absurd cc
    some_of (Some k) some = (k, refl)

-- ---- of a mapping

pub there_of : (s : Sheet) (name : SlotId) (m : ℕ) → HasPlace s name m → IsThere s.slots name
there_of s name m place = let P : Option ℕ → Type 0 = λ o. IsSome o in subst P (sym place.named) cc

pub same_held : (lanes : List LaneView) (name : SlotId) (m : ℕ) → HasPlace (sheet_of lanes) name m → held_by lanes name ≡ held_of (sheet_of lanes).slots m
same_held lanes name m place = ap (held_at (sheet_of lanes).slots) (place.named ∙ sym place.owned)

pub kept_answer : (bits others : List Bool) → bits ≡ others → (r : Result (List Range) NoMemory) → IfOk r (λ ranges. (g : ℕ) → is_kept ranges g ≡ slice_index_or bits g false) →
    IfOk r (λ ranges. (g : ℕ) → is_kept ranges g ≡ slice_index_or others g false)
kept_answer bits others e r answer =
    let P : List Bool → Type 0 = λ z. IfOk r (λ ranges. (g : ℕ) → is_kept ranges g ≡ slice_index_or z g false) in
    subst P e answer

pub kept_none : (slots : List Slot) (m : ℕ) → mapping_place slots m ≡ None → (ranges : List Range) → ranges ≡ [] → (g : ℕ) → is_kept ranges g ≡ slice_index_or (held_of slots m) g false
kept_none slots m none ranges e g = ap (λ z. is_kept z g) e ∙ sym (ap (λ o. slice_index_or (held_at slots o) g false) none)
