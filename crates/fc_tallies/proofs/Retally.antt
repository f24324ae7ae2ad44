-- The counts of the slots that a change of a volume's pairs touches, and that all others stay.
use Rattle.std.proofs.Common.{◌≡◌, ◌≢◌, ℕ, zero, suc, ◌+◌, ◌<◌, ◌≤◌, ◌^◌, Bool, true, false, not, ◌&&◌, ◌||◌, cond, eqb, Option, Some, is_some, List, [], ◌∷◌, length, get_or, set, map, refl, sym, ap, subst, ◌∙◌, arith, inl, inr, add-zero, get_or-set_same}
use Rattle.std.proofs.lemmas.Bool.{cases_Bool, both_ways, cases_eq, eqb-false, eq-eqb, ne_eqb, and_left, and_right, or_parts, not_from_true, false_from_ne_true}
use Rattle.fc_base.specs.Column.{Column, needer, is_at}
use Rattle.fc_base.specs.Sheet.{Slot, slot_at, shape_of, column, live_place}
use Rattle.fc_base.specs.SheetStep.{grain_taken, grain_kept, grain_lost}
use Rattle.fc_base.specs.SheetFits.{FitsTaken, FitsLost}
use Rattle.fc_base.specs.Counts.{count_below, is_needed_at}
use Rattle.fc_base.specs.RestoreGraph.{HasOneLive}
use Rattle.fc_tallies.specs.Tallies.{tally_of, tally_at, but, tally_but, is_touched, AreTalliesBut, live_holder, holder_at, AreOneSize, Countable}
use Rattle.fc_slots.specs.Contiguous.{IsContiguous}
use Rattle.fc_tallies.specs.declared.tally.Tally.{Tally}
use Rattle.fc_moves.proofs.Readers.{is_holder, reader_is}
use Rattle.fc_sheets.proofs.Finding.{at_from, live_place_is}
use Rattle.fc_sheets.proofs.Holding.{at_map, IsBit, regrained}
use Rattle.fc_tallies.proofs.Needs.{held_below, some_at}
use Rattle.fc_slots.proofs.Finds.{read_at}
use Rattle.fc_events.proofs.Together.{map_together}
use Rattle.fc_tallies.proofs.Tallying.{count_same, count_le}
use Rattle.fc_tallies.proofs.Direct.{count_set_below}
use Rattle.fc_sheets.proofs.Columns.{column_map, column_elsewhere}
use Rattle.fc_tallies.proofs.Touched.{Change, IsUntouched, same_need, with_pairs}

-- ---- a count is that without one number and that number

but_other : (test : ℕ → Bool) (g i : ℕ) → i ≢ g → test i ≡ but test g i
but_other test g i ne = sym (ap (λ b. test i && not b) (ne_eqb i g ne) ∙ and_true (test i))
  where
    and_true : (b : Bool) → (b && true) ≡ b
    and_true true = refl
    and_true false = refl

but_here : (test : ℕ → Bool) (g i : ℕ) → i ≡ g → but test g i ≡ false
but_here test g i e = and_right (test i) _ (not_from_true _ (eq-eqb i g e))

cond_sum : (b : Bool) (x y : ℕ) → cond b (x + y + 1) (x + y) ≡ cond b (x + 1) x + y
cond_sum true x y = omega arith
cond_sum false x y = refl

but_below : (test : ℕ → Bool) (g n : ℕ) → g < n → count_below test n ≡ count_below (but test g) n + cond (test g) 1 0
but_below test g zero lt = absurd (omega arith)
but_below test g (suc n) lt =
    elim (cases_eq g n) [
      | inl same ↦
          let below : count_below test n ≡ count_below (but test g) n = count_same test (but test g) n (λ i il. but_other test g i (λ e. omega arith)) in
          let off : but test g n ≡ false = but_here test g n (sym same) in
          let l : count_below test (suc n) ≡ cond (test n) (count_below (but test g) n + 1) (count_below (but test g) n) = ap (λ x. cond (test n) (x + 1) x) below in
          let r : count_below (but test g) (suc n) ≡ count_below (but test g) n = ap (λ b. cond b (count_below (but test g) n + 1) (count_below (but test g) n)) off in
          l ∙ (as_sum (test n) (count_below (but test g) n) ∙ (ap (λ z. count_below (but test g) n + cond (test z) 1 0) (sym same) ∙ ap (λ z. z + cond (test g) 1 0) (sym r)))
      | inr ne ↦
          let ih : count_below test n ≡ count_below (but test g) n + cond (test g) 1 0 = but_below test g n (omega arith) in
          let on : test n ≡ but test g n = but_other test g n (λ e. ne (sym e)) in
          ap (λ x. cond (test n) (x + 1) x) ih ∙ (ap (λ b. cond b (count_below (but test g) n + cond (test g) 1 0 + 1) (count_below (but test g) n + cond (test g) 1 0)) on
          ∙ cond_sum (but test g n) (count_below (but test g) n) (cond (test g) 1 0))
    ]
  where
    as_sum : (b : Bool) (x : ℕ) → cond b (x + 1) x ≡ x + cond b 1 0
    as_sum true x = refl
    as_sum false x = sym (add-zero x)

pub but_count : (test : ℕ → Bool) (g n : ℕ) → (test g ≡ true → g < n) → count_below test n ≡ count_below (but test g) n + cond (test g) 1 0
but_count test g n f =
    elim (cases_Bool (test g)) [
      | inl t ↦ but_below test g n (f t)
      | inr off ↦
          let none : cond {A = ℕ} (test g) 1 0 ≡ 0 = ap (λ b. cond {A = ℕ} b 1 0) off in
          let same : count_below test n ≡ count_below (but test g) n = count_same test (but test g) n (λ i il. elim (cases_eq i g) [
            | inl e ↦ (ap test e ∙ off) ∙ sym (but_here test g i e)
            | inr ne ↦ but_other test g i ne
          ]) in
          omega arith
    ]

-- ---- a slot's counts

pub needed_below : (slots : List Slot) (k g : ℕ) → is_needed_at slots k g ≡ true → g < length (slot_at slots k).held
needed_below slots k g e =
    let a = some_at (needer (column slots g) k) e in
    let r = reader_is (column slots g) k k a.0 a.1 in
    held_below (slot_at slots k).held g r.reads.holds

pub held_part : (slots : List Slot) (k g : ℕ) → (tally_of slots k).held ≡ (tally_but slots g k).held + cond (get_or (slot_at slots k).held g false) 1 0
held_part slots k g =
    count_set_below (slot_at slots k).held ∙ but_count (λ i. get_or (slot_at slots k).held i false) g (length (slot_at slots k).held) (held_below (slot_at slots k).held g)

pub needed_part : (slots : List Slot) (k g : ℕ) → (tally_of slots k).needed ≡ (tally_but slots g k).needed + cond (is_needed_at slots k g) 1 0
needed_part slots k g = but_count (is_needed_at slots k) g (length (slot_at slots k).held) (needed_below slots k g)

pub tally_parts : (h n h' n' : ℕ) → h ≡ h' → n ≡ n' → (let s : Tally = record { held = h; needed = n } in s) ≡ record { held = h'; needed = n' }
tally_parts h n h' n' e q = ap (λ z. let s : Tally = record { held = z; needed = n } in s) e ∙ ap (λ z. let s : Tally = record { held = h'; needed = z } in s) q

-- ---- a change of pairs

size_map : (f : Slot → Slot) (g : ℕ) → IsBit f g → (slots : List Slot) (k : ℕ) → length (slot_at (map f slots) k).held ≡ length (slot_at slots k).held
size_map f g b slots k = ap (λ (t : Slot). length t.held) (at_map f slots k b.none) ∙ (regrained f g b).size (slot_at slots k)

count_at : (test : ℕ → Bool) (m n : ℕ) → m ≡ n → count_below test m ≡ count_below test n
count_at test m n e = ap (count_below test) e

but_same : (test other : ℕ → Bool) (g i : ℕ) → (i ≢ g → test i ≡ other i) → but test g i ≡ but other g i
but_same test other g i f =
    elim (cases_eq i g) [
      | inl e ↦ but_here test g i e ∙ sym (but_here other g i e)
      | inr ne ↦ ap (λ b. b && not (eqb i g)) (f ne)
    ]

-- what the other grains say stays
pub tally_but_same : (f : Slot → Slot) (g : ℕ) → IsBit f g → (slots : List Slot) (k : ℕ) → tally_but (map f slots) g k ≡ tally_but slots g k
tally_but_same f g b slots k =
    let new : List Slot = map f slots in
    let size : length (slot_at new k).held ≡ length (slot_at slots k).held = size_map f g b slots k in
    let col : (i : ℕ) → i ≢ g → column new i ≡ column slots i = λ i ne. column_elsewhere f g i b ne slots in
    tally_parts _ _ _ _
    (count_at _ _ _ size ∙ count_same (but (λ i. get_or (slot_at new k).held i false) g) (but (λ i. get_or (slot_at slots k).held i false) g) (length (slot_at slots k).held)
    (λ i lt. but_same (λ j. get_or (slot_at new k).held j false) (λ j. get_or (slot_at slots k).held j false) g i (λ ne. ap (λ (c : Column). c.held k) (col i ne))))
    (count_at _ _ _ size ∙ count_same (but (is_needed_at new k) g) (but (is_needed_at slots k) g) (length (slot_at slots k).held)
    (λ i lt. but_same (is_needed_at new k) (is_needed_at slots k) g i (λ ne. ap (λ (c : Column). is_some (needer c k)) (col i ne))))

-- the pairs at the grain after the change
abbrev pub pairs_after : (Slot → Slot) → ℕ → List Slot → ℕ → Bool
pairs_after f g slots j = get_or (f (slot_at slots j)).held g false

column_after : (f : Slot → Slot) (g : ℕ) → IsBit f g → (slots : List Slot) → column (map f slots) g ≡ with_pairs (column slots g) (pairs_after f g slots)
column_after f g b slots = column_map f g b slots (pairs_after f g slots) (λ j. refl)

pub untouched_same : (f : Slot → Slot) (g v : ℕ) → IsBit f g → (slots : List Slot) (k : ℕ) → Change (column slots g) (pairs_after f g slots) v → IsUntouched (column slots g) v k →
    tally_of (map f slots) k ≡ tally_of slots k
untouched_same f g v b slots k ch u =
    let new : List Slot = map f slots in
    let rest : tally_but new g k ≡ tally_but slots g k = tally_but_same f g b slots k in
    let col = column_after f g b slots in
    let held : get_or (slot_at new k).held g false ≡ get_or (slot_at slots k).held g false = ap (λ (c : Column). c.held k) col ∙ ch.other k u.apart in
    let need : is_needed_at new k g ≡ is_needed_at slots k g = ap (λ (c : Column). is_some (needer c k)) col ∙ same_need (column slots g) (pairs_after f g slots) v k ch u in
    tally_parts _ _ _ _
    (held_part new k g ∙ (ap (λ (t : Tally). t.held + cond (get_or (slot_at new k).held g false) 1 0) rest ∙ (ap (λ x. (tally_but slots g k).held + cond x 1 0) held ∙ sym (held_part slots k g))))
    (needed_part new k g ∙ (ap (λ (t : Tally). t.needed + cond (is_needed_at new k g) 1 0) rest ∙ (ap (λ x. (tally_but slots g k).needed + cond x 1 0) need ∙ sym (needed_part slots k g))))

-- ---- who is touched

touched_map : (f : Slot → Slot) (g : ℕ) → IsBit f g → (slots : List Slot) (v : ℕ) (o : Option ℕ) (k : ℕ) → is_touched (map f slots) v o k ≡ is_touched slots v o k
touched_map f g b slots v o k = ap (λ x. eqb x v || is_at o k) (ap (λ (t : Slot). t.volume) (at_map f slots k b.none) ∙ (regrained f g b).volume (slot_at slots k))

pub untouched_is : (slots : List Slot) (g v k : ℕ) → HasOneLive (shape_of slots) → is_touched slots v (live_holder slots g v) k ≡ false → IsUntouched (column slots g) v k
untouched_is slots g v k one e =
    let p = or_parts (eqb (slot_at slots k).volume v) _ e in
    record {
      apart = eqb-false _ _ p.0;
      unread = λ j jl live same i.
          let place : live_place slots v ≡ Some j = live_place_is slots v j one (record { there = jl; is_live = live; of_volume = same }) in
          let is : live_holder slots g v ≡ Some k = ap (holder_at slots g) place ∙ is_holder (column slots g) j k i in
          both_ways (is_at (live_holder slots g v) k) p.1 (at_from (live_holder slots g v) k is);
    }

pub still_tallied : (f : Slot → Slot) (g v : ℕ) → IsBit f g → (slots : List Slot) (o : Option ℕ) (tallies : List Tally) → HasOneLive (shape_of slots) → o ≡ live_holder slots g v → Change (column slots g) (pairs_after f g slots) v →
    AreTalliesBut slots g v o tallies → AreTalliesBut (map f slots) g v o tallies
still_tallied f g v b slots o tallies one e ch t k kl =
    let new : List Slot = map f slots in
    let c : length new ≡ length slots = length_map f slots in
    let old : tally_at tallies k ≡ cond (is_touched slots v o k) (tally_but slots g k) (tally_of slots k) = t k (omega arith) in
    let same : cond (is_touched slots v o k) (tally_but slots g k) (tally_of slots k) ≡ cond (is_touched slots v o k) (tally_but new g k) (tally_of new k) =
    elim (cases_Bool (is_touched slots v o k)) [
      | inl y ↦ ap (λ z. cond z (tally_but slots g k) (tally_of slots k)) y ∙ (sym (tally_but_same f g b slots k) ∙ sym (ap (λ z. cond z (tally_but new g k) (tally_of new k)) y))
      | inr n ↦
          let u = untouched_is slots g v k one (ap (λ z. is_touched slots v z k) (sym e) ∙ n) in
          ap (λ z. cond z (tally_but slots g k) (tally_of slots k)) n ∙ (sym (untouched_same f g v b slots k ch u) ∙ sym (ap (λ z. cond z (tally_but new g k) (tally_of new k)) n))
    ] in
    old ∙ (same ∙ ap (λ z. cond z (tally_but new g k) (tally_of new k)) (sym (touched_map f g b slots v o k)))
  where
    length_map : (f : Slot → Slot) (ts : List Slot) → length (map f ts) ≡ length ts
    length_map f [] = refl
    length_map f (t ∷ ts) = ap suc (length_map f ts)

-- ---- the three changes

set_false : (held : List Bool) (g : ℕ) → get_or (set held g false) g false ≡ false
set_false [] g = refl
set_false (b ∷ bs) zero = refl
set_false (b ∷ bs) (suc g) = set_false bs g

set_on : (held : List Bool) (g : ℕ) (b : Bool) → b ≡ true → g < length held → get_or (set held g b) g false ≡ true
set_on held g b e lt = get_or-set_same held g b false lt ∙ e

taken_off : (v g : ℕ) (t : Slot) → t.volume ≢ v → grain_taken v g t ≡ t
taken_off v g t ne = rw (ne_eqb t.volume v ne) refl

taken_on : (v g : ℕ) (t : Slot) → t.volume ≡ v → grain_taken v g t ≡ record t { held = set t.held g t.is_live }
taken_on v g t e = rw (eq-eqb t.volume v e) refl

abbrev pair : ℕ → Slot → Bool
pair g t = get_or t.held g false

pub change_taken : (slots : List Slot) (v g : ℕ) → AreOneSize slots → FitsTaken slots v g → Change (column slots g) (pairs_after (grain_taken v g) g slots) v
change_taken slots v g sizes fits = record {
  other = λ j ne. ap (pair g) (taken_off v g (slot_at slots j) ne);
  live_keeps = λ j live has. elim (cases_eq (slot_at slots j).volume v) [
    | inr ne ↦ ap (pair g) (taken_off v g (slot_at slots j) ne) ∙ has
    | inl same ↦ ap (pair g) (taken_on v g (slot_at slots j) same) ∙ set_on (slot_at slots j).held g (slot_at slots j).is_live live (held_below (slot_at slots j).held g has)
  ];
  old_loses = λ j old has. elim (cases_eq (slot_at slots j).volume v) [
    | inr ne ↦ sym (ap (pair g) (taken_off v g (slot_at slots j) ne)) ∙ has
    | inl same ↦ absurd (both_ways _ (ap (pair g) (taken_on v g (slot_at slots j) same) ∙ (ap (λ b. get_or (set (slot_at slots j).held g b) g false) old ∙ set_false (slot_at slots j).held g)) has)
  ];
  fits = λ a x al live i old lost. elim (cases_eq (slot_at slots x).volume v) [
    | inr ne ↦ absurd (both_ways _ lost (ap (pair g) (taken_off v g (slot_at slots x) ne) ∙ i.holds))
    | inl same ↦
        let own : (slot_at slots a).volume ≡ v = fits a x al live (is_holder (column slots g) a x i) old same in
        let before : x ≤ a = i.before in
        let below : g < length (slot_at slots x).held = held_below (slot_at slots x).held g i.holds in
        let size : length (slot_at slots x).held ≡ length (slot_at slots a).held = sizes x a (omega arith) al i.one_chain in
        ap (pair g) (taken_on v g (slot_at slots a) own) ∙ set_on (slot_at slots a).held g (slot_at slots a).is_live live (omega arith)
  ];
}

kept_off : (v g : ℕ) (t : Slot) → (t.is_live && eqb t.volume v) ≡ false → grain_kept v g t ≡ t
kept_off v g t e = rw e refl

kept_on : (v g : ℕ) (t : Slot) → (t.is_live && eqb t.volume v) ≡ true → grain_kept v g t ≡ record t { held = set t.held g true }
kept_on v g t e = rw e refl

kept_holds : (v g : ℕ) (t : Slot) → pair g t ≡ true → pair g (grain_kept v g t) ≡ true
kept_holds v g t has =
    elim (cases_Bool (t.is_live && eqb t.volume v)) [
      | inl y ↦ ap (pair g) (kept_on v g t y) ∙ set_on t.held g true refl (held_below t.held g has)
      | inr n ↦ ap (pair g) (kept_off v g t n) ∙ has
    ]

pub change_kept : (slots : List Slot) (v g : ℕ) → Change (column slots g) (pairs_after (grain_kept v g) g slots) v
change_kept slots v g = record {
  other = λ j ne. ap (pair g) (kept_off v g (slot_at slots j) (and_right (slot_at slots j).is_live _ (ne_eqb _ _ ne)));
  live_keeps = λ j live has. kept_holds v g (slot_at slots j) has;
  old_loses = λ j old has. sym (ap (pair g) (kept_off v g (slot_at slots j) (and_left _ _ old))) ∙ has;
  fits = λ a x al live i old lost. absurd (both_ways _ lost (kept_holds v g (slot_at slots x) i.holds));
}

lost_off : (v g : ℕ) (t : Slot) → (not t.is_live && eqb t.volume v) ≡ false → grain_lost v g t ≡ t
lost_off v g t e = rw e refl

lost_on : (v g : ℕ) (t : Slot) → (not t.is_live && eqb t.volume v) ≡ true → grain_lost v g t ≡ record t { held = set t.held g false }
lost_on v g t e = rw e refl

pub change_lost : (slots : List Slot) (v g : ℕ) → FitsLost slots v g → Change (column slots g) (pairs_after (grain_lost v g) g slots) v
change_lost slots v g fits = record {
  other = λ j ne. ap (pair g) (lost_off v g (slot_at slots j) (and_right (not (slot_at slots j).is_live) _ (ne_eqb _ _ ne)));
  live_keeps = λ j live has. ap (pair g) (lost_off v g (slot_at slots j) (and_left _ _ (not_from_true _ live))) ∙ has;
  old_loses = λ j old has. elim (cases_Bool (not (slot_at slots j).is_live && eqb (slot_at slots j).volume v)) [
    | inr n ↦ sym (ap (pair g) (lost_off v g (slot_at slots j) n)) ∙ has
    | inl y ↦ absurd (both_ways _ (ap (pair g) (lost_on v g (slot_at slots j) y) ∙ set_false (slot_at slots j).held g) has)
  ];
  fits = λ a x al live i old lost. elim (cases_eq (slot_at slots x).volume v) [
    | inr ne ↦ absurd (both_ways _ lost (ap (pair g) (lost_off v g (slot_at slots x) (and_right (not (slot_at slots x).is_live) _ (ne_eqb _ _ ne))) ∙ i.holds))
    | inl same ↦ absurd (fits a x al live (is_holder (column slots g) a x i) old same)
  ];
}

-- ---- one slot, by what is read

read_held : (slots : List Slot) (k g : ℕ) (t : Slot) (b : Bool) → k < length slots → t ≡ get_or slots k t → b ≡ get_or t.held g false → b ≡ get_or (slot_at slots k).held g false
read_held slots k g t b lt e q = q ∙ ap (λ (x : Slot). get_or x.held g false) (sym (read_at slots k t lt e))

pub held_counted : (slots : List Slot) (k g : ℕ) (t : Slot) (tally : Tally) (b : Bool) → k < length slots → t ≡ get_or slots k t → tally ≡ tally_of slots k → b ≡ get_or t.held g false → b ≡ true → 0 < tally.held
held_counted slots k g t tally b lt e q h on =
    let x : tally.held ≡ (tally_but slots g k).held + cond (get_or (slot_at slots k).held g false) 1 0 = ap (λ (z : Tally). z.held) q ∙ held_part slots k g in
    let y : cond {A = ℕ} (get_or (slot_at slots k).held g false) 1 0 ≡ 1 = ap (λ z. cond {A = ℕ} z 1 0) (sym (read_held slots k g t b lt e h) ∙ on) in
    omega arith

pub needed_counted : (slots : List Slot) (k g : ℕ) (tally : Tally) (b : Bool) → tally ≡ tally_of slots k → b ≡ is_needed_at slots k g → b ≡ true → 0 < tally.needed
needed_counted slots k g tally b q h on =
    let x : tally.needed ≡ (tally_but slots g k).needed + cond (is_needed_at slots k g) 1 0 = ap (λ (z : Tally). z.needed) q ∙ needed_part slots k g in
    let y : cond {A = ℕ} (is_needed_at slots k g) 1 0 ≡ 1 = ap (λ z. cond {A = ℕ} z 1 0) (sym h ∙ on) in
    omega arith

pub without_is : (slots : List Slot) (k g : ℕ) (t : Slot) (tally : Tally) (a b : Bool) (h n : ℕ) → k < length slots → t ≡ get_or slots k t → tally ≡ tally_of slots k → a ≡ get_or t.held g false → b ≡ is_needed_at slots k g →
    h + cond a 1 0 ≡ tally.held → n + cond b 1 0 ≡ tally.needed → (let s : Tally = record { held = h; needed = n } in s) ≡ tally_but slots g k
without_is slots k g t tally a b h n lt e q p r x y =
    let u : h + cond a 1 0 ≡ (tally_but slots g k).held + cond a 1 0 = x ∙ (ap (λ (z : Tally). z.held) q ∙ (held_part slots k g ∙ ap (λ z. (tally_but slots g k).held + cond z 1 0) (sym (read_held slots k g t a lt e p)))) in
    let v : n + cond b 1 0 ≡ (tally_but slots g k).needed + cond b 1 0 = y ∙ (ap (λ (z : Tally). z.needed) q ∙ (needed_part slots k g ∙ ap (λ z. (tally_but slots g k).needed + cond z 1 0) (sym r))) in
    tally_parts h n _ _ (omega arith) (omega arith)

pub with_is : (slots : List Slot) (k g : ℕ) (t : Slot) (tally : Tally) (a b : Bool) (h n : ℕ) → k < length slots → t ≡ get_or slots k t → tally ≡ tally_but slots g k → a ≡ get_or t.held g false → b ≡ is_needed_at slots k g →
    h ≡ tally.held + cond a 1 0 → n ≡ tally.needed + cond b 1 0 → (let s : Tally = record { held = h; needed = n } in s) ≡ tally_of slots k
with_is slots k g t tally a b h n lt e q p r x y =
    tally_parts h n _ _
    (x ∙ (ap (λ (z : Tally). z.held + cond a 1 0) q ∙ (ap (λ z. (tally_but slots g k).held + cond z 1 0) (read_held slots k g t a lt e p) ∙ sym (held_part slots k g))))
    (y ∙ (ap (λ (z : Tally). z.needed + cond b 1 0) q ∙ (ap (λ z. (tally_but slots g k).needed + cond z 1 0) r ∙ sym (needed_part slots k g))))

-- a count is at most the slot's grains
pub held_fits : (slots : List Slot) (k g : ℕ) (t u : Slot) (tally : Tally) (a : Bool) (n : ℕ) → k < length slots → t ≡ get_or slots k t → u ≡ get_or slots k u → tally ≡ tally_but slots g k → a ≡ get_or u.held g false → n ≡ length t.held → n < 2 ^ 32 → tally.held + cond a 1 0 < 2 ^ 32
held_fits slots k g t u tally a n lt e f q p en few =
    let x : tally.held + cond a 1 0 ≡ (tally_of slots k).held = ap (λ (z : Tally). z.held + cond a 1 0) q ∙ (ap (λ z. (tally_but slots g k).held + cond z 1 0) (read_held slots k g u a lt f p) ∙ sym (held_part slots k g)) in
    let y : (tally_of slots k).held ≡ count_below (λ i. get_or (slot_at slots k).held i false) (length (slot_at slots k).held) = count_set_below (slot_at slots k).held in
    let z : count_below (λ i. get_or (slot_at slots k).held i false) (length (slot_at slots k).held) ≤ length (slot_at slots k).held = count_le (λ i. get_or (slot_at slots k).held i false) (length (slot_at slots k).held) in
    let w : length (slot_at slots k).held ≡ n = ap (λ (s : Slot). length s.held) (read_at slots k t lt e) ∙ sym en in
    omega arith

pub needed_fits : (slots : List Slot) (k g : ℕ) (t : Slot) (tally : Tally) (b : Bool) (n : ℕ) → k < length slots → t ≡ get_or slots k t → tally ≡ tally_but slots g k → b ≡ is_needed_at slots k g → n ≡ length t.held → n < 2 ^ 32 → tally.needed + cond b 1 0 < 2 ^ 32
needed_fits slots k g t tally b n lt e q r en few =
    let x : tally.needed + cond b 1 0 ≡ (tally_of slots k).needed = ap (λ (z : Tally). z.needed + cond b 1 0) q ∙ (ap (λ z. (tally_but slots g k).needed + cond z 1 0) r ∙ sym (needed_part slots k g)) in
    let z : (tally_of slots k).needed ≤ length (slot_at slots k).held = count_le (is_needed_at slots k) (length (slot_at slots k).held) in
    let w : length (slot_at slots k).held ≡ n = ap (λ (s : Slot). length s.held) (read_at slots k t lt e) ∙ sym en in
    omega arith

off_past : (slots : List Slot) (k g : ℕ) (b : Bool) → length (slot_at slots k).held ≤ g → (b ≡ true → g < length (slot_at slots k).held) → b ≡ false
off_past slots k g b past f = false_from_ne_true b (λ e. let lt : g < length (slot_at slots k).held = f e in omega arith)

pub past_same : (slots : List Slot) (k g : ℕ) (t : Slot) (tally : Tally) (n : ℕ) → k < length slots → t ≡ get_or slots k t → n ≡ length t.held → n ≤ g → tally ≡ tally_but slots g k → tally ≡ tally_of slots k
past_same slots k g t tally n lt e en le q =
    let w : length (slot_at slots k).held ≡ n = ap (λ (s : Slot). length s.held) (read_at slots k t lt e) ∙ sym en in
    let past : length (slot_at slots k).held ≤ g = omega arith in
    let a : get_or (slot_at slots k).held g false ≡ false = off_past slots k g _ past (held_below (slot_at slots k).held g) in
    let b : is_needed_at slots k g ≡ false = off_past slots k g _ past (needed_below slots k g) in
    let x : (tally_of slots k).held ≡ (tally_but slots g k).held + 0 = held_part slots k g ∙ ap (λ z. (tally_but slots g k).held + cond z 1 0) a in
    let y : (tally_of slots k).needed ≡ (tally_but slots g k).needed + 0 = needed_part slots k g ∙ ap (λ z. (tally_but slots g k).needed + cond z 1 0) b in
    q ∙ sym (tally_parts _ _ (tally_but slots g k).held (tally_but slots g k).needed (x ∙ add-zero _) (y ∙ add-zero _))

-- ---- the whole change

pub together_of : (slots now : List Slot) → now ≡ slots → Countable slots → IsContiguous now
together_of slots now e c = subst (λ (z : List Slot). IsContiguous z) (sym e) c.together

pub together_after : (f : Slot → Slot) (g : ℕ) → IsBit f g → (slots now : List Slot) → now ≡ map f slots → Countable slots → IsContiguous now
together_after f g b slots now e c = subst (λ (z : List Slot). IsContiguous z) (sym e) (map_together f (regrained f g b) slots c.together)

pub tallied_after : (f : Slot → Slot) (g v : ℕ) → IsBit f g → (slots first before after : List Slot) (o : Option ℕ) (w h : ℕ) (tallies : List Tally) → Countable slots → Change (column slots g) (pairs_after f g slots) v →
    first ≡ slots → before ≡ slots → after ≡ map f slots → w ≡ v → h ≡ g → o ≡ live_holder first g v → AreTalliesBut before h w o tallies → AreTalliesBut after h w o tallies
tallied_after f g v b slots first before after o w h tallies c ch ef eb ea ew eh eo t =
    let P : List Slot → Type 0 = λ z. AreTalliesBut z h w o tallies in
    let t1 : AreTalliesBut slots h w o tallies = subst P eb t in
    let t2 : AreTalliesBut slots g w o tallies = subst (λ (z : ℕ). AreTalliesBut slots z w o tallies) eh t1 in
    let t3 : AreTalliesBut slots g v o tallies = subst (λ (z : ℕ). AreTalliesBut slots g z o tallies) ew t2 in
    let holder : o ≡ live_holder slots g v = eo ∙ ap (λ (z : List Slot). live_holder z g v) ef in
    let u3 : AreTalliesBut (map f slots) g v o tallies = still_tallied f g v b slots o tallies c.one_live holder ch t3 in
    let u2 : AreTalliesBut (map f slots) g w o tallies = subst (λ (z : ℕ). AreTalliesBut (map f slots) g z o tallies) (sym ew) u3 in
    let u1 : AreTalliesBut (map f slots) h w o tallies = subst (λ (z : ℕ). AreTalliesBut (map f slots) z w o tallies) (sym eh) u2 in
    subst P (sym ea) u1
