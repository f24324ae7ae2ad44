-- What a move, a write and a torn write do to the sheet seen at one grain.
use mathlib.Core.Path.{fun_ext}
use Rattle.std.proofs.Common.{◌≡◌, ◌≢◌, ℕ, zero, suc, ◌<◌, Bool, true, false, not, ◌&&◌, ◌||◌, eqb, Some, List, [], ◌∷◌, length, get_or, set, map, refl, sym, ap, ◌∙◌, arith, inl, inr, get_or-set_same, get_or-set_other}
use Rattle.std.proofs.lemmas.Bool.{cases_Bool, both_ways, cases_eq, eqb-true, eq-eqb, ne_eqb, and_from, and_parts, and_left, and_right, or_left, not_from_true, not_from_false}
use Rattle.fc_base.specs.declared.request.Side.{Side}
use Rattle.fc_base.specs.declared.request.Side.TheVariants.{Now, Under}
use Rattle.fc_base.specs.Column.{Shape, Column, is_old_of}
use Rattle.fc_base.specs.Sheet.{Slot, Sheet, slot_at, shape_of, column, live_place}
use Rattle.fc_base.specs.SheetStep.{grain_taken, grain_kept, grain_lost, sheet_moved, sheet_written, sheet_torn}
use Rattle.fc_base.specs.Moves.{taken, moved, written, torn}
use Rattle.fc_base.specs.RestoreGraph.{HasOneLive}
use Rattle.fc_sheets.proofs.Finding.{LiveAt, live_place_at}
use Rattle.fc_sheets.proofs.Holding.{length_map, at_map, IsBit, regrained, bit_taken, bit_kept, bit_lost}

-- ---- shapes and columns that agree at each place

same_shape : (count : ℕ) (b b' c c' v v' : ℕ → ℕ) (l l' : ℕ → Bool) → ((j : ℕ) → b j ≡ b' j) → ((j : ℕ) → c j ≡ c' j) → ((j : ℕ) → v j ≡ v' j) → ((j : ℕ) → l j ≡ l' j) → (n : ℕ) → n ≡ count →
    record { count = n; birth = b; chain = c; volume = v; is_live = l } ≡ (let s : Shape = record { count = count; birth = b'; chain = c'; volume = v'; is_live = l' } in s)
same_shape count b b' c c' v v' l l' eb ec ev el n en =
    let s0 : Shape = record { count = n; birth = b; chain = c; volume = v; is_live = l } in
    let p0 : s0 ≡ record { count = count; birth = b; chain = c; volume = v; is_live = l } = ap (λ (z : ℕ). let s : Shape = record { count = z; birth = b; chain = c; volume = v; is_live = l } in s) en in
    let p1 = ap (λ (z : ℕ → ℕ). let s : Shape = record { count = count; birth = z; chain = c; volume = v; is_live = l } in s) (fun_ext eb) in
    let p2 = ap (λ (z : ℕ → ℕ). let s : Shape = record { count = count; birth = b'; chain = z; volume = v; is_live = l } in s) (fun_ext ec) in
    let p3 = ap (λ (z : ℕ → ℕ). let s : Shape = record { count = count; birth = b'; chain = c'; volume = z; is_live = l } in s) (fun_ext ev) in
    let p4 = ap (λ (z : ℕ → Bool). let s : Shape = record { count = count; birth = b'; chain = c'; volume = v'; is_live = z } in s) (fun_ext el) in
    p0 ∙ (p1 ∙ (p2 ∙ (p3 ∙ p4)))

abbrev column_with : Shape → (ℕ → Bool) → Column
column_with s h = record { shape = s; held = h }

same_column : (s t : Shape) (h i : ℕ → Bool) → s ≡ t → ((j : ℕ) → h j ≡ i j) → column_with s h ≡ column_with t i
same_column s t h i e f = ap (λ (z : Shape). column_with z h) e ∙ ap (λ (z : ℕ → Bool). column_with t z) (fun_ext f)

-- ---- a change of pairs leaves the shape

pub shape_map : (f : Slot → Slot) (g : ℕ) → IsBit f g → (slots : List Slot) → shape_of (map f slots) ≡ shape_of slots
shape_map f g b slots =
    let r = regrained f g b in
    same_shape (length slots) _ _ _ _ _ _ _ _
    (λ j. ap (λ (t : Slot). t.birth) (at_map f slots j r.none) ∙ r.birth (slot_at slots j))
    (λ j. ap (λ (t : Slot). t.chain) (at_map f slots j r.none) ∙ r.chain (slot_at slots j))
    (λ j. ap (λ (t : Slot). t.volume) (at_map f slots j r.none) ∙ r.volume (slot_at slots j))
    (λ j. ap (λ (t : Slot). t.is_live) (at_map f slots j r.none) ∙ r.is_live (slot_at slots j))
    (length (map f slots)) (length_map f slots)

-- and at another grain the column
bit_other : (f : Slot → Slot) (g : ℕ) → IsBit f g → (t : Slot) (x : ℕ) → x ≢ g → get_or (f t).held x false ≡ get_or t.held x false
bit_other f g i t x ne =
    elim (i.either t) [
      | inl e ↦ ap (λ (z : Slot). get_or z.held x false) e
      | inr e ↦ ap (λ (z : Slot). get_or z.held x false) e.1 ∙ (let ne' : x ≢ g = ne in rw get_or-set_other refl)
    ]

pub column_elsewhere : (f : Slot → Slot) (g x : ℕ) → IsBit f g → x ≢ g → (slots : List Slot) → column (map f slots) x ≡ column slots x
column_elsewhere f g x b ne slots =
    same_column (shape_of (map f slots)) (shape_of slots) _ _ (shape_map f g b slots)
    (λ j. ap (λ (t : Slot). get_or t.held x false) (at_map f slots j b.none) ∙ bit_other f g b (slot_at slots j) x ne)

-- at the grain the column has what each slot holds after the change
pub column_map : (f : Slot → Slot) (g : ℕ) → IsBit f g → (slots : List Slot) (h : ℕ → Bool) → ((j : ℕ) → get_or (f (slot_at slots j)).held g false ≡ h j) →
    column (map f slots) g ≡ column_with (shape_of slots) h
column_map f g b slots h e =
    same_column (shape_of (map f slots)) (shape_of slots) _ h (shape_map f g b slots)
    (λ j. ap (λ (t : Slot). get_or t.held g false) (at_map f slots j b.none) ∙ e j)

-- ---- what a slot holds at the grain after each change

set_false : (held : List Bool) (g : ℕ) → get_or (set held g false) g false ≡ false
set_false [] g = refl
set_false (b ∷ bs) zero = refl
set_false (b ∷ bs) (suc g) = set_false bs g

-- a slot of the volume is its live slot or an old one; past the last slot none is live
live_there : (slots : List Slot) (j : ℕ) → (slot_at slots j).is_live ≡ true → j < length slots
live_there [] j e = absurd cc
live_there (t ∷ ts) zero e = omega arith
live_there (t ∷ ts) (suc j) e = let r : j < length ts = live_there ts j e in omega arith

live_is : (slots : List Slot) (v k j : ℕ) → HasOneLive (shape_of slots) → LiveAt slots v k → (slot_at slots j).is_live ≡ true → (slot_at slots j).volume ≡ v → j ≡ k
live_is slots v k j one l e q = one j k (live_there slots j e) l.there e l.is_live (q ∙ sym l.of_volume)

-- the pair of the live slot is there: its place is below its volume's grains
abbrev pub IsGrain : List Slot → ℕ → ℕ → Type 0
IsGrain slots k g = g < length (slot_at slots k).held

old_is : (slots : List Slot) (v k j : ℕ) → LiveAt slots v k → (slot_at slots j).is_live ≡ false → (slot_at slots j).volume ≡ v → is_old_of (shape_of slots) (slot_at slots k).volume j ≡ true
old_is slots v k j l e q = and_from _ _ (not_from_false _ e) (eq-eqb _ _ (q ∙ sym l.of_volume))

not_old_live : (slots : List Slot) (w j : ℕ) → (slot_at slots j).is_live ≡ true → is_old_of (shape_of slots) w j ≡ false
not_old_live slots w j e = and_left _ _ (not_from_true _ e)

not_old_other : (slots : List Slot) (v k j : ℕ) → LiveAt slots v k → (slot_at slots j).volume ≢ v → is_old_of (shape_of slots) (slot_at slots k).volume j ≡ false
not_old_other slots v k j l ne = and_right (not (slot_at slots j).is_live) _ (ne_eqb _ _ (λ e. ne (e ∙ l.of_volume)))

-- `first || (before && not old)`
stays_held : (first before old : Bool) → first ≡ false → old ≡ false → before ≡ (first || (before && not old))
stays_held true before old e q = absurd cc
stays_held false true true e q = absurd cc
stays_held false true false e q = refl
stays_held false false old e q = refl

goes : (first before old : Bool) → first ≡ false → old ≡ true → false ≡ (first || (before && not old))
goes true before old e q = absurd cc
goes false true true e q = refl
goes false true false e q = absurd cc
goes false false old e q = refl

differs : (slots : List Slot) (v k j : ℕ) → LiveAt slots v k → (slot_at slots j).volume ≢ v → eqb j k ≡ false
differs slots v k j l ne = ne_eqb j k (λ e. ne (ap (λ z. (slot_at slots z).volume) e ∙ l.of_volume))

old_differs : (slots : List Slot) (v k j : ℕ) → LiveAt slots v k → (slot_at slots j).is_live ≡ false → eqb j k ≡ false
old_differs slots v k j l e = ne_eqb j k (λ q. both_ways _ (ap (λ z. (slot_at slots z).is_live) (sym q) ∙ e) l.is_live)

abbrev held_taken : List Slot → ℕ → ℕ → ℕ → Bool
held_taken slots k g j = eqb j k || (get_or (slot_at slots j).held g false && not (is_old_of (shape_of slots) (slot_at slots k).volume j))

abbrev held_lost : List Slot → ℕ → ℕ → ℕ → Bool
held_lost slots k g j = get_or (slot_at slots j).held g false && not (is_old_of (shape_of slots) (slot_at slots k).volume j)

abbrev held_kept : List Slot → ℕ → ℕ → ℕ → Bool
held_kept slots k g j = eqb j k || get_or (slot_at slots j).held g false

set_live : (held : List Bool) (g : ℕ) (live : Bool) → live ≡ true → g < length held → get_or (set held g live) g false ≡ true
set_live held g live e lt = get_or-set_same held g live false lt ∙ e

set_old : (held : List Bool) (g : ℕ) (live : Bool) → live ≡ false → get_or (set held g live) g false ≡ false
set_old held g live e = ap (λ z. get_or (set held g z) g false) e ∙ set_false held g

taken_at : (slots : List Slot) (v k g j : ℕ) → HasOneLive (shape_of slots) → LiveAt slots v k → IsGrain slots k g → get_or (grain_taken v g (slot_at slots j)).held g false ≡ held_taken slots k g j
taken_at slots v k g j one l lt =
    let t : Slot = slot_at slots j in
    elim (cases_eq t.volume v) [
      | inr ne ↦
          let off : grain_taken v g t ≡ t = rw (ne_eqb t.volume v ne) refl in
          ap (λ (z : Slot). get_or z.held g false) off ∙ stays_held (eqb j k) (get_or t.held g false) _ (differs slots v k j l ne) (not_old_other slots v k j l ne)
      | inl same ↦
          let on : grain_taken v g t ≡ record t { held = set t.held g t.is_live } = rw (eq-eqb t.volume v same) refl in
          elim (cases_Bool t.is_live) [
            | inl live ↦
                let here : j ≡ k = live_is slots v k j one l live same in
                let size : g < length t.held = let e : length t.held ≡ length (slot_at slots k).held = ap (λ z. length (slot_at slots z).held) here in omega arith in
                ap (λ (z : Slot). get_or z.held g false) on ∙ (set_live t.held g t.is_live live size ∙ sym (or_left (eqb j k) _ (eq-eqb j k here)))
            | inr old ↦
                ap (λ (z : Slot). get_or z.held g false) on ∙ (set_old t.held g t.is_live old ∙ goes (eqb j k) (get_or t.held g false) _ (old_differs slots v k j l old) (old_is slots v k j l old same))
          ]
    ]

lost_at : (slots : List Slot) (v k g j : ℕ) → LiveAt slots v k → get_or (grain_lost v g (slot_at slots j)).held g false ≡ held_lost slots k g j
lost_at slots v k g j l =
    let t : Slot = slot_at slots j in
    elim (cases_Bool (not t.is_live && eqb t.volume v)) [
      | inl y ↦
          let on : grain_lost v g t ≡ record t { held = set t.held g false } = rw y refl in
          let p = and_parts (not t.is_live) _ y in
          let old : is_old_of (shape_of slots) (slot_at slots k).volume j ≡ true = and_from _ _ p.0 (eq-eqb _ _ (eqb-true _ _ p.1 ∙ sym l.of_volume)) in
          ap (λ (z : Slot). get_or z.held g false) on ∙ (set_false t.held g ∙ goes false (get_or t.held g false) _ refl old)
      | inr n ↦
          let off : grain_lost v g t ≡ t = rw n refl in
          let old : is_old_of (shape_of slots) (slot_at slots k).volume j ≡ false = ap (λ z. not t.is_live && eqb t.volume z) l.of_volume ∙ n in
          ap (λ (z : Slot). get_or z.held g false) off ∙ stays_held false (get_or t.held g false) _ refl old
    ]

kept_at : (slots : List Slot) (v k g j : ℕ) → HasOneLive (shape_of slots) → LiveAt slots v k → IsGrain slots k g → get_or (grain_kept v g (slot_at slots j)).held g false ≡ held_kept slots k g j
kept_at slots v k g j one l lt =
    let t : Slot = slot_at slots j in
    elim (cases_Bool (t.is_live && eqb t.volume v)) [
      | inl y ↦
          let on : grain_kept v g t ≡ record t { held = set t.held g true } = rw y refl in
          let p = and_parts t.is_live _ y in
          let here : j ≡ k = live_is slots v k j one l p.0 (eqb-true _ _ p.1) in
          let size : g < length t.held = let e : length t.held ≡ length (slot_at slots k).held = ap (λ z. length (slot_at slots z).held) here in omega arith in
          ap (λ (z : Slot). get_or z.held g false) on ∙ (set_live t.held g true refl size ∙ sym (or_left (eqb j k) _ (eq-eqb j k here)))
      | inr n ↦
          let off : grain_kept v g t ≡ t = rw n refl in
          let ne : eqb j k ≡ false = ne_eqb j k (λ q. both_ways _ n (and_from _ _ (ap (λ z. (slot_at slots z).is_live) q ∙ l.is_live) (eq-eqb _ _ (ap (λ z. (slot_at slots z).volume) q ∙ l.of_volume)))) in
          ap (λ (z : Slot). get_or z.held g false) off ∙ sym (ap (λ z. z || get_or t.held g false) ne)
    ]

-- ---- the columns

taken_is : (slots : List Slot) (k g : ℕ) → column_with (shape_of slots) (held_taken slots k g) ≡ taken (column slots g) k
unfolding taken
taken_is slots k g = refl

kept_is : (slots : List Slot) (k g : ℕ) → column_with (shape_of slots) (held_kept slots k g) ≡ moved (column slots g) k true
unfolding moved
kept_is slots k g = refl

moved_taken : (slots : List Slot) (k g : ℕ) → taken (column slots g) k ≡ moved (column slots g) k false
unfolding moved
moved_taken slots k g = refl

torn_now : (slots : List Slot) (k g : ℕ) → column_with (shape_of slots) (held_taken slots k g) ≡ torn (column slots g) k true
unfolding torn
torn_now slots k g = refl

torn_under : (slots : List Slot) (k g : ℕ) → column_with (shape_of slots) (held_lost slots k g) ≡ torn (column slots g) k false
unfolding torn
torn_under slots k g = refl

-- The write's column: the volume's live slot stands at `k`.
pub column_written : (s : Sheet) (v k g : ℕ) → HasOneLive (shape_of s.slots) → live_place s.slots v ≡ Some k → IsGrain s.slots k g →
    column (sheet_written v g s).slots g ≡ written (column s.slots g) k
column_written s v k g one f lt =
    column_map (grain_taken v g) g (bit_taken v g) s.slots (held_taken s.slots k g) (λ j. taken_at s.slots v k g j one (live_place_at s.slots v k f) lt) ∙ taken_is s.slots k g

-- The move's column.
pub column_moved : (s : Sheet) (v k g : ℕ) (in_place : Bool) → HasOneLive (shape_of s.slots) → live_place s.slots v ≡ Some k → IsGrain s.slots k g →
    column (sheet_moved v g in_place s).slots g ≡ moved (column s.slots g) k in_place
column_moved s v k g true one f lt =
    column_map (grain_kept v g) g (bit_kept v g) s.slots (held_kept s.slots k g) (λ j. kept_at s.slots v k g j one (live_place_at s.slots v k f) lt) ∙ kept_is s.slots k g
column_moved s v k g false one f lt = column_written s v k g one f lt ∙ moved_taken s.slots k g

-- Whether what the volume showed is lost with its grain.
abbrev pub is_now : Side → Bool
is_now Now = true
is_now Under = false

-- The torn write's column.
pub column_torn : (s : Sheet) (v k g : ℕ) (side : Side) → HasOneLive (shape_of s.slots) → live_place s.slots v ≡ Some k → IsGrain s.slots k g →
    column (sheet_torn v g side s).slots g ≡ torn (column s.slots g) k (is_now side)
column_torn s v k g Now one f lt =
    column_map (grain_taken v g) g (bit_taken v g) s.slots (held_taken s.slots k g) (λ j. taken_at s.slots v k g j one (live_place_at s.slots v k f) lt) ∙ torn_now s.slots k g
column_torn s v k g Under one f lt =
    column_map (grain_lost v g) g (bit_lost v g) s.slots (held_lost s.slots k g) (λ j. lost_at s.slots v k g j (live_place_at s.slots v k f)) ∙ torn_under s.slots k g

-- At any other grain the columns stay.
pub column_written_other : (s : Sheet) (v g x : ℕ) → x ≢ g → column (sheet_written v g s).slots x ≡ column s.slots x
column_written_other s v g x ne = column_elsewhere (grain_taken v g) g x (bit_taken v g) ne s.slots

pub column_moved_other : (s : Sheet) (v g x : ℕ) (in_place : Bool) → x ≢ g → column (sheet_moved v g in_place s).slots x ≡ column s.slots x
column_moved_other s v g x true ne = column_elsewhere (grain_kept v g) g x (bit_kept v g) ne s.slots
column_moved_other s v g x false ne = column_elsewhere (grain_taken v g) g x (bit_taken v g) ne s.slots

pub column_torn_other : (s : Sheet) (v g x : ℕ) (side : Side) → x ≢ g → column (sheet_torn v g side s).slots x ≡ column s.slots x
column_torn_other s v g x Now ne = column_elsewhere (grain_taken v g) g x (bit_taken v g) ne s.slots
column_torn_other s v g x Under ne = column_elsewhere (grain_lost v g) g x (bit_lost v g) ne s.slots

-- The shapes stay.
pub shape_written : (s : Sheet) (v g : ℕ) → shape_of (sheet_written v g s).slots ≡ shape_of s.slots
shape_written s v g = shape_map (grain_taken v g) g (bit_taken v g) s.slots

pub shape_moved : (s : Sheet) (v g : ℕ) (in_place : Bool) → shape_of (sheet_moved v g in_place s).slots ≡ shape_of s.slots
shape_moved s v g true = shape_map (grain_kept v g) g (bit_kept v g) s.slots
shape_moved s v g false = shape_map (grain_taken v g) g (bit_taken v g) s.slots

pub shape_torn : (s : Sheet) (v g : ℕ) (side : Side) → shape_of (sheet_torn v g side s).slots ≡ shape_of s.slots
shape_torn s v g Now = shape_map (grain_taken v g) g (bit_taken v g) s.slots
shape_torn s v g Under = shape_map (grain_lost v g) g (bit_lost v g) s.slots
