-- The part of the chains that is a lane's, seen slot by slot.
use mathlib.Core.Path.{fun_ext}
use Rattle.std.proofs.Common.{◌≡◌, ℕ, ◌<◌, Bool, true, false, ◌&&◌, eqb, Option, Some, None, List, [], ◌∷◌, length, get_or, map, refl, sym, ap, ap₂, ◌∙◌, arith}
use Rattle.std.specs.List.{list_all}
use Rattle.std.proofs.lemmas.Bool.{and_from}
use Rattle.std.proofs.lemmas.List.{nil_from_length}
use Rattle.fc_base.specs.Column.{Shape, Column, first_below, is_at, needer}
use Rattle.fc_base.specs.Need.{IsNeeded, is_complete}
use Rattle.fc_base.specs.Sheet.{Slot, Sheet, no_slot, slot_at, shape_of, column, live_place, mapping_place, birth_place, grains_at, volume_grains}
use Rattle.fc_legal.specs.Whole.{part, part_of_slot}
use Rattle.fc_rules.specs.LaneTold.{LaneOf, number_at, grains_in}
use Rattle.fc_sheets.proofs.Holding.{length_map, at_map}
use Rattle.fc_sheets.proofs.Splitting.{complete_at}
use Rattle.fc_parts.proofs.Numbers.{IsLane, number_below, none_in, part_length, part_at}

abbrev pub sheet_of : ℕ → List Slot → Sheet
sheet_of births slots = record { births = births; slots = slots }

abbrev pub parts : LaneOf → List Slot → List Slot
parts l slots = map (part_of_slot l) slots

part_of_none : {X : Type 0} → (l : LaneOf) → IsLane l → (d : X) (xs : List X) → xs ≡ [] → part l d xs ≡ []
part_of_none l i d xs e = nil_from_length (part l d xs) (part_length l d xs ∙ (ap (λ z. grains_in l (length z)) e ∙ none_in l i))

pub part_nil : {X : Type 0} → (l : LaneOf) → IsLane l → (d : X) → part l d [] ≡ []
part_nil l i d = part_of_none l i d [] refl

pub part_no_slot : (l : LaneOf) → IsLane l → part_of_slot l no_slot ≡ no_slot
part_no_slot l i = ap (λ (z : List Bool). record no_slot { held = z }) (part_nil l i false)

pub count_parts : (l : LaneOf) (slots : List Slot) → length (parts l slots) ≡ length slots
count_parts l slots = length_map (part_of_slot l) slots

pub slot_parts : (l : LaneOf) → IsLane l → (slots : List Slot) (k : ℕ) → slot_at (parts l slots) k ≡ part_of_slot l (slot_at slots k)
slot_parts l i slots k = at_map (part_of_slot l) slots k (part_no_slot l i)

view : (l : LaneOf) → IsLane l → (slots : List Slot) → slot_at (parts l slots) ≡ (λ k. part_of_slot l (slot_at slots k))
view l i slots = fun_ext (slot_parts l i slots)

-- what is read of all slots alone
pub same_view : {X : Type 0} → (l : LaneOf) → IsLane l → (slots : List Slot) (f : ℕ → (ℕ → Slot) → X) →
    f (length (parts l slots)) (slot_at (parts l slots)) ≡ f (length slots) (λ k. part_of_slot l (slot_at slots k))
same_view l i slots f = ap₂ f (count_parts l slots) (view l i slots)

-- ---- shapes and columns

abbrev shape_by : ℕ → (ℕ → Slot) → Shape
shape_by n f = record { count = n; birth = λ k. (f k).birth; chain = λ k. (f k).chain; volume = λ k. (f k).volume; is_live = λ k. (f k).is_live }

pub shape_parts : (l : LaneOf) → IsLane l → (slots : List Slot) → shape_of (parts l slots) ≡ shape_of slots
shape_parts l i slots = same_view l i slots shape_by

abbrev column_with : Shape → (ℕ → Bool) → Column
column_with s h = record { shape = s; held = h }

pub held_parts : (l : LaneOf) → IsLane l → (slots : List Slot) (k p : ℕ) (d : Bool) → get_or (slot_at (parts l slots) k).held p d ≡ get_or (slot_at slots k).held (number_at l p) d
held_parts l i slots k p d = ap (λ (z : Slot). get_or z.held p d) (slot_parts l i slots k) ∙ part_at l i false (slot_at slots k).held p d

pub column_parts : (l : LaneOf) → IsLane l → (slots : List Slot) (p : ℕ) → column (parts l slots) p ≡ column slots (number_at l p)
column_parts l i slots p = ap₂ column_with (shape_parts l i slots) (fun_ext (λ k. held_parts l i slots k p false))

-- ---- places

pub live_parts : (l : LaneOf) → IsLane l → (slots : List Slot) (v : ℕ) → live_place (parts l slots) v ≡ live_place slots v
unfolding live_place
live_parts l i slots v = same_view l i slots (λ n f. first_below (λ k. (f k).is_live && eqb (f k).volume v) n)

pub mapping_parts : (l : LaneOf) → IsLane l → (slots : List Slot) (m : ℕ) → mapping_place (parts l slots) m ≡ mapping_place slots m
unfolding mapping_place
mapping_parts l i slots m = same_view l i slots (λ n f. first_below (λ k. is_at (f k).mapping m) n)

pub birth_parts : (l : LaneOf) → IsLane l → (slots : List Slot) (b : ℕ) → birth_place (parts l slots) b ≡ birth_place slots b
unfolding birth_place
birth_parts l i slots b = same_view l i slots (λ n f. first_below (λ k. eqb (f k).birth b) n)

-- ---- grains

pub size_parts : (l : LaneOf) → IsLane l → (slots : List Slot) (k : ℕ) → length (slot_at (parts l slots) k).held ≡ grains_in l (length (slot_at slots k).held)
size_parts l i slots k = ap (λ (z : Slot). length z.held) (slot_parts l i slots k) ∙ part_length l false (slot_at slots k).held

grains_at_parts : (l : LaneOf) → IsLane l → (slots : List Slot) (o : Option ℕ) → grains_at (parts l slots) o ≡ grains_in l (grains_at slots o)
grains_at_parts l i slots None = sym (none_in l i)
grains_at_parts l i slots (Some k) = size_parts l i slots k

pub grains_parts : (l : LaneOf) → IsLane l → (slots : List Slot) (v : ℕ) → volume_grains (parts l slots) v ≡ grains_in l (volume_grains slots v)
grains_parts l i slots v = ap (grains_at (parts l slots)) (live_parts l i slots v) ∙ grains_at_parts l i slots (live_place slots v)

-- ---- who holds every grain, and who is needed

all_from : (bs : List Bool) → ((g : ℕ) → g < length bs → get_or bs g false ≡ true) → list_all (λ b. b) bs ≡ true
all_from [] f = refl
all_from (b ∷ bs) f = and_from _ _ (f ℕ.zero (omega arith)) (all_from bs (λ g lt. f (ℕ.suc g) (omega arith)))

pub complete_parts : (l : LaneOf) → IsLane l → (slots : List Slot) (k : ℕ) → is_complete (slot_at slots k) ≡ true → is_complete (slot_at (parts l slots) k) ≡ true
complete_parts l i slots k e =
    let n : length (slot_at (parts l slots) k).held ≡ grains_in l (length (slot_at slots k).held) = size_parts l i slots k in
    all_from (slot_at (parts l slots) k).held
    (λ p lt. held_parts l i slots k p false ∙ complete_at (slot_at slots k).held (number_at l p) e (number_below l i p (length (slot_at slots k).held) (omega arith)))

pub needed_parts : (l : LaneOf) → IsLane l → (slots : List Slot) (k : ℕ) → IsNeeded (parts l slots) k → IsNeeded slots k
needed_parts l i slots k (p, a, e) = (number_at l p, a, ap (λ (z : Column). needer z k) (sym (column_parts l i slots p)) ∙ e)
