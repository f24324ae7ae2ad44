-- Drops and changes of pairs, the one before the other.
use Rattle.std.proofs.Common.{◌≡◌, ℕ, suc, Bool, true, false, eqb, Option, Some, None, List, ◌++◌, map, take, drop, remove, refl, sym, ap, ◌∙◌}
use Rattle.std.proofs.lemmas.List.{map-append, take-map, drop-map}
use Rattle.fc_base.specs.Column.{first_below}
use Rattle.fc_base.specs.Sheet.{Slot, Sheet, slot_at, birth_place}
use Rattle.fc_base.specs.SheetStep.{grain_taken, grain_kept, grain_lost, sheet_moved, sheet_written, sheet_torn, at_place, without, dropped}
use Rattle.fc_base.specs.declared.request.Side.{Side}
use Rattle.fc_base.specs.declared.request.Side.TheVariants.{Now, Under}
use Rattle.fc_sheets.proofs.Holding.{length_map, at_map, IsBit, regrained, bit_taken, bit_kept, bit_lost}

-- every slot changed
abbrev pub mapped : (Slot → Slot) → Sheet → Sheet
mapped f s = record s { slots = map f s.slots }

remove_map : (f : Slot → Slot) (p : ℕ) (slots : List Slot) → remove (map f slots) p ≡ map f (remove slots p)
remove_map f p slots =
    ap (λ (z : List Slot). z ++ drop (suc p) (map f slots)) (take-map f p slots)
    ∙ (ap (λ (z : List Slot). map f (take p slots) ++ z) (drop-map f (suc p) slots) ∙ sym (map-append f (take p slots) (drop (suc p) slots)))

pub same_births : (f : Slot → Slot) (g : ℕ) → IsBit f g → (slots : List Slot) (b : ℕ) → birth_place (map f slots) b ≡ birth_place slots b
unfolding birth_place
same_births f g bit slots b =
    let r = regrained f g bit in
    let births : (k : ℕ) → (slot_at (map f slots) k).birth ≡ (slot_at slots k).birth = λ (k : ℕ). ap (λ (t : Slot). t.birth) (at_map f slots k r.none) ∙ r.birth (slot_at slots k) in
    λ i. first_below (λ k. eqb (births k i) b) (length_map f slots i)

pub taken_out : (f : Slot → Slot) (s : Sheet) (o : Option ℕ) → at_place without o (mapped f s) ≡ mapped f (at_place without o s)
taken_out f s None = refl
taken_out f s (Some p) = λ i. record { births = s.births; slots = remove_map f p s.slots i }

pub dropped_map : (f : Slot → Slot) (g : ℕ) → IsBit f g → (s : Sheet) (b : ℕ) → dropped b (mapped f s) ≡ mapped f (dropped b s)
dropped_map f g bit s b = ap (λ (o : Option ℕ). at_place without o (mapped f s)) (same_births f g bit s.slots b) ∙ taken_out f s (birth_place s.slots b)

pub moved_first : (s : Sheet) (b v g : ℕ) (in_place : Bool) → dropped b (sheet_moved v g in_place s) ≡ sheet_moved v g in_place (dropped b s)
moved_first s b v g true = dropped_map (grain_kept v g) g (bit_kept v g) s b
moved_first s b v g false = dropped_map (grain_taken v g) g (bit_taken v g) s b

pub written_first : (s : Sheet) (b v g : ℕ) → dropped b (sheet_written v g s) ≡ sheet_written v g (dropped b s)
written_first s b v g = dropped_map (grain_taken v g) g (bit_taken v g) s b

pub torn_first : (s : Sheet) (b v g : ℕ) (side : Side) → dropped b (sheet_torn v g side s) ≡ sheet_torn v g side (dropped b s)
torn_first s b v g Now = dropped_map (grain_taken v g) g (bit_taken v g) s b
torn_first s b v g Under = dropped_map (grain_lost v g) g (bit_lost v g) s b
