-- What the new slots of a trigger hold, in a lane's part: the part of what they hold of all grains.
use Rattle.std.proofs.Common.{◌≡◌, ℕ, Bool, false, List, length, set, fold, sym, ap, ◌∙◌}
use Rattle.std.proofs.lemmas.List.{map-set}
use Rattle.fc_base.specs.Sheet.{Slot, Sheet, slot_at}
use Rattle.fc_base.specs.declared.request.Pair.{Pair}
use Rattle.fc_books.specs.After.{of_length, holding, begun}
use Rattle.fc_legal.specs.Whole.{part, part_of_slot, part_of_sheet}
use Rattle.fc_rules.specs.LaneTold.{LaneOf}
use Rattle.fc_parts.proofs.Numbers.{IsLane, part_length}
use Rattle.fc_parts.proofs.Events.{Agrees, found_agrees, fold_agrees}
use Rattle.fc_parts.proofs.Sets.{part_of_length}
use Rattle.fc_parts.proofs.Views.{sheet_of, parts, slot_parts, mapping_parts}

abbrev with_set : List Bool → Slot → Slot
with_set set slot = record slot { held = of_length (length slot.held) set }

set_part : (l : LaneOf) → IsLane l → (set : List Bool) (slot : Slot) → part_of_slot l (with_set set slot) ≡ with_set (part l false set) (part_of_slot l slot)
set_part l i set slot =
    ap (λ (z : List Bool). record slot { held = z })
    (sym (part_of_length l i (length slot.held) set) ∙ ap (λ n. of_length n (part l false set)) (sym (part_length l false slot.held)))

holding_agrees : (l : LaneOf) → IsLane l → (held : List Bool) (k : ℕ) (s : Sheet) → Agrees l (holding held k) (holding (part l false held) k) s
holding_agrees l i held k s =
    ap (sheet_of s.births)
    (map-set (part_of_slot l) s.slots k (with_set held (slot_at s.slots k))
    ∙ ap (set (parts l s.slots) k) (set_part l i held (slot_at s.slots k) ∙ ap (with_set (part l false held)) (sym (slot_parts l i s.slots k))))

-- restart sets of all grains, and their parts
abbrev pub ArePartsOf : LaneOf → (whole some : ℕ → List Bool) → Type 0
ArePartsOf l whole some = (m : ℕ) → some m ≡ part l false (whole m)

begun_agrees : (l : LaneOf) → IsLane l → (whole some : ℕ → List Bool) → ArePartsOf l whole some → (s : Sheet) (p : Pair) → part_of_sheet l (begun whole s p) ≡ begun some (part_of_sheet l s) p
begun_agrees l i whole some are s p =
    found_agrees l (holding (whole p.map.0)) (holding (some p.map.0))
    (λ k t. holding_agrees l i (whole p.map.0) k t ∙ ap (λ z. holding z k (part_of_sheet l t)) (sym (are p.map.0)))
    _ _ s (mapping_parts l i s.slots p.map.0)

pub all_begun : (l : LaneOf) → IsLane l → (whole some : ℕ → List Bool) → ArePartsOf l whole some → (s : Sheet) (pairs : List Pair) →
    part_of_sheet l (fold (begun whole) s pairs) ≡ fold (begun some) (part_of_sheet l s) pairs
all_begun l i whole some are s pairs = fold_agrees l (begun whole) (begun some) (begun_agrees l i whole some are) s pairs
