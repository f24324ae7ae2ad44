-- The sheet of all is found again from its parts.
use Rattle.std.proofs.Common.{◌≡◌, ℕ, ◌/◌, ◌%◌, ◌<◌, Bool, false, List, length, get_or, refl, sym, ap, ap₂, ◌∙◌}
use Rattle.std.proofs.lemmas.List.FromFn.{fill_by_all}
use Rattle.std.proofs.lemmas.Nat.{mod_below}
use Rattle.fc_base.specs.Sheet.{Slot, Sheet, no_slot, slot_at}
use Rattle.fc_base.specs.declared.size.GrainSize.{GrainSize}
use Rattle.fc_rules.specs.LaneTold.{LaneOf}
use Rattle.fc_parts.proofs.Numbers.{number_of_place}
use Rattle.fc_parts.proofs.Views.{sheet_of, count_parts, slot_parts, held_parts}
use Rattle.fc_sums.specs.Parts.{lane_of, part_of, parts_of, sheet_at, grains_held, holds_at, joined_held, joined_slot, joined}
use Rattle.fc_sums.proofs.Dividing.{parts_law, counts_law}

-- a grain of a slot
held_there : (grain : GrainSize) (lanes : ℕ) (s : Sheet) → 0 < lanes → (k g : ℕ) → get_or (slot_at s.slots k).held g false ≡ holds_at (parts_of grain lanes s) k g
held_there grain lanes s above k g =
    let ps : List Sheet = parts_of grain lanes s in
    let law = parts_law grain lanes s in
    let l : LaneOf = lane_of grain lanes (g % lanes) in
    let lt : g % lanes < lanes = mod_below g lanes above in
    sym (ap (λ n. get_or (slot_at (sheet_at ps (g % n)).slots k).held (g / n) false) law.count
    ∙ (ap (λ (p : Sheet). get_or (slot_at p.slots k).held (g / lanes) false) (law.part (g % lanes) lt)
    ∙ (held_parts l lt s.slots k (g / lanes) false
    ∙ ap (λ z. get_or (slot_at s.slots k).held z false) (number_of_place l g refl))))

held_joined : (grain : GrainSize) (lanes : ℕ) (s : Sheet) → 0 < lanes → (k : ℕ) → (slot_at s.slots k).held ≡ joined_held (parts_of grain lanes s) k
held_joined grain lanes s above k =
    fill_by_all (holds_at (parts_of grain lanes s) k) (slot_at s.slots k).held (grains_held (parts_of grain lanes s) k) false
    (sym ((counts_law grain lanes s above).slot_size k))
    (λ g lt. held_there grain lanes s above k g)

abbrev with_held : Slot → List Bool → Slot
with_held t held = record t { held = held }

slot_joined : (grain : GrainSize) (lanes : ℕ) (s : Sheet) → 0 < lanes → (k : ℕ) → slot_at s.slots k ≡ joined_slot (parts_of grain lanes s) k
slot_joined grain lanes s above k =
    let held : List Bool = joined_held (parts_of grain lanes s) k in
    ap (with_held (slot_at s.slots k)) (held_joined grain lanes s above k)
    ∙ (ap (λ (z : Slot). with_held z held) (sym (slot_parts (lane_of grain lanes 0) above s.slots k))
    ∙ ap (λ (p : Sheet). with_held (slot_at p.slots k) held) (sym ((parts_law grain lanes s).part 0 above)))

pub joined_parts : (grain : GrainSize) (lanes : ℕ) (s : Sheet) → 0 < lanes → joined (parts_of grain lanes s) ≡ s
joined_parts grain lanes s above =
    let ps : List Sheet = parts_of grain lanes s in
    let first : sheet_at ps 0 ≡ part_of grain lanes s 0 = (parts_law grain lanes s).part 0 above in
    ap₂ sheet_of (ap (λ (p : Sheet). p.births) first)
    (sym (fill_by_all (joined_slot ps) s.slots (length (sheet_at ps 0).slots) no_slot
    (sym (ap (λ (p : Sheet). length p.slots) first ∙ count_parts (lane_of grain lanes 0) s.slots))
    (λ k lt. slot_joined grain lanes s above k)))
