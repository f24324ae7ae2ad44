-- Whether a slot is filled in place.
use Rattle.std.proofs.Common.{◌≡◌, ℕ, ◌<◌, false, not, ◌&&◌, eqb, Some, None, List, length, get_or, refl, sym, ap, ◌∙◌}
use Rattle.fc_base.specs.Column.{holder}
use Rattle.fc_base.specs.Moves.{is_in_place}
use Rattle.fc_base.specs.Sheet.{Slot, slot_at, column}
use Rattle.fc_slots.proofs.Finds.{read_at}

pub in_place_some : (slots : List Slot) (g place h : ℕ) (s t : Slot) → place < length slots → s ≡ get_or slots place s → h < length slots → t ≡ get_or slots h t → Some h ≡ holder (column slots g) place →
    (not t.is_live && eqb t.volume s.volume) ≡ is_in_place (column slots g) place
unfolding is_in_place
in_place_some slots g place h s t pl es hl et e =
    let a = read_at slots place s pl es in
    let b = read_at slots h t hl et in
    rw (sym e) (ap (λ (z : Slot). not z.is_live && eqb z.volume s.volume) (sym b) ∙ ap (λ z. not (slot_at slots h).is_live && eqb (slot_at slots h).volume z) (ap (λ (z : Slot). z.volume) (sym a)))

pub in_place_none : (slots : List Slot) (g place : ℕ) → None ≡ holder (column slots g) place → false ≡ is_in_place (column slots g) place
unfolding is_in_place
in_place_none slots g place e = rw (sym e) refl
