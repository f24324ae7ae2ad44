-- What tables and chains tell of slots, carried over to other chains where these slots stay.
use Rattle.std.proofs.Common.{◌≡◌, ℕ, ◌<◌, Bool, true, false, List, length, Some, None, ap, ◌∙◌}
use Rattle.fc_base.specs.RestoreGraph.{HasOneLive}
use Rattle.fc_base.specs.Sheet.{Slot, slot_at, shape_of, live_place, mapping_place}
use Rattle.fc_base.specs.SheetFacts.{HasMappings}
use Rattle.fc_base.specs.declared.state.MapState.{MapState}
use Rattle.fc_base.specs.declared.state.MapState.TheVariants.{Copying, Stopping}
use Rattle.fc_base.specs.declared.volume.Mapping.{Mapping}
use Rattle.fc_books.specs.Sound.{HasSlot, SlotByState}
use Rattle.fc_sheets.proofs.Finding.{live_place_at, live_place_is, mapping_place_at, mapping_place_is, mapping_place_none, no_mapping_place}

-- A slot stays, at some place.
abbrev pub StaysIn : List Slot → Slot → Type 0
StaysIn slots t = (j : ℕ) × (j < length slots) × (slot_at slots j ≡ t)

-- A volume keeps its one live slot, with its grains.
pub live_carried : (old new : List Slot) (v k grains : ℕ) → HasOneLive (shape_of new) → live_place old v ≡ Some k → length (slot_at old k).held ≡ grains → StaysIn new (slot_at old k) →
    (j : ℕ) × (live_place new v ≡ Some j) × (length (slot_at new j).held ≡ grains)
live_carried old new v k grains one there size stays =
    let at = live_place_at old v k there in (
      stays.0,
      live_place_is new v stays.0 one (record {
        there = stays.1;
        is_live = ap (λ (t : Slot). t.is_live) stays.2 ∙ at.is_live;
        of_volume = ap (λ (t : Slot). t.volume) stays.2 ∙ at.of_volume;
      }),
      ap (λ (t : Slot). length t.held) stays.2 ∙ size,
    )

-- ---- a mapping's slot

has_slot_carried : (old new : List Slot) (m : Mapping) (live : Bool) → HasMappings new → ((k : ℕ) → mapping_place old m.id.0 ≡ Some k → (slot_at old k).is_live ≡ live → StaysIn new (slot_at old k)) → HasSlot old m live → HasSlot new m live
has_slot_carried old new m live maps stays has =
    let at = mapping_place_at old m.id.0 has.place has.is_there in
    let s = stays has.place has.is_there has.liveness in
    record {
      place = s.0;
      is_there = mapping_place_is new m.id.0 s.0 maps s.1 (ap (λ (t : Slot). t.mapping) s.2 ∙ at.1);
      of_target = ap (λ (t : Slot). t.volume) s.2 ∙ has.of_target;
      liveness = ap (λ (t : Slot). t.is_live) s.2 ∙ has.liveness;
    }

none_carried : (old new : List Slot) (m : Mapping) → ((j : ℕ) → j < length new → (slot_at new j).mapping ≡ Some m.id.0 → (i : ℕ) × (i < length old) × ((slot_at old i).mapping ≡ Some m.id.0)) →
    mapping_place old m.id.0 ≡ None → mapping_place new m.id.0 ≡ None
none_carried old new m comes none = no_mapping_place new m.id.0 (λ j jl e. let from = comes j jl e in mapping_place_none old m.id.0 none from.0 from.1 from.2)

-- A mapping keeps its slot, and gets none.
pub slot_carried : (state : MapState) (old new : List Slot) (m : Mapping) → HasMappings new → ((k : ℕ) → mapping_place old m.id.0 ≡ Some k → StaysIn new (slot_at old k)) →
    ((j : ℕ) → j < length new → (slot_at new j).mapping ≡ Some m.id.0 → (i : ℕ) × (i < length old) × ((slot_at old i).mapping ≡ Some m.id.0)) → SlotByState state old m → SlotByState state new m
slot_carried Copying old new m maps stays comes by = has_slot_carried old new m true maps (λ k e live. stays k e) by
slot_carried Stopping old new m maps stays comes by = has_slot_carried old new m false maps (λ k e live. stays k e) by
slot_carried state old new m maps stays comes by = none_carried old new m comes by
