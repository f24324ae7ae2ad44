-- A slot of an image, by what it holds.
use Rattle.std.specs.Prelude.{ℕ, Bool, List}
use Rattle.std.specs.Option.{option_map}
use Rattle.fc_base.specs.Sheet.{Slot}
use Rattle.fc_base.specs.declared.ids.MapId.{MapId}
use Rattle.fc_image.specs.declared.image.MetaSlot.{MetaSlot}

-- A slot of the chain with this label, live or not, that holds these grains.
abbrev pub slot_holding : ℕ → MetaSlot → Bool → List Bool → Slot
slot_holding label slot live held =
    record {
      birth = slot.birth.0;
      chain = label;
      volume = slot.volume.0;
      is_live = live;
      mapping = option_map (λ (m : MapId). m.0) slot.map;
      held = held;
    }
