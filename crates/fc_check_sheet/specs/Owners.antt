-- Mappings whose slots stand at some places.
use Rattle.std.specs.Prelude.{◌≡◌, ℕ, Some, List, Contains}
use Rattle.fc_base.specs.Sheet.{Slot, mapping_place}

-- The slot of the mapping stands at one of the places.
pub record IsOwner (slots : List Slot) (places : List ℕ) (n : ℕ) : Type 0 where
  pub place : ℕ
  pub listed : Contains places place
  pub there : mapping_place slots n ≡ Some place
