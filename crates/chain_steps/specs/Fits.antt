-- Triggers of one pair and of two.
use Rattle.std.specs.Prelude.{◌≡◌, ◌≢◌, ℕ, ◌<◌, true, Some, List, length}
use Rattle.fc_base.specs.declared.ids.MapId.{MapId}
use Rattle.fc_base.specs.declared.request.Pair.{Pair}
use Rattle.fc_base.specs.Sheet.{Slot, slot_at, column}
use Rattle.fc_base.specs.Column.{holder}
use Rattle.fc_base.specs.SheetFits.{FitsPair, IsSlotOf}

pub record FitsOne (slots : List Slot) (p : Pair) : Type 0 where
  pub pair : FitsPair slots p
  pub apart : p.target.0 ≢ p.source.0

pub record FitsTwo (slots : List Slot) (p q : Pair) : Type 0 where
  pub first : FitsOne slots p
  pub second : FitsOne slots q
  pub maps : p.map.0 ≢ q.map.0
  pub targets : p.target.0 ≢ q.target.0
  pub onward : p.target.0 ≢ q.source.0
  pub back : q.target.0 ≢ p.source.0

-- No live slot besides has a slot of the mapping, or of one of the others, as holder.
abbrev pub IsClosed : List Slot → MapId → List MapId → Type 0
IsClosed slots m others =
    (g d h : ℕ) → d < length slots → (slot_at slots d).is_live ≡ true → holder (column slots g) d ≡ Some h → IsSlotOf slots m others h → IsSlotOf slots m others d
