-- The grains that a slot holds, as ranges that grow grain by grain.
use Rattle.std.specs.Prelude.{◌≡◌, ℕ, ◌<◌, Bool, ◌&&◌, ◌||◌, ltb, eqb, false, Option, Some, None, List, [], ◌∷◌, ◌++◌, drop, slice_index_or}
use Rattle.fc_base.specs.Ranges.{IsRising, is_kept}
use Rattle.fc_base.specs.Sheet.{birth_place}
use Rattle.fc_base.specs.SheetView.{held_at, count_true}
use Rattle.fc_base.specs.declared.ids.SlotId.{SlotId}
use Rattle.fc_base.specs.declared.ranges.Range.{Range}
use Rattle.fc_lane.specs.Lane.{LaneView}
use Rattle.fc_lane_sheet.specs.LaneSheet.{sheet_of}

-- What the slot with this name holds of all grains.
abbrev pub held_by : List LaneView → SlotId → List Bool
held_by lanes slot = held_at (sheet_of lanes).slots (birth_place (sheet_of lanes).slots slot.0)

-- Ranges that ended, and one that can grow, behind them.
abbrev pub with_last : List Range → Option Range → List Range
with_last ended None = ended
with_last ended (Some last) = ended ++ last ∷ []

-- No range ended before there is a last one, and that ends before this grain.
abbrev pub EndsBefore : ℕ → List Range → Option Range → Type 0
EndsBefore grain ended None = ended ≡ []
EndsBefore grain ended (Some last) = last.last < grain

pub record CanGrow (grain : ℕ) (ended : List Range) (last : Option Range) : Type 0 where
  pub rising : IsRising (with_last ended last)
  pub before : EndsBefore grain ended last

-- Ranges with one grain more, which is last of them.
pub record IsGrown (grain : ℕ) (old ended : List Range) (last : Range) : Type 0 where
  pub rising : IsRising (ended ++ last ∷ [])
  pub ends : last.last ≡ grain
  pub kept : (g : ℕ) → is_kept (ended ++ last ∷ []) g ≡ (is_kept old g || eqb g grain)

-- The ranges have those of the grains before this one that are held.
pub record AreFound (bits : List Bool) (grain : ℕ) (ended : List Range) (last : Option Range) : Type 0 where
  pub can_grow : CanGrow grain ended last
  pub kept : (g : ℕ) → is_kept (with_last ended last) g ≡ (ltb g grain && slice_index_or bits g false)

-- How many grains from this one on are held.
abbrev pub held_from : List Bool → ℕ → ℕ
held_from bits grain = count_true (drop grain bits)
