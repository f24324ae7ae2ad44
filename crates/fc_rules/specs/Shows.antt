-- That the physical grains of a lane show what plain volumes hold.
use Rattle.std.specs.Prelude.{◌≡◌, ◌≢◌, ℕ, ◌<◌, true, false, Some, IsSome, List, length, AllPairs, Contains, slice_index_or}
use Rattle.fc_base.specs.Column.{holder}
use Rattle.fc_base.specs.Sheet.{Slot, slot_at, column, live_place}
use Rattle.fc_entry.specs.Picture.{Content, PlainVolume, Picture, volume_in, content_at}

-- What is stored: the content of each volume's physical grain, by id and place. It is lost where a write failed.
abbrev pub Stored : Type 0
Stored = ℕ → ℕ → Content

-- A live slot's volume, as plain volumes have it: with a grain for each of the slot's.
pub record Shown (slots : List Slot) (picture : Picture) (stored : Stored) (k : ℕ) : Type 0 where
  pub plain : PlainVolume
  pub there : volume_in picture record { 0 = (slot_at slots k).volume } ≡ Some plain
  pub nows : length plain.now ≡ length (slot_at slots k).held
  pub unders : length plain.under ≡ length (slot_at slots k).held
  -- it shows what its holder's volume stores
  pub now : (g h : ℕ) → g < length (slot_at slots k).held → holder (column slots g) k ≡ Some h → content_at plain.now g ≡ stored (slot_at slots h).volume g
  -- where it lacks the grain, its own physical grain is what the volume held before it became a target
  pub under : (g : ℕ) → g < length (slot_at slots k).held → slice_index_or (slot_at slots k).held g false ≡ false → content_at plain.under g ≡ stored (slot_at slots k).volume g

pub record Shows (slots : List Slot) (picture : Picture) (stored : Stored) : Type 0 where
  pub each : (k : ℕ) → k < length slots → (slot_at slots k).is_live ≡ true → Shown slots picture stored k
  -- and nothing else is there
  pub only : (p : PlainVolume) → Contains picture p → IsSome (live_place slots p.volume.0)
  pub apart : AllPairs (λ (p q : PlainVolume). p.volume.0 ≢ q.volume.0) picture
