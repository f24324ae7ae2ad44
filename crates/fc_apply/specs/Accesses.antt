-- How hosts may reach the volumes of a lane.
use Rattle.std.specs.Prelude.{ℕ, ◌<◌, Bool, ◌==◌, List, AllPairs}
use Rattle.std.specs.List.{list_any}
use Rattle.fc_rules.specs.LaneTold.{LaneVolume}
use Rattle.fc_apply.specs.declared.access.AccessRow.{AccessRow}

-- The volumes, in order of id, which is that of making, and how many more can be added without taking memory.
pub record AccessState : Type 0 where
  pub volumes : List LaneVolume
  pub room : ℕ

-- What a row says.
abbrev pub volume_of_row : AccessRow → LaneVolume
volume_of_row row = record { volume = row.volume; kind = row.kind; access = row.access }

-- The ids rise.
abbrev pub AreRising : List AccessRow → Type 0
AreRising rows = AllPairs (λ (x y : AccessRow). x.volume.0 < y.volume.0) rows

-- Whether the volume has a row.
abbrev pub has_row : ℕ → List AccessRow → Bool
has_row id rows = list_any (λ (row : AccessRow). row.volume.0 == id) rows

-- Whether the volume is there.
abbrev pub has_volume : ℕ → List LaneVolume → Bool
has_volume id volumes = list_any (λ (v : LaneVolume). v.volume.0 == id) volumes
