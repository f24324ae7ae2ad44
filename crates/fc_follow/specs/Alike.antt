-- What holds of the rows of a lane: at the grains of a row both volumes of the mapping show the same.
use Rattle.std.specs.Prelude.{◌≡◌, ◌≢◌, ℕ, true, All, AllPairs, List, length, IsSome}
use Rattle.fc_base.specs.Sheet.{Slot, live_place, volume_grains}
use Rattle.fc_changed.specs.Notes.{has}
use Rattle.fc_changed.specs.Row.{Row}
use Rattle.fc_entry.specs.Picture.{Picture, volume_in, now_at}
use Rattle.fc_follow.specs.Following.{Followed}

-- Its volumes are two, both there, with as many grains as the row; and both show the same at each grain of the row.
pub record IsAlike (slots : List Slot) (picture : Picture) (row : Row) : Type 0 where
  pub apart : row.source ≢ row.target
  pub source_there : IsSome (live_place slots row.source)
  pub target_there : IsSome (live_place slots row.target)
  pub source_size : volume_grains slots row.source ≡ length row.same
  pub target_size : volume_grains slots row.target ≡ length row.same
  pub alike : (g : ℕ) → has row.same g ≡ true →
      now_at (volume_in picture record { 0 = row.source }) g ≡ now_at (volume_in picture record { 0 = row.target }) g

-- So it is of each row, and no two rows are of one mapping.
pub record AreAlike (f : Followed) : Type 0 where
  pub each : All (IsAlike f.told.sheet.slots f.told.picture) f.rows
  pub distinct : AllPairs (λ (x y : Row). x.map ≢ y.map) f.rows
