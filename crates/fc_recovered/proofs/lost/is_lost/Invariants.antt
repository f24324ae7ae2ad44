use Rattle.std.proofs.Common.{◌≡◌, All, map, drop}
use Rattle.fc_base.specs.Tables.{Tables}
use Rattle.fc_kept.specs.Images.{lost_in}
use Rattle.fc_kept.specs.Kept.{is_lost_in}
use Rattle.fc_kept.specs.Sound.{HasTidyLost}
use Rattle.fc_recovered.proofs.lost.is_lost.Given as goal

-- none of the rows so far is the volume's
abbrev pub invariant-loop-row : goal.invariant-loop-row
invariant-loop-row l =
    (t : Tables) → All (HasTidyLost t) l.rows → is_lost_in (map (lost_in t) (drop l.row-index l.rows)) l.volume.0 l.grain ≡ is_lost_in (map (lost_in t) l.rows) l.volume.0 l.grain
