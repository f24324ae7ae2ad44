-- What a judge of printed histories keeps of what was told.
use Rattle.std.specs.Prelude.{ℕ, List, map}
use Rattle.fc_base.specs.Sheet.{Sheet, column}
use Rattle.fc_base.specs.declared.size.GrainSize.{GrainSize}
use Rattle.fc_base.specs.declared.volume.Volume.{Volume}
use Rattle.fc_entry.specs.Picture.{Picture, volume_in, now_at}
use Rattle.fc_legal.specs.Whole.{Whole, volumes_told}
use Rattle.fc_pick.specs.declared.work.WorkFlags.{WorkFlags}
use Rattle.fc_rules.specs.LaneTold.{LaneVolume, is_thin_in}
use Rattle.fc_rules.specs.Spot.{Spot}
use Rattle.fc_check_lane.specs.declared.volume.VolumeSize.{VolumeSize}

-- The grain size; the volumes, how hosts may reach each, and how large it is; the mappings with background work; the chains and
-- what plain volumes hold, at all grains; for each lane the faults of all disks that it ever had; and how many entries there are.
pub record Known : Type 0 where
  pub grain : GrainSize
  pub volumes : List LaneVolume
  pub sizes : List VolumeSize
  pub flags : List WorkFlags
  pub sheet : Sheet
  pub picture : Picture
  pub faults : List ℕ
  pub entries : ℕ

-- What a judge keeps of all that a history tells.
abbrev pub size_of : Volume → VolumeSize
size_of v = record { volume = v.id; grains = v.grains }

abbrev pub known_of : GrainSize → Whole → Known
known_of grain w =
    record {
      grain = grain;
      volumes = volumes_told w.books.tables;
      sizes = map size_of w.books.tables.volumes;
      flags = w.books.flags;
      sheet = w.books.sheet;
      picture = w.picture;
      faults = w.faults;
      entries = w.entries;
    }

-- All that matters at a grain, by what is kept.
abbrev pub spot_in : Known → ℕ → Spot
spot_in k number =
    record {
      column = column k.sheet.slots number;
      number = number;
      now = λ v. now_at (volume_in k.picture record { 0 = v }) number;
      is_thin = λ v. is_thin_in k.volumes v;
    }
