-- What a stopped store's metadata and disks are together.
use Rattle.std.specs.Prelude.{◌≡◌, ◌⊎◌, ℕ, ◌<◌, ◌^◌, List, length, All, Option}
use Rattle.fc_base.specs.Grain.{grain_bytes}
use Rattle.fc_base.specs.declared.request.Request.{Request}
use Rattle.fc_base.specs.declared.size.GrainSize.{GrainSize}
use Rattle.fc_base.specs.declared.volume.Volume.{Volume}
use Rattle.fc_changed.specs.Row.{Row}
use Rattle.fc_image.specs.declared.image.MetaImage.{MetaImage}
use Rattle.fc_legal.specs.Whole.{Whole}
use Rattle.fc_kept.specs.Disks.{NamedDisk, FitDisks}
use Rattle.fc_kept.specs.Images.{tables_in}
use Rattle.fc_kept.specs.Kept.{Kept}
use Rattle.fc_kept.specs.OneGrain.{Another}
use Rattle.fc_kept.specs.Recoverable.{disks_at, Says, ShowsAll, Recoverable}
use Rattle.fc_kept.specs.Sound.{IsSoundImage}
use Rattle.fc_recovered.specs.Readying.{HasWholeGrains, AllHaveDisks, readied}
use Rattle.fc_recovered.specs.Showing.{lane_over}

-- The image, and the disks lane by lane.
pub record RecoveredState : Type 0 where
  pub grain : GrainSize
  pub image : MetaImage
  pub disks : List (List NamedDisk)

-- Metadata and disks that may be read: the image is sound, there are lanes, which a u32 counts, and the disks of each lane fit the
-- tables, with whole grains where they are volumes'.
pub record CanRecover (grain : GrainSize) (image : MetaImage) (disks : List (List NamedDisk)) : Type 0 where
  pub sound : IsSoundImage image
  pub some : 0 < length disks
  pub few : length disks < 2 ^ 32
  pub fit : (i : ℕ) → i < length disks → FitDisks (lane_over grain disks i) (disks_at disks i) (tables_in image)
  pub whole : (i : ℕ) → i < length disks → All (HasWholeGrains grain) (disks_at disks i)

-- The disks after each lane's first volume without one got one.
pub record AreReadied (grain : GrainSize) (volumes : List Volume) (old new : List (List NamedDisk)) : Type 0 where
  pub count : length new ≡ length old
  pub each : (i : ℕ) → i < length old → disks_at new i ≡ readied (lane_over grain old i) volumes (disks_at old i)

-- For want of memory the disks of each lane are as they were or so.
pub record AreHandedBack (grain : GrainSize) (volumes : List Volume) (old new : List (List NamedDisk)) : Type 0 where
  pub count : length new ≡ length old
  pub each : (i : ℕ) → i < length old → (disks_at new i ≡ disks_at old i) ⊎ (disks_at new i ≡ readied (lane_over grain old i) volumes (disks_at old i))

-- What always holds: every volume of the table has its disk in every lane; and there is room for the bytes of a grain.
pub record IsRecovered (grain : GrainSize) (image : MetaImage) (disks : List (List NamedDisk)) (buffer : List ℕ) : Type 0 where
  pub sound : IsSoundImage image
  pub some : 0 < length disks
  pub ready : (i : ℕ) → i < length disks → AllHaveDisks (lane_over grain disks i) image.volumes (disks_at disks i)
  pub room : length buffer ≡ grain_bytes grain

-- What metadata over these disks says and shows, as `Recoverable` has it: what is told of `now`, but for rows of writes that were
-- begun, and what plain volumes hold then, but for the one grain.
pub record RecoversTo (grain : GrainSize) (disks : List (List NamedDisk)) (k : Kept) (now : Whole) (one : Option Another) : Type 0 where
  pub least : List Row
  pub says : Says grain disks k now least
  pub shows : ShowsAll grain disks k now one k.sheet

-- Whatever may be recovered is stood for so.
abbrev pub recovers_to_now :
    (grain : GrainSize) (disks : List (List NamedDisk)) (k : Kept) (w : Whole) (least : List Row) (asked : Option Request) (one : Option Another)
    (r : Recoverable grain disks k w least asked one) → RecoversTo grain disks k r.now one
recovers_to_now grain disks k w least asked one r = record { least = r.least_now; says = r.says; shows = r.shows }
