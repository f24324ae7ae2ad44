-- What a command leaves of metadata.
use Rattle.std.specs.Prelude.{◌≡◌, ℕ, ◌<◌, ◌≤◌, List, length, filter, Contains, None, IsSome, map}
use Rattle.fc_base.specs.Pools.{of_kind}
use Rattle.fc_base.specs.declared.command.Command.{Command}
use Rattle.fc_base.specs.declared.disk.DiskKind.{DiskKind}
use Rattle.fc_base.specs.declared.size.GrainSize.{GrainSize}
use Rattle.fc_base.specs.declared.volume.Volume.{Volume}
use Rattle.fc_changed.specs.Notes.{grains_with}
use Rattle.fc_changed.specs.Row.{Row}
use Rattle.fc_follow.specs.Alike.{AreAlike}
use Rattle.fc_legal.specs.Whole.{Whole, all_followed, lane_at, pool_at}
use Rattle.law_stands.specs.Reached.{IsReached}
use Rattle.fc_kept.specs.Disks.{NamedDisk, FitDisks, disk_of, is_free}
use Rattle.fc_kept.specs.Kept.{LostGrains, Kept, is_lost_in}
use Rattle.fc_kept.specs.Marks.{AreMarked, LeastLeft}
use Rattle.fc_kept.specs.Recoverable.{disks_at}

-- The lost grains of the volumes that are left, in their order, as they were. Of a volume that came none is lost.
abbrev pub lost_of : List LostGrains → Volume → LostGrains
lost_of lost v = record { volume = v.id.0; lost = grains_with (is_lost_in lost v.id.0) v.grains }

abbrev pub lost_left : Whole → List LostGrains → List LostGrains
lost_left left lost = map (lost_of lost) left.books.tables.volumes

-- Metadata made anew: all that is left, with these rows and these lost grains.
abbrev pub made_anew : Whole → List Row → List LostGrains → Kept
made_anew left rows lost =
    record {
      tables = left.books.tables;
      next_volume = left.books.next_volume;
      next_mapping = left.books.next_mapping;
      next_group = left.books.next_group;
      sheet = left.books.sheet;
      rows = rows;
      lost = lost_left left lost;
    }

-- A command leaves metadata made anew behind what it leaves of the history, with any rows that lie between the history's and the least
-- rows; or, where nothing was done for want of memory, all as it was.
pub data Leaves (grain : GrainSize) (w : Whole) (least : List Row) (k : Kept) (command : Command) : Whole → List Row → Kept → Type 0 where
  anew : (left : Whole) (least' rows : List Row) → LeastLeft grain w least command left least' → AreMarked rows left.rows least' →
      Leaves grain w least k command left least' (made_anew left rows k.lost)
  unsettled : Leaves grain w least k command w least k

-- No disk has the name of a volume that is yet to come.
abbrev pub AreUnnamed : Whole → List (List NamedDisk) → Type 0
AreUnnamed w disks = (i v : ℕ) → w.books.next_volume ≤ v → disk_of (disks_at disks i) v ≡ None

-- Each volume has its disk in each lane; and of each kind as many disks are free there as the pools say, or more.
pub record HaveTheirDisks (w : Whole) (disks : List (List NamedDisk)) : Type 0 where
  pub named : (i : ℕ) (v : Volume) → i < length disks → Contains w.books.tables.volumes v → IsSome (disk_of (disks_at disks i) v.id.0)
  pub free : (i : ℕ) (kind : DiskKind) → i < length disks → of_kind kind (pool_at w.books.pools i) ≤ length (filter (is_free kind) (disks_at disks i))

-- The disks of each lane fit the tables.
abbrev pub AreFit : GrainSize → Whole → List (List NamedDisk) → Type 0
AreFit grain w disks = (i : ℕ) → i < length disks → FitDisks (lane_at grain w i) (disks_at disks i) w.books.tables

-- What holds between two entries besides: some decisions led to it, both volumes of a row show the same at its grains, and no disk has
-- a name too early.
pub record GoesOn (decisions : ℕ) (w : Whole) (disks : List (List NamedDisk)) : Type 0 where
  pub reached : IsReached decisions w
  pub alike : AreAlike (all_followed w)
  pub unnamed : AreUnnamed w disks
