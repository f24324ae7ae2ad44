-- What stands on all disks at a moment, and when it stands for what a history leads to.
use Rattle.std.specs.Prelude.{if◌then◌else◌, List, []}
use Rattle.fc_base.specs.Sheet.{no_slots}
use Rattle.fc_base.specs.Tables.{no_tables}
use Rattle.fc_base.specs.declared.size.GrainSize.{GrainSize}
use Rattle.fc_changed.specs.Row.{Row}
use Rattle.fc_entry.specs.Picture.{Lost}
use Rattle.fc_legal.specs.Whole.{Whole, lane_of_grain, lane_at}
use Rattle.fc_rules.specs.LaneTold.{place_of}
use Rattle.fc_rules.specs.Shows.{Stored, Shows}
use Rattle.fc_kept.specs.Disks.{NamedDisk, disk_of, on_disk}
use Rattle.fc_kept.specs.Kept.{Kept, is_lost_in}
use Rattle.fc_kept.specs.Recoverable.{Says, disks_at}

-- What metadata says, and the disks of data, lane by lane.
pub record Point : Type 0 where
  pub kept : Kept
  pub disks : List (List NamedDisk)

-- Metadata of no volumes. Groups are counted from 1.
abbrev pub nothing_kept : Kept
nothing_kept = record { tables = no_tables; next_volume = 0; next_mapping = 0; next_group = 1; sheet = no_slots; rows = []; lost = [] }

-- What all disks of data have of each volume, by the numbers of its grains: each grain stands on a disk of its lane.
abbrev pub on_disks : GrainSize → Whole → List (List NamedDisk) → Stored
on_disks grain w disks v g =
    on_disk (lane_at grain w (lane_of_grain w g)) (disk_of (disks_at disks (lane_of_grain w g)) v) (place_of (lane_at grain w (lane_of_grain w g)) g)

-- What is stored by it: the grain is lost where metadata says so.
abbrev pub stored_by : GrainSize → Whole → Point → Stored
stored_by grain w p v g = if is_lost_in p.kept.lost v g then Lost else on_disks grain w p.disks v g

-- It stands for what the history leads to: metadata says it, and on its chains the disks show what plain volumes hold.
pub record StandsFor (grain : GrainSize) (w : Whole) (least : List Row) (p : Point) : Type 0 where
  pub says : Says grain p.disks p.kept w least
  pub shows : Shows w.books.sheet.slots w.picture (stored_by grain w p)
