-- What may be recovered from metadata and the disks as they are.
use Rattle.std.specs.Prelude.{◌≡◌, ℕ, ◌<◌, List, [], length, slice_index_or, Option}
use Rattle.fc_base.specs.Sheet.{Sheet}
use Rattle.fc_base.specs.declared.request.Request.{Request}
use Rattle.fc_base.specs.declared.size.GrainSize.{GrainSize}
use Rattle.fc_changed.specs.Row.{Row}
use Rattle.fc_legal.specs.Whole.{Whole, lanes, lane_at, part_of_sheet, part_of_picture}
use Rattle.fc_rules.specs.Shows.{Shows}
use Rattle.fc_kept.specs.Kept.{Kept}
use Rattle.fc_kept.specs.Sound.{IsSoundKept}
use Rattle.fc_kept.specs.Drops.{DropsTo}
use Rattle.fc_kept.specs.Marks.{AreMarked}
use Rattle.fc_kept.specs.OneGrain.{Another, with_another, IsMarkedOne}
use Rattle.fc_kept.specs.Prefix.{Prefix}
use Rattle.fc_kept.specs.Disks.{NamedDisk, stored_on, FitDisks}

abbrev pub disks_at : List (List NamedDisk) → ℕ → List NamedDisk
disks_at disks i = slice_index_or disks i []

-- Metadata over these disks, lane by lane, says so much of what is told: the tables and the next ids; the chains, but for old slots
-- that nobody needs; and the rows, but for writes that were begun. Each lane has the disks that it needs.
pub record Says (grain : GrainSize) (disks : List (List NamedDisk)) (k : Kept) (now : Whole) (least : List Row) : Type 0 where
  pub sound : IsSoundKept k
  pub tables : k.tables ≡ now.books.tables
  pub next_volume : k.next_volume ≡ now.books.next_volume
  pub next_mapping : k.next_mapping ≡ now.books.next_mapping
  pub next_group : k.next_group ≡ now.books.next_group
  pub slots : DropsTo k.sheet now.books.sheet
  pub rows : AreMarked k.rows now.rows least
  pub count : length disks ≡ lanes now
  pub fit : (i : ℕ) → i < length disks → FitDisks (lane_at grain now i) (disks_at disks i) k.tables

-- The disks of each lane show on these chains what plain volumes hold there, but for the one grain.
abbrev pub ShowsAll : GrainSize → List (List NamedDisk) → Kept → Whole → Option Another → Sheet → Type 0
ShowsAll grain disks k now one s =
    (i : ℕ) → i < length disks →
    Shows (part_of_sheet (lane_at grain now i) s).slots
    (part_of_picture (lane_at grain now i) (with_another one s.slots now.picture))
    (stored_on (lane_at grain now i) (disks_at disks i) k)

-- What may be recovered where this is what metadata says: where the history `w` leads to, with the entry that `asked` stands for, if
-- one is under way. One physical grain may hold something else; where that shows, it counts as changed.
pub record Recoverable
    (grain : GrainSize) (disks : List (List NamedDisk)) (k : Kept) (w : Whole) (least : List Row) (asked : Option Request) (one : Option Another)
    : Type 0 where
  pub now : Whole
  pub least_now : List Row
  pub is : Prefix grain w least asked now least_now
  pub says : Says grain disks k now least_now
  pub shows : ShowsAll grain disks k now one k.sheet
  pub marked : IsMarkedOne one k.sheet.slots k.rows
