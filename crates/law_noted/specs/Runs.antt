-- A history on the disks of a store.
use Rattle.std.specs.Prelude.{◌≡◌, ◌<◌, List, [], length}
use Rattle.fc_base.specs.Pools.{Pool}
use Rattle.fc_base.specs.declared.size.GrainSize.{GrainSize}
use Rattle.fc_changed.specs.Row.{Row}
use Rattle.fc_entry.specs.declared.entry.Entry.{Entry}
use Rattle.fc_kept.specs.Disks.{NamedDisk}
use Rattle.fc_legal.specs.Whole.{Whole, opened}
use Rattle.law_crash.specs.Leaving.{AreUnnamed, HaveTheirDisks}
use Rattle.law_crash.specs.Points.{Point, nothing_kept}
use Rattle.law_crash.specs.Running.{Run}

-- A history's entries were done on what stood on the disks at first, and led to a point.
pub record HasRun (grain : GrainSize) (entries : List Entry) (w : Whole) (least : List Row) (p : Point) : Type 0 where
  pub pools : List Pool
  pub disks : List (List NamedDisk)
  pub some : 0 < length pools
  pub count : length disks ≡ length pools
  pub unnamed : AreUnnamed (opened pools) disks
  pub run : let first : Point = record { kept = nothing_kept; disks = disks } in Run grain (opened pools) [] first entries w least p
  pub have : HaveTheirDisks w p.disks
