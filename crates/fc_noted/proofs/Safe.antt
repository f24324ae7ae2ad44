-- What may be recovered with every grain as it was is safe.
use Rattle.std.proofs.Common.{List, Option, None}
use Rattle.fc_base.specs.declared.request.Request.{Request}
use Rattle.fc_base.specs.declared.size.GrainSize.{GrainSize}
use Rattle.fc_changed.specs.Row.{Row}
use Rattle.fc_kept.specs.Disks.{NamedDisk}
use Rattle.fc_kept.specs.Kept.{Kept}
use Rattle.fc_kept.specs.Recoverable.{Recoverable}
use Rattle.fc_legal.specs.Whole.{Whole}
use Rattle.law_noted.specs.One.{IsOldOrNew.old, IsSafe}

pub as_it_was : (grain : GrainSize) (disks : List (List NamedDisk)) (k : Kept) (w : Whole) (least : List Row) (asked : Option Request) (AWriteFailed : Type 0) → Recoverable grain disks k w least asked None →
    IsSafe grain disks k w least asked AWriteFailed
as_it_was grain disks k w least asked AWriteFailed r = record { one = None; recoverable = r; one_is = old asked }
