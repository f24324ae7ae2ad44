-- A disk that is told beforehand which of its calls fail.
use Rattle.std.specs.Prelude.{ℕ, ◌==◌, Bool, List}
use Rattle.std.specs.List.{list_any}
use Rattle.fc_base.specs.Count.{one_more}
use Rattle.fc_mdisk.specs.Disk.{DiskState}

-- The disk, and the numbers of the calls that fail, the first call being 1.
pub record FailingDisk : Type 0 where
  pub disk : DiskState
  pub failing : List ℕ

-- Whether the coming call is one of them.
abbrev pub fails_next : FailingDisk → Bool
fails_next d = list_any (λ n. n == one_more d.disk.calls) d.failing
