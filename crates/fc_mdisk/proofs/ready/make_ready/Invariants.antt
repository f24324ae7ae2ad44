use Rattle.std.proofs.Common.{ℕ, ◌<◌, map, get_or}
use Rattle.fc_mdisk.specs.Disk.{DiskState, IsFresh}
use Rattle.fc_mdisk.proofs.ready.make_ready.Given as goal

-- the disks so far are fresh
abbrev pub invariant-loop-place : goal.invariant-loop-place
invariant-loop-place g l = (k : ℕ) (d : DiskState) → k < l.place → IsFresh (get_or (map g.D.Mdisk.meaning l.disks) k d)
