use Rattle.std.proofs.Common.{◌≡◌, ◌+◌, ◌≤◌, ◌++◌, List, length, map, vec_len, vec_capacity}
use Rattle.fc_kept.specs.Disks.{NamedDisk}
use Rattle.fc_stopped.specs.Ending.{own_disks}
use Rattle.fc_stopped.proofs.until.give_lane.Given as goal

abbrev pub invariant-loop-named : goal.invariant-loop-named
invariant-loop-named g l = record {
  done : List NamedDisk;
  split : done ++ l.left.items ≡ l.fn.lane;
  given : map g.D.Mdisk.meaning l.disks.items ≡ map g.D.Mdisk.meaning l.fn.disks.items ++ own_disks done;
  room : vec_len l.disks + length l.left.items ≤ vec_capacity l.disks;
  capacity : vec_capacity l.fn.disks ≤ vec_capacity l.disks;
}

abbrev pub decreases-loop-named : goal.decreases-loop-named
decreases-loop-named g l = length l.left.items
