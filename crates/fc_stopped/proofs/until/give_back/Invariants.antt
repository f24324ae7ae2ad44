use Rattle.std.proofs.Common.{◌≡◌, ◌+◌, ◌≤◌, ◌++◌, List, length, map, vec_len, vec_capacity}
use Rattle.fc_kept.specs.Disks.{NamedDisk}
use Rattle.fc_stopped.specs.Ending.{all_disks}
use Rattle.fc_stopped.proofs.until.give_back.Given as goal

abbrev pub invariant-loop-lane : goal.invariant-loop-lane
invariant-loop-lane g l = record {
  done : List (List NamedDisk);
  split : done ++ l.left.items ≡ l.fn.lanes.items;
  given : map g.D.Mdisk.meaning l.disks.items ≡ all_disks done;
  room : vec_len l.disks + length (all_disks l.left.items) ≤ vec_capacity l.disks;
}

abbrev pub decreases-loop-lane : goal.decreases-loop-lane
decreases-loop-lane g l = length l.left.items
