use Rattle.std.proofs.Common.{◌≡◌, ◌++◌, List, length, vec_len}
use Rattle.std.specs.List.{All}
use Rattle.fc_mdisk.specs.Disk.{DiskState}
use Rattle.fc_lanes.specs.Dealing.{Begin, FitLane, lists_of}
use Rattle.fc_lanes.proofs.deal.make_lanes.Given as goal

abbrev pub invariant-loop-disks : goal.invariant-loop-disks
invariant-loop-disks g l = record {
  done : List (List DiskState);
  count_is : l.count ≡ vec_len l.fn.lists;
  split : done ++ lists_of g.D.Mdisk.meaning l.left.items ≡ lists_of g.D.Mdisk.meaning l.fn.lists.items;
  begin : Begin l.fn.grain (vec_len l.fn.lists) done l.lanes.items;
  fit : All FitLane (lists_of g.D.Mdisk.meaning l.left.items);
}

abbrev pub decreases-loop-disks : goal.decreases-loop-disks
decreases-loop-disks g l = length l.left.items
