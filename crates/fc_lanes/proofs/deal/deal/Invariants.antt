use Rattle.std.proofs.Common.{◌≡◌, ◌++◌, List, length, map}
use Rattle.fc_mdisk.specs.Disk.{DiskState}
use Rattle.fc_lanes.specs.Dealing.{all_dealt, lists_of}
use Rattle.fc_lanes.proofs.deal.deal.Given as goal

abbrev pub invariant-loop-disk : goal.invariant-loop-disk
invariant-loop-disk g l = record {
  done : List DiskState;
  count_is : l.count ≡ l.fn.count;
  number : l.dealt ≡ length done;
  split : done ++ map g.D.Mdisk.meaning l.left.items ≡ map g.D.Mdisk.meaning l.fn.disks.items;
  lists : lists_of g.D.Mdisk.meaning l.lists.items ≡ all_dealt l.fn.count done;
}

abbrev pub decreases-loop-disk : goal.decreases-loop-disk
decreases-loop-disk g l = length l.left.items
