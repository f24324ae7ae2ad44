-- The disks that are done have their names, and those that are left will have theirs.
use Rattle.std.proofs.Common.{◌≡◌, ◌+◌, ◌++◌, drop, length, map, reverse}
use Rattle.fc_held.proofs.Naming.{with_names}
use Rattle.fc_held.proofs.held.lane_named.Given as goal

abbrev pub invariant-loop-disk : goal.invariant-loop-disk
invariant-loop-disk g l = record {
  count : l.place + length l.left.items ≡ length l.initial.left.items;
  named : l.back.items ++ with_names l.named (drop l.place (reverse l.volumes)) (map g.D.Mdisk.meaning l.left.items)
      ≡ with_names l.named (reverse l.volumes) (map g.D.Mdisk.meaning l.initial.left.items);
}

abbrev pub decreases-loop-disk : goal.decreases-loop-disk
decreases-loop-disk g l = length l.left.items
