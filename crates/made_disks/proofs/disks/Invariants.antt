use Rattle.std.proofs.Common.{◌≡◌, map, vec_len}
use Rattle.std.specs.List.{All}
use Rattle.fc_mdisk.specs.Disk.{IsFresh}
use Rattle.made_disks.proofs.disks.Given as goal

-- so many disks were made, and all are fresh
abbrev pub invariant-loop-made : goal.invariant-loop-made
invariant-loop-made g l = record {
  many : vec_len l.disks ≡ l.made;
  fresh : All IsFresh (map g.D.Mdisk.meaning l.disks.items);
}
