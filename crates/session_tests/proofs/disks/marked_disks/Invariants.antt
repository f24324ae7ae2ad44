use Rattle.std.proofs.Common.{◌≡◌, map, vec_len}
use Rattle.std.specs.List.{All}
use Rattle.fc_mdisk.specs.Disk.{IsFresh}
use Rattle.session_tests.specs.declared.disks.MarkedDisk.{MarkedDisk}
use Rattle.session_tests.proofs.disks.marked_disks.Given as goal

-- so many disks were made, and all are fresh
abbrev pub invariant-loop-mark : goal.invariant-loop-mark
invariant-loop-mark l = record {
  many : vec_len l.disks ≡ l.mark;
  fresh : All IsFresh (map (λ (d : MarkedDisk). d.disk) l.disks.items);
}
