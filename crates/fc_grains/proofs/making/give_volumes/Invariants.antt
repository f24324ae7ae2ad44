use Rattle.std.proofs.Common.{◌≡◌, ◌+◌, ◌≤◌, ◌++◌, List, map, reverse, vec_len, vec_capacity}
use Rattle.fc_grains.specs.Parts.{VolumeDiskState}
use Rattle.fc_grains.proofs.making.give_volumes.Given as goal

abbrev pub invariant-loop-volume : goal.invariant-loop-volume
invariant-loop-volume g l = record {
  given : List g.row.D.Denot;
  items : l.into.items ≡ l.fn.into.items ++ given;
  disks : map g.D.Mdisk.meaning given ++ reverse (map (λ (v : VolumeDiskState). v.disk) l.volumes.items) ≡ reverse (map (λ (v : VolumeDiskState). v.disk) l.fn.volumes.items);
  room : vec_len l.into + vec_len l.volumes ≤ vec_capacity l.into;
  grown : vec_capacity l.fn.into ≤ vec_capacity l.into;
}

abbrev pub decreases-loop-volume : goal.decreases-loop-volume
decreases-loop-volume g l = vec_len l.volumes
