use Rattle.std.proofs.Common.{◌≡◌, ◌+◌, ◌≤◌, map}
use Rattle.fc_top.proofs.TracedLemmas.{left_at}
use Rattle.fc_top.proofs.traced.disks_of_lane.Given as goal

-- what is counted and what is left are all disks of the lane
abbrev pub invariant-loop-place : goal.invariant-loop-place
invariant-loop-place g l = record {
  flat : l.of.flat + (left_at l.lane (map g.D.Mdisk.meaning l.disks) l.place).flat ≡ (left_at l.lane (map g.D.Mdisk.meaning l.disks) 0).flat;
  thin : l.of.thin + (left_at l.lane (map g.D.Mdisk.meaning l.disks) l.place).thin ≡ (left_at l.lane (map g.D.Mdisk.meaning l.disks) 0).thin;
  flat_within : l.of.flat ≤ l.place;
  thin_within : l.of.thin ≤ l.place;
}
