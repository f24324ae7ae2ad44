use Rattle.std.proofs.Common.{ℕ, ◌<◌, ◌≤◌, length}
use Rattle.fc_loops.specs.Joins.{volume_at, IsListed, IsRising}
use Rattle.fc_loops.proofs.links.each_once.Given as goal

-- the first of them are listed, each once
abbrev pub invariant-loop-volume : goal.invariant-loop-volume
invariant-loop-volume l = record {
  rising : IsRising l.volumes.items;
  last : (k j : ℕ) → k < length l.volumes.items → l.volume-index ≤ j → j < length l.sorted → volume_at l.volumes.items k ≤ volume_at l.sorted j;
  all : (j : ℕ) → j < l.volume-index → IsListed l.volumes.items (volume_at l.sorted j);
}
