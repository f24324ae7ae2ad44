use Rattle.std.proofs.Common.{◌≡◌, ℕ, ◌<◌, ◌≤◌, ◌-◌, length}
use Rattle.fc_base.specs.Counts.{LiveBehind}
use Rattle.fc_places.specs.Indexing.{entry_at}
use Rattle.fc_places.proofs.index.Index.is_source.Given as goal

-- no slot of the volume so far has a live slot behind it
abbrev pub invariant-loop-at : goal.invariant-loop-at
invariant-loop-at l = record {
  first : l.initial.at ≤ l.at;
  none : (i : ℕ) → i < l.at → i < length l.self.entries → (entry_at l.self.entries i).key ≡ l.key → LiveBehind l.slots (entry_at l.self.entries i).place → ⊥;
}

abbrev pub decreases-loop-at : goal.decreases-loop-at
decreases-loop-at l = length l.self.entries - l.at
