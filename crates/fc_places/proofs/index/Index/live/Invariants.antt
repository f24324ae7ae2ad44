use Rattle.std.proofs.Common.{◌≡◌, ℕ, ◌<◌, ◌≤◌, ◌-◌, false, length}
use Rattle.fc_base.specs.Sheet.{slot_at}
use Rattle.fc_places.specs.Indexing.{entry_at}
use Rattle.fc_places.proofs.index.Index.live.Given as goal

-- no live slot of the volume is listed so far
abbrev pub invariant-loop-at : goal.invariant-loop-at
invariant-loop-at l = record {
  first : l.initial.at ≤ l.at;
  none : (i : ℕ) → i < l.at → i < length l.self.entries → (entry_at l.self.entries i).key ≡ l.key → (slot_at l.slots (entry_at l.self.entries i).place).is_live ≡ false;
}

abbrev pub decreases-loop-at : goal.decreases-loop-at
decreases-loop-at l = length l.self.entries - l.at
