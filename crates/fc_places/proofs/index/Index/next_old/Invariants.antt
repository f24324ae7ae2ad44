use Rattle.std.proofs.Common.{◌≡◌, ℕ, ◌<◌, ◌≤◌, ◌-◌, false, length}
use Rattle.fc_places.specs.Indexing.{entry_at}
use Rattle.fc_places.proofs.Olds.{is_old_after}
use Rattle.fc_places.proofs.index.Index.next_old.Given as goal

-- none so far passes
abbrev pub invariant-loop-at : goal.invariant-loop-at
invariant-loop-at l = record {
  first : l.initial.at ≤ l.at;
  none : (i : ℕ) → i < l.at → i < length l.self.entries → (entry_at l.self.entries i).key ≡ l.key → is_old_after l.slots l.volume l.after (entry_at l.self.entries i).place ≡ false;
}

abbrev pub decreases-loop-at : goal.decreases-loop-at
decreases-loop-at l = length l.self.entries - l.at
