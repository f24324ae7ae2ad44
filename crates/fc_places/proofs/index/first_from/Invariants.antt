use Rattle.std.proofs.Common.{◌≡◌, ℕ, ◌<◌, ◌≤◌, ◌-◌, true, false, length}
use Rattle.fc_places.specs.Indexing.{entry_at, is_before}
use Rattle.fc_places.proofs.index.first_from.Given as goal

-- those below stand before, and those from the bound on don't
abbrev pub invariant-loop-low : goal.invariant-loop-low
invariant-loop-low l = record {
  ordered : l.low ≤ l.high;
  within : l.high ≤ length l.entries;
  before : (i : ℕ) → i < l.low → is_before l.key l.birth (entry_at l.entries i) ≡ true;
  rest : (i : ℕ) → l.high ≤ i → i < length l.entries → is_before l.key l.birth (entry_at l.entries i) ≡ false;
}

abbrev pub decreases-loop-low : goal.decreases-loop-low
decreases-loop-low l = l.high - l.low
