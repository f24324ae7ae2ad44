use Rattle.std.proofs.Common.{◌≡◌, ℕ, ◌<◌, ◌≤◌, length}
use Rattle.fc_tallies.specs.Tallies.{tally_at, tally_of, HasAwaited}
use Rattle.fc_tallies.proofs.tally.recount.Given as goal

-- the slots from this place on are counted
abbrev pub invariant-loop-place : goal.invariant-loop-place
invariant-loop-place l = record {
  within : l.place ≤ length l.slots;
  awaited : HasAwaited l.slots l.place l.waiting;
  counted : (k : ℕ) → l.place ≤ k → k < length l.slots → tally_at l.tallies k ≡ tally_of l.slots k;
}

abbrev pub decreases-loop-place : goal.decreases-loop-place
decreases-loop-place l = l.place
