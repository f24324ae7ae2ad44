use Rattle.std.proofs.Common.{◌≡◌, ◌≢◌, ℕ, ◌<◌, ◌-◌, true, false, length, get_or}
use Rattle.fc_base.specs.Sheet.{slot_at}
use Rattle.fc_slots.specs.Walks.{WaitsBehind}
use Rattle.fc_slots.proofs.walk.first_waiting.Given as goal

-- no slot of the chain so far holds the grain, and no live one is there but the one left out
abbrev pub invariant-loop-place : goal.invariant-loop-place
invariant-loop-place l = record {
  behind : l.from < l.place;
  none_holds : (j : ℕ) → l.from < j → j < l.place → (slot_at l.slots j).chain ≡ (slot_at l.slots l.from).chain → get_or (slot_at l.slots j).held l.grain false ≡ true → ⊥;
  none_waits : (j : ℕ) → j < l.place → j ≢ l.but → WaitsBehind l.slots l.grain l.from j → ⊥;
}

abbrev pub decreases-loop-place : goal.decreases-loop-place
decreases-loop-place l = length l.slots - l.place
