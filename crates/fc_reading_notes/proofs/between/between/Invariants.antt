-- The digits before the place are those of the number so far.
use Rattle.std.proofs.Common.{◌≡◌, ◌≤◌, drop}
use Rattle.fc_reading_notes.specs.Between.{between_at, between_from}
use Rattle.fc_reading_notes.proofs.between.between.Given as goal

abbrev pub invariant-loop-place : goal.invariant-loop-place
invariant-loop-place l =
    (1 ≤ l.place) × (l.value ≤ l.most) × (between_at l.least l.most l.bytes ≡ between_from l.least l.most l.value (drop l.place l.bytes))
