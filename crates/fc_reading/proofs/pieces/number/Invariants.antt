-- The digits before the place are those of the number so far.
use Rattle.std.proofs.Common.{◌≡◌, ◌≤◌, drop}
use Rattle.fc_reading.specs.Readers.{number_at, number_from}
use Rattle.fc_reading.proofs.pieces.number.Given as goal

abbrev pub invariant-loop-place : goal.invariant-loop-place
invariant-loop-place l =
    (1 ≤ l.place) × (l.value ≤ l.most) × (number_at l.most l.bytes ≡ number_from l.most l.value (drop l.place l.bytes))
