-- The bytes before the place are those of a name so far.
use Rattle.std.proofs.Common.{◌≡◌, ◌≤◌, drop, take}
use Rattle.fc_reading_requests.specs.Parts.{name_at, name_from}
use Rattle.fc_reading_requests.proofs.parts.take_name_bytes.Given as goal

abbrev pub invariant-loop-place : goal.invariant-loop-place
invariant-loop-place l = (l.place ≤ 63) × (name_at l.bytes ≡ name_from (take l.place l.bytes) (drop l.place l.bytes))
