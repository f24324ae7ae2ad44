-- As far as the place the bytes are those of the word.
use Rattle.std.proofs.Common.{◌≡◌, ◌≤◌, drop, length}
use Rattle.fc_reading.specs.Readers.{word_at}
use Rattle.fc_reading.proofs.pieces.word.Given as goal

abbrev pub invariant-loop-place : goal.invariant-loop-place
invariant-loop-place l =
    (l.place ≤ length l.bytes) × (word_at l.word l.bytes ≡ word_at (drop l.place l.word) (drop l.place l.bytes))
