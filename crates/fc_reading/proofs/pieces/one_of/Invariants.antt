-- No word before this one stands there; of those the furthest leaves so many bytes.
use Rattle.std.proofs.Common.{◌≡◌, ◌≤◌, drop, length, map}
use Rattle.fc_reading.specs.Readers.{one_of_at}
use Rattle.fc_reading.proofs.PieceLemmas.{behind}
use Rattle.fc_reading.proofs.pieces.one_of.Given as goal

abbrev pub invariant-loop-index : goal.invariant-loop-index
invariant-loop-index l =
    (l.left ≤ length l.bytes)
    × (one_of_at (map (λ word. word.now) l.words) l.bytes ≡ behind l.index l.left (one_of_at (drop l.index (map (λ word. word.now) l.words)) l.bytes))
