-- The pairs so far, and what is read behind them.
use Rattle.std.proofs.Common.{◌≡◌, ◌-◌, length}
use Rattle.fc_reading_notes.specs.Lines.{pair_at, pairs_at}
use Rattle.fc_reading_notes.specs.Lists.{behind_items, chain_at}
use Rattle.fc_reading_notes.proofs.lines.take_pairs.Given as goal

abbrev pub invariant-loop : goal.invariant-loop
invariant-loop l =
    pairs_at l.bytes ≡ behind_items l.pairs (chain_at (λ (state : Unit {0}). pair_at) (λ state pair. tt) (length l.bytes - l.counter) tt l.rest)
