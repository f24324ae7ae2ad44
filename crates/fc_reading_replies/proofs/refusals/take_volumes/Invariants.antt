-- The volumes so far, and what is read behind them.
use Rattle.std.proofs.Common.{◌≡◌, ◌-◌, length}
use Rattle.fc_reading_notes.specs.Lists.{behind_items, chain_at}
use Rattle.fc_reading_replies.specs.Refusals.{volume_at, volumes_at}
use Rattle.fc_reading_replies.proofs.refusals.take_volumes.Given as goal

abbrev pub invariant-loop : goal.invariant-loop
invariant-loop l =
    volumes_at l.bytes ≡ behind_items l.volumes (chain_at (λ (state : Unit {0}). volume_at) (λ state volume. tt) (length l.bytes - l.counter) tt l.rest)
