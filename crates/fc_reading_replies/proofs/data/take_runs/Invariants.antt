-- The runs so far, and what is read behind them; a run of any byte but the last one's may stand there.
use Rattle.std.proofs.Common.{◌≡◌, ◌-◌, length}
use Rattle.fc_reading_notes.specs.Lists.{behind_items, chain_at}
use Rattle.fc_reading_replies.specs.Data.{run_at, run_next, runs_at}
use Rattle.fc_reading_replies.proofs.Steps.{HasBehind}
use Rattle.fc_reading_replies.proofs.data.take_runs.Given as goal

abbrev pub invariant-loop : goal.invariant-loop
invariant-loop l =
    (runs_at l.bytes ≡ behind_items l.runs (chain_at run_at run_next (length l.bytes - l.counter) l.before l.rest))
    × HasBehind l.runs l.before
