-- The ranges so far, and what is read behind them; ranges from the least grain on may stand there.
use Rattle.std.proofs.Common.{◌≡◌, ◌+◌, ◌-◌, ◌≤◌, length}
use Rattle.fc_reading_notes.specs.Lines.{range_at, ranges_at}
use Rattle.fc_reading_notes.specs.Lists.{behind_items, chain_at}
use Rattle.fc_reading_notes.proofs.Steps.{HasBehind}
use Rattle.fc_reading_notes.proofs.lines.take_ranges.Given as goal

abbrev pub invariant-loop : goal.invariant-loop
invariant-loop l =
    (ranges_at l.bytes ≡ behind_items l.ranges (chain_at range_at (λ least range. range.last + 2) (length l.bytes - l.counter) l.least l.rest))
    × HasBehind l.ranges l.least × (l.least ≤ 4294967295)
