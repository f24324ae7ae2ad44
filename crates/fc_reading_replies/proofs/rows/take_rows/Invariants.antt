-- The rows so far, and what is read behind them.
use Rattle.std.proofs.Common.{◌≡◌, ◌-◌}
use Rattle.fc_reading_notes.specs.Lists.{behind_items}
use Rattle.fc_reading_replies.specs.Rows.{rows_at}
use Rattle.fc_reading_replies.proofs.rows.take_rows.Given as goal

abbrev pub invariant-loop : goal.invariant-loop
invariant-loop l = rows_at l.count l.bytes ≡ behind_items l.rows (rows_at (l.count - l.counter) l.rest)
