-- No newline so far.
use Rattle.std.proofs.Common.{◌≡◌, drop, false, take}
use Rattle.fc_reading_notes.specs.Lists.{behind_items, starts_with}
use Rattle.fc_reading_replies.specs.Rows.{line_from}
use Rattle.fc_reading_replies.proofs.rows.take_row.Given as goal

abbrev pub invariant-loop-place : goal.invariant-loop-place
invariant-loop-place l =
    (starts_with 43 l.bytes ≡ false) × (line_from l.bytes ≡ behind_items (take l.place l.bytes) (line_from (drop l.place l.bytes)))
