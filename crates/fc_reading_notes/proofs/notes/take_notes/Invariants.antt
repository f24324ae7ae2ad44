-- What the lines so far say, and what is read behind them.
use Rattle.std.proofs.Common.{◌≡◌, ◌-◌, length}
use Rattle.fc_reading_notes.specs.Lists.{while_at}
use Rattle.fc_reading_notes.specs.Notes.{note_at, notes_at, still_moving, with_note}
use Rattle.fc_reading_notes.proofs.Steps.{gathered}
use Rattle.fc_reading_notes.proofs.notes.take_notes.Given as goal

abbrev pub invariant-loop : goal.invariant-loop
invariant-loop l =
    notes_at l.bytes ≡ gathered with_note l.notes (while_at 43 note_at still_moving (length l.bytes - l.counter) l.moving l.rest)
