use Rattle.std.proofs.Common.{◌+◌, ◌-◌, ◌∙◌, Bool, length, sym, ap}
use Rattle.fc_reading_notes.specs.Lists.{while_at}
use Rattle.fc_reading_notes.specs.Notes.{note_at, notes_at, still_moving, with_note}
use Rattle.fc_reading_notes.specs.declared.notes.Notes.{Notes}
use Rattle.fc_reading_notes.proofs.Steps.{gathered, stop_through, while-end, while-more, while-stop}
use Rattle.fc_reading_notes.proofs.notes.take_notes.Goals as goal

pub returns-then-not-begins_line : goal.returns-then-not-begins_line
returns-then-not-begins_line c =
    c.loop.invariant
    ∙ while-end 43 note_at still_moving with_note c.loop.notes (length c.args.bytes.now - c.loop.counter) c.loop.moving c.loop.rest.now
    (sym c.if-not-begins_line.ensures)

pub returns-in-Err : goal.returns-in-Err
returns-in-Err c =
    stop_through (note_at c.loop.moving c.loop.rest.now) (notes_at c.args.bytes.now) c.in-Err.stop
    (
    λ n e.
    c.loop.invariant
    ∙ while-stop 43 note_at still_moving with_note c.loop.notes (length c.args.bytes.now) c.loop.counter c.loop.moving c.loop.rest.now n
    c.loop-test.true (sym c.if-not-begins_line.ensures) e
    )
    c.in-Err.ensures

pub loop-preserved : goal.loop-preserved
loop-preserved c =
    c.loop.invariant
    ∙ while-more 43 note_at still_moving with_note c.loop.notes (length c.args.bytes.now) c.loop.counter c.loop.moving c.loop.rest.now
    c.in-Ok.behind.now c.in-Ok.note c.loop-test.true (sym c.if-not-begins_line.ensures) c.in-Ok.ensures
    ∙ ap (λ (m : Bool). gathered with_note (with_note c.loop.notes c.in-Ok.note) (while_at 43 note_at still_moving (length c.args.bytes.now - (c.loop.counter + 1)) m c.in-Ok.behind.now))
    (sym c.still_moving-moving.ensures)
    ∙ ap (λ (n : Notes). gathered with_note n (while_at 43 note_at still_moving (length c.args.bytes.now - (c.loop.counter + 1)) c.still_moving-moving.result c.in-Ok.behind.now))
    (sym c.in_ok-add-in-Ok.ensures.ok)
