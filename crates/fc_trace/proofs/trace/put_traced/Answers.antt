use Rattle.fc_entry.proofs.PartLemmas.{Written-parts, cut, last, next}
use Rattle.fc_trace.proofs.TraceParts.{traced_parts, traced_parts-joined}
use Rattle.fc_trace.proofs.trace.put_traced.Goals as goal

pub returns-in_err-put_line : goal.returns-in_err-put_line
returns-in_err-put_line g c =
    rw (c.entry-entry.ensures, c.from_residual.ensures.0)
    (Written-parts (traced_parts c.args.history.now.actors c.entry-entry.result.now) (traced_parts-joined c.args.history.now.actors c.entry-entry.result.now) (cut (rw c.entry-entry.ensures at c.in_err-put_line.ensures)))

pub returns-in_err-put_notes : goal.returns-in_err-put_notes
returns-in_err-put_notes g c =
    rw (c.entry-entry.ensures, c.from_residual-in_err-put_notes.ensures.0)
    (Written-parts (traced_parts c.args.history.now.actors c.entry-entry.result.now) (traced_parts-joined c.args.history.now.actors c.entry-entry.result.now) (next (rw c.entry-entry.ensures at c.in_ok-put_line.ensures) (cut c.in_err-put_notes.ensures)))

pub returns-in_err-put_reply_rows : goal.returns-in_err-put_reply_rows
returns-in_err-put_reply_rows g c =
    rw (c.entry-entry.ensures, c.from_residual-in_err-put_reply_rows.ensures.0)
    (Written-parts (traced_parts c.args.history.now.actors c.entry-entry.result.now) (traced_parts-joined c.args.history.now.actors c.entry-entry.result.now) (next (rw c.entry-entry.ensures at c.in_ok-put_line.ensures) (next c.in_ok-put_notes.ensures (cut c.in_err-put_reply_rows.ensures))))

pub returns : goal.returns
returns g c =
    rw c.entry-entry.ensures
    (Written-parts (traced_parts c.args.history.now.actors c.entry-entry.result.now) (traced_parts-joined c.args.history.now.actors c.entry-entry.result.now) (next (rw c.entry-entry.ensures at c.in_ok-put_line.ensures) (next c.in_ok-put_notes.ensures (next c.in_ok-put_reply_rows.ensures (last c.put_text.ensures)))))
