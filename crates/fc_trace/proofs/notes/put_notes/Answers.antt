use Rattle.fc_entry.proofs.PartLemmas.{Written-parts, cut, last, next}
use Rattle.fc_trace.proofs.TraceParts.{notes_parts, notes_parts-joined}
use Rattle.fc_trace.proofs.notes.put_notes.Goals as goal

pub returns-in_err-put_calls : goal.returns-in_err-put_calls
returns-in_err-put_calls g c =
    rw c.from_residual.ensures.0
    (Written-parts (notes_parts c.args.entry.now) (notes_parts-joined c.args.entry.now) (cut c.in_err-put_calls.ensures))

pub returns-in_err-put_moves : goal.returns-in_err-put_moves
returns-in_err-put_moves g c =
    rw c.from_residual-in_err-put_moves.ensures.0
    (Written-parts (notes_parts c.args.entry.now) (notes_parts-joined c.args.entry.now) (next c.in_ok-put_calls.ensures (cut (rw c.as_slice.ensures at c.in_err-put_moves.ensures))))

pub returns-in_err-put_torn : goal.returns-in_err-put_torn
returns-in_err-put_torn g c =
    rw c.from_residual-in_err-put_torn.ensures.0
    (Written-parts (notes_parts c.args.entry.now) (notes_parts-joined c.args.entry.now) (next c.in_ok-put_calls.ensures (next (rw c.as_slice.ensures at c.in_ok-put_moves.ensures) (cut c.in_err-put_torn.ensures))))

pub returns : goal.returns
returns g c =
    Written-parts (notes_parts c.args.entry.now) (notes_parts-joined c.args.entry.now)
    (next c.in_ok-put_calls.ensures (next (rw c.as_slice.ensures at c.in_ok-put_moves.ensures) (next c.in_ok-put_torn.ensures (last (rw c.as_slice-2.ensures at c.put_effects.ensures)))))
