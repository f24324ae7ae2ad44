use Rattle.fc_entry.proofs.PartLemmas.{Written-parts, cut, last, next}
use Rattle.fc_trace.proofs.TraceParts.{header_parts, header_parts-joined}
use Rattle.fc_trace.proofs.header.put_header.Goals as goal

pub returns-in_err-put_store : goal.returns-in_err-put_store
returns-in_err-put_store g c =
    rw c.from_residual.ensures.0
    (Written-parts (header_parts c.args.grain c.args.lanes.now) (header_parts-joined c.args.grain c.args.lanes.now) (cut c.in_err-put_store.ensures))

pub returns-in_err-put_counts : goal.returns-in_err-put_counts
returns-in_err-put_counts g c =
    rw c.from_residual-in_err-put_counts.ensures.0
    (Written-parts (header_parts c.args.grain c.args.lanes.now) (header_parts-joined c.args.grain c.args.lanes.now) (next c.in_ok-put_store.ensures (cut c.in_err-put_counts.ensures)))

pub returns-in_err-put_text : goal.returns-in_err-put_text
returns-in_err-put_text g c =
    rw c.from_residual-in_err-put_text.ensures.0
    (Written-parts (header_parts c.args.grain c.args.lanes.now) (header_parts-joined c.args.grain c.args.lanes.now) (next c.in_ok-put_store.ensures (next c.in_ok-put_counts.ensures (cut c.in_err-put_text.ensures))))

pub returns-in_err-put_counts-2 : goal.returns-in_err-put_counts-2
returns-in_err-put_counts-2 g c =
    rw c.from_residual-in_err-put_counts-2.ensures.0
    (Written-parts (header_parts c.args.grain c.args.lanes.now) (header_parts-joined c.args.grain c.args.lanes.now) (next c.in_ok-put_store.ensures (next c.in_ok-put_counts.ensures (next c.in_ok-put_text.ensures (cut c.in_err-put_counts-2.ensures)))))

pub returns : goal.returns
returns g c =
    Written-parts (header_parts c.args.grain c.args.lanes.now) (header_parts-joined c.args.grain c.args.lanes.now)
    (next c.in_ok-put_store.ensures (next c.in_ok-put_counts.ensures (next c.in_ok-put_text.ensures (next c.in_ok-put_counts-2.ensures (last c.put_text-2.ensures)))))
