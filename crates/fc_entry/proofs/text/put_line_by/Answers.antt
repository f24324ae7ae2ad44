use Rattle.fc_entry.proofs.PartLemmas.{Written-parts, cut, last, next}
use Rattle.fc_entry.proofs.TextLemmas.{line_parts, line_parts-joined}
use Rattle.fc_entry.proofs.text.put_line_by.Goals as goal

pub returns-in_err-put_head : goal.returns-in_err-put_head
returns-in_err-put_head g c =
    rw c.from_residual.ensures.0
    (Written-parts (line_parts c.args.actor.now c.args.entry.now) (line_parts-joined c.args.actor.now c.args.entry.now) (cut c.in_err-put_head.ensures))

pub returns-in_err-put_request : goal.returns-in_err-put_request
returns-in_err-put_request g c =
    rw c.from_residual-in_err-put_request.ensures.0
    (Written-parts (line_parts c.args.actor.now c.args.entry.now) (line_parts-joined c.args.actor.now c.args.entry.now) (next c.in_ok-put_head.ensures (cut c.in_err-put_request.ensures)))

pub returns-in_err-put_text : goal.returns-in_err-put_text
returns-in_err-put_text g c =
    rw c.from_residual-in_err-put_text.ensures.0
    (Written-parts (line_parts c.args.actor.now c.args.entry.now) (line_parts-joined c.args.actor.now c.args.entry.now) (next c.in_ok-put_head.ensures (next c.in_ok-put_request.ensures (cut c.in_err-put_text.ensures))))

pub returns-in_err-put_reply : goal.returns-in_err-put_reply
returns-in_err-put_reply g c =
    rw c.from_residual-in_err-put_reply.ensures.0
    (Written-parts (line_parts c.args.actor.now c.args.entry.now) (line_parts-joined c.args.actor.now c.args.entry.now) (next c.in_ok-put_head.ensures (next c.in_ok-put_request.ensures (next c.in_ok-put_text.ensures (cut c.in_err-put_reply.ensures)))))

pub returns : goal.returns
returns g c =
    Written-parts (line_parts c.args.actor.now c.args.entry.now) (line_parts-joined c.args.actor.now c.args.entry.now)
    (next c.in_ok-put_head.ensures (next c.in_ok-put_request.ensures (next c.in_ok-put_text.ensures (next c.in_ok-put_reply.ensures (last c.put_text-2.ensures)))))
