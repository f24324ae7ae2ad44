use Rattle.fc_entry.proofs.PartLemmas.{Written-parts, cut, last, next}
use Rattle.fc_recovery_text.proofs.Parts.{answered_parts, answered_parts-joined}
use Rattle.fc_recovery_text.proofs.state.put_answered.Goals as goal

pub returns-in_err-put_request : goal.returns-in_err-put_request
returns-in_err-put_request g c =
    let parts = answered_parts c.args.request.now c.args.reply.now in
    let joined = answered_parts-joined c.args.request.now c.args.reply.now in
    rw c.from_residual.ensures.0 (Written-parts parts joined (cut c.in_err-put_request.ensures))

pub returns-in_err-put_text : goal.returns-in_err-put_text
returns-in_err-put_text g c =
    let parts = answered_parts c.args.request.now c.args.reply.now in
    let joined = answered_parts-joined c.args.request.now c.args.reply.now in
    rw c.from_residual-in_err-put_text.ensures.0 (Written-parts parts joined (next c.in_ok-put_request.ensures (cut c.in_err-put_text.ensures)))

pub returns-in_err-put_reply : goal.returns-in_err-put_reply
returns-in_err-put_reply g c =
    let parts = answered_parts c.args.request.now c.args.reply.now in
    let joined = answered_parts-joined c.args.request.now c.args.reply.now in
    rw c.from_residual-in_err-put_reply.ensures.0 (Written-parts parts joined (next c.in_ok-put_request.ensures (next c.in_ok-put_text.ensures (cut c.in_err-put_reply.ensures))))

pub returns : goal.returns
returns g c =
    let parts = answered_parts c.args.request.now c.args.reply.now in
    let joined = answered_parts-joined c.args.request.now c.args.reply.now in
    Written-parts parts joined (next c.in_ok-put_request.ensures (next c.in_ok-put_text.ensures (next c.in_ok-put_reply.ensures (last c.put_text-2.ensures))))
