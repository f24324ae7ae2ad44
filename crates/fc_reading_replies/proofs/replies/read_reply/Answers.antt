use Rattle.std.proofs.Common.{true}
use Rattle.fc_reading_replies.specs.Replies.{MayBeSaid, reply_at, reply_line}
use Rattle.fc_reading.proofs.StopsLemmas.{Exact-stops_at}
use Rattle.fc_reading_notes.proofs.Steps.{stop_malformed}
use Rattle.fc_reading_replies.proofs.Read.{found_by, left_by}
use Rattle.fc_reading_replies.proofs.ReplyLemmas.{Exact-reply}
use Rattle.fc_reading_replies.proofs.replies.read_reply.Goals as goal

pub overflow_sub-result : goal.overflow_sub-result
overflow_sub-result c = (found_by (MayBeSaid true) reply_line (reply_at true) (Exact-reply true) c.args.bytes.now c.in-Ok.line c.in-Ok.rest.now c.in-Ok.ensures).within

pub overflow_sub-result-in-Err-Malformed : goal.overflow_sub-result-in-Err-Malformed
overflow_sub-result-in-Err-Malformed c =
    left_by (MayBeSaid true) reply_line (reply_at true) (Exact-reply true) c.args.bytes.now c.in-Err-Malformed.stopped.left
    (stop_malformed (reply_at true c.args.bytes.now) c.in-Err-Malformed.field-0 c.in-Err-Malformed.stopped c.in-Err-Malformed.field-0-is c.in-Err-Malformed.ensures)

pub returns-in-Ok-clause-found : goal.returns-in-Ok-clause-found
returns-in-Ok-clause-found c = (found_by (MayBeSaid true) reply_line (reply_at true) (Exact-reply true) c.args.bytes.now c.in-Ok.line c.in-Ok.rest.now c.in-Ok.ensures).front

pub returns-in-Ok-clause-fits : goal.returns-in-Ok-clause-fits
returns-in-Ok-clause-fits c = (found_by (MayBeSaid true) reply_line (reply_at true) (Exact-reply true) c.args.bytes.now c.in-Ok.line c.in-Ok.rest.now c.in-Ok.ensures).fits

pub returns-in-Err-Malformed-clause-malformed : goal.returns-in-Err-Malformed-clause-malformed
returns-in-Err-Malformed-clause-malformed c =
    Exact-stops_at (MayBeSaid true) reply_line (reply_at true) (Exact-reply true) c.args.bytes.now c.in-Err-Malformed.stopped.left
    (stop_malformed (reply_at true c.args.bytes.now) c.in-Err-Malformed.field-0 c.in-Err-Malformed.stopped c.in-Err-Malformed.field-0-is c.in-Err-Malformed.ensures)
