use Rattle.fc_reading_replies.specs.Faults.{IsFault, unread_at, unread_text}
use Rattle.fc_reading.proofs.StopsLemmas.{Exact-stops_at}
use Rattle.fc_reading_replies.proofs.FaultLemmas.{Exact-unread}
use Rattle.fc_reading_replies.proofs.Read.{found_by, left_by}
use Rattle.fc_reading_replies.proofs.faults.read_fault.Goals as goal

pub overflow_sub-result : goal.overflow_sub-result
overflow_sub-result c = (found_by IsFault unread_text unread_at Exact-unread c.args.bytes.now c.in-Ok.fault c.in-Ok.rest.now c.in-Ok.ensures).within

pub overflow_sub-result-in-Err : goal.overflow_sub-result-in-Err
overflow_sub-result-in-Err c = left_by IsFault unread_text unread_at Exact-unread c.args.bytes.now c.in-Err.stopped.left c.in-Err.ensures

pub returns-in-Ok-clause-found : goal.returns-in-Ok-clause-found
returns-in-Ok-clause-found c = (found_by IsFault unread_text unread_at Exact-unread c.args.bytes.now c.in-Ok.fault c.in-Ok.rest.now c.in-Ok.ensures).front

pub returns-in-Ok-clause-fits : goal.returns-in-Ok-clause-fits
returns-in-Ok-clause-fits c = (found_by IsFault unread_text unread_at Exact-unread c.args.bytes.now c.in-Ok.fault c.in-Ok.rest.now c.in-Ok.ensures).fits

pub returns-in-Err-clause-malformed : goal.returns-in-Err-clause-malformed
returns-in-Err-clause-malformed c = Exact-stops_at IsFault unread_text unread_at Exact-unread c.args.bytes.now c.in-Err.stopped.left c.in-Err.ensures
