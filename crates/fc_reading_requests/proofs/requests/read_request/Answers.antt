use Rattle.fc_reading_notes.proofs.Steps.{stop_malformed}
use Rattle.fc_reading_requests.specs.Requests.{asked_at}
use Rattle.fc_reading_requests.proofs.AllAsked.{asked-found, asked-left, asked-stops}
use Rattle.fc_reading_requests.proofs.Requested.{found-back, none-back}
use Rattle.fc_reading_requests.proofs.requests.read_request.Goals as goal

pub overflow_sub-result : goal.overflow_sub-result
overflow_sub-result c = (asked-found c.args.bytes.now c.in-Ok.asked c.in-Ok.rest.now c.in-Ok.ensures).1

pub overflow_sub-result-in-Err-Malformed : goal.overflow_sub-result-in-Err-Malformed
overflow_sub-result-in-Err-Malformed c = asked-left c.args.bytes.now c.in-Err-Malformed.stopped.left (stop_malformed (asked_at c.args.bytes.now) c.in-Err-Malformed.field-0 c.in-Err-Malformed.stopped c.in-Err-Malformed.field-0-is c.in-Err-Malformed.ensures)

pub returns-in-Ok-clause-found : goal.returns-in-Ok-clause-found
returns-in-Ok-clause-found c = (asked-found c.args.bytes.now c.in-Ok.asked c.in-Ok.rest.now c.in-Ok.ensures).2

pub returns-in-Ok-clause-fits : goal.returns-in-Ok-clause-fits
returns-in-Ok-clause-fits c = (asked-found c.args.bytes.now c.in-Ok.asked c.in-Ok.rest.now c.in-Ok.ensures).0

pub returns-in-Ok-clause-back : goal.returns-in-Ok-clause-back
returns-in-Ok-clause-back c = found-back c.args.bytes.now c.in-Ok.asked c.in-Ok.rest.now c.in-Ok.ensures

pub returns-in-Err-Malformed-clause-malformed : goal.returns-in-Err-Malformed-clause-malformed
returns-in-Err-Malformed-clause-malformed c = asked-stops c.args.bytes.now c.in-Err-Malformed.stopped.left (stop_malformed (asked_at c.args.bytes.now) c.in-Err-Malformed.field-0 c.in-Err-Malformed.stopped c.in-Err-Malformed.field-0-is c.in-Err-Malformed.ensures)

pub returns-in-Err-Malformed-clause-back : goal.returns-in-Err-Malformed-clause-back
returns-in-Err-Malformed-clause-back c =
    none-back c.args.bytes.now c.in-Err-Malformed.stopped.left
    (stop_malformed (asked_at c.args.bytes.now) c.in-Err-Malformed.field-0 c.in-Err-Malformed.stopped c.in-Err-Malformed.field-0-is c.in-Err-Malformed.ensures)
