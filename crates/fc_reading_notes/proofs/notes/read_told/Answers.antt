use Rattle.fc_reading_notes.specs.Told.{told_at}
use Rattle.fc_reading_notes.proofs.Steps.{stop_malformed}
use Rattle.fc_reading_notes.proofs.Told.{told-found, told-left, told-stops}
use Rattle.fc_reading_notes.proofs.notes.read_told.Goals as goal

pub overflow_sub-result : goal.overflow_sub-result
overflow_sub-result c = (told-found c.args.in_lane c.args.bytes.now c.in-Ok.told c.in-Ok.rest.now c.in-Ok.ensures).1

pub overflow_sub-result-in-Err-Malformed : goal.overflow_sub-result-in-Err-Malformed
overflow_sub-result-in-Err-Malformed c = told-left c.args.in_lane c.args.bytes.now c.in-Err-Malformed.stopped.left (stop_malformed (told_at c.args.in_lane c.args.bytes.now) c.in-Err-Malformed.field-0 c.in-Err-Malformed.stopped c.in-Err-Malformed.field-0-is c.in-Err-Malformed.ensures)

pub returns-in-Ok-clause-found : goal.returns-in-Ok-clause-found
returns-in-Ok-clause-found c = (told-found c.args.in_lane c.args.bytes.now c.in-Ok.told c.in-Ok.rest.now c.in-Ok.ensures).2

pub returns-in-Ok-clause-fits : goal.returns-in-Ok-clause-fits
returns-in-Ok-clause-fits c = (told-found c.args.in_lane c.args.bytes.now c.in-Ok.told c.in-Ok.rest.now c.in-Ok.ensures).0

pub returns-in-Err-Malformed-clause-malformed : goal.returns-in-Err-Malformed-clause-malformed
returns-in-Err-Malformed-clause-malformed c = told-stops c.args.in_lane c.args.bytes.now c.in-Err-Malformed.stopped.left (stop_malformed (told_at c.args.in_lane c.args.bytes.now) c.in-Err-Malformed.field-0 c.in-Err-Malformed.stopped c.in-Err-Malformed.field-0-is c.in-Err-Malformed.ensures)
