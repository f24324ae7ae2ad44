use Rattle.fc_reading.proofs.HeaderLemmas.{header-found, header-left, header-rest, header-stops}
use Rattle.fc_reading.proofs.header.read_header.Goals as goal

pub overflow_sub-result : goal.overflow_sub-result
overflow_sub-result c = header-rest c.args.bytes.now c.in-Ok.header c.in-Ok.rest.now c.in-Ok.ensures

pub overflow_sub-result-in-Err : goal.overflow_sub-result-in-Err
overflow_sub-result-in-Err c = header-left c.args.bytes.now c.in-Err.stopped.left c.in-Err.ensures

pub returns-in-Ok-clause-found : goal.returns-in-Ok-clause-found
returns-in-Ok-clause-found c = (header-found c.args.bytes.now c.in-Ok.header c.in-Ok.rest.now c.in-Ok.ensures).1

pub returns-in-Err-clause-malformed : goal.returns-in-Err-clause-malformed
returns-in-Err-clause-malformed c = header-stops c.args.bytes.now c.in-Err.stopped.left c.in-Err.ensures
