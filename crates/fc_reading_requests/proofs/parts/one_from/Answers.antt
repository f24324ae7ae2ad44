use Rattle.std.proofs.Common.{arith}
use Rattle.fc_reading_requests.proofs.PartLemmas.{later-found, later-inside, later-none}
use Rattle.fc_reading_requests.proofs.parts.one_from.Goals as goal

pub overflow_add-result : goal.overflow_add-result
overflow_add-result c = omega (arith, later-inside c.args.words.now c.args.first c.args.bytes.now c.in-Ok.index c.in-Ok.rest.now c.in-Ok.ensures)

pub returns-in-Ok-clause-value : goal.returns-in-Ok-clause-value
returns-in-Ok-clause-value c = later-found c.args.words.now c.args.first c.args.bytes.now c.in-Ok.index c.in-Ok.rest.now c.in-Ok.ensures

pub returns-in-Err-clause-value : goal.returns-in-Err-clause-value
returns-in-Err-clause-value c = later-none c.args.words.now c.args.first c.args.bytes.now c.in-Err.stopped.left c.in-Err.ensures
