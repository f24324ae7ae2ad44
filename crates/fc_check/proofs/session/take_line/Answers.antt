use Rattle.fc_check.proofs.JudgeLemmas.{line_stops, line_taken, line_within}
use Rattle.fc_check.proofs.session.take_line.Goals as goal

pub overflow_sub-result : goal.overflow_sub-result
overflow_sub-result c = line_within c.args.bytes.now c.in-Err.stopped.left c.in-Err.ensures

pub returns-in-Ok-clause-behind : goal.returns-in-Ok-clause-behind
returns-in-Ok-clause-behind c = line_taken c.args.bytes.now c.in-Ok.session.now c.in-Ok.ensures

pub returns-in-Err-clause-malformed : goal.returns-in-Err-clause-malformed
returns-in-Err-clause-malformed c = line_stops c.args.bytes.now c.in-Err.stopped.left c.in-Err.ensures
