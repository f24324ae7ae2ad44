use Rattle.fc_run.proofs.GrowingLemmas.{GrowsTo-same}
use Rattle.fc_run.proofs.lines.answer_last.Goals as goal

pub returns-then-is_empty-clause-grows : goal.returns-then-is_empty-clause-grows
returns-then-is_empty-clause-grows g c = GrowsTo-same c.args.history.now
