-- What was made can be merged; and where it isn't, none of it is told.
use Rattle.std.proofs.Common.{◌∙◌}
use Rattle.fc_together.proofs.Telling.{are_numbered, are_own, told_none}
use Rattle.fc_together.specs.Answers.{makings_of}
use Rattle.fc_together.proofs.answers.tell_answers.Goals as goal

pub returns-in-Err : goal.returns-in-Err
returns-in-Err g c = record { told = told_none (makings_of c.args.answers.items) c.args.history.now c.requires.made c.requires.drawn.0 c.requires.drawn.1 }

pub merge-requires-clause-own : goal.merge-requires-clause-own
merge-requires-clause-own g c =
    are_own (makings_of c.args.answers.items) c.args.history.now c.requires.made c.deref_mut.result.now (c.deref_mut.ensures.value ∙ c.in-Ok.ensures)

pub merge-requires-clause-numbered : goal.merge-requires-clause-numbered
merge-requires-clause-numbered g c =
    are_numbered (makings_of c.args.answers.items) c.args.history.now c.requires.made c.deref_mut.result.now c.requires.drawn.0 (c.deref_mut.ensures.value ∙ c.in-Ok.ensures) c.requires.drawn.1
