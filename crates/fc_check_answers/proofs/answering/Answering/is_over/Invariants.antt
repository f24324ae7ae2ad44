use Rattle.std.proofs.Common.{All, take}
use Rattle.fc_check_answers.proofs.Running.{IsNotOver}
use Rattle.fc_check_answers.proofs.answering.Answering.is_over.Given as goal

-- None is over so far.
abbrev pub invariant-loop-run : goal.invariant-loop-run
invariant-loop-run l = All IsNotOver (take l.run-index l.run-items)
