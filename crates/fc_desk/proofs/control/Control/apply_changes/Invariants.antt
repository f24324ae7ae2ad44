-- What is left comes to the same as all.
use Rattle.std.proofs.Common.{drop}
use Rattle.fc_desk.proofs.Applying.{Changing}
use Rattle.fc_desk.proofs.control.Control.apply_changes.Given as goal

abbrev pub invariant-loop-change : goal.invariant-loop-change
invariant-loop-change l = Changing l.initial.self l.changes l.self (drop l.change-index l.changes)
