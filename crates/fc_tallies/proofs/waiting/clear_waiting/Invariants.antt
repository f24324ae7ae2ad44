use Rattle.fc_tallies.proofs.Words.{IsMadeUpTo, zeros}
use Rattle.fc_tallies.proofs.waiting.clear_waiting.Given as goal

abbrev pub invariant-loop-index : goal.invariant-loop-index
invariant-loop-index l = IsMadeUpTo zeros l.initial.waiting l.waiting l.index
