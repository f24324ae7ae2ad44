use Rattle.fc_tallies.proofs.Words.{IsMadeUpTo, others_of}
use Rattle.fc_tallies.proofs.waiting.wait_for_others.Given as goal

abbrev pub invariant-loop-index : goal.invariant-loop-index
invariant-loop-index l = IsMadeUpTo (others_of l.held) l.initial.waiting l.waiting l.index
