use Rattle.std.proofs.Common.{◌≡◌}
use Rattle.fc_io.proofs.Nearer.{passed}
use Rattle.fc_io.proofs.failing.FailingCalls.next.Given as goal

abbrev pub invariant-loop-number : goal.invariant-loop-number
invariant-loop-number l = l.number-items ≡ passed l.number-index l.initial.number-items
