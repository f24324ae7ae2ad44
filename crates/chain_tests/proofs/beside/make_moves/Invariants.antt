use Rattle.std.proofs.Common.{◌≡◌}
use Rattle.chain_tests.proofs.beside.make_moves.Given as goal

-- the lane stays
abbrev pub invariant-loop-next : goal.invariant-loop-next
invariant-loop-next g l = l.both.lane ≡ l.initial.both.lane
