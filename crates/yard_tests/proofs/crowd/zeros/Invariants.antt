use Rattle.std.proofs.Common.{◌≡◌, vec_len}
use Rattle.yard_tests.proofs.crowd.zeros.Given as goal

abbrev pub invariant-loop-place : goal.invariant-loop-place
invariant-loop-place l = vec_len l.counters ≡ l._place
