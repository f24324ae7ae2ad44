use Rattle.fc_meta.specs.States.{IsResting}
use Rattle.bench_meta.proofs.put_often.Given as goal

-- the writer is at rest
abbrev pub invariant-loop-round : goal.invariant-loop-round
invariant-loop-round g l = IsResting g.M.MetaDisk.seen g.M.MetaDisk.may_leave l.meta
