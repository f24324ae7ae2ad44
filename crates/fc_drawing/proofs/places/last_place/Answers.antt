use Rattle.std.proofs.Common.{arith}
use Rattle.fc_drawing.proofs.Placing.{last_hit, last_left, last_miss}
use Rattle.fc_drawing.proofs.places.last_place.Goals as goal

pub returns-then-passes : goal.returns-then-passes
returns-then-passes g c =
    λ test tests. last_hit test c.loop-place.place c.args.end c.passes.result (omega arith) (tests _ _ c.passes.ensures) c.if-passes.true (c.loop-place.invariant test tests)

pub loop-place-preserved : goal.loop-place-preserved
loop-place-preserved g c =
    λ test tests. last_miss test c.loop-place.place c.args.end c.passes.result (omega arith) (tests _ _ c.passes.ensures) c.if-passes.false (c.loop-place.invariant test tests)

pub returns : goal.returns
returns g c = λ test tests. last_left test c.loop-place.place c.args.end (omega arith) (c.loop-place.invariant test tests)
