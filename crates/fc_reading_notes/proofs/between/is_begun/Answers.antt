use Rattle.std.proofs.Common.{◌∙◌, sym, arith}
use Rattle.fc_reading_notes.proofs.Steps.{begun-end, begun-here, begun-next, begun-past}
use Rattle.fc_reading_notes.proofs.between.is_begun.Goals as goal

pub returns-then-low-most : goal.returns-then-low-most
returns-then-low-most c =
    sym (c.loop.invariant ∙ begun-past c.args.least c.args.most c.loop.low c.loop.high c.loop.counter c.loop-test.true c.if-low-most.true)

pub returns-then-high-least : goal.returns-then-high-least
returns-then-high-least c =
    sym
    (
    c.loop.invariant
    ∙ begun-here c.args.least c.args.most c.loop.low c.loop.high c.loop.counter c.loop-test.true (omega (arith, c.if-low-most.false)) (omega (arith, c.if-high-least.true))
    )

pub loop-preserved : goal.loop-preserved
loop-preserved c =
    c.loop.invariant
    ∙ begun-next c.args.least c.args.most c.loop.low c.loop.high c.loop.counter c.loop-test.true (omega (arith, c.if-low-most.false)) (omega (arith, c.if-high-least.false))

pub returns : goal.returns
returns c =
    sym (c.loop.invariant ∙ begun-end c.args.least c.args.most c.loop.low c.loop.high c.loop.counter (omega (arith, c.loop-test.false)))
