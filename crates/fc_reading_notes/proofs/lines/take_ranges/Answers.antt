use Rattle.std.proofs.Common.{◌+◌, List, length, sym, subst, arith}
use Rattle.fc_base.specs.declared.ranges.Range.{Range}
use Rattle.fc_reading_notes.specs.Lines.{range_at, ranges_at}
use Rattle.fc_reading_notes.proofs.Ranges.{range-found, range_next}
use Rattle.fc_reading_notes.proofs.Steps.{HasBehind, behind-next, chain-end, chain-next, chain-stop}
use Rattle.fc_reading_notes.proofs.lines.take_ranges.Goals as goal

pub returns-in-Err : goal.returns-in-Err
returns-in-Err c = chain-stop range_at range_next (ranges_at c.args.bytes.now) c.loop.ranges (length c.args.bytes.now) c.loop.counter c.loop.least c.loop.rest.now c.in-Err.stopped.left c.loop.invariant.0 c.loop-test.true c.in-Err.ensures

pub push-requires : goal.push-requires
push-requires c =
    let found = range-found c.loop.least c.loop.rest.now c.in-Ok.range c.in-Ok.more c.in-Ok.behind.now c.loop.invariant.2 c.in-Ok.ensures in
    c.loop.invariant.1 c.in-Ok.range found.0 found.1.0

pub overflow_add-least : goal.overflow_add-least
overflow_add-least c =
    let found = range-found c.loop.least c.loop.rest.now c.in-Ok.range c.in-Ok.more c.in-Ok.behind.now c.loop.invariant.2 c.in-Ok.ensures in
    omega (arith, found.1.1.1 c.if-not-more.false)

pub returns-then-not-more : goal.returns-then-not-more
returns-then-not-more c = chain-end range_at range_next (ranges_at c.args.bytes.now) c.loop.ranges _ (length c.args.bytes.now) c.loop.counter c.loop.least c.loop.rest.now c.in-Ok.behind.now c.in-Ok.range c.in-Ok.more c.loop.invariant.0 c.loop-test.true c.in-Ok.ensures c.in_ok-push-in-Ok.ensures.ok c.if-not-more.true

pub loop-preserved : goal.loop-preserved
loop-preserved c = (
  chain-next range_at range_next (ranges_at c.args.bytes.now) c.loop.ranges _ (length c.args.bytes.now) c.loop.counter c.loop.least c.loop.rest.now c.in-Ok.behind.now c.in-Ok.range c.in-Ok.more c.loop.invariant.0 c.loop-test.true c.in-Ok.ensures c.in_ok-push-in-Ok.ensures.ok c.if-not-more.false,
  subst (λ (ranges : List Range). HasBehind ranges (c.in-Ok.range.last + 2)) (sym c.in_ok-push-in-Ok.ensures.ok) (behind-next c.loop.ranges c.in-Ok.range),
  (range-found c.loop.least c.loop.rest.now c.in-Ok.range c.in-Ok.more c.in-Ok.behind.now c.loop.invariant.2 c.in-Ok.ensures).1.1.1 c.if-not-more.false,
)
