use Rattle.std.proofs.Common.{arith}
use Rattle.std.proofs.lemmas.Grind.{common_steps}
use Rattle.fc_base.proofs.RunLemmas.{HasRuns-pushed}
use Rattle.fc_base.proofs.runs.Runs.of.Goals as goal

pub loop-start-preserved : goal.loop-start-preserved
loop-start-preserved c =
    (HasRuns-pushed c.loop-start.runs.items c.push.new.self.items c.args.bytes.now _ c.loop-start.start
    c.equal_bytes-count.result c.loop-start.invariant c.loop-start-test.true
    (grind (arith, common_steps)) c.equal_bytes-count.ensures.within c.equal_bytes-count.ensures.equal
    c.equal_bytes-count.ensures.stops c.in-Ok.ensures.items).0

pub loop-start-smaller : goal.loop-start-smaller
loop-start-smaller c =
    (HasRuns-pushed c.loop-start.runs.items c.push.new.self.items c.args.bytes.now _ c.loop-start.start
    c.equal_bytes-count.result c.loop-start.invariant c.loop-start-test.true
    (grind (arith, common_steps)) c.equal_bytes-count.ensures.within c.equal_bytes-count.ensures.equal
    c.equal_bytes-count.ensures.stops c.in-Ok.ensures.items).1
