use Rattle.std.proofs.Common.{length}
use Rattle.fc_base.specs.declared.request.Pair.{Pair}
use Rattle.fc_reading_notes.specs.Lines.{pair_at, pairs_at}
use Rattle.fc_reading_notes.proofs.LineLemmas.{pair_next}
use Rattle.fc_reading_notes.proofs.Steps.{chain-next, chain-stop}
use Rattle.fc_reading_notes.proofs.lines.take_pairs.Goals as goal

pub returns-in-Err : goal.returns-in-Err
returns-in-Err c = chain-stop {S = Unit {0}} {V = Pair} (λ state. pair_at) pair_next (pairs_at c.args.bytes.now) c.loop.pairs (length c.args.bytes.now) c.loop.counter tt c.loop.rest.now c.in-Err.stopped.left c.loop.invariant c.loop-test.true c.in-Err.ensures

pub loop-preserved : goal.loop-preserved
loop-preserved c = chain-next {S = Unit {0}} {V = Pair} (λ state. pair_at) pair_next (pairs_at c.args.bytes.now) c.loop.pairs _ (length c.args.bytes.now) c.loop.counter tt c.loop.rest.now c.in-Ok.behind.now c.in-Ok.pair c.in-Ok.more c.loop.invariant c.loop-test.true c.in-Ok.ensures c.in_ok-push-in-Ok.ensures.ok c.if-not-more.false
