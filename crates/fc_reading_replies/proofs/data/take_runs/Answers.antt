use Rattle.std.proofs.Common.{List, Some, length, sym, subst}
use Rattle.fc_base.specs.declared.runs.Run.{Run}
use Rattle.fc_reading_replies.specs.Data.{run_at, run_next, runs_at}
use Rattle.fc_reading_notes.proofs.Steps.{chain-end, chain-next, chain-stop}
use Rattle.fc_reading_replies.proofs.DataLemmas.{run-found}
use Rattle.fc_reading_replies.proofs.Steps.{HasBehind, behind-next}
use Rattle.fc_reading_replies.proofs.data.take_runs.Goals as goal

pub returns-in-Err : goal.returns-in-Err
returns-in-Err c = chain-stop run_at run_next (runs_at c.args.bytes.now) c.loop.runs (length c.args.bytes.now) c.loop.counter c.loop.before c.loop.rest.now c.in-Err.stopped.left c.loop.invariant.0 c.loop-test.true c.in-Err.ensures

pub push-requires-clause-counts : goal.push-requires-clause-counts
push-requires-clause-counts c = (run-found c.loop.before c.loop.rest.now c.in-Ok.found c.in-Ok.more c.in-Ok.behind.now c.in-Ok.ensures).0

pub push-requires-clause-behind : goal.push-requires-clause-behind
push-requires-clause-behind c =
    c.loop.invariant.1 c.in-Ok.found.byte (run-found c.loop.before c.loop.rest.now c.in-Ok.found c.in-Ok.more c.in-Ok.behind.now c.in-Ok.ensures).1

pub returns-then-not-more : goal.returns-then-not-more
returns-then-not-more c = chain-end run_at run_next (runs_at c.args.bytes.now) c.loop.runs _ (length c.args.bytes.now) c.loop.counter c.loop.before c.loop.rest.now c.in-Ok.behind.now c.in-Ok.found c.in-Ok.more c.loop.invariant.0 c.loop-test.true c.in-Ok.ensures c.in_ok-push-in-Ok.ensures.ok c.if-not-more.true

pub loop-preserved : goal.loop-preserved
loop-preserved c = (
  chain-next run_at run_next (runs_at c.args.bytes.now) c.loop.runs _ (length c.args.bytes.now) c.loop.counter c.loop.before c.loop.rest.now c.in-Ok.behind.now c.in-Ok.found c.in-Ok.more c.loop.invariant.0 c.loop-test.true c.in-Ok.ensures c.in_ok-push-in-Ok.ensures.ok c.if-not-more.false,
  subst (λ (runs : List Run). HasBehind runs (Some c.in-Ok.found.byte)) (sym c.in_ok-push-in-Ok.ensures.ok) (behind-next c.loop.runs c.in-Ok.found),
)
