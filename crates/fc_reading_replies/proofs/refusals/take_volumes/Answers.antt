use Rattle.std.proofs.Common.{length}
use Rattle.fc_base.specs.declared.ids.VolId.{VolId}
use Rattle.fc_reading_replies.specs.Refusals.{volume_at, volumes_at}
use Rattle.fc_reading_notes.proofs.Steps.{chain-next, chain-stop}
use Rattle.fc_reading_replies.proofs.RefusalLemmas.{volume_next}
use Rattle.fc_reading_replies.proofs.refusals.take_volumes.Goals as goal

pub returns-in-Err : goal.returns-in-Err
returns-in-Err c = chain-stop {S = Unit {0}} {V = VolId} (λ state. volume_at) volume_next (volumes_at c.args.bytes.now) c.loop.volumes (length c.args.bytes.now) c.loop.counter tt c.loop.rest.now c.in-Err.stopped.left c.loop.invariant c.loop-test.true c.in-Err.ensures

pub loop-preserved : goal.loop-preserved
loop-preserved c = chain-next {S = Unit {0}} {V = VolId} (λ state. volume_at) volume_next (volumes_at c.args.bytes.now) c.loop.volumes _ (length c.args.bytes.now) c.loop.counter tt c.loop.rest.now c.in-Ok.behind.now c.in-Ok.volume c.in-Ok.more c.loop.invariant c.loop-test.true c.in-Ok.ensures c.in_ok-push-in-Ok.ensures.ok c.if-not-more.false
