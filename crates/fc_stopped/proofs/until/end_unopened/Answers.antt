-- How far it came is put, and that there is no image, or one that says nothing.
use Rattle.std.proofs.Common.{inl, inr, refl, subst}
use Rattle.fc_base.specs.declared.size.GrainSize.TheVariants.{K64}
use Rattle.fc_call.specs.declared.status.Status.TheVariants as status
use Rattle.fc_format.specs.Halves.{recovered}
use Rattle.fc_metadisk.specs.Stop.{MemState, found_after}
use Rattle.fc_recovery_text.specs.Putting.{StateIsPut}
use Rattle.fc_recovery_text.specs.Recovering.{IsFirstFront, IsFirstText}
use Rattle.fc_stopped.proofs.Ends.{unopened_call, unopened_full}
use Rattle.fc_stopped.proofs.Putting.{known_cut, state_put}
use Rattle.fc_stopped.specs.Ending.{StatePut}
use Rattle.fc_stopped.specs.Text.{far_text}
use Rattle.fc_stopped.proofs.until.end_unopened.Goals as goal
use Rattle.fc_stopped.proofs.until.end_unopened.Goals.{in-MetaFailed, in-MetaFull}

pub returns-in-Ok : goal.returns-in-Ok
returns-in-Ok g c =
    let before = g.K.Sink.meaning c.args.sink.now in
    let mid = g.K.Sink.meaning c.put_far.new.sink in
    let put = g.K.Sink.meaning c.put_first_state-written.new.sink in
    let after = g.K.Sink.meaning c.status_of.new.sink in
    let all : StatePut (far_text c.match-stop.far) (IsFirstText K64 (recovered (found_after c.args.meta))) (IsFirstFront K64 (recovered (found_after c.args.meta))) c.status_of.result before after =
    state_put (far_text c.match-stop.far) (IsFirstText K64 (recovered (found_after c.args.meta))) (IsFirstFront K64 (recovered (found_after c.args.meta))) before mid put c.status_of.result after
    c.in-Ok.ensures (λ text is. inr is) c.put_first_state-written.result
    (subst (λ (m : MemState). StateIsPut c.put_first_state-written.result (λ text. IsFirstText K64 (recovered m.bytes) text) (λ text. IsFirstFront K64 (recovered m.bytes) text) mid put)
    c.after.ensures c.put_first_state-written.ensures)
    c.status_of.ensures in
    elim c.match-stop.branch [
      | in-MetaFailed w ↦ unopened_call c.args.call c.match-stop.far c.args.stop (recovered (found_after c.args.meta)) c.status_of.result before after w.far-is w.in-MetaFailed.is all
      | in-MetaFull w ↦ unopened_full c.args.call c.match-stop.far c.args.stop (recovered (found_after c.args.meta)) c.status_of.result before after w.far-is w.in-MetaFull.is all
    ]

pub returns-in-Err : goal.returns-in-Err
returns-in-Err g c =
    let put = known_cut (far_text c.match-stop.far) (IsFirstText K64 (recovered (found_after c.args.meta))) (IsFirstFront K64 (recovered (found_after c.args.meta))) (g.K.Sink.meaning c.args.sink.now)
    (g.K.Sink.meaning c.put_far.new.sink) (inl refl) c.in-Err.ensures in
    elim c.match-stop.branch [
      | in-MetaFailed w ↦ unopened_call c.args.call c.match-stop.far c.args.stop (recovered (found_after c.args.meta)) status.WriteFault (g.K.Sink.meaning c.args.sink.now) (g.K.Sink.meaning c.put_far.new.sink) w.far-is w.in-MetaFailed.is put
      | in-MetaFull w ↦ unopened_full c.args.call c.match-stop.far c.args.stop (recovered (found_after c.args.meta)) status.WriteFault (g.K.Sink.meaning c.args.sink.now) (g.K.Sink.meaning c.put_far.new.sink) w.far-is w.in-MetaFull.is put
    ]
