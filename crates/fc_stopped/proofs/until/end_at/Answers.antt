-- The text of the history and how far the session came are put, and then what is found.
use Rattle.std.proofs.Common.{List, ◌++◌, ap, sym, subst, ◌∙◌}
use Rattle.fc_base.specs.declared.size.GrainSize.TheVariants.{K64}
use Rattle.fc_entry.specs.Text.{history_text}
use Rattle.fc_format.specs.Halves.{recovered}
use Rattle.fc_kept.specs.Disks.{NamedDisk}
use Rattle.fc_metadisk.specs.Stop.{MemState, found_after}
use Rattle.fc_recovery_text.specs.Putting.{StateIsPut}
use Rattle.fc_recovery_text.proofs.Fronts.{nothing_front, state_front}
use Rattle.fc_recovery_text.specs.Recovering.{IsStateFront, IsStateText}
use Rattle.fc_stopped.proofs.Putting.{known_cut, state_put}
use Rattle.fc_stopped.specs.Text.{far_text}
use Rattle.fc_stopped.proofs.until.end_at.Goals as goal

pub put_state-lanes-requires-clause-can : goal.put_state-lanes-requires-clause-can
put_state-lanes-requires-clause-can g c = λ image is. c.requires.can image (sym (ap (λ (m : MemState). recovered m.bytes) c.after.ensures) ∙ is)

pub returns-in-Ok-clause-put : goal.returns-in-Ok-clause-put
returns-in-Ok-clause-put g c =
    let lanes : List (List NamedDisk) = c.put_state-lanes.result.0.items in
    let mid = g.K.Sink.meaning c.put_text_and_far.new.sink in
    let put = g.K.Sink.meaning c.put_state-lanes.new.sink in
    let had : List (List NamedDisk) = c.args.lanes.items in
    state_put (history_text c.args.history.now ++ far_text c.args.far) (λ text. IsStateText K64 (recovered (found_after c.args.meta)) had text lanes)
    (λ text. IsStateFront K64 (recovered (found_after c.args.meta)) had text lanes) (g.K.Sink.meaning c.args.sink.now) mid put
    c.status_of.result (g.K.Sink.meaning c.status_of.new.sink) c.in-Ok.ensures (λ text is. state_front K64 (recovered (found_after c.args.meta)) had text lanes is) c.put_state-lanes.result.1
    (subst (λ (m : MemState). StateIsPut c.put_state-lanes.result.1 (λ text. IsStateText K64 (recovered m.bytes) had text lanes) (λ text. IsStateFront K64 (recovered m.bytes) had text lanes) mid put)
    c.after.ensures c.put_state-lanes.ensures.put)
    c.status_of.ensures

pub returns-in-Err-clause-put : goal.returns-in-Err-clause-put
returns-in-Err-clause-put g c =
    let had : List (List NamedDisk) = c.args.lanes.items in
    known_cut (history_text c.args.history.now ++ far_text c.args.far) (λ text. IsStateText K64 (recovered (found_after c.args.meta)) had text had)
    (λ text. IsStateFront K64 (recovered (found_after c.args.meta)) had text had) (g.K.Sink.meaning c.args.sink.now) (g.K.Sink.meaning c.put_text_and_far.new.sink)
    (nothing_front K64 (recovered (found_after c.args.meta)) had) c.in-Err.ensures
