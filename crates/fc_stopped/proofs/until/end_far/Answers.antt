-- What is found may be read with the disks that the store gives back.
use Rattle.std.proofs.Common.{◌≡◌, List, ◌++◌, length, ap, sym, subst, ◌∙◌, arith}
use Rattle.fc_base.specs.declared.size.GrainSize.TheVariants.{K64}
use Rattle.fc_entry.specs.Text.{history_text}
use Rattle.fc_format.specs.Halves.{recovered}
use Rattle.fc_kept.specs.Disks.{NamedDisk}
use Rattle.fc_mdisk.specs.Disk.{DiskState}
use Rattle.fc_metadisk.specs.Stop.{StopState, found_after}
use Rattle.fc_recovery_text.specs.Recovering.{IsFoundGood, IsStateFront, IsStateText}
use Rattle.fc_stopped.proofs.Counted.{AreBack, all_back, read_back}
use Rattle.fc_stopped.proofs.Found.{found_can, found_front, found_good, found_state}
use Rattle.fc_stopped.proofs.Lanes.{count_back}
use Rattle.fc_stopped.proofs.Putting.{none_put, put_as}
use Rattle.fc_stopped.specs.Ending.{all_disks, over_disks}
use Rattle.fc_stopped.specs.Stopped.{IsLeftFront, IsState}
use Rattle.fc_stopped.specs.Text.{far_text}
use Rattle.fc_stopped.proofs.until.end_far.Goals as goal

pub end_at-lanes-requires-clause-good : goal.end_at-lanes-requires-clause-good
end_at-lanes-requires-clause-good g c =
    subst (λ (d : StopState). IsFoundGood (recovered (found_after d))) (sym c.in-Ok.ensures.meta)
    (found_good c.args.noted c.requires.left.0 c.requires.left.1 c.requires.lanes.0 c.requires.left.2)

pub end_at-lanes-requires-clause-can : goal.end_at-lanes-requires-clause-can
end_at-lanes-requires-clause-can g c = λ image is.
    found_can c.args.noted c.requires.left.0 c.requires.left.1 c.requires.lanes.0 c.requires.left.2 c.in-Ok.lanes.items image c.requires.lanes.1 c.in-Ok.ensures.held
    (sym (ap (λ (d : StopState). recovered (found_after d)) c.in-Ok.ensures.meta) ∙ is)

pub give_back-requires-clause-room : goal.give_back-requires-clause-room
give_back-requires-clause-room g c =
    let count : length (all_disks c.end_at-lanes.result.0.items) ≡ length c.requires.lanes.0 =
    count_back (over_disks c.requires.lanes.0) c.args.noted.named c.args.noted.store.lanes c.in-Ok.lanes.items c.end_at-lanes.result.0.items c.requires.lanes.1 c.in-Ok.ensures.held
    c.end_at-lanes.ensures.kept in
    omega (arith, count, c.requires.lanes.2)

pub returns-in-Ok-clause-put : goal.returns-in-Ok-clause-put
returns-in-Ok-clause-put g c = λ call last left came leaves.
    let behind : List (List NamedDisk) = c.end_at-lanes.result.0.items in
    put_as (history_text c.args.history.now ++ far_text c.args.far)
    (λ text. IsStateText K64 (recovered (found_after c.in-Ok.meta)) c.in-Ok.lanes.items text behind)
    (λ text. IsStateFront K64 (recovered (found_after c.in-Ok.meta)) c.in-Ok.lanes.items text behind) (IsState call last left) (IsLeftFront call last left)
    c.end_at-lanes.result.1 (g.K.Sink.meaning c.args.sink.now) (g.K.Sink.meaning c.end_at-lanes.new.sink)
    (λ text is.
    found_state c.args.noted last left c.requires.lanes.0 leaves call c.in-Ok.lanes.items behind text c.in-Ok.ensures.held
    (subst (λ (d : StopState). IsStateText K64 (recovered (found_after d)) c.in-Ok.lanes.items text behind) c.in-Ok.ensures.meta is)
    (came ∙ c.give_back.ensures))
    (λ text is.
    found_front c.args.noted last left c.requires.lanes.0 leaves call c.in-Ok.lanes.items behind text c.in-Ok.ensures.held
    (subst (λ (d : StopState). IsStateFront K64 (recovered (found_after d)) c.in-Ok.lanes.items text behind) c.in-Ok.ensures.meta is)
    (came ∙ c.give_back.ensures))
    c.end_at-lanes.ensures.put

pub returns-in-Ok-clause-disks : goal.returns-in-Ok-clause-disks
returns-in-Ok-clause-disks g c = λ old last has counted.
    all_back c.end_at-lanes.result.1 old _ last
    (subst (λ (ds : List DiskState). AreBack old ds last) (sym c.give_back.ensures)
    (read_back (over_disks old) c.args.noted.named c.args.noted.store.lanes c.in-Ok.lanes.items c.end_at-lanes.result.0.items last has c.in-Ok.ensures.held counted c.end_at-lanes.ensures.kept))

-- for want of memory nothing is put
pub returns-clause-put : goal.returns-clause-put
returns-clause-put g c = λ call last left came leaves.
    none_put (history_text c.args.history.now ++ far_text c.args.far) (IsState call last left) (IsLeftFront call last left) (g.K.Sink.meaning c.args.sink.now) IsLeftFront.nothing
