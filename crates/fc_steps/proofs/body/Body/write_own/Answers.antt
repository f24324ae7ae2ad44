use Rattle.std.proofs.Common.{ℕ, Some, None, ap, sym, subst, ◌∙◌, refl}
use Rattle.fc_base.specs.declared.disk.DiskError.TheVariants.{Failed as Fails, NoMemory as NoRoom}
use Rattle.fc_base.specs.declared.size.GrainSize.{GrainSize}
use Rattle.fc_entry.specs.Writes.{calls_of_write}
use Rattle.fc_steps.specs.WriteStep.{OwnEnds}
use Rattle.fc_steps.specs.declared.stop.Stop.TheVariants.{Failed, NoMemory}
use Rattle.fc_steps.proofs.WriteOwn.{OwnNeeds, own_held, own_needs, own_from, own_unread, own_done, own_torn, own_refused, own_side, own_ends_as, own_stored_as, done_stored, torn_stored, refused_same, written_as}
use Rattle.fc_steps.proofs.body.Body.write_own.Given as given
use Rattle.fc_steps.proofs.body.Body.write_own.Goals as goal
use Rattle.fc_steps.proofs.body.Body.write_own.Goals.{After-shown_by-source}

pub shown_by-source-requires : goal.shown_by-source-requires
shown_by-source-requires g c =
    own_held c.requires.can.0 c.requires.can.1 c.args.part c.requires.can.2 c.args.self.now.cascade c.args.self.now.grains c.requires.can.3 c.args.grain.0 c.requires.can.4

-- what the calls need
needs : (g : given.Over) (c : After-shown_by-source g) → OwnNeeds c.args.part c.args.grain.0 c.args.place c.shown_by-source.result.0 c.args.self.now.cascade c.args.self.now.grains
needs g c = own_needs c.args.part c.args.grain.0 c.args.place c.shown_by-source.result.0 c.args.self.now.cascade c.args.self.now.grains c.requires.can c.shown_by-source.ensures

pub prepare-requires-clause-there : goal.prepare-requires-clause-there
prepare-requires-clause-there g c = (needs g (goal.at.prepare-requires-clause-there g c).After-shown_by-source).there

pub prepare-requires-clause-inside : goal.prepare-requires-clause-inside
prepare-requires-clause-inside g c = (needs g (goal.at.prepare-requires-clause-inside g c).After-shown_by-source).inside

pub prepare-requires-clause-readable : goal.prepare-requires-clause-readable
prepare-requires-clause-readable g c = (needs g (goal.at.prepare-requires-clause-readable g c).After-shown_by-source).readable

pub write-requires : goal.write-requires
write-requires g c = ((needs g (goal.at.write-requires g c).After-shown_by-source).target c.prepare.new.grains c.in-Ok.ensures).1

pub written-requires-clause-fits : goal.written-requires-clause-fits
written-requires-clause-fits g c = (needs g (goal.at.written-requires-clause-fits g c).After-shown_by-source).fits

pub torn-requires-clause-fits : goal.torn-requires-clause-fits
torn-requires-clause-fits g c = (needs g (goal.at.torn-requires-clause-fits g c).After-shown_by-source).fits

pub torn-requires-clause-under : goal.torn-requires-clause-under
torn-requires-clause-under g c = (needs g (goal.at.torn-requires-clause-under g c).After-shown_by-source).fits_lost c.side_of-side.result c.side_of-side.ensures

pub returns-in-Err-clause-ends : goal.returns-in-Err-clause-ends
returns-in-Err-clause-ends g c l told t can number place =
    own_ends_as l told c.args.part t c.args.self.now.cascade c.args.self.now.cascade c.args.self.now.grains c.prepare.new.grains 1 1 (Some (Failed None)) c.failed.result c.failed.ensures refl
    (own_unread l told c.args.part t c.args.self.now.cascade c.args.self.now.grains can c.shown_by-source.result.0 c.args.place c.prepare.new.grains c.in-Err.ensures)

pub returns-in-Ok-write-clause-ends : goal.returns-in-Ok-write-clause-ends
returns-in-Ok-write-clause-ends g c l told t can number place =
    let from = own_from l told c.args.part t c.args.self.now.cascade c.args.self.now.grains can c.shown_by-source.result.0 c.args.grain.0 number c.shown_by-source.ensures in
    let calls = c.calls_of-calls.ensures.value ∙ ap (λ (z : GrainSize). calls_of_write z c.args.part) (c.grain.ensures ∙ (c.in-Ok.ensures.same.grain ∙ can.grain_is)) in
    own_ends_as l told c.args.part t c.args.self.now.cascade c.written.new.self c.args.self.now.grains c.write.new.self c.calls_of-calls.result (calls_of_write l.grain c.args.part) None c.done.result c.done.ensures calls
    (own_done l told c.args.part t c.args.self.now.cascade c.args.self.now.grains can c.shown_by-source.result.0 c.args.place c.prepare.new.grains c.write.new.self from place c.in-Ok.ensures c.args.grain.0 c.in-Ok-write.field-0 c.written.new.self number c.written.ensures c.in-Ok-write.ensures)

pub returns-in-Err-Failed-clause-ends : goal.returns-in-Err-Failed-clause-ends
returns-in-Err-Failed-clause-ends g c l told t can number place =
    let from = own_from l told c.args.part t c.args.self.now.cascade c.args.self.now.grains can c.shown_by-source.result.0 c.args.grain.0 number c.shown_by-source.ensures in
    let calls = c.calls_of-calls.ensures.value ∙ ap (λ (z : GrainSize). calls_of_write z c.args.part) (c.grain.ensures ∙ (c.in-Ok.ensures.same.grain ∙ can.grain_is)) in
    own_ends_as l told c.args.part t c.args.self.now.cascade c.torn.new.self c.args.self.now.grains c.write.new.self c.calls_of-calls.result (calls_of_write l.grain c.args.part) (Some (Failed (Some _))) c.failed-in-Err-Failed.result c.failed-in-Err-Failed.ensures calls
    (own_torn l told c.args.part t c.args.self.now.cascade c.args.self.now.grains can c.shown_by-source.result.0 c.args.place c.prepare.new.grains c.write.new.self from place c.in-Ok.ensures c.args.grain.0 c.side_of-side.result _ c.torn.new.self number
    (own_side l told c.args.part t c.args.self.now.cascade c.args.self.now.grains can c.shown_by-source.result.0 c.side_of-side.result from c.side_of-side.ensures) refl c.torn.ensures
    (written_as _ c.prepare.new.grains c.write.new.self c.args.part.volume.0 c.args.place c.in-Err-Failed.field-0 Fails c.in-Err-Failed.field-0-is c.in-Err-Failed.ensures))

pub returns-in-Err-NoMemory-clause-ends : goal.returns-in-Err-NoMemory-clause-ends
returns-in-Err-NoMemory-clause-ends g c l told t can number place =
    let from = own_from l told c.args.part t c.args.self.now.cascade c.args.self.now.grains can c.shown_by-source.result.0 c.args.grain.0 number c.shown_by-source.ensures in
    let calls = c.calls_of-calls.ensures.value ∙ ap (λ (z : GrainSize). calls_of_write z c.args.part) (c.grain.ensures ∙ (c.in-Ok.ensures.same.grain ∙ can.grain_is)) in
    subst (λ (z : ℕ). OwnEnds l told c.args.part t z (Some NoMemory) c.args.self.now.cascade c.args.self.now.grains c.args.self.now.cascade c.write.new.self) (sym calls)
    (own_refused l told c.args.part t c.args.self.now.cascade c.args.self.now.grains can c.shown_by-source.result.0 c.args.place c.prepare.new.grains c.write.new.self from place c.in-Ok.ensures
    (written_as _ c.prepare.new.grains c.write.new.self c.args.part.volume.0 c.args.place c.in-Err-NoMemory.field-0 NoRoom c.in-Err-NoMemory.field-0-is c.in-Err-NoMemory.ensures))

pub returns-in-Ok-write-clause-stored : goal.returns-in-Ok-write-clause-stored
returns-in-Ok-write-clause-stored g c l told t can number place =
    let from = own_from l told c.args.part t c.args.self.now.cascade c.args.self.now.grains can c.shown_by-source.result.0 c.args.grain.0 number c.shown_by-source.ensures in
    own_stored_as l told c.args.part _ _ c.calls_of-calls.result None c.done.result c.done.ensures
    (done_stored l told c.args.part t c.args.self.now.cascade c.args.self.now.grains can c.shown_by-source.result.0 c.args.place c.prepare.new.grains c.write.new.self from place c.in-Ok.ensures c.in-Ok-write.field-0 c.in-Ok-write.ensures)

pub returns-in-Err-Failed-clause-stored : goal.returns-in-Err-Failed-clause-stored
returns-in-Err-Failed-clause-stored g c l told t can number place =
    let from = own_from l told c.args.part t c.args.self.now.cascade c.args.self.now.grains can c.shown_by-source.result.0 c.args.grain.0 number c.shown_by-source.ensures in
    own_stored_as l told c.args.part _ _ c.calls_of-calls.result (Some (Failed (Some _))) c.failed-in-Err-Failed.result c.failed-in-Err-Failed.ensures
    (torn_stored l told c.args.part t c.args.self.now.cascade c.args.self.now.grains can c.shown_by-source.result.0 c.args.place c.prepare.new.grains c.write.new.self from place c.in-Ok.ensures
    (written_as _ c.prepare.new.grains c.write.new.self c.args.part.volume.0 c.args.place c.in-Err-Failed.field-0 Fails c.in-Err-Failed.field-0-is c.in-Err-Failed.ensures))

pub returns-in-Err-NoMemory-clause-stored : goal.returns-in-Err-NoMemory-clause-stored
returns-in-Err-NoMemory-clause-stored g c l told t can number place =
    let from = own_from l told c.args.part t c.args.self.now.cascade c.args.self.now.grains can c.shown_by-source.result.0 c.args.grain.0 number c.shown_by-source.ensures in
    refused_same l told c.args.part t c.args.self.now.cascade c.args.self.now.grains can c.shown_by-source.result.0 c.args.place c.prepare.new.grains c.write.new.self from place c.in-Ok.ensures
    (written_as _ c.prepare.new.grains c.write.new.self c.args.part.volume.0 c.args.place c.in-Err-NoMemory.field-0 NoRoom c.in-Err-NoMemory.field-0-is c.in-Err-NoMemory.ensures)
