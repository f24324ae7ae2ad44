-- The entry goes on by a step of data, and its record waits.
use Rattle.std.proofs.Common.{refl, ap, ◌∙◌}
use Rattle.fc_noted.proofs.Data.{data_made_by}
use Rattle.fc_steps.specs.declared.stepping.Next.{Next}
use Rattle.law_noted.specs.Records.{record_after}
use Rattle.fc_noted.proofs.KeepingLanes.{step_keeps}
use Rattle.fc_store.specs.Stepping.{lane_in}
use Rattle.fc_noted.proofs.MeteringNoted.{no_calls}
use Rattle.fc_noted.specs.Making.{done}
use Rattle.fc_noted.proofs.noted.Noted.data_step.Goals as goal

pub returns-clause-made : goal.returns-clause-made
returns-clause-made g c =
    data_made_by g.M.MetaDisk.seen g.M.MetaDisk.may_leave g.M.MetaDisk.moment g.M.MetaDisk.left_since g.M.MetaDisk.calls g.met.M.MetaDisk.only_now c.args.self.now c.args.way c.requires.due c.requires.live c.step-end.result c.step-end.new.doing c.step-end.new.self
    c.step-end.ensures.step c.step-end.ensures.others c.requires.next c.requires.marked c.requires.copies c.record_after-due.result
    (c.record_after-due.ensures ∙ ap (λ (z : Next). record_after z c.step-end.result c.args.way.doing.steps.grain) c.next-next.ensures)

pub returns-clause-lanes : goal.returns-clause-lanes
returns-clause-lanes g c =
    let d = c.requires.at.3 in
    step_keeps c.args.way.place c.args.self.now.store c.step-end.new.self (lane_in d.begun c.args.way.place) c.args.way.doing c.step-end.new.doing c.step-end.ensures.others d.under
    (c.step-end.ensures.step.way (lane_in d.begun c.args.way.place) d.under)

pub returns-clause-counted : goal.returns-clause-counted
returns-clause-counted g c = no_calls g.M.MetaDisk.seen g.M.MetaDisk.fault_count g.M.MetaDisk.calls done c.args.self.now _ refl refl (λ told. absurd cc)
