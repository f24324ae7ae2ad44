use Rattle.std.proofs.Common.{subst, sym}
use Rattle.std.proofs.lemmas.Result.{on_ok_weaker}
use Rattle.fc_control.specs.Changes.{CanApply}
use Rattle.fc_control.specs.Control.{ControlState}
use Rattle.fc_stands.proofs.PhaseAll.{all_reserved, half_reserved, ready_for}
use Rattle.fc_store.proofs.store.Store.reserve_all.Goals as goal

pub returns-in-Ok-clause-reserved : goal.returns-in-Ok-clause-reserved
returns-in-Ok-clause-reserved g c =
    all_reserved c.args.self.now c.reserve_in_control.new.self c.reserve_in_lanes.new.self c.in-Ok.ensures.control c.in-Ok.ensures.lanes c.reserve_in_lanes.ensures.control c.reserve_in_lanes.ensures.ready

pub returns-in-Err-clause-reserved : goal.returns-in-Err-clause-reserved
returns-in-Err-clause-reserved g c = half_reserved c.args.self.now c.reserve_in_control.new.self c.in-Err.ensures.control c.in-Err.ensures.lanes

pub returns-in-Ok-clause-ok : goal.returns-in-Ok-clause-ok
returns-in-Ok-clause-ok g c =
    on_ok_weaker c.reserve_in_lanes.result
    (λ lanes.
    ready_for c.args.self.now c.reserve_in_lanes.new.self c.args.decision.now c.requires.can
    (all_reserved c.args.self.now c.reserve_in_control.new.self c.reserve_in_lanes.new.self c.in-Ok.ensures.control c.in-Ok.ensures.lanes c.reserve_in_lanes.ensures.control c.reserve_in_lanes.ensures.ready)
    (subst (λ (x : ControlState). CanApply x c.args.decision.now) (sym c.reserve_in_lanes.ensures.control) c.in-Ok.ensures.ok)
    lanes)
    c.reserve_in_lanes.ensures.ok
