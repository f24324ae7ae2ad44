-- A copy or a cleaning begins in the lane of its grain.
use Rattle.std.proofs.Common.{Ok, true, subst, sym, ap}
use Rattle.fc_base.specs.declared.request.Request.{Request}
use Rattle.fc_base.specs.declared.size.GrainSize.{GrainSize}
use Rattle.fc_desk.specs.Control.{ControlState}
use Rattle.fc_follow.specs.Following.{Followed}
use Rattle.fc_lane.specs.Doing.{FitsAsk, HasBegun}
use Rattle.fc_lane.specs.Lane.{IsFollowing, LaneView, of}
use Rattle.fc_lane.specs.Workers.{ask_of}
use Rattle.fc_lane.specs.declared.worker.Worker.{Worker}
use Rattle.fc_legal.specs.Agenda.{Asks}
use Rattle.fc_legal.specs.Whole.{Whole}
use Rattle.fc_noted.proofs.Begun.{begun_made}
use Rattle.fc_noted.proofs.CallsMade.{no_error}
use Rattle.fc_noted.proofs.Filling.{fill_can, fill_in_volume, fill_of_lane, fill_request, worker_of}
use Rattle.fc_noted.proofs.KeepingLanes.{begun_keeps, lanes_go_on, lanes_hold}
use Rattle.fc_noted.proofs.Unready.{unready_counts, unready_made}
use Rattle.fc_noted.specs.Making.{KeepLanes, StepMade, done}
use Rattle.fc_script.specs.Asking.{HasNextFill, work_of}
use Rattle.fc_script.specs.Script.{agenda_of}
use Rattle.fc_script.specs.declared.asking.Asked.TheVariants.{Fill}
use Rattle.fc_store.specs.Stepping.{lane_in, no_lane}
use Rattle.fc_noted.proofs.MeteringNoted.{no_calls}
use Rattle.fc_noted.proofs.noted.Noted.begin_fill.Goals as goal

pub ready_lane-requires : goal.ready_lane-requires
ready_lane-requires g c = record { stands = (c.requires.begins.w, c.requires.begins.at.told) }

pub returns-in_err-place-clause-made : goal.returns-in_err-place-clause-made
returns-in_err-place-clause-made g c =
    unready_made g.M.MetaDisk.seen g.M.MetaDisk.may_leave g.M.MetaDisk.moment g.M.MetaDisk.left_since g.M.MetaDisk.calls g.met.M.MetaDisk.only_now c.args.self.now c.args.history.now c.requires.begins c.ready_lane.new.self c.ready_lane.ensures.kept
    c.in_err-place.field-0.0 c.in_err-place.ensures.stopped c.from_residual.result c.from_residual.ensures.1

pub begin_fill-doing-requires-clause-there : goal.begin_fill-doing-requires-clause-there
begin_fill-doing-requires-clause-there g c = c.in_ok-place.ensures.ready.inside

pub begin_fill-doing-requires-clause-can : goal.begin_fill-doing-requires-clause-can
begin_fill-doing-requires-clause-can g c =
    let w : Whole = c.requires.begins.w in
    let told = c.requires.begins.at.told.0 in
    let kept = c.ready_lane.ensures.kept in
    let lane : LaneView = lane_in c.ready_lane.new.self c.in_ok-place.place in
    let Can : Worker → Type 0 = λ worker. (f : Followed) × IsFollowing lane f × FitsAsk (of lane) (ask_of worker c.args.map c.args.grain) f.told in
    subst Can (sym c.worker_of-worker.ensures)
    (fill_can c.ready_lane.new.self w (kept.stands w told) c.args.grain c.in_ok-place.place c.in_ok-place.ensures.ready c.args.cleans c.args.map (work_of c.args.self.now.script)
    (subst (λ (z : ControlState). HasNextFill z.grain w (work_of c.args.self.now.script) (Fill c.args.map c.args.cleans c.args.grain)) (sym kept.control) (c.requires.fill w told)))

pub begin_fill-doing-requires-clause-of_lane : goal.begin_fill-doing-requires-clause-of_lane
begin_fill-doing-requires-clause-of_lane g c =
    fill_of_lane c.ready_lane.new.self c.requires.begins.w (c.ready_lane.ensures.kept.stands c.requires.begins.w c.requires.begins.at.told.0) c.args.grain c.in_ok-place.place c.in_ok-place.ensures.ready

pub begin_fill-doing-requires-clause-ready : goal.begin_fill-doing-requires-clause-ready
begin_fill-doing-requires-clause-ready g c = c.in_ok-place.ensures.ready.ready no_lane

pub returns-clause-made : goal.returns-clause-made
returns-clause-made g c =
    let old = c.args.self.now in
    let history = c.args.history.now in
    let place = c.in_ok-place.place in
    let doing = c.begin_fill-doing.result in
    let store = c.begin_fill-doing.new.self in
    let grain : GrainSize = old.store.control.grain in
    let Begins : Worker → Type 0 = λ worker. HasBegun (lane_in c.ready_lane.new.self place) c.len.result 0 (ask_of worker c.args.map c.args.grain) doing (lane_in store place) in
    subst (λ n. StepMade g.M.MetaDisk.seen g.M.MetaDisk.may_leave g.M.MetaDisk.moment g.M.MetaDisk.left_since g.M.MetaDisk.calls (Ok true) old n history history) (sym c.take_up.ensures)
    (begun_made g.M.MetaDisk.seen g.M.MetaDisk.may_leave g.M.MetaDisk.moment g.M.MetaDisk.left_since g.M.MetaDisk.calls g.met.M.MetaDisk.only_now old history c.requires.begins c.ready_lane.new.self c.ready_lane.ensures.kept
    place c.len.result c.in_ok-place.ensures.ready.inside (ask_of (worker_of c.args.cleans) c.args.map c.args.grain) doing store (subst Begins c.worker_of-worker.ensures c.begin_fill-doing.ensures.begun) c.len.ensures
    c.begin_fill-doing.ensures.others
    (λ w up. subst (λ (r : Request). Asks grain (agenda_of grain old.script) w (0, r)) (fill_request c.args.cleans c.args.map c.args.grain) (c.requires.next w up))
    (λ w up. fill_in_volume grain w c.args.cleans c.args.map c.args.grain) c.in_ok-place.ensures.room)

pub returns-in_err-place-clause-lanes : goal.returns-in_err-place-clause-lanes
returns-in_err-place-clause-lanes g c = lanes_hold c.args.self.now.store c.ready_lane.new.self c.ready_lane.ensures.kept.grains

pub returns-clause-lanes : goal.returns-clause-lanes
returns-clause-lanes g c =
    let place = c.in_ok-place.place in
    let store = c.begin_fill-doing.new.self in
    subst (λ n. KeepLanes c.args.self.now.store n.store) (sym c.take_up.ensures)
    (lanes_go_on c.args.self.now.store c.ready_lane.new.self store (lanes_hold c.args.self.now.store c.ready_lane.new.self c.ready_lane.ensures.kept.grains)
    (begun_keeps place c.ready_lane.new.self store c.begin_fill-doing.result c.begin_fill-doing.ensures.others c.begin_fill-doing.ensures.begun.way))

-- ---- the disk of metadata isn't called

pub returns-in_err-place-clause-counted : goal.returns-in_err-place-clause-counted
returns-in_err-place-clause-counted g c =
    unready_counts g.M.MetaDisk.seen g.M.MetaDisk.fault_count g.M.MetaDisk.calls c.args.self.now c.ready_lane.new.self c.in_err-place.field-0.0 c.from_residual.result c.from_residual.ensures.1

pub returns-clause-counted : goal.returns-clause-counted
returns-clause-counted g c =
    no_calls g.M.MetaDisk.seen g.M.MetaDisk.fault_count g.M.MetaDisk.calls done c.args.self.now c.take_up.new.self (ap (λ n. n.calls) c.take_up.ensures) (ap (λ n. n.meta) c.take_up.ensures) (no_error tt)
