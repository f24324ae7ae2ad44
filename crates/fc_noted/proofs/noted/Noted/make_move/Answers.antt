-- A move that copies nothing is made behind its record; or the disk of metadata stopped.
use Rattle.std.proofs.Common.{refl, ap, sym, subst, ◌∙◌}
use Rattle.std.specs.Prelude.{Err}
use Rattle.std.proofs.lemmas.Result.{err_from_is_err_and}
use Rattle.fc_lane.specs.Doing.{IsUnderWay}
use Rattle.fc_marks.specs.declared.error.NotedStop.{NotedStop}
use Rattle.fc_noted.proofs.Alone.{alone_failed, alone_made_by}
use Rattle.fc_noted.proofs.KeepingLanes.{lanes_still, step_keeps}
use Rattle.fc_noted.proofs.MeteringNoted.{calls_of_error, same_calls}
use Rattle.fc_noted.specs.Making.{WayMade, done}
use Rattle.fc_store.specs.Stepping.{IsInLane, lane_in}
use Rattle.fc_noted.proofs.noted.Noted.make_move.Goals as goal

pub returns-in_err-put-clause-made : goal.returns-in_err-put-clause-made
returns-in_err-put-clause-made g c history =
    let p = err_from_is_err_and c.from_residual.result c.from_residual.ensures.1 in
    subst (λ n. WayMade g.M.MetaDisk.seen g.M.MetaDisk.may_leave g.M.MetaDisk.moment g.M.MetaDisk.left_since g.M.MetaDisk.calls c.from_residual.result c.args.self.now c.args.way n history history) (sym c.in_err-put.ensures.others)
    (alone_failed g.M.MetaDisk.seen g.M.MetaDisk.may_leave g.M.MetaDisk.moment g.M.MetaDisk.left_since g.M.MetaDisk.calls g.met.M.MetaDisk.counts_now c.args.self.now c.args.way c.args.mv c.requires.due c.requires.live c.requires.next
    (sym c.copies_nothing.ensures ∙ c.if-not-copies_nothing.false) c.put.new.self.meta c.put.new.self.calls c.in_err-put.ensures.calls c.in_err-put.ensures.any_moment
    c.from_residual.result p.0 c.in_err-put.field-0.0 p.1 p.2 (λ e. c.in_err-put.ensures.not_log (ap (λ (z : NotedStop). Err z) e)) c.in_err-put.ensures.short history)

pub returns-clause-made : goal.returns-clause-made
returns-clause-made g c =
    alone_made_by g.M.MetaDisk.seen g.M.MetaDisk.may_leave g.M.MetaDisk.moment g.M.MetaDisk.left_since g.M.MetaDisk.calls g.met.M.MetaDisk.counts_now c.args.self.now c.args.way c.args.mv c.requires.due c.requires.live c.requires.next
    (sym c.copies_nothing.ensures ∙ c.if-not-copies_nothing.false) c.put.new.self.meta c.put.new.self.calls c.in_ok-put.ensures.calls c.in_ok-put.ensures.any_moment
    c.put.new.self c.in_ok-put.ensures.others c.step.result c.step.new.doing c.step.new.self c.step.ensures.step c.step.ensures.others
    c.in_ok-put.ensures.rests c.in_ok-put.ensures.found c.in_ok-put.ensures.counted.size c.in_ok-put.ensures.metered

pub returns-in_err-put-clause-lanes : goal.returns-in_err-put-clause-lanes
returns-in_err-put-clause-lanes g c = lanes_still c.args.self.now.store c.put.new.self.store (ap (λ n. n.store) c.in_err-put.ensures.others)

pub returns-clause-lanes : goal.returns-clause-lanes
returns-clause-lanes g c =
    let d = c.requires.at.3 in
    let lane = lane_in d.begun c.args.way.place in
    let same = ap (λ n. n.store) c.in_ok-put.ensures.others in
    step_keeps c.args.way.place c.args.self.now.store c.step.new.self lane c.args.way.doing c.step.new.doing
    (subst (λ s. IsInLane c.args.way.place s c.step.new.self) same c.step.ensures.others) d.under
    (c.step.ensures.step.way lane (subst (λ s. IsUnderWay lane c.args.way.doing (lane_in s c.args.way.place)) (sym same) d.under))

pub returns-in_err-put-clause-counted : goal.returns-in_err-put-clause-counted
returns-in_err-put-clause-counted g c =
    let p = err_from_is_err_and c.from_residual.result c.from_residual.ensures.1 in
    calls_of_error g.M.MetaDisk.seen g.M.MetaDisk.fault_count g.M.MetaDisk.calls c.from_residual.result p.0 c.in_err-put.field-0.0 c.args.self.now c.args.self.now c.put.new.self c.put.new.self p.1 p.2 refl refl refl refl c.in_err-put.ensures.counted

pub returns-clause-counted : goal.returns-clause-counted
returns-clause-counted g c =
    same_calls g.M.MetaDisk.seen g.M.MetaDisk.fault_count g.M.MetaDisk.calls done done c.args.self.now c.args.self.now c.put.new.self _ refl refl refl refl (λ P ok. ok) (λ told. told) (λ told. told) c.in_ok-put.ensures.counted
