-- The write is marked, and is next; or it is made, where no mark is wanted.
use Rattle.std.proofs.Common.{Some, refl, sym, ap, subst, ◌∙◌}
use Rattle.std.specs.Prelude.{Err}
use Rattle.std.proofs.lemmas.Result.{err_from_is_err_and}
use Rattle.fc_diff.specs.State.{ChangesState}
use Rattle.fc_lane.specs.Lane.{LaneView}
use Rattle.fc_marks.specs.declared.error.NotedStop.{NotedStop}
use Rattle.fc_noted.proofs.Data.{seen_lane}
use Rattle.fc_noted.proofs.Marked.{mark_failed, mark_made_by, mark_refused, wants_is}
use Rattle.fc_noted.proofs.KeepingLanes.{lanes_stay, lanes_still}
use Rattle.fc_noted.proofs.MeteringNoted.{calls_of_error, memory_alone, no_calls, same_calls}
use Rattle.fc_noted.specs.Making.{WayMade, done}
use Rattle.fc_noted.proofs.noted.Noted.own.Goals as goal

pub returns-in_err-remember-clause-made : goal.returns-in_err-remember-clause-made
returns-in_err-remember-clause-made g c history =
    let p = err_from_is_err_and c.from_residual.result c.from_residual.ensures.1 in
    mark_refused g.M.MetaDisk.seen g.M.MetaDisk.may_leave g.M.MetaDisk.moment g.M.MetaDisk.left_since g.M.MetaDisk.calls g.met.M.MetaDisk.only_now c.args.self.now c.args.way c.remember.new.marks c.from_residual.result p.0 p.1 p.2 history

pub returns-in_err-put-clause-made : goal.returns-in_err-put-clause-made
returns-in_err-put-clause-made g c history =
    let a = c.requires.at in
    let seen = seen_lane g.M.MetaDisk.seen g.M.MetaDisk.may_leave c.args.self.now c.args.way a.2 a.0 a.1 a.3 c.requires.due c.all_lanes.result.now c.index-all_lanes-way.result c.all_lanes.ensures c.index-all_lanes-way.is in
    let wants = wants_is c.rows-rows.result.now _ c.as_slice.result.now c.args.self.now.marks.items c.args.part.volume c.args.way.doing.steps.grain c.args.way.doing.steps.place c.wants_mark.result
    (c.rows-rows.ensures ∙ (ap (λ (z : ChangesState). z.rows) c.changes.ensures ∙ ap (λ (v : LaneView). v.changes.rows) seen)) c.as_slice.ensures.value c.wants_mark.ensures c.if-not-wants_mark.false in
    let p = err_from_is_err_and c.from_residual-in_err-put.result c.from_residual-in_err-put.ensures.1 in
    subst (λ n. WayMade g.M.MetaDisk.seen g.M.MetaDisk.may_leave g.M.MetaDisk.moment g.M.MetaDisk.left_since g.M.MetaDisk.calls c.from_residual-in_err-put.result c.args.self.now c.args.way n history history) (sym c.in_err-put.ensures.others)
    (mark_failed g.M.MetaDisk.seen g.M.MetaDisk.may_leave g.M.MetaDisk.moment g.M.MetaDisk.left_since g.M.MetaDisk.calls g.met.M.MetaDisk.counts_now c.args.self.now c.args.way c.args.part c.requires.due c.requires.live c.requires.next wants
    c.put.new.self.meta c.put.new.self.calls c.in_err-put.ensures.calls c.remember.new.marks c.in_ok-remember.ensures.ok c.in_err-put.ensures.any_moment
    c.from_residual-in_err-put.result p.0 c.in_err-put.field-0.0 p.1 p.2 (λ e. c.in_err-put.ensures.not_log (ap (λ (z : NotedStop). Err z) e)) c.in_err-put.ensures.short history)

pub returns-clause-made : goal.returns-clause-made
returns-clause-made g c history =
    let a = c.requires.at in
    let seen = seen_lane g.M.MetaDisk.seen g.M.MetaDisk.may_leave c.args.self.now c.args.way a.2 a.0 a.1 a.3 c.requires.due c.all_lanes.result.now c.index-all_lanes-way.result c.all_lanes.ensures c.index-all_lanes-way.is in
    let wants = wants_is c.rows-rows.result.now _ c.as_slice.result.now c.args.self.now.marks.items c.args.part.volume c.args.way.doing.steps.grain c.args.way.doing.steps.place c.wants_mark.result
    (c.rows-rows.ensures ∙ (ap (λ (z : ChangesState). z.rows) c.changes.ensures ∙ ap (λ (v : LaneView). v.changes.rows) seen)) c.as_slice.ensures.value c.wants_mark.ensures c.if-not-wants_mark.false in
    subst (λ n. WayMade g.M.MetaDisk.seen g.M.MetaDisk.may_leave g.M.MetaDisk.moment g.M.MetaDisk.left_since g.M.MetaDisk.calls done c.args.self.now c.args.way (record n { under_way = Some c.args.way }) history history) (sym c.in_ok-put.ensures.others)
    (mark_made_by g.M.MetaDisk.seen g.M.MetaDisk.may_leave g.M.MetaDisk.moment g.M.MetaDisk.left_since g.M.MetaDisk.calls g.met.M.MetaDisk.counts_now c.args.self.now c.args.way c.args.part c.requires.due c.requires.live c.requires.next wants
    c.put.new.self.meta c.put.new.self.calls c.in_ok-put.ensures.calls c.remember.new.marks c.in_ok-remember.ensures.ok c.in_ok-put.ensures.any_moment c.in_ok-put.ensures.rests c.in_ok-put.ensures.found
    c.in_ok-put.ensures.counted.size c.in_ok-put.ensures.metered history)

pub returns-in_err-remember-clause-lanes : goal.returns-in_err-remember-clause-lanes
returns-in_err-remember-clause-lanes g c = lanes_stay c.args.self.now.store

pub returns-in_err-put-clause-lanes : goal.returns-in_err-put-clause-lanes
returns-in_err-put-clause-lanes g c = lanes_still c.args.self.now.store c.put.new.self.store (ap (λ n. n.store) c.in_err-put.ensures.others)

pub returns-clause-lanes : goal.returns-clause-lanes
returns-clause-lanes g c = lanes_still c.args.self.now.store c.put.new.self.store (ap (λ n. n.store) c.in_ok-put.ensures.others)

pub returns-in_err-remember-clause-counted : goal.returns-in_err-remember-clause-counted
returns-in_err-remember-clause-counted g c =
    let p = err_from_is_err_and c.from_residual.result c.from_residual.ensures.1 in
    no_calls g.M.MetaDisk.seen g.M.MetaDisk.fault_count g.M.MetaDisk.calls c.from_residual.result c.args.self.now _ refl refl (memory_alone c.from_residual.result (rw (p.1, p.2) refl))

pub returns-in_err-put-clause-counted : goal.returns-in_err-put-clause-counted
returns-in_err-put-clause-counted g c =
    let p = err_from_is_err_and c.from_residual-in_err-put.result c.from_residual-in_err-put.ensures.1 in
    calls_of_error g.M.MetaDisk.seen g.M.MetaDisk.fault_count g.M.MetaDisk.calls c.from_residual-in_err-put.result p.0 c.in_err-put.field-0.0 c.args.self.now _ c.put.new.self c.put.new.self p.1 p.2 refl refl refl refl c.in_err-put.ensures.counted

pub returns-clause-counted : goal.returns-clause-counted
returns-clause-counted g c =
    same_calls g.M.MetaDisk.seen g.M.MetaDisk.fault_count g.M.MetaDisk.calls done done c.args.self.now _ c.put.new.self _ refl refl refl refl (λ P ok. ok) (λ told. told) (λ told. told) c.in_ok-put.ensures.counted
