-- With the entry that was under way, or with the next one.
use Rattle.std.proofs.Common.{Option, Some, refl, sym, subst, ◌∙◌}
use Rattle.std.specs.Prelude.{Ok, true}
use Rattle.std.proofs.lemmas.Result.{err_from_is_err_and}
use Rattle.fc_noted.proofs.Ended.{doing_taken}
use Rattle.fc_noted.proofs.MeteringNoted.{calls_of_error, same_calls}
use Rattle.fc_noted.proofs.Stepping.{doing_asks, step_failed, step_same}
use Rattle.fc_noted.specs.Making.{done}
use Rattle.fc_noted.specs.Noted.{IsAtBy}
use Rattle.fc_noted.specs.declared.noted.UnderWay.{UnderWay}
use Rattle.fc_noted.proofs.noted.Noted.step.Goals as goal

pub returns-in_err-go_on-in-Some-clause-made : goal.returns-in_err-go_on-in-Some-clause-made
returns-in_err-go_on-in-Some-clause-made g c =
    let p = err_from_is_err_and c.from_residual.result c.from_residual.ensures.1 in
    step_failed g.M.MetaDisk.seen g.M.MetaDisk.may_leave g.M.MetaDisk.moment g.M.MetaDisk.left_since g.M.MetaDisk.calls c.args.self.now c.go_on.new.self c.args.history.now c.go_on.new.history
    c.from_residual.result p.0 c.in_err-go_on-in-Some.field-0.0 (Some c.in-Some.way) p.1 p.2 (sym c.take.ensures.value ∙ c.in-Some.is) c.in_err-go_on-in-Some.ensures.made

pub returns-in-None-clause-made : goal.returns-in-None-clause-made
returns-in-None-clause-made g c =
    step_same g.M.MetaDisk.seen g.M.MetaDisk.may_leave g.M.MetaDisk.moment g.M.MetaDisk.left_since g.M.MetaDisk.calls c.args.self.now c.begin_next.new.self c.args.history.now c.begin_next.new.history
    c.begin_next.result c.take.new.self (sym c.take.ensures.value ∙ (c.in-None.is ∙ sym c.take.ensures.after)) c.begin_next.ensures.made

pub returns-in_ok-go_on-in-Some-clause-made : goal.returns-in_ok-go_on-in-Some-clause-made
returns-in_ok-go_on-in-Some-clause-made g c =
    step_same g.M.MetaDisk.seen g.M.MetaDisk.may_leave g.M.MetaDisk.moment g.M.MetaDisk.left_since g.M.MetaDisk.calls c.args.self.now c.go_on.new.self c.args.history.now c.go_on.new.history
    (Ok true) (Some c.in-Some.way) (sym c.take.ensures.value ∙ c.in-Some.is) c.in_ok-go_on-in-Some.ensures.made

pub returns-in_err-go_on-in-Some-clause-counted : goal.returns-in_err-go_on-in-Some-clause-counted
returns-in_err-go_on-in-Some-clause-counted g c =
    let p = err_from_is_err_and c.from_residual.result c.from_residual.ensures.1 in
    calls_of_error g.M.MetaDisk.seen g.M.MetaDisk.fault_count g.M.MetaDisk.calls c.from_residual.result p.0 c.in_err-go_on-in-Some.field-0.0 c.args.self.now _ c.go_on.new.self c.go_on.new.self p.1 p.2 refl refl refl refl
    c.in_err-go_on-in-Some.ensures.counted

pub returns-in-None-clause-counted : goal.returns-in-None-clause-counted
returns-in-None-clause-counted g c =
    same_calls g.M.MetaDisk.seen g.M.MetaDisk.fault_count g.M.MetaDisk.calls c.begin_next.result c.begin_next.result c.args.self.now _ c.begin_next.new.self c.begin_next.new.self refl refl refl refl (λ P ok. ok) (λ told. told) (λ told. told) c.begin_next.ensures.counted

pub returns-in_ok-go_on-in-Some-clause-counted : goal.returns-in_ok-go_on-in-Some-clause-counted
returns-in_ok-go_on-in-Some-clause-counted g c =
    same_calls g.M.MetaDisk.seen g.M.MetaDisk.fault_count g.M.MetaDisk.calls done (Ok true) c.args.self.now _ c.go_on.new.self c.go_on.new.self refl refl refl refl (λ P ok. ok) (λ told. absurd cc) (λ told. absurd cc) c.in_ok-go_on-in-Some.ensures.counted

pub go_on-requires-clause-at : goal.go_on-requires-clause-at
go_on-requires-clause-at g c =
    let can = c.requires.can in
    let d = subst (λ (o : Option UnderWay). IsAtBy g.M.MetaDisk.seen g.M.MetaDisk.may_leave o c.args.self.now c.args.history.now can.w can.least) (sym c.take.ensures.value ∙ c.in-Some.is) can.at in
    (can.w, can.least, doing_taken g.M.MetaDisk.seen g.M.MetaDisk.may_leave c.args.self.now c.in-Some.way c.take.new.self c.args.history.now can.w can.least d)

pub returns-in_err-go_on-in-Some-clause-full : goal.returns-in_err-go_on-in-Some-clause-full
returns-in_err-go_on-in-Some-clause-full g c told w least at =
    doing_asks g.M.MetaDisk.seen g.M.MetaDisk.may_leave c.args.self.now c.in-Some.way c.args.history.now w least
    (subst (λ (o : Option UnderWay). IsAtBy g.M.MetaDisk.seen g.M.MetaDisk.may_leave o c.args.self.now c.args.history.now w least) (sym c.take.ensures.value ∙ c.in-Some.is) at)
