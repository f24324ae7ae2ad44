use Rattle.std.proofs.Common.{◌∙◌}
use Rattle.std.specs.Prelude.{Err}
use Rattle.std.proofs.lemmas.Result.{err_from_is_err_and}
use Rattle.fc_meta.specs.declared.series.Call.TheVariants.{ClearOther, Turn}
use Rattle.fc_meta.proofs.Places.{on_ok_then}
use Rattle.fc_meta.proofs.Promised.{only_failed}
use Rattle.fc_meta.proofs.Whole.{fold_first, fold_second, fold_stays, fold_unwritten, fold_begun, fold_has_room, fold_all, fold_head}
use Rattle.fc_meta.proofs.meta.Meta.fold.Goals as goal

pub returns-in_err-clear_other-clause-treats : goal.returns-in_err-clear_other-clause-treats
returns-in_err-clear_other-clause-treats g c =
    let p = err_from_is_err_and c.from_residual.result c.from_residual.ensures.1 in
    rw (p.1, p.2) (fold_first g.M.MetaDisk.seen g.M.MetaDisk.moment g.M.MetaDisk.left_since g.M.MetaDisk.fault_count g.M.MetaDisk.calls g.M.MetaDisk.leads g.M.MetaDisk.may_leave g.met.M.MetaDisk.leads_on c.args.self.now c.clear_other.new.self c.args.image.now c.in_err-clear_other.field-0.0 c.in_err-clear_other.ensures)

pub returns-in_err-clear_other-clause-stays : goal.returns-in_err-clear_other-clause-stays
returns-in_err-clear_other-clause-stays g c =
    let p = err_from_is_err_and c.from_residual.result c.from_residual.ensures.1 in
    rw (p.1, p.2) (only_failed g.M.MetaDisk.seen g.M.MetaDisk.moment g.M.MetaDisk.left_since g.M.MetaDisk.fault_count g.M.MetaDisk.calls g.M.MetaDisk.leads g.M.MetaDisk.may_leave ClearOther c.args.self.now (λ none. none) (λ none. none) c.clear_other.new.self (Err c.in_err-clear_other.field-0.0) _ c.in_err-clear_other.ensures)

pub returns-in_err-clear_other-clause-begun : goal.returns-in_err-clear_other-clause-begun
returns-in_err-clear_other-clause-begun g c =
    let p = err_from_is_err_and c.from_residual.result c.from_residual.ensures.1 in
    rw (p.1, p.2) (only_failed g.M.MetaDisk.seen g.M.MetaDisk.moment g.M.MetaDisk.left_since g.M.MetaDisk.fault_count g.M.MetaDisk.calls g.M.MetaDisk.leads g.M.MetaDisk.may_leave ClearOther c.args.self.now (λ none. none) (λ none. none) c.clear_other.new.self (Err c.in_err-clear_other.field-0.0) _ c.in_err-clear_other.ensures)

pub returns-in_err-clear_other-clause-short : goal.returns-in_err-clear_other-clause-short
returns-in_err-clear_other-clause-short g c =
    let p = err_from_is_err_and c.from_residual.result c.from_residual.ensures.1 in
    rw (p.1, p.2) (λ failed passes. c.in_err-clear_other.ensures.treats.asks.stopped failed)

pub returns-in_err-fill_other-clause-treats : goal.returns-in_err-fill_other-clause-treats
returns-in_err-fill_other-clause-treats g c =
    let p = err_from_is_err_and c.from_residual-in_err-fill_other.result c.from_residual-in_err-fill_other.ensures.1 in
    rw (p.1, p.2) (fold_second g.M.MetaDisk.seen g.M.MetaDisk.moment g.M.MetaDisk.left_since g.M.MetaDisk.fault_count g.M.MetaDisk.calls g.M.MetaDisk.leads g.M.MetaDisk.may_leave g.met.M.MetaDisk.leads_on c.args.self.now c.clear_other.new.self c.args.image.now c.in_ok-clear_other.ensures c.fill_other.new.self c.in_err-fill_other.field-0.0 c.in_err-fill_other.ensures)

pub returns-in_err-fill_other-clause-stays : goal.returns-in_err-fill_other-clause-stays
returns-in_err-fill_other-clause-stays g c =
    let p = err_from_is_err_and c.from_residual-in_err-fill_other.result c.from_residual-in_err-fill_other.ensures.1 in
    rw (p.1, p.2) (fold_stays g.M.MetaDisk.seen g.M.MetaDisk.moment g.M.MetaDisk.left_since g.M.MetaDisk.fault_count g.M.MetaDisk.calls g.M.MetaDisk.leads g.M.MetaDisk.may_leave g.met.M.MetaDisk.leads_on c.args.self.now c.clear_other.new.self c.args.image.now c.in_ok-clear_other.ensures c.fill_other.new.self c.in_err-fill_other.field-0.0 c.in_err-fill_other.ensures)

pub returns-in_err-fill_other-clause-begun : goal.returns-in_err-fill_other-clause-begun
returns-in_err-fill_other-clause-begun g c =
    let p = err_from_is_err_and c.from_residual-in_err-fill_other.result c.from_residual-in_err-fill_other.ensures.1 in
    rw (p.1, p.2) (fold_begun g.M.MetaDisk.seen g.M.MetaDisk.moment g.M.MetaDisk.left_since g.M.MetaDisk.fault_count g.M.MetaDisk.calls g.M.MetaDisk.leads g.M.MetaDisk.may_leave g.met.M.MetaDisk.leads_on c.args.self.now c.clear_other.new.self c.args.image.now c.in_ok-clear_other.ensures c.fill_other.new.self c.in_err-fill_other.field-0.0 c.in_err-fill_other.ensures)

pub returns-in_err-fill_other-clause-short : goal.returns-in_err-fill_other-clause-short
returns-in_err-fill_other-clause-short g c =
    let p = err_from_is_err_and c.from_residual-in_err-fill_other.result c.from_residual-in_err-fill_other.ensures.1 in
    rw (p.1, p.2) (λ failed passes. absurd (fold_unwritten g.M.MetaDisk.seen g.M.MetaDisk.moment g.M.MetaDisk.left_since g.M.MetaDisk.fault_count g.M.MetaDisk.calls g.M.MetaDisk.leads g.M.MetaDisk.may_leave g.met.M.MetaDisk.leads_on c.args.self.now c.clear_other.new.self c.args.image.now c.in_ok-clear_other.ensures c.fill_other.new.self c.in_err-fill_other.field-0.0 c.in_err-fill_other.ensures failed passes))

pub returns-clause-rests : goal.returns-clause-rests
returns-clause-rests g c = on_ok_then c.turn.result _ _ (λ m. m.0) c.turn.ensures.made

pub returns-clause-found : goal.returns-clause-found
returns-clause-found g c = on_ok_then c.turn.result _ _ (λ m. m.1 ∙ c.in_ok-fill_other.ensures.made.2) c.turn.ensures.made

pub returns-clause-head : goal.returns-clause-head
returns-clause-head g c = fold_head g.M.MetaDisk.seen g.M.MetaDisk.moment g.M.MetaDisk.left_since g.M.MetaDisk.fault_count g.M.MetaDisk.calls g.M.MetaDisk.leads g.M.MetaDisk.may_leave g.met.M.MetaDisk.leads_on c.args.self.now c.clear_other.new.self c.args.image.now c.in_ok-clear_other.ensures c.fill_other.new.self c.in_ok-fill_other.ensures c.turn.new.self c.turn.result c.turn.ensures

pub returns-clause-stays : goal.returns-clause-stays
returns-clause-stays g c = only_failed g.M.MetaDisk.seen g.M.MetaDisk.moment g.M.MetaDisk.left_since g.M.MetaDisk.fault_count g.M.MetaDisk.calls g.M.MetaDisk.leads g.M.MetaDisk.may_leave Turn c.fill_other.new.self (λ none. none) (λ none. none) c.turn.new.self c.turn.result _ c.turn.ensures

pub returns-clause-begun : goal.returns-clause-begun
returns-clause-begun g c = only_failed g.M.MetaDisk.seen g.M.MetaDisk.moment g.M.MetaDisk.left_since g.M.MetaDisk.fault_count g.M.MetaDisk.calls g.M.MetaDisk.leads g.M.MetaDisk.may_leave Turn c.fill_other.new.self (λ none. none) (λ none. none) c.turn.new.self c.turn.result _ c.turn.ensures

pub returns-clause-short : goal.returns-clause-short
returns-clause-short g c failed passes =
    absurd (fold_has_room g.M.MetaDisk.seen g.M.MetaDisk.moment g.M.MetaDisk.left_since g.M.MetaDisk.fault_count g.M.MetaDisk.calls g.M.MetaDisk.leads g.M.MetaDisk.may_leave g.met.M.MetaDisk.leads_on c.args.self.now c.clear_other.new.self c.args.image.now c.in_ok-clear_other.ensures c.fill_other.new.self c.in_ok-fill_other.ensures passes)

pub returns-clause-treats : goal.returns-clause-treats
returns-clause-treats g c = fold_all g.M.MetaDisk.seen g.M.MetaDisk.moment g.M.MetaDisk.left_since g.M.MetaDisk.fault_count g.M.MetaDisk.calls g.M.MetaDisk.leads g.M.MetaDisk.may_leave g.met.M.MetaDisk.leads_on c.args.self.now c.clear_other.new.self c.args.image.now c.in_ok-clear_other.ensures c.fill_other.new.self c.in_ok-fill_other.ensures c.turn.new.self c.turn.result c.turn.ensures
