use Rattle.std.proofs.Common.{◌≡◌, ◌∙◌}
use Rattle.std.proofs.lemmas.Result.{err_from_is_err_and}
use Rattle.fc_meta.specs.declared.series.Call.TheVariants.{Sync}
use Rattle.fc_meta.proofs.Places.{on_ok_then}
use Rattle.fc_meta.proofs.Promised.{only_failed}
use Rattle.fc_meta.proofs.Whole.{put_first, put_both, put_head}
use Rattle.fc_meta.proofs.meta.Meta.put.Goals as goal

pub returns-in_err-note-clause-full : goal.returns-in_err-note-clause-full
returns-in_err-note-clause-full g c =
    let p = err_from_is_err_and c.from_residual.result c.from_residual.ensures.1 in
    rw (p.1, p.2) (λ told. c.in_err-note.ensures.promise.full told, λ none. c.in_err-note.ensures.full none)

pub returns-in_err-note-clause-refused : goal.returns-in_err-note-clause-refused
returns-in_err-note-clause-refused g c =
    let p = err_from_is_err_and c.from_residual.result c.from_residual.ensures.1 in
    rw (p.1, p.2) c.in_err-note.ensures.promise.refused

pub returns-in_err-note-clause-treats : goal.returns-in_err-note-clause-treats
returns-in_err-note-clause-treats g c =
    let p = err_from_is_err_and c.from_residual.result c.from_residual.ensures.1 in
    rw (p.1, p.2) (put_first g.M.MetaDisk.seen g.M.MetaDisk.moment g.M.MetaDisk.left_since g.M.MetaDisk.fault_count g.M.MetaDisk.calls g.M.MetaDisk.leads g.M.MetaDisk.may_leave g.met.M.MetaDisk.leads_on c.args.self.now c.note.new.self c.args.records.now c.in_err-note.field-0.0 c.in_err-note.ensures.promise)

pub returns-clause-rests : goal.returns-clause-rests
returns-clause-rests g c = on_ok_then c.sync.result _ _ (λ m. m.0) c.sync.ensures.made

pub returns-clause-found : goal.returns-clause-found
returns-clause-found g c = on_ok_then c.sync.result _ _ (λ m. m.1 ∙ c.in_ok-note.ensures.promise.made.2) c.sync.ensures.made

pub returns-clause-head : goal.returns-clause-head
returns-clause-head g c = put_head g.M.MetaDisk.seen g.M.MetaDisk.moment g.M.MetaDisk.left_since g.M.MetaDisk.fault_count g.M.MetaDisk.calls g.M.MetaDisk.leads g.M.MetaDisk.may_leave g.met.M.MetaDisk.leads_on c.args.self.now c.note.new.self c.args.records.now c.in_ok-note.ensures.promise c.sync.new.self c.sync.result c.sync.ensures

pub returns-clause-full : goal.returns-clause-full
returns-clause-full g c = (λ told. absurd (c.sync.ensures.full told), λ none. absurd (c.in_ok-note.ensures.promise.room none))

pub returns-clause-refused : goal.returns-clause-refused
returns-clause-refused g c =
    only_failed g.M.MetaDisk.seen g.M.MetaDisk.moment g.M.MetaDisk.left_since g.M.MetaDisk.fault_count g.M.MetaDisk.calls g.M.MetaDisk.leads g.M.MetaDisk.may_leave Sync c.note.new.self (λ none. none) (λ none. none) c.sync.new.self c.sync.result (c.sync.new.self ≡ c.args.self.now) c.sync.ensures

pub returns-clause-treats : goal.returns-clause-treats
returns-clause-treats g c = put_both g.M.MetaDisk.seen g.M.MetaDisk.moment g.M.MetaDisk.left_since g.M.MetaDisk.fault_count g.M.MetaDisk.calls g.M.MetaDisk.leads g.M.MetaDisk.may_leave g.met.M.MetaDisk.leads_on c.args.self.now c.note.new.self c.args.records.now c.in_ok-note.ensures.promise c.sync.new.self c.sync.result c.sync.ensures
