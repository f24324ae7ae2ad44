use Rattle.std.proofs.Common.{ℕ, ◌/◌, ◌∷◌, [], sym, ap, ◌∙◌}
use Rattle.std.proofs.lemmas.Result.{err_from_is_err_and}
use Rattle.fc_format.specs.Halves.{Found}
use Rattle.fc_meta.specs.Answers.{found_with}
use Rattle.fc_meta.specs.States.{disk_of, found}
use Rattle.fc_marks.proofs.Causes.{batch_cut, cut_behind_fold, cut_in_fold, cut_plainly, was_folded, was_put}
use Rattle.fc_marks.proofs.Leaving.{goes_on, has_failed, has_risen, when_full}
use Rattle.fc_marks.specs.Stops.{stop_of_meta}
use Rattle.fc_marks.proofs.putting.put_record.Goals as goal

pub returns-in_err-put-clause-unfailed : goal.returns-in_err-put-clause-unfailed
returns-in_err-put-clause-unfailed g c =
    let p = err_from_is_err_and c.from_residual.result c.from_residual.ensures.1 in
    rw (p.1, p.2) (λ told. ap (λ m. g.M.MetaDisk.fault_count (disk_of m)) (when_full c.in_err-put.field-0.0 _ told c.in_err-put.ensures.refused))

pub returns-in_err-put-2-clause-any_moment : goal.returns-in_err-put-2-clause-any_moment
returns-in_err-put-2-clause-any_moment g c =
    goes_on g.M.MetaDisk.seen g.M.MetaDisk.may_leave g.M.MetaDisk.moment g.M.MetaDisk.left_since (disk_of c.args.meta.now) (disk_of c.fold_same.new.meta) (disk_of c.put-2.new.self)
    (found g.M.MetaDisk.seen c.args.meta.now) (found g.M.MetaDisk.seen c.fold_same.new.meta) (found_with (found g.M.MetaDisk.seen c.fold_same.new.meta) (c.args.note ∷ []))
    (found_with (found g.M.MetaDisk.seen c.args.meta.now) (c.args.note ∷ []))
    c.in_ok-fold_same.ensures.found (ap (λ (f : Found). found_with f (c.args.note ∷ [])) c.in_ok-fold_same.ensures.found)
    c.in_ok-fold_same.ensures.any_moment c.in_err-put-2.ensures.treats.any_moment

pub returns-in_err-put-2-clause-unfailed : goal.returns-in_err-put-2-clause-unfailed
returns-in_err-put-2-clause-unfailed g c =
    let p = err_from_is_err_and c.from_residual-in_err-put-2.result c.from_residual-in_err-put-2.ensures.1 in
    rw (p.1, p.2) (λ told. ap (λ m. g.M.MetaDisk.fault_count (disk_of m)) (when_full c.in_err-put-2.field-0.0 _ told c.in_err-put-2.ensures.refused) ∙ c.in_ok-fold_same.ensures.quiet)

pub returns-in_err-put-2-clause-failed : goal.returns-in_err-put-2-clause-failed
returns-in_err-put-2-clause-failed g c =
    let p = err_from_is_err_and c.from_residual-in_err-put-2.result c.from_residual-in_err-put-2.ensures.1 in
    rw (p.1, p.2) (λ told. has_risen (g.M.MetaDisk.fault_count (disk_of c.args.meta.now)) (g.M.MetaDisk.fault_count (disk_of c.fold_same.new.meta)) (g.M.MetaDisk.fault_count (disk_of c.put-2.new.self))
    c.in_ok-fold_same.ensures.quiet (c.in_err-put-2.ensures.treats.asks.failed (has_failed c.in_err-put-2.field-0.0 told)))

pub returns-clause-any_moment : goal.returns-clause-any_moment
returns-clause-any_moment g c =
    goes_on g.M.MetaDisk.seen g.M.MetaDisk.may_leave g.M.MetaDisk.moment g.M.MetaDisk.left_since (disk_of c.args.meta.now) (disk_of c.fold_same.new.meta) (disk_of c.put-2.new.self)
    (found g.M.MetaDisk.seen c.args.meta.now) (found g.M.MetaDisk.seen c.fold_same.new.meta) (found_with (found g.M.MetaDisk.seen c.fold_same.new.meta) (c.args.note ∷ []))
    (found_with (found g.M.MetaDisk.seen c.args.meta.now) (c.args.note ∷ []))
    c.in_ok-fold_same.ensures.found (ap (λ (f : Found). found_with f (c.args.note ∷ [])) c.in_ok-fold_same.ensures.found)
    c.in_ok-fold_same.ensures.any_moment c.in_ok-put-2.ensures.treats.any_moment

pub returns-then-fits-clause-put : goal.returns-then-fits-clause-put
returns-then-fits-clause-put g c =
    was_put g.M.MetaDisk.seen g.M.MetaDisk.calls c.args.note c.args.meta.now c.put.new.self (sym c.fits.ensures ∙ c.if-fits.true)
    c.in_ok-put.ensures.found c.in_ok-put.ensures.head c.in_ok-put.ensures.treats.asks.counted

pub returns-in_err-put-clause-short : goal.returns-in_err-put-clause-short
returns-in_err-put-clause-short g c =
    let p = err_from_is_err_and c.from_residual.result c.from_residual.ensures.1 in
    rw (p.1, p.2) (cut_plainly g.M.MetaDisk.seen g.M.MetaDisk.calls c.args.note c.args.meta.now c.put.new.self (stop_of_meta c.in_err-put.field-0.0) (sym c.fits.ensures ∙ c.if-fits.true)
    (batch_cut g.M.MetaDisk.seen g.M.MetaDisk.calls c.args.note c.args.meta.now c.put.new.self c.in_err-put.field-0.0 c.in_err-put.ensures.full.0 c.in_err-put.ensures.full.1
    c.in_err-put.ensures.treats.asks.stopped c.in_err-put.ensures.refused))

pub returns-in_err-put-clause-room : goal.returns-in_err-put-clause-room
returns-in_err-put-clause-room g c = ap (λ (n : ℕ). n / 2) c.in_err-put.ensures.treats.size

pub returns-in_err-put-2-clause-room : goal.returns-in_err-put-2-clause-room
returns-in_err-put-2-clause-room g c = ap (λ (n : ℕ). n / 2) c.in_err-put-2.ensures.treats.size ∙ c.in_ok-fold_same.ensures.room

pub returns-then-fits-clause-room : goal.returns-then-fits-clause-room
returns-then-fits-clause-room g c = ap (λ (n : ℕ). n / 2) c.in_ok-put.ensures.treats.size

pub returns-clause-room : goal.returns-clause-room
returns-clause-room g c = ap (λ (n : ℕ). n / 2) c.in_ok-put-2.ensures.treats.size ∙ c.in_ok-fold_same.ensures.room

pub returns-clause-put : goal.returns-clause-put
returns-clause-put g c =
    was_folded g.M.MetaDisk.seen g.M.MetaDisk.calls c.args.note c.args.meta.now c.fold_same.new.meta c.put-2.new.self (sym c.fits.ensures ∙ c.if-fits.false)
    c.in_ok-fold_same.ensures.metered c.in_ok-fold_same.ensures.room c.in_ok-fold_same.ensures.counted
    c.in_ok-put-2.ensures.found c.in_ok-put-2.ensures.head (λ passes. let told = c.in_ok-put-2.ensures.full.1 passes in cc) c.in_ok-put-2.ensures.treats.asks.counted

pub returns-in_err-put-2-clause-short : goal.returns-in_err-put-2-clause-short
returns-in_err-put-2-clause-short g c =
    let p = err_from_is_err_and c.from_residual-in_err-put-2.result c.from_residual-in_err-put-2.ensures.1 in
    rw (p.1, p.2) (cut_behind_fold g.M.MetaDisk.seen g.M.MetaDisk.calls c.args.note c.args.meta.now c.fold_same.new.meta c.put-2.new.self (sym c.fits.ensures ∙ c.if-fits.false)
    c.in_ok-fold_same.ensures.metered c.in_ok-fold_same.ensures.room c.in_ok-fold_same.ensures.counted (stop_of_meta c.in_err-put-2.field-0.0)
    (batch_cut g.M.MetaDisk.seen g.M.MetaDisk.calls c.args.note c.fold_same.new.meta c.put-2.new.self c.in_err-put-2.field-0.0 c.in_err-put-2.ensures.full.0 c.in_err-put-2.ensures.full.1
    c.in_err-put-2.ensures.treats.asks.stopped c.in_err-put-2.ensures.refused))

pub returns-in_err-fold_same-clause-short : goal.returns-in_err-fold_same-clause-short
returns-in_err-fold_same-clause-short g c =
    let p = err_from_is_err_and c.from_residual-in_err-fold_same.result c.from_residual-in_err-fold_same.ensures.1 in
    rw (p.1, p.2) (cut_in_fold g.M.MetaDisk.seen g.M.MetaDisk.calls c.args.note c.args.meta.now c.fold_same.new.meta c.in_err-fold_same.field-0.0 (sym c.fits.ensures ∙ c.if-fits.false) c.in_err-fold_same.ensures.short)
