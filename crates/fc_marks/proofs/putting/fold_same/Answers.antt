use Rattle.std.proofs.Common.{inl, inr, ⊎_elim, ℕ, ◌/◌, ap, ◌∙◌}
use Rattle.std.proofs.lemmas.Result.{err_from_is_err_and}
use Rattle.fc_format.specs.Halves.{half_size}
use Rattle.fc_meta.specs.Answers.{more_calls}
use Rattle.fc_meta.specs.States.{disk_of}
use Rattle.fc_marks.proofs.Causes.{cut_same, folded_same, unread}
use Rattle.fc_marks.proofs.Folding.{fold_short, folded}
use Rattle.fc_marks.proofs.Leaving.{read_then, has_failed, has_risen, when_full}
use Rattle.fc_marks.specs.Stops.{stop_of_meta}
use Rattle.fc_marks.proofs.putting.fold_same.Goals as goal

pub returns-in_err-fold-clause-any_moment : goal.returns-in_err-fold-clause-any_moment
returns-in_err-fold-clause-any_moment g c =
    read_then g.M.MetaDisk.seen g.M.MetaDisk.may_leave g.M.MetaDisk.moment g.M.MetaDisk.left_since c.args.meta.now c.image.new.self (disk_of c.fold.new.self) c.in_ok-image.image
    c.requires.rests c.in_ok-image.ensures.seen c.in_ok-image.ensures.image c.in_ok-image.ensures.any_moment c.in_err-fold.ensures.treats.any_moment

pub returns-in_err-fold-clause-failed : goal.returns-in_err-fold-clause-failed
returns-in_err-fold-clause-failed g c =
    let p = err_from_is_err_and c.from_residual-in_err-fold.result c.from_residual-in_err-fold.ensures.1 in
    rw (p.1, p.2) (λ told. has_risen (g.M.MetaDisk.fault_count (disk_of c.args.meta.now)) (g.M.MetaDisk.fault_count (disk_of c.image.new.self)) (g.M.MetaDisk.fault_count (disk_of c.fold.new.self))
    c.in_ok-image.ensures.quiet (c.in_err-fold.ensures.treats.asks.failed (has_failed c.in_err-fold.field-0.0 told)))

pub returns-clause-any_moment : goal.returns-clause-any_moment
returns-clause-any_moment g c =
    read_then g.M.MetaDisk.seen g.M.MetaDisk.may_leave g.M.MetaDisk.moment g.M.MetaDisk.left_since c.args.meta.now c.image.new.self (disk_of c.fold.new.self) c.in_ok-image.image
    c.requires.rests c.in_ok-image.ensures.seen c.in_ok-image.ensures.image c.in_ok-image.ensures.any_moment c.in_ok-fold.ensures.treats.any_moment

pub returns-in_err-fold-clause-unfailed : goal.returns-in_err-fold-clause-unfailed
returns-in_err-fold-clause-unfailed g c =
    let p = err_from_is_err_and c.from_residual-in_err-fold.result c.from_residual-in_err-fold.ensures.1 in
    rw (p.1, p.2) (λ told. (when_full c.in_err-fold.field-0.0 _ told c.in_err-fold.ensures.stays).4 ∙ c.in_ok-image.ensures.quiet)

pub returns-clause-metered : goal.returns-clause-metered
returns-clause-metered g c =
    folded_same g.M.MetaDisk.seen g.M.MetaDisk.calls c.args.meta.now c.image.new.self c.in_ok-image.image c.in_ok-image.ensures.image c.in_ok-image.ensures.head c.in_ok-image.ensures.seen c.fold.new.self
    (folded g.M.MetaDisk.seen c.image.new.self c.fold.new.self c.in_ok-image.image c.in_ok-fold.ensures.found c.in_ok-fold.ensures.head c.in_ok-fold.ensures.room)

pub returns-clause-room : goal.returns-clause-room
returns-clause-room g c = ap (λ (n : ℕ). n / 2) c.in_ok-fold.ensures.treats.size ∙ ap half_size c.in_ok-image.ensures.seen

pub returns-clause-counted : goal.returns-clause-counted
returns-clause-counted g c = c.in_ok-fold.ensures.treats.asks.counted ∙ ap (more_calls 6) c.in_ok-image.ensures.calls

pub returns-in_err-fold-clause-short : goal.returns-in_err-fold-clause-short
returns-in_err-fold-clause-short g c =
    let p = err_from_is_err_and c.from_residual-in_err-fold.result c.from_residual-in_err-fold.ensures.1 in
    rw (p.1, p.2) (cut_same g.M.MetaDisk.seen g.M.MetaDisk.calls c.args.meta.now c.image.new.self c.in_ok-image.image c.in_ok-image.ensures.image c.in_ok-image.ensures.head c.in_ok-image.ensures.seen
    c.fold.new.self (stop_of_meta c.in_err-fold.field-0.0) c.in_ok-image.ensures.calls
    (fold_short g.M.MetaDisk.seen c.image.new.self c.fold.new.self c.in_ok-image.image g.M.MetaDisk.calls c.in_err-fold.field-0.0 c.in_err-fold.ensures.treats.asks.stopped c.in_err-fold.ensures.short
    c.in_err-fold.ensures.full (⊎_elim (λ failed. inl failed) (λ stays. inr stays.5) c.in_err-fold.ensures.stays)))

pub returns-in_err-image-clause-short : goal.returns-in_err-image-clause-short
returns-in_err-image-clause-short g c =
    let p = err_from_is_err_and c.from_residual.result c.from_residual.ensures.1 in
    rw (p.1, p.2) (unread g.M.MetaDisk.seen g.M.MetaDisk.calls c.args.meta.now c.image.new.self c.in_err-image.field-0.0 c.in_err-image.ensures.not_full c.in_err-image.ensures.calls)

pub returns-in_err-image-clause-room : goal.returns-in_err-image-clause-room
returns-in_err-image-clause-room g c = ap half_size c.in_err-image.ensures.seen

pub returns-in_err-fold-clause-room : goal.returns-in_err-fold-clause-room
returns-in_err-fold-clause-room g c = ap (λ (n : ℕ). n / 2) c.in_err-fold.ensures.treats.size ∙ ap half_size c.in_ok-image.ensures.seen
