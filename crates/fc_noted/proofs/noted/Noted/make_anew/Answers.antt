-- Metadata is made anew by six calls, which are counted before they are made.
use Rattle.std.proofs.Common.{ℕ, inl, inr, ◌∙◌, arith}
use Rattle.std.proofs.lemmas.Result.{err_from_is_err_and}
use Rattle.fc_marks.proofs.Counting.{some_made}
use Rattle.fc_marks.proofs.Folding.{folded, fold_short as cut_short}
use Rattle.fc_marks.proofs.Leaving.{has_failed, when_full}
use Rattle.fc_marks.specs.Stops.{stop_of_meta}
use Rattle.fc_meta.specs.States.{disk_of}
use Rattle.fc_noted.proofs.Calls.{at_once}
use Rattle.fc_noted.proofs.CallsMade.{fold_made, fold_short}
use Rattle.fc_noted.proofs.noted.Noted.make_anew.Goals as goal

pub returns-in_err-fold-clause-calls : goal.returns-in_err-fold-clause-calls
returns-in_err-fold-clause-calls g c = c.saturating_add-self.ensures ∙ at_once 6 c.args.self.now.calls (omega arith)

pub returns-clause-calls : goal.returns-clause-calls
returns-clause-calls g c = c.saturating_add-self.ensures ∙ at_once 6 c.args.self.now.calls (omega arith)

-- ---- by the meter

pub returns-clause-metered : goal.returns-clause-metered
returns-clause-metered g c =
    folded g.M.MetaDisk.seen c.args.self.now.meta c.fold.new.self c.args.image.now c.in_ok-fold.ensures.found c.in_ok-fold.ensures.head c.in_ok-fold.ensures.room

pub returns-in_err-fold-clause-short : goal.returns-in_err-fold-clause-short
returns-in_err-fold-clause-short g c =
    let p = err_from_is_err_and c.from_residual.result c.from_residual.ensures.1 in
    rw (p.1, p.2) (
    cut_short g.M.MetaDisk.seen c.args.self.now.meta c.fold.new.self c.args.image.now g.M.MetaDisk.calls c.in_err-fold.field-0.0 c.in_err-fold.ensures.treats.asks.stopped c.in_err-fold.ensures.short c.in_err-fold.ensures.full
    (elim c.in_err-fold.ensures.stays [
      | inl told ↦ inl told
      | inr stays ↦ inr stays.5
    ])
    )

-- ---- by the count

pub returns-in_err-fold-clause-counted : goal.returns-in_err-fold-clause-counted
returns-in_err-fold-clause-counted g c =
    let p = err_from_is_err_and c.from_residual.result c.from_residual.ensures.1 in
    let before : ℕ = g.M.MetaDisk.calls (disk_of c.args.self.now.meta) in
    let now : ℕ = g.M.MetaDisk.calls (disk_of c.fold.new.self) in
    let new = record c.args.self.now { meta = c.fold.new.self; calls = c.saturating_add-self.result } in
    rw (p.1, p.2) (
    fold_short g.M.MetaDisk.seen g.M.MetaDisk.fault_count g.M.MetaDisk.calls c.args.self.now new (c.saturating_add-self.ensures ∙ at_once 6 c.args.self.now.calls (omega arith)) c.in_err-fold.ensures.treats.size (stop_of_meta c.in_err-fold.field-0.0)
    (elim c.in_err-fold.ensures.stays [
      | inl told ↦ some_made 6 before now (c.in_err-fold.ensures.treats.asks.stopped told)
      | inr stays ↦ (2, stays.5, omega arith)
    ])
    (λ told. c.in_err-fold.ensures.treats.asks.failed (has_failed c.in_err-fold.field-0.0 told)) (λ told. (when_full c.in_err-fold.field-0.0 _ told c.in_err-fold.ensures.stays).4)
    )

pub returns-clause-counted : goal.returns-clause-counted
returns-clause-counted g c =
    fold_made g.M.MetaDisk.seen g.M.MetaDisk.fault_count g.M.MetaDisk.calls c.args.self.now _ (c.saturating_add-self.ensures ∙ at_once 6 c.args.self.now.calls (omega arith)) c.in_ok-fold.ensures.treats.size tt c.in_ok-fold.ensures.treats.asks.counted c.in_ok-fold.ensures.treats.asks.quiet
