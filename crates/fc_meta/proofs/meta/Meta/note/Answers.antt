use Rattle.std.proofs.Common.{ℕ, ◌+◌, List, length, inl, true, false, refl, sym, ap, ◌∙◌, arith}
use Rattle.std.proofs.lemmas.Bool.Decides.{nat_tests}
use Rattle.std.proofs.lemmas.Result.{err_from_is_err_and}
use Rattle.fc_metadisk.specs.Calls.{Writes, one_made}
use Rattle.fc_format.specs.Halves.{half_size}
use Rattle.fc_meta.specs.declared.series.Call.TheVariants.{Note}
use Rattle.fc_meta.specs.States.{found}
use Rattle.fc_meta.specs.DiskCalls.{note_calls}
use Rattle.fc_meta.proofs.Calls.{still, note_run, note_waits, note_found, note_awaited}
use Rattle.fc_meta.proofs.Inside.{placed}
use Rattle.fc_meta.proofs.Moments.{stays}
use Rattle.fc_meta.proofs.Places.{same_write}
use Rattle.fc_meta.proofs.Asked.{asks_all, asks_some}
use Rattle.fc_meta.proofs.Promised.{is_full, wants_memory, is_made, has_failed}
use Rattle.fc_meta.proofs.meta.Meta.note.Goals as goal

pub returns-then-not-fits-clause-promise : goal.returns-then-not-fits-clause-promise
returns-then-not-fits-clause-promise g c =
    is_full g.M.MetaDisk.seen g.M.MetaDisk.moment g.M.MetaDisk.left_since g.M.MetaDisk.fault_count g.M.MetaDisk.calls g.M.MetaDisk.leads g.M.MetaDisk.may_leave (Note c.args.records.now) c.args.self.now
    (still g.M.MetaDisk.seen g.M.MetaDisk.may_leave g.M.MetaDisk.moment g.M.MetaDisk.left_since g.met.M.MetaDisk.only_now c.args.self.now c.requires.durable)
    (grind (arith, nat_tests, c.fits.ensures, c.if-not-fits.true))

pub returns-in_err-bytes-clause-promise : goal.returns-in_err-bytes-clause-promise
returns-in_err-bytes-clause-promise g c =
    let p = err_from_is_err_and c.from_residual.result c.from_residual.ensures.1 in
    rw (p.1, p.2) (wants_memory g.M.MetaDisk.seen g.M.MetaDisk.moment g.M.MetaDisk.left_since g.M.MetaDisk.fault_count g.M.MetaDisk.calls g.M.MetaDisk.leads g.M.MetaDisk.may_leave (Note c.args.records.now) c.args.self.now
    (still g.M.MetaDisk.seen g.M.MetaDisk.may_leave g.M.MetaDisk.moment g.M.MetaDisk.left_since g.met.M.MetaDisk.only_now c.args.self.now c.requires.durable)
    tt)

pub returns-in_err-write_at-clause-promise : goal.returns-in_err-write_at-clause-promise
returns-in_err-write_at-clause-promise g c =
    let e = err_from_is_err_and c.from_residual-in_err-write_at.result c.from_residual-in_err-write_at.ensures.1 in
    let p = placed c.args.self.now.used (half_size (g.M.MetaDisk.seen c.args.self.now.disk)) c.deref.ensures.value c.in_ok-bytes.ensures.bytes c.start_of.ensures.value (grind (arith, nat_tests, c.fits.ensures, c.if-not-fits.false)) in
    let run = note_run g.M.MetaDisk.seen g.M.MetaDisk.may_leave g.M.MetaDisk.moment g.M.MetaDisk.left_since g.met.M.MetaDisk.only_now c.args.self.now c.requires c.args.records.now c.deref.result.now (c.start_of.result + c.args.self.now.used + 1) p.is p.at p.inside c.write_at.new.self c.write_at.ensures.crash c.write_at.ensures.time in
    rw (e.1, e.2) (has_failed g.M.MetaDisk.seen g.M.MetaDisk.moment g.M.MetaDisk.left_since g.M.MetaDisk.fault_count g.M.MetaDisk.calls g.M.MetaDisk.leads g.M.MetaDisk.may_leave (Note c.args.records.now) c.args.self.now
    (λ none. grind (arith, none, p.inside)) _
    (record {
      size = c.write_at.ensures.torn.size;
      any_moment = stays g.M.MetaDisk.moment g.M.MetaDisk.left_since c.args.self.now.disk c.write_at.new.self (found g.M.MetaDisk.seen c.args.self.now) (found g.M.MetaDisk.seen c.args.self.now) run;
      asks = asks_some g.M.MetaDisk.fault_count g.M.MetaDisk.calls g.M.MetaDisk.leads (note_calls g.M.MetaDisk.seen c.args.self.now c.args.records.now) c.args.self.now.disk c.write_at.new.self
          (inl (same_write (λ n b. g.M.MetaDisk.leads c.args.self.now.disk (one_made (Writes n b) true) c.write_at.new.self) (c.start_of.result + c.args.self.now.used + 1) _ c.deref.result.now _ p.at p.is c.in_err-write_at.ensures.made))
          (inl c.write_at.ensures.calls) c.in_err-write_at.ensures.cause.cause;
    }))

pub returns-clause-promise : goal.returns-clause-promise
returns-clause-promise g c =
    let p = placed c.args.self.now.used (half_size (g.M.MetaDisk.seen c.args.self.now.disk)) c.deref.ensures.value c.in_ok-bytes.ensures.bytes c.start_of.ensures.value (grind (arith, nat_tests, c.fits.ensures, c.if-not-fits.false)) in
    let run = note_run g.M.MetaDisk.seen g.M.MetaDisk.may_leave g.M.MetaDisk.moment g.M.MetaDisk.left_since g.met.M.MetaDisk.only_now c.args.self.now c.requires c.args.records.now c.deref.result.now (c.start_of.result + c.args.self.now.used + 1) p.is p.at p.inside c.write_at.new.self c.write_at.ensures.crash c.write_at.ensures.time in
    let ends = ap (λ (n : ℕ). c.args.self.now.used + n) (c.len.ensures ∙ sym c.deref.ensures.len) in
    is_made g.M.MetaDisk.seen g.M.MetaDisk.moment g.M.MetaDisk.left_since g.M.MetaDisk.fault_count g.M.MetaDisk.calls g.M.MetaDisk.leads g.M.MetaDisk.may_leave (Note c.args.records.now) c.args.self.now _ _
    (λ none. grind (arith, none, p.inside)) (
      note_waits g.M.MetaDisk.seen g.M.MetaDisk.may_leave g.M.MetaDisk.moment g.M.MetaDisk.left_since g.met.M.MetaDisk.only_now c.args.self.now c.requires c.args.records.now c.deref.result.now (c.start_of.result + c.args.self.now.used + 1) p.is p.at p.inside c.write_at.new.self c.in_ok-write_at.ensures.bytes c.in_ok-bytes.ensures.typed c.start_of.ensures.small (c.args.self.now.used + c.len.result) ends
          (λ r now. run.each r (g.met.M.MetaDisk.counts_now c.write_at.new.self (g.M.MetaDisk.moment c.args.self.now.disk) r run.later now)),
      note_found g.M.MetaDisk.seen g.M.MetaDisk.may_leave g.M.MetaDisk.moment g.M.MetaDisk.left_since g.met.M.MetaDisk.only_now c.args.self.now c.requires c.args.records.now c.deref.result.now (c.start_of.result + c.args.self.now.used + 1) p.is p.at p.inside c.write_at.new.self c.in_ok-write_at.ensures.bytes c.in_ok-bytes.ensures.typed c.start_of.ensures.small (c.args.self.now.used + c.len.result) ends,
      note_awaited g.M.MetaDisk.seen g.M.MetaDisk.may_leave g.M.MetaDisk.moment g.M.MetaDisk.left_since g.met.M.MetaDisk.only_now c.args.self.now c.requires c.args.records.now c.deref.result.now (c.start_of.result + c.args.self.now.used + 1) p.is p.at p.inside c.write_at.new.self c.in_ok-write_at.ensures.bytes c.in_ok-bytes.ensures.typed c.start_of.ensures.small (c.args.self.now.used + c.len.result) ends,
      ends ∙ ap (λ (b : List ℕ). c.args.self.now.used + length b) p.is,
    )
    refl
    (record {
      size = c.write_at.ensures.torn.size;
      any_moment = stays g.M.MetaDisk.moment g.M.MetaDisk.left_since c.args.self.now.disk c.write_at.new.self (found g.M.MetaDisk.seen c.args.self.now) (found g.M.MetaDisk.seen c.args.self.now) run;
      asks = asks_all g.M.MetaDisk.fault_count g.M.MetaDisk.calls g.M.MetaDisk.leads (note_calls g.M.MetaDisk.seen c.args.self.now c.args.records.now) c.args.self.now.disk c.write_at.new.self _
          (same_write (λ n b. g.M.MetaDisk.leads c.args.self.now.disk (one_made (Writes n b) false) c.write_at.new.self) (c.start_of.result + c.args.self.now.used + 1) _ c.deref.result.now _ p.at p.is c.in_ok-write_at.ensures.made)
          c.write_at.ensures.calls c.in_ok-write_at.ensures.cause.quiet;
    })
