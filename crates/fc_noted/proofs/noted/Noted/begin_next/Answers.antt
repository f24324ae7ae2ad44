-- What the script asks next begins.
use Rattle.std.proofs.Common.{Ok, Err, Option, true, subst, false, refl}
use Rattle.std.proofs.lemmas.Result.{err_from_is_err_and}
use Rattle.fc_noted.proofs.CallsMade.{memory_wanted, no_error}
use Rattle.fc_noted.proofs.Nexts.{made_behind, nothing_next, script_noted, wanted_next}
use Rattle.fc_noted.specs.Making.{done}
use Rattle.fc_script.specs.Asking.{IsNext, request_of}
use Rattle.fc_script.specs.Script.{agenda_of}
use Rattle.fc_script.specs.declared.asking.Asked.{Asked}
use Rattle.fc_noted.proofs.MeteringNoted.{calls_of_error, no_calls, same_calls}
use Rattle.fc_marks.specs.declared.error.NotedStop.TheVariants.{NoMemory as WantsMemory}
use Rattle.fc_noted.proofs.noted.Noted.begin_next.Goals as goal

pub next-requires-clause-stands : goal.next-requires-clause-stands
next-requires-clause-stands g c = (c.requires.begins.w, c.requires.begins.at.told.0)

pub next-requires-clause-fits : goal.next-requires-clause-fits
next-requires-clause-fits g c = c.requires.begins.at.fits

pub returns-in_err-next-clause-made : goal.returns-in_err-next-clause-made
returns-in_err-next-clause-made g c =
    let p = err_from_is_err_and c.from_residual.result c.from_residual.ensures.1 in
    rw (p.1, p.2) (wanted_next g.M.MetaDisk.seen g.M.MetaDisk.may_leave g.M.MetaDisk.moment g.M.MetaDisk.left_since g.M.MetaDisk.calls g.met.M.MetaDisk.only_now c.args.self.now c.next.new.self c.args.history.now c.requires.begins.at.idle c.requires.begins.room)

pub begin-requires-clause-begins : goal.begin-requires-clause-begins
begin-requires-clause-begins g c =
    let begins = c.requires.begins in
    record {
      live = begins.live;
      w = begins.w;
      least = begins.least;
      at = script_noted g.M.MetaDisk.seen g.M.MetaDisk.may_leave g.M.MetaDisk.moment g.M.MetaDisk.left_since g.M.MetaDisk.calls g.met.M.MetaDisk.only_now c.args.self.now c.next.new.self c.args.history.now begins.at.idle c.in_ok-next.ensures.goes
          c.in_ok-next.ensures.fits begins.w begins.least begins.at;
      room = begins.room;
    }

pub begin-requires-clause-next : goal.begin-requires-clause-next
begin-requires-clause-next g c = λ w up.
    subst (λ (o : Option Asked). IsNext c.args.self.now.store.control.grain w o (agenda_of c.args.self.now.store.control.grain c.next.new.self)) c.in-Some.is (c.in_ok-next.ensures.next w up)

pub begin-requires-clause-can : goal.begin-requires-clause-can
begin-requires-clause-can g c = c.in_ok-next.ensures.can c.in-Some.asked c.in-Some.is

pub begin-requires-clause-fill : goal.begin-requires-clause-fill
begin-requires-clause-fill g c = λ w up. c.in_ok-next.ensures.fill c.in-Some.asked w c.in-Some.is up

pub returns-in_err-begin-in-Some-clause-made : goal.returns-in_err-begin-in-Some-clause-made
returns-in_err-begin-in-Some-clause-made g c =
    let p = err_from_is_err_and c.from_residual-in_err-begin-in-Some.result c.from_residual-in_err-begin-in-Some.ensures.1 in
    rw (p.1, p.2) (made_behind g.M.MetaDisk.seen g.M.MetaDisk.may_leave g.M.MetaDisk.moment g.M.MetaDisk.left_since g.M.MetaDisk.calls g.met.M.MetaDisk.only_now c.args.self.now c.next.new.self c.args.history.now c.requires.begins.at.idle c.in_ok-next.ensures.goes c.in_ok-next.ensures.fits (Err c.in_err-begin-in-Some.field-0.0) c.begin.new.self c.begin.new.history c.in_err-begin-in-Some.ensures.made)

pub returns-in-None-clause-made : goal.returns-in-None-clause-made
returns-in-None-clause-made g c =
    nothing_next g.M.MetaDisk.seen g.M.MetaDisk.may_leave g.M.MetaDisk.moment g.M.MetaDisk.left_since g.M.MetaDisk.calls g.met.M.MetaDisk.only_now c.args.self.now c.next.new.self c.args.history.now c.requires.begins.at.idle c.in_ok-next.ensures.goes c.in_ok-next.ensures.fits c.requires.begins.live c.requires.begins.room
    (λ w up. subst (λ (o : Option Asked). IsNext c.args.self.now.store.control.grain w o (agenda_of c.args.self.now.store.control.grain c.next.new.self)) c.in-None.is (c.in_ok-next.ensures.next w up))

pub returns-in_ok-begin-in-Some-clause-made : goal.returns-in_ok-begin-in-Some-clause-made
returns-in_ok-begin-in-Some-clause-made g c =
    made_behind g.M.MetaDisk.seen g.M.MetaDisk.may_leave g.M.MetaDisk.moment g.M.MetaDisk.left_since g.M.MetaDisk.calls g.met.M.MetaDisk.only_now c.args.self.now c.next.new.self c.args.history.now c.requires.begins.at.idle c.in_ok-next.ensures.goes c.in_ok-next.ensures.fits (Ok true) c.begin.new.self c.begin.new.history c.in_ok-begin-in-Some.ensures.made

pub returns-in_err-begin-in-Some-clause-full : goal.returns-in_err-begin-in-Some-clause-full
returns-in_err-begin-in-Some-clause-full g c = λ is w up. (
  c.next.new.self,
  request_of c.args.self.now.store.control.grain c.in-Some.asked,
  c.in_ok-next.ensures.goes w up,
  subst (λ (o : Option Asked). IsNext c.args.self.now.store.control.grain w o (agenda_of c.args.self.now.store.control.grain c.next.new.self)) c.in-Some.is (c.in_ok-next.ensures.next w up),
)

-- ---- the disk of metadata is called by what begins alone

pub returns-in_err-next-clause-counted : goal.returns-in_err-next-clause-counted
returns-in_err-next-clause-counted g c =
    let p = err_from_is_err_and c.from_residual.result c.from_residual.ensures.1 in
    rw (p.1, p.2) (no_calls g.M.MetaDisk.seen g.M.MetaDisk.fault_count g.M.MetaDisk.calls (Err WantsMemory) c.args.self.now (record c.args.self.now { script = c.next.new.self }) refl refl memory_wanted)

pub returns-in_err-begin-in-Some-clause-counted : goal.returns-in_err-begin-in-Some-clause-counted
returns-in_err-begin-in-Some-clause-counted g c =
    let p = err_from_is_err_and c.from_residual-in_err-begin-in-Some.result c.from_residual-in_err-begin-in-Some.ensures.1 in
    let mid = record c.args.self.now { script = c.next.new.self } in
    calls_of_error g.M.MetaDisk.seen g.M.MetaDisk.fault_count g.M.MetaDisk.calls c.from_residual-in_err-begin-in-Some.result p.0 c.in_err-begin-in-Some.field-0.0 c.args.self.now mid c.begin.new.self c.begin.new.self p.1 p.2 refl refl refl refl c.in_err-begin-in-Some.ensures.counted

pub returns-in_ok-begin-in-Some-clause-counted : goal.returns-in_ok-begin-in-Some-clause-counted
returns-in_ok-begin-in-Some-clause-counted g c =
    let mid = record c.args.self.now { script = c.next.new.self } in
    same_calls g.M.MetaDisk.seen g.M.MetaDisk.fault_count g.M.MetaDisk.calls done (Ok true) c.args.self.now mid c.begin.new.self c.begin.new.self refl refl refl refl (λ P p. p) (λ e. absurd (no_error true e)) (λ e. absurd (no_error true e)) c.in_ok-begin-in-Some.ensures.counted

pub returns-in-None-clause-counted : goal.returns-in-None-clause-counted
returns-in-None-clause-counted g c = no_calls g.M.MetaDisk.seen g.M.MetaDisk.fault_count g.M.MetaDisk.calls (Ok false) c.args.self.now (record c.args.self.now { script = c.next.new.self }) refl refl (no_error false)
