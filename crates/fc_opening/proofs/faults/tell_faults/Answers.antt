-- One fault more, and a fault at which it stops.
use Rattle.std.proofs.Common.{◌≡◌, ◌<◌, ℕ, ◌+◌, List, ◌∷◌, drop, length, slice_index_or, ap, subst, arith}
use Rattle.fc_base.specs.declared.fault.WordFault.{WordFault}
use Rattle.fc_base.specs.declared.fault.WordFault.TheVariants.{UnknownCommand}
use Rattle.fc_base.specs.declared.request.Request.{Request}
use Rattle.fc_base.specs.declared.request.Request.TheVariants.{Unread}
use Rattle.fc_legal.specs.Added.{IsTold}
use Rattle.fc_legal.specs.Scripts.{faults_asked}
use Rattle.fc_legal.specs.Whole.{Whole}
use Rattle.fc_stands.specs.Store.{StandsFor}
use Rattle.fc_opening.proofs.Onwards.{SoFar, none_yet, one_more, stopped}
use Rattle.fc_opening.proofs.faults.tell_faults.Goals as goal
use Rattle.std.proofs.lemmas.List.{drop_more, drop_all}

-- The fault at a place.
abbrev fault_at : List WordFault → ℕ → WordFault
fault_at faults i = slice_index_or faults i UnknownCommand

-- It is wanted next, where those before it were told.
wanted : (faults : List WordFault) (i : ℕ) → i < length faults → faults_asked (drop i faults) ≡ Unread (fault_at faults i) ∷ faults_asked (drop (i + 1) faults)
wanted faults i below = ap faults_asked (drop_more faults i UnknownCommand below)

pub loop-fault-init : goal.loop-fault-init
loop-fault-init g c = record {
  told = λ w told. none_yet (StandsFor c.args.store.now) c.args.store.now.control.grain w c.args.faults.now c.args.history.now told;
  stands = c.requires.stands;
  room = c.requires.room;
  quiet = λ q. q;
}

pub log_unread-requires-clause-stands : goal.log_unread-requires-clause-stands
log_unread-requires-clause-stands g c = c.loop-fault.invariant.stands

pub log_unread-requires-clause-room : goal.log_unread-requires-clause-room
log_unread-requires-clause-room g c = c.loop-fault.invariant.room

pub returns-in-Err-clause-told : goal.returns-in-Err-clause-told
returns-in-Err-clause-told g c = λ w told.
    let so_far = c.loop-fault.invariant.told w told in
    stopped (StandsFor c.args.store.now) c.args.store.now.control.grain w c.args.faults.now c.in-Err.stop (Unread (fault_at c.args.faults.now c.loop-fault.fault-index))
    (faults_asked (drop (c.loop-fault.fault-index + 1) c.args.faults.now)) c.args.history.now c.loop-fault.history c.log_unread.new.history
    (subst (λ (left : List Request). SoFar (StandsFor c.args.store.now) c.args.store.now.control.grain w c.args.faults.now left c.args.history.now c.loop-fault.history)
    (wanted c.args.faults.now c.loop-fault.fault-index c.loop-fault-test.true) so_far)
    c.in-Err.ensures.answered

pub returns-in-Err-clause-quiet : goal.returns-in-Err-clause-quiet
returns-in-Err-clause-quiet g c = λ q. c.in-Err.ensures.quiet (c.loop-fault.invariant.quiet q)

pub loop-fault-preserved : goal.loop-fault-preserved
loop-fault-preserved g c =
    let on : (w : Whole) → IsTold (StandsFor c.args.store.now) c.args.history.now w → SoFar (StandsFor c.args.store.now) c.args.store.now.control.grain w c.args.faults.now
    (faults_asked (drop (c.loop-fault.fault-index + 1) c.args.faults.now)) c.args.history.now c.log_unread.new.history = λ w told.
    let so_far = c.loop-fault.invariant.told w told in
    one_more (StandsFor c.args.store.now) c.args.store.now.control.grain w c.args.faults.now (Unread (fault_at c.args.faults.now c.loop-fault.fault-index))
    (faults_asked (drop (c.loop-fault.fault-index + 1) c.args.faults.now)) c.args.history.now c.loop-fault.history c.log_unread.new.history
    (subst (λ (left : List Request). SoFar (StandsFor c.args.store.now) c.args.store.now.control.grain w c.args.faults.now left c.args.history.now c.loop-fault.history)
    (wanted c.args.faults.now c.loop-fault.fault-index c.loop-fault-test.true) so_far)
    c.in-Ok.ensures.answered in
    let last = on c.requires.stands.0 c.requires.stands.1 in
    record {
      told = on;
      stands = (last.0, last.1);
      room = c.in-Ok.ensures.limit;
      quiet = λ q. c.in-Ok.ensures.quiet (c.loop-fault.invariant.quiet q);
    }

pub returns-clause-told : goal.returns-clause-told
returns-clause-told g c = λ w told.
    subst (λ (left : List Request). SoFar (StandsFor c.args.store.now) c.args.store.now.control.grain w c.args.faults.now left c.args.history.now c.loop-fault.history)
    (ap faults_asked (drop_all c.loop-fault.fault-index c.args.faults.now (omega (arith, c.loop-fault-test.false))))
    (c.loop-fault.invariant.told w told)

pub returns-clause-quiet : goal.returns-clause-quiet
returns-clause-quiet g c = λ q. c.loop-fault.invariant.quiet q

pub returns-clause-limit : goal.returns-clause-limit
returns-clause-limit g c = c.loop-fault.invariant.room
