-- Turn by turn.
use Rattle.std.proofs.Common.{◌∷◌, [], ◌++◌, ap, subst, true, false, Ok, Err}
use Rattle.fc_control.specs.Control.{ControlState}
use Rattle.fc_legal.specs.Seconds.{Work}
use Rattle.fc_stands.specs.Passing.{Passed, at, between}
use Rattle.fc_stands.specs.Store.{StandsFor}
use Rattle.fc_stands.proofs.Passing.{any_reading, passed_nothing, turn_ended, turn_then}
use Rattle.fc_store.proofs.GoingOn.{goes_first, goes_then}
use Rattle.fc_store.proofs.store.Store.pass_one.Goals as goal

pub turns-init : goal.turns-init
turns-init g c = record {
  passed = λ w seconds over left told. passed_nothing (StandsFor c.args.self.now) c.args.self.now.control.grain w (at seconds over c.gain.new.self left) c.args.history.now told;
  goes = goes_first c.args.self.now c.args.history.now c.requires.stands c.requires.room;
}

pub turns-preserved : goal.turns-preserved
turns-preserved g c =
    let next = c.in-Ok-true.ensures.passed c.turns.invariant.goes.stands.0 0 [] [] c.turns.invariant.goes.stands.1 any_reading in
    record {
      passed = λ w seconds over left told.
          turn_then (StandsFor c.turns.self) (StandsFor c.take_turn.new.self) c.args.self.now.control.grain c.turns.self.control.grain w (at seconds over c.gain.new.self left)
          seconds over c.turns.work c.take_turn.new.work left c.args.history.now c.turns.history c.take_turn.new.history
          (ap (λ (s : ControlState). s.grain) c.turns.invariant.goes.control) (c.turns.invariant.passed w seconds over left told)
          c.in-Ok-true.field-0 true c.in-Ok-true.field-0-test c.in-Ok-true.ensures.passed;
      goes = goes_then c.turns.invariant.goes (next.0, next.1) c.in-Ok-true.ensures.limit c.in-Ok-true.ensures.control c.in-Ok-true.ensures.disks c.in-Ok-true.ensures.quiet;
    }

pub returns-in-Ok-false-clause-passed : goal.returns-in-Ok-false-clause-passed
returns-in-Ok-false-clause-passed g c = λ w seconds over left told.
    let P : Work → Type 0 = λ z. Passed {A = Unit {0}} (Ok tt) (StandsFor c.take_turn.new.self) c.args.self.now.control.grain w (at seconds over z left)
    (between seconds (over ++ c.take_turn.new.work ∷ []) left) c.args.history.now c.take_turn.new.history in
    subst P c.gain.ensures
    (turn_then (StandsFor c.turns.self) (StandsFor c.take_turn.new.self) c.args.self.now.control.grain c.turns.self.control.grain w (at seconds over c.gain.new.self left)
    seconds over c.turns.work c.take_turn.new.work left c.args.history.now c.turns.history c.take_turn.new.history
    (ap (λ (s : ControlState). s.grain) c.turns.invariant.goes.control) (c.turns.invariant.passed w seconds over left told)
    c.in-Ok-false.field-0 false c.in-Ok-false.field-0-test c.in-Ok-false.ensures.passed)

pub returns-in-Err-clause-passed : goal.returns-in-Err-clause-passed
returns-in-Err-clause-passed g c = λ w seconds over left told.
    let P : Work → Type 0 = λ z. Passed {A = Unit {0}} (Err c.in-Err.stop) (StandsFor c.take_turn.new.self) c.args.self.now.control.grain w (at seconds over z left)
    (between seconds (over ++ c.take_turn.new.work ∷ []) left) c.args.history.now c.take_turn.new.history in
    subst P c.gain.ensures
    (turn_ended (StandsFor c.turns.self) (StandsFor c.take_turn.new.self) c.args.self.now.control.grain c.turns.self.control.grain w (at seconds over c.gain.new.self left)
    seconds over c.turns.work c.take_turn.new.work left c.args.history.now c.turns.history c.take_turn.new.history
    (ap (λ (s : ControlState). s.grain) c.turns.invariant.goes.control) (c.turns.invariant.passed w seconds over left told)
    c.in-Err.stop _ c.in-Err.ensures.passed)

pub returns-in-Ok-false-clause-quiet : goal.returns-in-Ok-false-clause-quiet
returns-in-Ok-false-clause-quiet g c = λ q. c.in-Ok-false.ensures.quiet (c.turns.invariant.goes.quiet q)

pub returns-in-Err-clause-quiet : goal.returns-in-Err-clause-quiet
returns-in-Err-clause-quiet g c = λ q. c.in-Err.ensures.quiet (c.turns.invariant.goes.quiet q)
