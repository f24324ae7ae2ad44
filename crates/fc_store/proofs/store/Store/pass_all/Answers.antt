-- Work by work.
use Rattle.std.proofs.Common.{[], ◌+◌, ◌<◌, suc, take, drop, get_or, length, slice_set, ap, Ok, Err, arith}
use Rattle.std.proofs.lemmas.List.{get_or_default}
use Rattle.fc_control.specs.Control.{ControlState}
use Rattle.fc_stands.specs.Passing.{between}
use Rattle.fc_stands.specs.Store.{StandsFor}
use Rattle.fc_stands.proofs.Passing.{all_passed, any_reading, one_passed, passed_stopped, second_begins}
use Rattle.fc_store.proofs.GoingOn.{goes_first, goes_then}
use Rattle.fc_store.proofs.store.Store.pass_all.Goals as goal

pub loop-place-init : goal.loop-place-init
loop-place-init g c = record {
  passed = λ w seconds told. second_begins (StandsFor c.args.self.now) c.args.self.now.control.grain w seconds c.args.works.now c.args.history.now told;
  goes = goes_first c.args.self.now c.args.history.now c.requires.stands c.requires.room;
}

pub loop-place-preserved : goal.loop-place-preserved
loop-place-preserved g c =
    let there : c.loop-place.place < length c.loop-place.works = omega (arith, c.loop-place-test.true, c.loop-place.auto.works) in
    let next = c.in-Ok.ensures.passed c.loop-place.invariant.goes.stands.0 0 [] [] c.loop-place.invariant.goes.stands.1 any_reading in
    record {
      passed = λ w seconds told.
          one_passed (StandsFor c.loop-place.self) (StandsFor c.pass_one.new.self) c.args.self.now.control.grain c.loop-place.self.control.grain w (between (suc seconds) c.args.works.now [])
          seconds c.loop-place.place c.loop-place.works (get_or c.loop-place.works c.loop-place.place c.index-works-place.result) c.pass_one.new.work c.args.history.now c.loop-place.history c.pass_one.new.history
          (ap (λ (s : ControlState). s.grain) c.loop-place.invariant.goes.control) (c.loop-place.invariant.passed w seconds told)
          there (get_or_default c.loop-place.works c.loop-place.place c.index-works-place.result (get_or c.loop-place.works c.loop-place.place c.index-works-place.result) there)
          (Unit {0}) (Ok c.in-Ok.field-0) c.in-Ok.ensures.passed;
      goes = goes_then c.loop-place.invariant.goes (next.0, next.1) c.in-Ok.ensures.limit c.in-Ok.ensures.control c.in-Ok.ensures.disks c.in-Ok.ensures.quiet;
    }

pub returns-in-Err-clause-passed : goal.returns-in-Err-clause-passed
returns-in-Err-clause-passed g c = λ w seconds told.
    let there : c.loop-place.place < length c.loop-place.works = omega (arith, c.loop-place-test.true, c.loop-place.auto.works) in
    passed_stopped (Unit {0}) (Unit {0}) c.in-Err.stop (StandsFor c.pass_one.new.self) c.args.self.now.control.grain w (between (suc seconds) c.args.works.now [])
    (between seconds (take (c.loop-place.place + 1) (slice_set c.loop-place.works c.loop-place.place c.pass_one.new.work))
    (drop (c.loop-place.place + 1) (slice_set c.loop-place.works c.loop-place.place c.pass_one.new.work)))
    _ c.args.history.now c.pass_one.new.history
    (one_passed (StandsFor c.loop-place.self) (StandsFor c.pass_one.new.self) c.args.self.now.control.grain c.loop-place.self.control.grain w (between (suc seconds) c.args.works.now [])
    seconds c.loop-place.place c.loop-place.works (get_or c.loop-place.works c.loop-place.place c.index-works-place.result) c.pass_one.new.work c.args.history.now c.loop-place.history c.pass_one.new.history
    (ap (λ (s : ControlState). s.grain) c.loop-place.invariant.goes.control) (c.loop-place.invariant.passed w seconds told)
    there (get_or_default c.loop-place.works c.loop-place.place c.index-works-place.result (get_or c.loop-place.works c.loop-place.place c.index-works-place.result) there)
    (Unit {0}) (Err c.in-Err.stop) c.in-Err.ensures.passed)

pub returns-clause-passed : goal.returns-clause-passed
returns-clause-passed g c = λ w seconds told.
    all_passed (StandsFor c.loop-place.self) c.args.self.now.control.grain w (between (suc seconds) c.args.works.now []) seconds c.loop-place.place c.loop-place.works
    c.args.history.now c.loop-place.history (omega (arith, c.loop-place-test.false, c.loop-place.auto.works)) (c.loop-place.invariant.passed w seconds told)

pub returns-in-Err-clause-quiet : goal.returns-in-Err-clause-quiet
returns-in-Err-clause-quiet g c = λ q. c.in-Err.ensures.quiet (c.loop-place.invariant.goes.quiet q)

pub returns-clause-quiet : goal.returns-clause-quiet
returns-clause-quiet g c = c.loop-place.invariant.goes.quiet
