-- Second by second.
use Rattle.std.proofs.Common.{◌≡◌, ◌-◌, ℕ, List, [], length, ap, subst, sym, ◌∙◌, refl, Ok, Err, arith}
use Rattle.fc_control.specs.Control.{ControlState}
use Rattle.fc_legal.specs.Seconds.{Work, all_work}
use Rattle.fc_stands.specs.Passing.{Passed, between}
use Rattle.fc_stands.specs.Store.{IsControlOf, StandsFor, StoreView}
use Rattle.fc_entry.specs.declared.stop.Stop.TheVariants.{NoMemory}
use Rattle.fc_stands.proofs.Lining.{none_pass}
use Rattle.fc_stands.proofs.Passing.{advanced, any_reading, kept, passed_nothing, passed_starved, passed_stopped, second_passed}
use Rattle.fc_store.proofs.GoingOn.{goes_first, goes_then}
use Rattle.fc_store.proofs.store.Store.advance.Goals as goal

pub returns-then-seconds-eq0-clause-passed : goal.returns-then-seconds-eq0-clause-passed
returns-then-seconds-eq0-clause-passed g c = λ read w told.
    none_pass (StandsFor c.args.self.now) c.args.self.now.control.grain read w c.args.seconds c.args.history.now c.if-seconds-eq0.true told

pub returns-in-Err-clause-passed : goal.returns-in-Err-clause-passed
returns-in-Err-clause-passed g c = λ read w told.
    advanced (Unit {0}) (Err NoMemory) (StandsFor c.args.self.now) c.args.self.now.control.grain w c.args.seconds (all_work w.books) [] c.args.history.now c.args.history.now refl
    (passed_starved (Unit {0}) (StandsFor c.args.self.now) c.args.self.now.control.grain w (between c.args.seconds (all_work w.books) []) (between 0 [] []) c.args.history.now c.args.history.now refl told.1) read

pub loop-left-init : goal.loop-left-init
loop-left-init g c = record {
  passed = λ w told. passed_nothing (StandsFor c.args.self.now) c.args.self.now.control.grain w (between c.args.seconds c.in-Ok.works.items []) c.args.history.now told;
  goes = goes_first c.args.self.now c.args.history.now c.requires.stands c.requires.room;
}

pub loop-left-preserved : goal.loop-left-preserved
loop-left-preserved g c =
    let next = c.in-Ok-pass_all.ensures.passed c.loop-left.invariant.goes.stands.0 0 c.loop-left.invariant.goes.stands.1 any_reading in
    let many : length c.deref_mut.result.now ≡ length c.loop-left.works.items = ap (λ (ws : List Work). length ws) c.deref_mut.ensures.value in
    let counted : length c.deref_mut.result.now ≡ c.loop-left.works.len = c.deref_mut.ensures.len in
    let stays : length c.pass_all.new.works ≡ length c.deref_mut.result.now = c.pass_all.auto.works in
    let back = kept c.loop-left.works.len c.pass_all.new.works c.loop-left.works.items (stays ∙ many) (sym counted ∙ many) in
    record {
      passed = λ w told.
          let Old : List Work → Type 0 = λ works. Passed {A = Unit {0}} (Ok tt) (StandsFor c.loop-left.self) c.args.self.now.control.grain w (between c.args.seconds c.in-Ok.works.items [])
          (between c.loop-left.left works []) c.args.history.now c.loop-left.history in
          let New : List Work → Type 0 = λ works. Passed {A = Unit {0}} (Ok tt) (StandsFor c.pass_all.new.self) c.args.self.now.control.grain w (between c.args.seconds c.in-Ok.works.items [])
          (between (c.loop-left.left - 1) works []) c.args.history.now c.pass_all.new.history in
          subst New (sym back)
          (second_passed (Unit {0}) (Ok tt) (StandsFor c.loop-left.self) (StandsFor c.pass_all.new.self) c.args.self.now.control.grain c.loop-left.self.control.grain w
          (between c.args.seconds c.in-Ok.works.items []) c.loop-left.left c.deref_mut.result.now c.pass_all.new.works c.args.history.now c.loop-left.history c.pass_all.new.history
          (ap (λ (s : ControlState). s.grain) c.loop-left.invariant.goes.control) c.loop-left-test.true
          (subst Old (sym c.deref_mut.ensures.value) (c.loop-left.invariant.passed w told)) c.in-Ok-pass_all.ensures.passed);
      goes = goes_then c.loop-left.invariant.goes (next.0, next.1) c.in-Ok-pass_all.ensures.limit c.in-Ok-pass_all.ensures.control c.in-Ok-pass_all.ensures.disks c.in-Ok-pass_all.ensures.quiet;
    }

pub returns-in-Err-pass_all-clause-passed : goal.returns-in-Err-pass_all-clause-passed
returns-in-Err-pass_all-clause-passed g c = λ read w told.
    let begins : c.in-Ok.works.items ≡ all_work w.books =
    c.in-Ok.ensures w.books (subst (λ (s : StoreView). IsControlOf s.control w.books) (sym c.self.view_is) told.0.control) in
    let Old : List Work → Type 0 = λ works. Passed {A = Unit {0}} (Ok tt) (StandsFor c.loop-left.self) c.args.self.now.control.grain w (between c.args.seconds c.in-Ok.works.items [])
    (between c.loop-left.left works []) c.args.history.now c.loop-left.history in
    advanced (Unit {0}) (Err c.in-Err-pass_all.stop) (StandsFor c.pass_all.new.self) c.args.self.now.control.grain w c.args.seconds c.in-Ok.works.items [] c.args.history.now c.pass_all.new.history begins
    (passed_stopped (Unit {0}) (Unit {0}) c.in-Err-pass_all.stop (StandsFor c.pass_all.new.self) c.args.self.now.control.grain w (between c.args.seconds c.in-Ok.works.items []) _ (between 0 [] [])
    c.args.history.now c.pass_all.new.history
    (second_passed (Unit {0}) (Err c.in-Err-pass_all.stop) (StandsFor c.loop-left.self) (StandsFor c.pass_all.new.self) c.args.self.now.control.grain c.loop-left.self.control.grain w
    (between c.args.seconds c.in-Ok.works.items []) c.loop-left.left c.deref_mut.result.now c.pass_all.new.works c.args.history.now c.loop-left.history c.pass_all.new.history
    (ap (λ (s : ControlState). s.grain) c.loop-left.invariant.goes.control) c.loop-left-test.true
    (subst Old (sym c.deref_mut.ensures.value) (c.loop-left.invariant.passed w told)) c.in-Err-pass_all.ensures.passed)) read

pub returns-clause-passed : goal.returns-clause-passed
returns-clause-passed g c = λ read w told.
    let begins : c.in-Ok.works.items ≡ all_work w.books =
    c.in-Ok.ensures w.books (subst (λ (s : StoreView). IsControlOf s.control w.books) (sym c.self.view_is) told.0.control) in
    let P : ℕ → Type 0 = λ n. Passed {A = Unit {0}} (Ok tt) (StandsFor c.loop-left.self) c.args.self.now.control.grain w (between c.args.seconds c.in-Ok.works.items [])
    (between n c.loop-left.works.items []) c.args.history.now c.loop-left.history in
    let none : c.loop-left.left ≡ 0 = omega (arith, c.loop-left-test.false) in
    advanced (Unit {0}) (Ok tt) (StandsFor c.loop-left.self) c.args.self.now.control.grain w c.args.seconds c.in-Ok.works.items c.loop-left.works.items c.args.history.now c.loop-left.history begins
    (subst P none (c.loop-left.invariant.passed w told)) read

pub returns-in-Err-pass_all-clause-quiet : goal.returns-in-Err-pass_all-clause-quiet
returns-in-Err-pass_all-clause-quiet g c = λ q. c.in-Err-pass_all.ensures.quiet (c.loop-left.invariant.goes.quiet q)
