-- Turn by turn.
use Rattle.std.proofs.Common.{ap, refl, subst, sym, ◌∙◌}
use Rattle.fc_agenda.specs.Goes.{stays}
use Rattle.fc_legal.specs.Seconds.{Passing, next_fill}
use Rattle.fc_script.specs.Passage.{PassTo, passing_of}
use Rattle.fc_script.proofs.Fills.{no_fill, pass_turn}
use Rattle.fc_script.proofs.passage.Passage.to_fill.Goals as goal

pub turns-init : goal.turns-init
turns-init g c = record { passed = λ w stands read. stays; seconds = refl }

pub returns-in-Some-clause-passed : goal.returns-in-Some-clause-passed
returns-in-Some-clause-passed g c = λ w stands.
    subst (λ (p : Passing). PassTo c.args.store.now.control.grain w (passing_of c.args.store.now.control.grain c.args.self.now) p) (sym c.in-Some.ensures.kept) (c.turns.invariant.passed w stands)

pub turns-preserved : goal.turns-preserved
turns-preserved g c = record {
  passed = λ w stands.
      pass_turn c.args.store.now.control.grain w (passing_of c.args.store.now.control.grain c.args.self.now) (passing_of c.args.store.now.control.grain c.next_fill-fill.new.self)
      (passing_of c.args.store.now.control.grain c.turn.new.self)
      (subst (λ (p : Passing). PassTo c.args.store.now.control.grain w (passing_of c.args.store.now.control.grain c.args.self.now) p) (sym c.in-None.ensures.kept) (c.turns.invariant.passed w stands))
      (no_fill c.args.store.now.control.grain w (next_fill c.args.store.now.control.grain w (passing_of c.args.store.now.control.grain c.next_fill-fill.new.self)) (c.in-None.ensures.fill w stands))
      (c.in_ok-turn-in-None.ensures.passed w stands);
  seconds = c.in_ok-turn-in-None.ensures.seconds ∙ (ap (λ (p : Passing). p.seconds) c.in-None.ensures.kept ∙ c.turns.invariant.seconds);
}
