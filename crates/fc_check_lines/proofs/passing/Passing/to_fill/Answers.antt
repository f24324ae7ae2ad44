use Rattle.std.proofs.Common.{refl, ◌∙◌}
use Rattle.fc_check_lines.proofs.SecondsPass.{none_there, pass_stays, some_fill, turn_passes, work_there}
use Rattle.fc_legal.specs.Seconds.{next_fill}
use Rattle.law_stands.specs.Names.{named}
use Rattle.fc_check_lines.proofs.passing.Passing.to_fill.Goals as goal

pub turns-init : goal.turns-init
turns-init g c = record {
  passed = λ names. pass_stays (g.T.Told.grain c.args.told.now) (named names (g.T.Told.whole c.args.told.now)) c.args.self.now;
  seconds = refl;
}

pub turn-requires : goal.turn-requires
turn-requires g c = work_there c.has_work.result c.turns.self c.has_work.ensures c.turns-test.true

pub turns-preserved : goal.turns-preserved
turns-preserved g c =
    let turned = c.in_ok-turn-in-None.ensures in
    record {
      passed = λ names.
          turn_passes (g.T.Told.grain c.args.told.now) names (g.T.Told.whole c.args.told.now) c.args.self.now c.turns.self c.turn.new.self (c.turns.invariant.passed names)
          (c.in_ok-fill.ensures ∙ c.in-None.is) turned.passed;
      seconds = turned.seconds ∙ c.turns.invariant.seconds;
    }

pub returns-in-Some-clause-fill : goal.returns-in-Some-clause-fill
returns-in-Some-clause-fill g c =
    some_fill (next_fill (g.T.Told.grain c.args.told.now) (g.T.Told.whole c.args.told.now) c.turns.self) c.in-Some.field-0 (c.in_ok-fill.ensures ∙ c.in-Some.is)

pub returns-clause-fill : goal.returns-clause-fill
returns-clause-fill g c = none_there c.has_work.result c.turns.self c.has_work.ensures c.turns-test.false
