use Rattle.std.proofs.Common.{◌+◌, map, arith}
use Rattle.std.proofs.lemmas.Bool.{both_ways}
use Rattle.std.proofs.lemmas.Result.{on_ok_weaker}
use Rattle.fc_check_answers.proofs.Coming.{none_came}
use Rattle.fc_check_answers.proofs.Running.{after_run, run_came}
use Rattle.fc_check_answers.proofs.Smallness.{candidates_small, open_small}
use Rattle.fc_check_answers.specs.Runs.{GoesOn, place_at}
use Rattle.fc_check_answers.proofs.run.Run.follow.Goals as goal

pub returns-then-not-asked : goal.returns-then-not-asked
returns-then-not-asked c = record {
  places =
      none_came (GoesOn c.args.self.way.grain c.args.name.now c.args.entry.now (place_at c.args.self)) (map place_at c.args.after.now.items)
      (λ q goes. both_ways c.in_ok-asked.asked c.if-not-asked.true (c.in_ok-asked.ensures.1 goes.asked));
  runs = λ were. were;
}

pub asks-requires : goal.asks-requires
asks-requires c = open_small c.args.self.way c.requires.way

pub go_on_ways-requires : goal.go_on_ways-requires
go_on_ways-requires c =
    candidates_small c.args.self.way.grain (c.args.entry.now.number + 1) c.follow_way.new.after.items (omega (arith, c.requires.way.few, c.requires.number))
    (after_run c.args.self.way c.args.self.lines c.args.name.now c.args.entry.now c.new-ways.result.items c.follow_way.new.after.items c.new-ways.ensures.items c.in_ok-follow_way.ensures
    c.requires.way c.requires.number)

pub returns-clause-places : goal.returns-clause-places
returns-clause-places c =
    on_ok_weaker c.go_on_ways.result
    (run_came c.args.self.way c.args.self.lines c.args.name.now c.args.entry.now c.new-ways.result.items c.follow_way.new.after.items c.new-ways.ensures.items c.in_ok-follow_way.ensures
    (c.in_ok-asked.ensures.0 c.if-not-asked.false) (map place_at c.args.after.now.items) (map place_at c.go_on_ways.new.after.items))
    c.go_on_ways.ensures.places

pub returns-clause-runs : goal.returns-clause-runs
returns-clause-runs c =
    on_ok_weaker c.go_on_ways.result
    (λ goes. goes c.args.self.way.grain (c.args.entry.now.number + 1)
    (after_run c.args.self.way c.args.self.lines c.args.name.now c.args.entry.now c.new-ways.result.items c.follow_way.new.after.items c.new-ways.ensures.items c.in_ok-follow_way.ensures
    c.requires.way c.requires.number))
    c.go_on_ways.ensures.runs
