use Rattle.std.proofs.Common.{◌≡◌, ◌+◌, [], map, rules}
use Rattle.fc_check_answers.proofs.Coming.{one_given}
use Rattle.fc_check_answers.proofs.Running.{RunGives, all_left, no_runs, run_grain, run_number, run_open, runs_next, runs_stay}
use Rattle.fc_check_answers.specs.Runs.{place_at}
use Rattle.fc_check_answers.proofs.answering.follow_all.Goals as goal

pub loop-run-init : goal.loop-run-init
loop-run-init c = record {
  given = all_left c.args.grain c.args.name.now c.args.entry.now c.args.runs.items c.args.after.now.items c.requires.none;
  runs = no_runs c.args.grain (c.args.entry.now.number + 1) c.args.after.now.items c.requires.none;
}

pub follow-requires-clause-way : goal.follow-requires-clause-way
follow-requires-clause-way c =
    run_open c.args.grain c.args.name.now c.args.entry.now c.args.runs.items c.loop-run.runs.items c.pop.new.self.items c.in-Some.run' c.in-Some.ensures.items
    [] (map place_at c.loop-run.after.items) c.loop-run.invariant.given c.requires.runs c.requires.few

pub follow-requires-clause-number : goal.follow-requires-clause-number
follow-requires-clause-number c =
    run_number c.args.grain c.args.name.now c.args.entry.now c.args.runs.items c.loop-run.runs.items c.pop.new.self.items c.in-Some.run' c.in-Some.ensures.items
    [] (map place_at c.loop-run.after.items) c.loop-run.invariant.given c.requires.runs

pub loop-run-preserved : goal.loop-run-preserved
loop-run-preserved c = record {
  given =
      one_given (RunGives c.args.name.now c.args.entry.now) c.args.runs.items c.loop-run.runs.items c.pop.new.self.items c.in-Some.run' [] (map place_at c.loop-run.after.items)
      (map place_at c.follow.new.after.items) c.in-Some.ensures.items c.loop-run.invariant.given c.in_ok-follow.ensures.places;
  runs =
      runs_stay c.in-Some.run'.way.grain c.args.grain (c.args.entry.now.number + 1) c.loop-run.after.items c.follow.new.after.items
      (run_grain c.args.grain c.args.name.now c.args.entry.now c.args.runs.items c.loop-run.runs.items c.pop.new.self.items c.in-Some.run' c.in-Some.ensures.items
      [] (map place_at c.loop-run.after.items) c.loop-run.invariant.given c.requires.runs)
      c.in_ok-follow.ensures.runs c.loop-run.invariant.runs;
}

pub returns-clause-places : goal.returns-clause-places
returns-clause-places c =
    let none : c.loop-run.runs.items ≡ [] = search rules in
    runs_next c.args.grain c.args.name.now c.args.entry.now c.args.runs.items c.requires.runs c.loop-run.runs.items c.loop-run.after.items none c.loop-run.invariant.given

pub returns-clause-runs : goal.returns-clause-runs
returns-clause-runs c = c.loop-run.invariant.runs
