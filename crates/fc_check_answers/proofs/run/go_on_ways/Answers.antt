use Rattle.std.proofs.Common.{◌≡◌, [], List, Contains, map, sym, subst, rules}
use Rattle.std.proofs.lemmas.List.Elements.{Contains-push}
use Rattle.std.proofs.lemmas.Result.{IfOk-from_err, on_ok_weaker}
use Rattle.fc_check_answers.proofs.Coming.{none_given, one_given}
use Rattle.fc_check_answers.proofs.Running.{copy_came, last_way, left_way, ways_came}
use Rattle.fc_check_answers.proofs.Smallness.{last_small, left_small}
use Rattle.fc_check_answers.specs.Runs.{WayLeadsOn, place_at}
use Rattle.fc_check_record.specs.Judged.{Judged}
use Rattle.fc_check_answers.proofs.run.go_on_ways.Goals as goal

pub loop-way-init : goal.loop-way-init
loop-way-init c = record {
  given = none_given (WayLeadsOn c.args.lines c.args.name.now c.args.entry.now) c.pop.new.self.items (map place_at c.args.after.now.items);
  runs = λ grain entries are were. were;
}

pub go_on-requires : goal.go_on-requires
go_on-requires c =
    left_small c.args.ways.items c.pop.new.self.items c.in-Some.last c.in-Some.ensures.items c.requires c.in-Some-pop.way
    (c.loop-way.invariant.given.left_of c.in-Some-pop.way (subst (λ (ways : List Judged). Contains ways c.in-Some-pop.way) (sym c.in-Some-pop.ensures.items) (Contains-push c.pop-in-loop-way.new.self.items c.in-Some-pop.way)))

pub go_on-2-requires : goal.go_on-2-requires
go_on-2-requires c = last_small c.args.ways.items c.pop.new.self.items c.in-Some.last c.in-Some.ensures.items c.requires

pub loop-way-preserved : goal.loop-way-preserved
loop-way-preserved c = record {
  given =
      one_given (WayLeadsOn c.args.lines c.args.name.now c.args.entry.now) c.pop.new.self.items c.loop-way.ways.items c.pop-in-loop-way.new.self.items c.in-Some-pop.way
      (map place_at c.args.after.now.items) (map place_at c.loop-way.after.items) (map place_at c.go_on.new.after.items) c.in-Some-pop.ensures.items c.loop-way.invariant.given
      (copy_came c.args.lines c.args.name.now c.args.entry.now c.in_ok-copy.field-0 c.in-Some-pop.way (map place_at c.loop-way.after.items) (map place_at c.go_on.new.after.items)
      c.in_ok-copy.ensures c.in_ok-go_on.ensures.places);
  runs = λ grain entries are were. c.in_ok-go_on.ensures.runs grain entries
      (left_way c.args.lines c.args.name.now c.args.entry.now grain entries c.args.ways.items c.pop.new.self.items c.in-Some.last c.in-Some.ensures.items are
      c.loop-way.ways.items c.pop-in-loop-way.new.self.items c.in-Some-pop.way (map place_at c.args.after.now.items) (map place_at c.loop-way.after.items) c.in-Some-pop.ensures.items c.loop-way.invariant.given)
      (c.loop-way.invariant.runs grain entries are were);
}

pub returns-clause-places : goal.returns-clause-places
returns-clause-places c =
    let none : c.loop-way.ways.items ≡ [] = search rules in
    on_ok_weaker c.go_on-2.result
    (ways_came c.args.lines c.args.name.now c.args.entry.now c.args.ways.items c.pop.new.self.items c.loop-way.ways.items c.in-Some.last
    (map place_at c.args.after.now.items) (map place_at c.loop-way.after.items) (map place_at c.go_on-2.new.after.items) c.in-Some.ensures.items none c.loop-way.invariant.given)
    c.go_on-2.ensures.places

pub returns-clause-runs : goal.returns-clause-runs
returns-clause-runs c =
    on_ok_weaker c.go_on-2.result
    (λ goes grain entries are were. goes grain entries
    (last_way c.args.lines c.args.name.now c.args.entry.now grain entries c.args.ways.items c.pop.new.self.items c.in-Some.last c.in-Some.ensures.items are)
    (c.loop-way.invariant.runs grain entries are were))
    c.go_on-2.ensures.runs

pub returns-in_err-copy-clause-places : goal.returns-in_err-copy-clause-places
returns-in_err-copy-clause-places c = IfOk-from_err c.from_residual.result _ c.from_residual.ensures.0
