use Rattle.std.proofs.Common.{refl}
use Rattle.std.proofs.lemmas.Result.{on_ok_weaker}
use Rattle.fc_check_answers.specs.declared.run.Run.{Run}
use Rattle.fc_check_answers.proofs.Running.{way_came, way_runs}
use Rattle.fc_check_answers.proofs.run.go_on.Goals as goal

pub returns-clause-places : goal.returns-clause-places
returns-clause-places c =
    let run : Run = record { way = c.args.way; lines = c.in_ok-lines.lines } in
    on_ok_weaker c.push_item.result
    (way_came c.args.way c.args.lines c.args.name.now c.args.entry.now run c.args.after.now.items c.push_item.new.items.items refl c.in_ok-lines.ensures)
    c.push_item.ensures

pub returns-clause-runs : goal.returns-clause-runs
returns-clause-runs c =
    let run : Run = record { way = c.args.way; lines = c.in_ok-lines.lines } in
    on_ok_weaker c.push_item.result
    (λ is grain entries. way_runs grain entries c.args.way run c.args.after.now.items c.push_item.new.items.items refl is)
    c.push_item.ensures
