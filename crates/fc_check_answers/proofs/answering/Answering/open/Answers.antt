use Rattle.std.proofs.Common.{List, [], ◌∷◌, ◌++◌, refl, ◌∙◌, ap}
use Rattle.fc_check_answers.proofs.Running.{opened_places, opened_runs, pools_some}
use Rattle.fc_check_answers.specs.declared.run.Run.{Run}
use Rattle.fc_check_follow.specs.Ways.{pools_told}
use Rattle.fc_check_lines.specs.Bytes.{segments_in}
use Rattle.fc_check_answers.proofs.answering.Answering.open.Goals as goal

pub invariant_of-result : goal.invariant_of-result
invariant_of-result c =
    let run : Run = record { way = c.in_ok-way.way; lines = c.in_ok-lines.lines } in
    opened_runs c.args.grain (pools_told c.args.lanes.now) c.in_ok-way.way run c.push_item.new.items.items c.in_ok-way.ensures refl
    (c.in_ok-push_item.ensures ∙ ap (λ (runs : List Run). runs ++ run ∷ []) c.new-runs.ensures.items) (pools_some c.args.lanes.now c.requires)

pub returns-clause-places : goal.returns-clause-places
returns-clause-places c =
    let run : Run = record { way = c.in_ok-way.way; lines = c.in_ok-lines.lines } in
    λ own. opened_places c.args.grain (pools_told c.args.lanes.now) c.in_ok-way.way run c.push_item.new.items.items c.in_ok-way.ensures refl
    (c.in_ok-push_item.ensures ∙ ap (λ (runs : List Run). runs ++ run ∷ []) c.new-runs.ensures.items) (segments_in c.args.session.now) own c.in_ok-lines.ensures
