use Rattle.std.proofs.Common.{ap, ◌∙◌, List, ℕ}
use Rattle.fc_check_lines.proofs.Answering.{followed}
use Rattle.fc_check_lines.specs.Bytes.{by_grammar, segments_in}
use Rattle.fc_entry.specs.HistoryState.{number_of_actor}
use Rattle.fc_check_lines.proofs.lines.Lines.follow.Goals as goal

pub returns : goal.returns
returns g c =
    let i = c.self.inside in
    followed (g.T.Told.grain c.args.told.now) (g.T.Told.whole c.args.told.now) c.args.self i.names.items i.asking (segments_in i.rest.now) c.wait.result by_grammar c.in_ok-left.left c.args.name.now c.args.entry.now c.number_of_actor-actor.result
    c.self.view_is (c.number_of_actor-actor.ensures ∙ ap (λ (names : List (List ℕ)). number_of_actor names c.args.name.now) c.as_slice.ensures.value) c.in_ok-left.ensures c.wait.ensures
