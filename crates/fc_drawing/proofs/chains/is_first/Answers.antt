use Rattle.std.proofs.Common.{ap, is_none, rules, ◌∙◌}
use Rattle.fc_drawing.specs.Chains.{are_together}
use Rattle.fc_drawing.proofs.Placing.{none_by}
use Rattle.fc_drawing.proofs.chains.is_first.Goals as goal

pub returns : goal.returns
returns c =
    none_by c.last_place.result c.is_none.result c.is_none.ensures
    ∙ ap is_none (c.last_place.ensures (λ j. are_together c.args.sheet.now.slots j c.args.place) (λ k passes answered. search rules))
