use Rattle.std.proofs.Common.{ap, rules, ◌∙◌}
use Rattle.fc_drawing.specs.Chains.{are_together}
use Rattle.fc_drawing.specs.Places.{places_below}
use Rattle.fc_drawing.proofs.chains.chain_at.Goals as goal

pub returns : goal.returns
returns c =
    c.in_ok-places.ensures (λ j. are_together c.args.sheet.now.slots j c.args.place) (λ k passes answered. search rules)
    ∙ ap (places_below (λ j. are_together c.args.sheet.now.slots j c.args.place)) c.len.ensures
