use Rattle.std.proofs.Common.{ap, map, rules, ◌∙◌}
use Rattle.std.proofs.lemmas.Result.{IfOk-weaker}
use Rattle.fc_drawing.specs.Chains.{chain_at, is_first}
use Rattle.fc_drawing.specs.Places.{places_below}
use Rattle.fc_drawing.proofs.chains.first_places.Goals as goal

pub returns : goal.returns
returns c =
    IfOk-weaker c.places_below.result _ _
    (λ firsts e. ap (map (chain_at c.args.sheet.now.slots)) (e (is_first c.args.sheet.now.slots) (λ k passes answered. search rules) ∙ ap (places_below (is_first c.args.sheet.now.slots)) c.len.ensures))
    c.places_below.ensures
