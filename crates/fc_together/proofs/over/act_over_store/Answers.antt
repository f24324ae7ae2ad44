use Rattle.std.proofs.Common.{◌++◌, ◌∙◌, ap, sym, subst}
use Rattle.fc_shares.specs.Law.{situation_of}
use Rattle.fc_store.specs.StoreParts.{parts_view}
use Rattle.fc_together.proofs.Parts.{Opening, acted_over, came_back, opens}
use Rattle.fc_together.proofs.over.act_over_store.Goals as goal

pub act_in_yard-requires-clause-opened : goal.act_in_yard-requires-clause-opened
act_in_yard-requires-clause-opened g c κs within =
    let told = c.requires.stands in
    let is = c.take_parts-tray.ensures.parts ∙ ap (λ l. l ++ parts_view c.args.store.now) c.in-Ok-with_capacity.ensures.items in
    (situation_of c.args.store.now told.0, subst (λ l. Opening l c.args.first (situation_of c.args.store.now told.0)) (sym is) (opens c.args.store.now told.0 c.args.first told.1 told.2))

pub give_parts-requires-clause-parts : goal.give_parts-requires-clause-parts
give_parts-requires-clause-parts g c =
    came_back g.S.Script.needed g.S.Script.suits g.S.Script.goes c.args.store.now c.args.first c.args.scripts.items c.in-Ok-act_in_yard.made.items c.act_in_yard.new.back.items
    c.take_parts-tray.new.into.items (c.take_parts-tray.ensures.parts ∙ ap (λ l. l ++ parts_view c.args.store.now) c.in-Ok-with_capacity.ensures.items) c.requires.stands c.in-Ok-act_in_yard.ensures.acted

pub returns-in-Ok-act_in_yard-clause-acted : goal.returns-in-Ok-act_in_yard-clause-acted
returns-in-Ok-act_in_yard-clause-acted g c =
    acted_over g.S.Script.needed g.S.Script.suits g.S.Script.goes c.args.store.now c.args.first c.args.scripts.items c.in-Ok-act_in_yard.made.items c.act_in_yard.new.back.items
    c.take_parts-tray.new.into.items c.give_parts.new.self (c.take_parts-tray.ensures.parts ∙ ap (λ l. l ++ parts_view c.args.store.now) c.in-Ok-with_capacity.ensures.items)
    c.in-Ok-act_in_yard.ensures.acted c.give_parts.ensures
