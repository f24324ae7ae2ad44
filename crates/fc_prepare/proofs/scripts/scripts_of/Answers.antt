-- One script more.
use Rattle.std.proofs.Common.{◌≡◌, ℕ, ◌+◌, List, [], ◌∷◌, ◌++◌, All, take, sym, ap, ◌∙◌, subst}
use Rattle.std.proofs.lemmas.List.{take_more}
use Rattle.fc_blocks.specs.declared.block.ActorRead.{ActorRead}
use Rattle.fc_prepare.specs.Items.{IsOfActor}
use Rattle.fc_prepare.specs.Scripts.{AreScriptsOf, IsScriptOf}
use Rattle.fc_prepare.proofs.Lines.{zip_push}
use Rattle.fc_prepare.proofs.scripts.scripts_of.Goals as goal

pub script_of-requires-clause-of : goal.script_of-requires-clause-of
script_of-requires-clause-of g c =
    subst (λ (a : ActorRead). All IsOfActor a.lines) (sym c.actor-item.is) (c.requires c.loop-actor.actor-index c.actor-item.result c.loop-actor-test.true)

pub loop-actor-preserved : goal.loop-actor-preserved
loop-actor-preserved g c =
    let actors : List ActorRead = c.args.actors.now in
    let i : ℕ = c.loop-actor.actor-index in
    let one_more : take (i + 1) actors ≡ take i actors ++ c.actor-item.result ∷ [] =
    take_more actors i c.actor-item.result c.loop-actor-test.true ∙ ap (λ (a : ActorRead). take i actors ++ a ∷ []) (sym c.actor-item.is) in
    subst (λ ys. AreScriptsOf c.args.store.now c.args.history.now.actors (take (i + 1) actors) ys) (sym c.in-Ok-push.ensures.items)
    (subst (λ xs. AreScriptsOf c.args.store.now c.args.history.now.actors xs (c.loop-actor.scripts.items ++ c.in-Ok.script ∷ [])) (sym one_more)
    (zip_push (λ a s. IsScriptOf c.args.store.now c.args.history.now.actors a s) (take i actors) c.loop-actor.scripts.items c.actor-item.result c.in-Ok.script c.loop-actor.invariant c.in-Ok.ensures))
