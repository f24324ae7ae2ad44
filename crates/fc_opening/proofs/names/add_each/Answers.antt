-- One name more, and where it stops.
use Rattle.std.proofs.Common.{◌≡◌, ℕ, List, ◌++◌, take, refl, ◌∙◌, sym, ap, arith}
use Rattle.fc_blocks.specs.declared.block.ActorRead.{ActorRead}
use Rattle.fc_entry.specs.HistoryState.{HistoryState, with_actor}
use Rattle.fc_legal.specs.Scripts.{names_with}
use Rattle.std.proofs.lemmas.List.{take_all}
use Rattle.fc_opening.proofs.Coming.{names_come, next_name}
use Rattle.fc_opening.proofs.names.add_each.Goals as goal

-- What came so far stands behind what was there.
behind :
    (first h : HistoryState) (actors : List ActorRead) →
    h ≡ record first { actors = names_with first.actors actors } →
    (more : List (List ℕ)) × (h ≡ record first { actors = first.actors ++ more })
behind first h actors same =
    let come = names_come first.actors actors in
    (come.0, same ∙ ap (λ (names : List (List ℕ)). record first { actors = names }) come.1)

pub loop-actor-init : goal.loop-actor-init
loop-actor-init c = refl

pub returns-then-actors-gt-MOST_NAMES-clause-err :
    goal.returns-then-actors-gt-MOST_NAMES-clause-err
returns-then-actors-gt-MOST_NAMES-clause-err c = behind c.args.history.now c.loop-actor.history (take c.loop-actor.actor-index c.args.actors.now) c.loop-actor.invariant

pub returns-in-Err-clause-err : goal.returns-in-Err-clause-err
returns-in-Err-clause-err c = behind c.args.history.now c.actor.new.self (take c.loop-actor.actor-index c.args.actors.now) (c.in-Err.ensures.err ∙ c.loop-actor.invariant)

pub loop-actor-preserved : goal.loop-actor-preserved
loop-actor-preserved c =
    c.in-Ok.ensures.ok
    ∙ ap (λ (h : HistoryState). record h { actors = with_actor h.actors c.actor-item.result.name }) c.loop-actor.invariant
    ∙ ap (λ (names : List (List ℕ)). record c.args.history.now { actors = names })
    (ap (λ (actor : ActorRead). with_actor (names_with c.args.history.now.actors (take c.loop-actor.actor-index c.args.actors.now)) actor.name) c.actor-item.is
    ∙ sym (next_name c.args.history.now.actors c.args.actors.now c.loop-actor.actor-index c.actor-item.result c.loop-actor-test.true))

pub returns-clause-ok : goal.returns-clause-ok
returns-clause-ok c =
    c.loop-actor.invariant
    ∙ ap (λ (xs : List ActorRead). record c.args.history.now { actors = names_with c.args.history.now.actors xs })
    (take_all c.loop-actor.actor-index c.args.actors.now (omega (arith, c.loop-actor-test.false)))
