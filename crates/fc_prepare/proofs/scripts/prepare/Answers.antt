-- Scripts of a block's actors ask what those ask, and suit the store.
use Rattle.std.proofs.Common.{◌≤◌, List, All, subst, arith}
use Rattle.fc_blocks.specs.declared.block.ActorRead.{ActorRead}
use Rattle.fc_prepare.specs.Items.{IsOfActor}
use Rattle.fc_prepare.proofs.Actors.{of_actors}
use Rattle.fc_prepare.proofs.Prepared.{ask_theirs, suit_all}
use Rattle.fc_prepare.proofs.scripts.prepare.Goals as goal

pub scripts_of-requires : goal.scripts_of-requires
scripts_of-requires g c =
    let block = c.requires.of_block in
    subst (λ (actors : List ActorRead). All (λ (a : ActorRead). All IsOfActor a.lines) actors) block.3 (of_actors block.0 block.1 block.2)

pub returns-in-Ok-clause-asked : goal.returns-in-Ok-clause-asked
returns-in-Ok-clause-asked g c = λ w stands. ask_theirs c.args.store.now c.args.history.now.actors c.args.actors.now c.in-Ok.scripts.items w stands c.in-Ok.ensures

pub returns-in-Ok-clause-suit : goal.returns-in-Ok-clause-suit
returns-in-Ok-clause-suit g c =
    let few : 262144 ≤ 262144 = omega arith in
    let block = c.requires.of_block in
    suit_all c.args.store.now c.args.history.now.actors c.args.actors.now c.in-Ok.scripts.items c.requires.stands.0 262144 few c.requires.stands.1 c.in-Ok.ensures
    (subst (λ (actors : List ActorRead). All (λ (a : ActorRead). All IsOfActor a.lines) actors) block.3 (of_actors block.0 block.1 block.2))
