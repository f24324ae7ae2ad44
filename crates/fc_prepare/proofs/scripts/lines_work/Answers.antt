-- Items are the work of an actor with lines.
use Rattle.std.proofs.Common.{List, All, ◌∙◌, sym, subst}
use Rattle.fc_base.specs.declared.command.ScriptLine.{ScriptLine}
use Rattle.fc_prepare.specs.Items.{AreItemsOf, IsOfActor}
use Rattle.fc_prepare.proofs.Working.{asked_lines}
use Rattle.fc_prepare.proofs.scripts.lines_work.Goals as goal

pub items_of-requires : goal.items_of-requires
items_of-requires g c = subst (λ (ls : List ScriptLine). All IsOfActor ls) (sym c.as_slice.ensures) c.requires.of

pub returns-in-Ok : goal.returns-in-Ok
returns-in-Ok g c = λ lanes.
    let are : AreItemsOf c.args.store.now.control c.args.actor.now.lines c.in-Ok.items.items =
    subst (λ (ls : List ScriptLine). AreItemsOf c.args.store.now.control ls c.in-Ok.items.items) c.as_slice.ensures c.in-Ok.ensures in
    record {
      asked = λ b tables. are.asked b tables ∙ asked_lines c.args.actor.now.role c.args.store.now.control.grain lanes b c.args.actor.now.lines c.requires.lines;
      suits = λ s told of. are.suit s told of;
    }
