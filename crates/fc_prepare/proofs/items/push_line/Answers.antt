-- One line more.
use Rattle.std.proofs.Common.{List, [], ◌∷◌, ◌++◌, Option, sym, subst}
use Rattle.fc_actors.specs.declared.script.Item.{Item}
use Rattle.fc_prepare.specs.Items.{AreItemsOf, IsItemIf}
use Rattle.fc_prepare.proofs.Lines.{nothing_more, one_more}
use Rattle.fc_prepare.proofs.items.push_line.Goals as goal

pub returns-in-Ok-None : goal.returns-in-Ok-None
returns-in-Ok-None g c = λ lines are.
    nothing_more c.args.store.now.control c.args.line.now lines c.args.items.now.items
    (subst (λ (o : Option Item). IsItemIf c.args.store.now.control c.args.line.now o) c.in-Ok-None.field-0-is c.in-Ok-None.ensures) are

pub returns-in-Ok : goal.returns-in-Ok
returns-in-Ok g c = λ lines are.
    subst (λ (items : List Item). AreItemsOf c.args.store.now.control (lines ++ c.args.line.now ∷ []) items) (sym c.in-Ok.ensures)
    (one_more c.args.store.now.control c.args.line.now c.in-Ok-Some.item lines c.args.items.now.items
    (subst (λ (o : Option Item). IsItemIf c.args.store.now.control c.args.line.now o) c.in-Ok-Some.field-0-is c.in-Ok-Some.ensures) are)
