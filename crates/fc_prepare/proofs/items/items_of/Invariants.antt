-- The items of the lines so far.
use Rattle.std.proofs.Common.{take}
use Rattle.fc_prepare.specs.Items.{AreItemsOf}
use Rattle.fc_prepare.proofs.items.items_of.Given as goal

abbrev pub invariant-loop-line : goal.invariant-loop-line
invariant-loop-line g l = AreItemsOf l.store.control (take l.line-index l.lines) l.items.items
