-- Each line is one of an actor.
use Rattle.std.proofs.Common.{sym, subst}
use Rattle.fc_prepare.specs.Items.{IsOfActor}
use Rattle.fc_prepare.proofs.items.items_of.Goals as goal

pub push_line-requires : goal.push_line-requires
push_line-requires g c = subst IsOfActor (sym c.line-item.is) (c.requires c.loop-line.line-index c.line-item.result c.loop-line-test.true)
