use Rattle.std.proofs.Common.{◌∙◌}
use Rattle.fc_registry.specs.Index.{rows}
use Rattle.fc_registry.proofs.Copies.{comes_above, comes_new}
use Rattle.fc_registry.proofs.indexed.Table.copy.Goals as goal

pub add-requires-clause-above : goal.add-requires-clause-above
add-requires-clause-above g c =
    comes_above g.T.Named.id_of g.T.Named.name_of (rows c.args.self.now) c.loop-item.item-index c.as_slice-item-items.ensures.ordered _ _ c.item-item.result _
    c.as_slice-item-items.ensures.value (c.make_room.ensures.same ∙ c.loop-item.invariant) c.in_ok-object.ensures.copy c.loop-item-test.true c.item-item.is

pub add-requires-clause-new_name : goal.add-requires-clause-new_name
add-requires-clause-new_name g c =
    comes_new g.T.Named.id_of g.T.Named.name_of (rows c.args.self.now) c.loop-item.item-index c.as_slice-item-items.ensures.ordered _ _ c.item-item.result _
    c.as_slice-item-items.ensures.value (c.make_room.ensures.same ∙ c.loop-item.invariant) c.in_ok-object.ensures.copy c.loop-item-test.true c.item-item.is
