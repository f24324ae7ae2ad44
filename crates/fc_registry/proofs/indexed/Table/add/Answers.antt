use Rattle.fc_registry.proofs.Beside.{IsIndexed-push}
use Rattle.fc_registry.proofs.indexed.Table.add.Goals as goal

-- each index gains what the object tells of itself
pub invariant_of-self : goal.invariant_of-self
invariant_of-self g c =
    let in_ids = rw c.unwrap.ensures at c.insert.ensures.keys in
    let in_names = rw c.unwrap-2.ensures at c.insert-2.ensures.keys in
    let in_items = rw c.unwrap-3.ensures at c.push.ensures.items in
    let above = rw (← c.self.view_is) at c.requires.above in
    let new_name = rw (← c.self.view_is) at c.requires.new_name in
    let now = c.self.inside in
    rw (in_ids, in_names, in_items, c.id.ensures)
    (IsIndexed-push g.T.Named.id_of g.T.Named.name_of now.ids.keys now.names.keys now.items.items c.args.item c.args.name c.self.invariant c.requires.own_name above new_name)
