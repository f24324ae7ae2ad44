use Rattle.std.proofs.Common.{position, nat_eq, ap, ◌∙◌}
use Rattle.fc_registry.proofs.Places.{position-map}
use Rattle.fc_registry.proofs.indexed.Table.place_of_id.Goals as goal

-- the first id that is asked for stands where its object does
pub returns : goal.returns
returns g c =
    rw (c.get_index_of.ensures.index, ← c.self.view_is)
    (ap (position (nat_eq c.args.id)) c.self.invariant.ids_beside ∙ position-map (nat_eq c.args.id) g.T.Named.id_of c.self.inside.items.items)
