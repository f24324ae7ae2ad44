use Rattle.std.proofs.Common.{position, bytes_eq, ap, sym, ◌∙◌}
use Rattle.fc_registry.proofs.Places.{position-map}
use Rattle.fc_registry.proofs.indexed.Table.place_of_name.Goals as goal

-- the first name that is asked for stands where its object does
pub returns : goal.returns
returns g c =
    rw (c.get_index_of.ensures.index, ← c.self.view_is)
    (sym (position-map (bytes_eq c.args.name.now) (λ k. k.items) c.self.inside.names.keys)
    ∙ (ap (position (bytes_eq c.args.name.now)) c.self.invariant.names_beside
    ∙ position-map (bytes_eq c.args.name.now) g.T.Named.name_of c.self.inside.items.items))
