use Rattle.std.proofs.Common.{sym, ◌∙◌, ap, nat_eq, remove, filter, not, position}
use Rattle.std.specs.List.{position_or_len}
use Rattle.fc_registry.specs.Index.{rows}
use Rattle.fc_registry.proofs.Beside.{IsIndexed-remove}
use Rattle.fc_registry.proofs.Places.{filter-remove, rises, within-found, past-missed, position_or_len-found, remove-past}
use Rattle.fc_registry.proofs.indexed.Table.remove.Goals as goal

-- the same place goes out of the objects and of both indexes
pub invariant_of-self : goal.invariant_of-self
invariant_of-self g c =
    let now = c.self.inside in
    let placed = rw (← c.self.view_is) at (sym c.place_of_id.ensures ∙ c.in-Some.is) in
    rw (c.shift_remove_index.ensures.keys, c.shift_remove_index-in-Some.ensures.keys, c.remove.ensures.items)
    (IsIndexed-remove g.T.Named.id_of g.T.Named.name_of now.ids.keys now.names.keys now.items.items c.in-Some.place
    (within-found (λ x. nat_eq c.args.id (g.T.Named.id_of x)) now.items.items c.in-Some.place placed) c.self.invariant)

pub returns-in-Some-clause-rest : goal.returns-in-Some-clause-rest
returns-in-Some-clause-rest g c =
    let items = c.self.inside.items.items in
    let placed = rw (← c.self.view_is) at (sym c.place_of_id.ensures ∙ c.in-Some.is) in
    rw (c.remove.ensures.items, ← c.self.view_is)
    (ap (remove items) (sym (position_or_len-found (λ x. nat_eq c.args.id (g.T.Named.id_of x)) items c.in-Some.place placed))
    ∙ sym (filter-remove g.T.Named.id_of c.args.id items (rises g.T.Named.id_of items c.self.invariant.ordered.rising)))

pub returns-in-None-clause-rest : goal.returns-in-None-clause-rest
returns-in-None-clause-rest g c =
    let items = c.self.inside.items.items in
    let missed = rw (← c.self.view_is) at (sym c.place_of_id.ensures ∙ c.in-None.is) in
    let test = λ (x : g.row.T.Denot). nat_eq c.args.id (g.T.Named.id_of x) in
    rw (← c.self.view_is)
    (sym (remove-past items (position_or_len test items) (past-missed test items missed))
    ∙ sym (filter-remove g.T.Named.id_of c.args.id items (rises g.T.Named.id_of items c.self.invariant.ordered.rising)))
