-- The row becomes the mapping, since it keeps its id and its name.
use Rattle.std.proofs.Common.{◌≡◌, Some, None, find, nat_eq, option_map, set, map, if◌then◌else◌, ap, sym, ◌∙◌}
use Rattle.fc_base.specs.declared.volume.Mapping.{Mapping}
use Rattle.fc_registry.proofs.Beside.{IsIndexed-set}
use Rattle.fc_registry.proofs.Changes.{written_is, id_there, name_there}
use Rattle.fc_registry.proofs.Places.{map-set, rises, position_or_len-found, find-missed}
use Rattle.fc_registry.proofs.indexed.Table+Mapping.set.Goals as goal

pub invariant_of-self : goal.invariant_of-self
invariant_of-self c =
    let now = c.self.inside in
    let mapping = c.args.mapping.now in
    let row = c.index_mut-row.result.now in
    let placed = rw (← c.self.view_is) at (sym c.place_of_id.ensures ∙ c.in-Some.is) in
    let kept = rw (← c.self.view_is) at c.requires in
    let read = c.index_mut-row.ensures.value in
    rw (written_is now.items.items c.in-Some.place row mapping placed read kept)
    (IsIndexed-set (λ (m : Mapping). m.id.0) (λ (m : Mapping). m.name) now.ids.keys now.names.keys now.items.items c.in-Some.place mapping
    (id_there now.items.items c.in-Some.place row mapping placed read)
    (name_there now.items.items c.in-Some.place row mapping placed read kept) c.self.invariant)

pub returns-in-Some-clause-rows : goal.returns-in-Some-clause-rows
returns-in-Some-clause-rows c =
    let items = c.self.inside.items.items in
    let mapping = c.args.mapping.now in
    let row = c.index_mut-row.result.now in
    let placed = rw (← c.self.view_is) at (sym c.place_of_id.ensures ∙ c.in-Some.is) in
    let kept = rw (← c.self.view_is) at c.requires in
    rw (written_is items c.in-Some.place row mapping placed c.index_mut-row.ensures.value kept, ← c.self.view_is)
    (sym (map-set (λ (m : Mapping). m.id.0) mapping.id.0 mapping items (rises (λ (m : Mapping). m.id.0) items c.self.invariant.ordered.rising)
    ∙ ap (λ place. set items place mapping) (position_or_len-found (λ (m : Mapping). nat_eq mapping.id.0 m.id.0) items c.in-Some.place placed)))

-- the mapping is there
pub returns-in-None-clause-rows : goal.returns-in-None-clause-rows
returns-in-None-clause-rows c =
    let items = c.self.inside.items.items in
    let mapping = c.args.mapping.now in
    let missed = rw (← c.self.view_is) at (sym c.place_of_id.ensures ∙ c.in-None.is) in
    let kept = rw (← c.self.view_is) at c.requires in
    let none = find-missed (λ (m : Mapping). nat_eq mapping.id.0 m.id.0) items missed in
    let never : None ≡ Some mapping.name = rw none at kept in
    cc
