use Rattle.std.proofs.Common.{◌-◌, ◌+◌, ◌≤◌, List, length, sym, subst}
use Rattle.fc_base.specs.Sheet.{Slot}
use Rattle.fc_slots.specs.Contiguous.{IsContiguous}
use Rattle.fc_tallies.specs.Tallies.{AreOneSize}
use Rattle.fc_places.specs.Directory.{HasPlaces}
use Rattle.fc_chain.proofs.Keeps.{kept_stepped}
use Rattle.fc_places.proofs.Listed.{places_stay}
use Rattle.fc_chain.proofs.Parts.{room_after, left_after, stepped_parts, places_after}
use Rattle.fc_chain.proofs.cascade.Cascade.apply_event.Goals as goal

pub recount-requires-clause-room : goal.recount-requires-clause-room
recount-requires-clause-room c =
    subst (λ (z : List Slot). length z ≤ length c.self.inside.tallies.tallies) (sym c.as_slice.ensures.value)
    (room_after c.args.self.now c.self.inside.lane c.self.inside.lanes c.self.inside.room c.self.inside.width c.self.inside.table c.step.new.table c.self.inside.tallies c.args.event.now c.self.view_is c.self.invariant.counted c.requires.room c.step.ensures.sheet)

pub recount-requires-clause-together : goal.recount-requires-clause-together
recount-requires-clause-together c =
    subst (λ (z : List Slot). IsContiguous z) (sym c.as_slice.ensures.value)
    (kept_stepped c.args.self.now c.self.inside.lane c.self.inside.lanes c.self.inside.room c.self.inside.width c.self.inside.table c.step.new.table c.args.event.now c.self.view_is c.self.invariant.kept c.requires.fit c.step.ensures.sheet).together

pub recount-requires-clause-sizes : goal.recount-requires-clause-sizes
recount-requires-clause-sizes c =
    subst (λ (z : List Slot). AreOneSize z) (sym c.as_slice.ensures.value)
    (kept_stepped c.args.self.now c.self.inside.lane c.self.inside.lanes c.self.inside.room c.self.inside.width c.self.inside.table c.step.new.table c.args.event.now c.self.view_is c.self.invariant.kept c.requires.fit c.step.ensures.sheet).sound.sizes.of_chain

pub rebuild-requires : goal.rebuild-requires
rebuild-requires c =
    subst (λ (z : List Slot). HasPlaces (length z) c.self.inside.directory) (sym c.as_slice-2.ensures.value)
    (places_after c.args.self.now c.self.inside.lane c.self.inside.lanes c.self.inside.room c.self.inside.width c.self.inside.table c.step.new.table c.self.inside.directory c.args.event.now c.self.view_is c.self.invariant.places c.requires.room c.step.ensures.sheet)

pub invariant_of-self : goal.invariant_of-self
invariant_of-self c =
    stepped_parts c.args.self.now c.self.inside.lane c.self.inside.lanes c.self.inside.room c.self.inside.width (c.self.inside.room - c.in-Some.slots) c.self.inside.table c.step.new.table c.self.inside.tallies c.recount.new.self c.self.inside.directory c.rebuild.new.self c.args.event.now c.as_slice.result.now c.as_slice-2.result.now c.self.view_is c.self.invariant
    (kept_stepped c.args.self.now c.self.inside.lane c.self.inside.lanes c.self.inside.room c.self.inside.width c.self.inside.table c.step.new.table c.args.event.now c.self.view_is c.self.invariant.kept c.requires.fit c.step.ensures.sheet)
    c.requires.room c.step.ensures.sheet
    (left_after c.args.self.now c.self.inside.lane c.self.inside.lanes c.self.inside.room c.self.inside.width c.self.inside.table c.args.event.now c.in-Some.slots c.self.view_is c.requires.room c.in-Some.ensures.value)
    c.step.ensures.room c.step.ensures.width
    c.as_slice.ensures.value c.recount.ensures.tallied c.recount.ensures.slots c.recount.ensures.words
    c.as_slice-2.ensures.value c.rebuild.ensures.listed
    (places_stay (length c.self.inside.table.sheet.slots + c.self.inside.room) c.self.inside.directory c.rebuild.new.self c.self.invariant.places c.rebuild.ensures.births_room c.rebuild.ensures.mappings_room c.rebuild.ensures.volumes_room)
