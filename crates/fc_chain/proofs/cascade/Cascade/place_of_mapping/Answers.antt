use Rattle.std.proofs.Common.{List, sym, subst}
use Rattle.fc_base.specs.Sheet.{Slot}
use Rattle.fc_base.specs.SheetFacts.{HasMappings}
use Rattle.fc_places.specs.Directory.{ListsSlots}
use Rattle.fc_chain.proofs.cascade.Cascade.place_of_mapping.Goals as goal

pub slot_of-requires-clause-listed : goal.slot_of-requires-clause-listed
slot_of-requires-clause-listed c = subst (λ (z : List Slot). ListsSlots z c.self.inside.directory) (sym c.as_slice.ensures.value) c.self.invariant.listed

pub slot_of-requires-clause-mappings : goal.slot_of-requires-clause-mappings
slot_of-requires-clause-mappings c = subst (λ (z : List Slot). HasMappings z) (sym c.as_slice.ensures.value) c.self.invariant.kept.sound.mappings
