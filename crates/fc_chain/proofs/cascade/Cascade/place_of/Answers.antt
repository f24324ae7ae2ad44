use Rattle.std.proofs.Common.{List, sym, subst}
use Rattle.fc_base.specs.Sheet.{Slot}
use Rattle.fc_places.specs.Olds.{HasApartBirths}
use Rattle.fc_places.specs.Directory.{ListsSlots}
use Rattle.fc_chain.proofs.cascade.Cascade.place_of.Goals as goal

pub born-requires-clause-listed : goal.born-requires-clause-listed
born-requires-clause-listed c = subst (λ (z : List Slot). ListsSlots z c.self.inside.directory) (sym c.as_slice.ensures.value) c.self.invariant.listed

pub born-requires-clause-apart : goal.born-requires-clause-apart
born-requires-clause-apart c = subst (λ (z : List Slot). HasApartBirths z) (sym c.as_slice.ensures.value) c.self.invariant.kept.sound.names.apart
