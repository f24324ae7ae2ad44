use Rattle.std.proofs.Common.{List, sym, subst}
use Rattle.fc_base.specs.Sheet.{Slot, shape_of}
use Rattle.fc_base.specs.RestoreGraph.{HasOneLive}
use Rattle.fc_places.specs.Directory.{ListsSlots}
use Rattle.fc_chain.proofs.cascade.Cascade.place_of_live.Goals as goal

pub live-requires-clause-listed : goal.live-requires-clause-listed
live-requires-clause-listed c = subst (λ (z : List Slot). ListsSlots z c.self.inside.directory) (sym c.as_slice.ensures.value) c.self.invariant.listed

pub live-requires-clause-one_live : goal.live-requires-clause-one_live
live-requires-clause-one_live c = subst (λ (z : List Slot). HasOneLive (shape_of z)) (sym c.as_slice.ensures.value) c.self.invariant.kept.sound.one_live
