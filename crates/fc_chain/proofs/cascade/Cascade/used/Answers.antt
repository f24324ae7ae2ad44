use Rattle.std.proofs.Common.{List, ap, sym, subst, ◌∙◌}
use Rattle.fc_base.specs.Sheet.{Slot}
use Rattle.fc_chain.specs.Chains.{Chains}
use Rattle.fc_places.specs.Directory.{ListsSlots}
use Rattle.fc_chain.proofs.cascade.Cascade.used.Goals as goal

pub is_source-requires-clause-listed : goal.is_source-requires-clause-listed
is_source-requires-clause-listed c = subst (λ (z : List Slot). ListsSlots z c.self.inside.directory) (ap (λ (v : Chains). v.sheet.slots) c.self.view_is ∙ sym c.slots.ensures.value) c.self.invariant.listed
