use Rattle.std.proofs.Common.{List, ap, sym, subst, ◌∙◌}
use Rattle.fc_base.specs.Sheet.{Slot, live_place}
use Rattle.fc_chain.specs.Chains.{Chains}
use Rattle.fc_places.specs.Directory.{ListsSlots}
use Rattle.fc_chain.proofs.Fitting.{write_fits}
use Rattle.fc_chain.proofs.cascade.Cascade.plan.Goals as goal

pub plan_write-requires-clause-fit : goal.plan_write-requires-clause-fit
plan_write-requires-clause-fit c = write_fits _ _ _ c.slots-slots.ensures.plannable (c.in-Some.ensures.value ∙ ap (λ (z : List Slot). live_place z c.in-Write.volume.0) (sym c.slots-slots.ensures.value))

pub plan_fill-requires-clause-listed : goal.plan_fill-requires-clause-listed
plan_fill-requires-clause-listed c = subst (λ (z : List Slot). ListsSlots z c.self.inside.directory) (ap (λ (v : Chains). v.sheet.slots) c.self.view_is ∙ sym c.slots-slots.ensures.value) c.self.invariant.listed

pub plan_write-requires-clause-listed : goal.plan_write-requires-clause-listed
plan_write-requires-clause-listed c = subst (λ (z : List Slot). ListsSlots z c.self.inside.directory) (ap (λ (v : Chains). v.sheet.slots) c.self.view_is ∙ sym c.slots-slots.ensures.value) c.self.invariant.listed
