use Rattle.fc_grains.proofs.Calling.{kept_armed, state_armed}
use Rattle.fc_grains.proofs.Finding.{at_within, at_found}
use Rattle.fc_grains.proofs.grains.Grains.arm.Goals as goal

pub invariant_of-self : goal.invariant_of-self
invariant_of-self g c = kept_armed _ _ _ _ _ _ _ _ c.self.invariant _ (at_within _ _ _ c.deref.ensures.value c.place_of-place.ensures.in_range) _ c.index_mut.ensures.value _ (at_found _ _ _ _ c.deref.ensures.value c.place_of-place.ensures.found) _ _ c.arm.ensures

pub returns : goal.returns
returns g c = rw (← c.self.view_is) (state_armed _ _ _ _ _ _ _ _ c.self.invariant _ (at_within _ _ _ c.deref.ensures.value c.place_of-place.ensures.in_range) _ c.index_mut.ensures.value _ (at_found _ _ _ _ c.deref.ensures.value c.place_of-place.ensures.found) _ _ c.arm.ensures)
