-- The object that is kept is the one that was reserved, so it fits.
use Rattle.std.proofs.Common.{sym, ◌∙◌}
use Rattle.fc_registry.proofs.Changes.{kept_fits}
use Rattle.fc_registry.proofs.Registry.add_kept.Goals as goal

pub add-requires-clause-above : goal.add-requires-clause-above
add-requires-clause-above c = (kept_fits _ _ _ _ _ c.self.view_is (sym c.take.ensures.value ∙ c.unwrap-change.ensures) c.in-AddVolume.is c.requires.fits).0

pub add-requires-clause-new_name : goal.add-requires-clause-new_name
add-requires-clause-new_name c = (kept_fits _ _ _ _ _ c.self.view_is (sym c.take.ensures.value ∙ c.unwrap-change.ensures) c.in-AddVolume.is c.requires.fits).1

pub add-requires-in-AddMapping-clause-above : goal.add-requires-in-AddMapping-clause-above
add-requires-in-AddMapping-clause-above c = (kept_fits _ _ _ _ _ c.self.view_is (sym c.take.ensures.value ∙ c.unwrap-change.ensures) c.in-AddMapping.is c.requires.fits).0

pub add-requires-in-AddMapping-clause-new_name : goal.add-requires-in-AddMapping-clause-new_name
add-requires-in-AddMapping-clause-new_name c = (kept_fits _ _ _ _ _ c.self.view_is (sym c.take.ensures.value ∙ c.unwrap-change.ensures) c.in-AddMapping.is c.requires.fits).1

pub add-requires-in-AddGroup-clause-above : goal.add-requires-in-AddGroup-clause-above
add-requires-in-AddGroup-clause-above c = (kept_fits _ _ _ _ _ c.self.view_is (sym c.take.ensures.value ∙ c.unwrap-change.ensures) c.in-AddGroup.is c.requires.fits).0

pub add-requires-in-AddGroup-clause-new_name : goal.add-requires-in-AddGroup-clause-new_name
add-requires-in-AddGroup-clause-new_name c = (kept_fits _ _ _ _ _ c.self.view_is (sym c.take.ensures.value ∙ c.unwrap-change.ensures) c.in-AddGroup.is c.requires.fits).1
