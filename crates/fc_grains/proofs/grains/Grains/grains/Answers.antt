use Rattle.std.proofs.Common.{length, ap, sym, ◌∙◌}
use Rattle.fc_grains.specs.Volumes.{VolumeGrains}
use Rattle.fc_grains.proofs.Calling.{was_whole}
use Rattle.fc_grains.proofs.Changing.{volume_is}
use Rattle.fc_grains.proofs.Contents.{length-contents}
use Rattle.fc_grains.proofs.Finding.{at_within, at_found}
use Rattle.fc_grains.proofs.grains.Grains.grains.Goals as goal

pub returns : goal.returns
returns g c =
    rw (← c.self.view_is)
    (c.grains.ensures
    ∙ sym (ap (λ (v : VolumeGrains). length v.contents) (volume_is _ c.self.invariant.rising _ (at_within _ _ _ c.deref.ensures.value c.place_of.ensures.in_range) _ c.index.ensures _ (at_found _ _ _ _ c.deref.ensures.value c.place_of.ensures.found))
    ∙ length-contents _ _ (was_whole _ _ _ _ _ _ _ _ c.self.invariant _ (at_within _ _ _ c.deref.ensures.value c.place_of.ensures.in_range) _ c.index.ensures _ (at_found _ _ _ _ c.deref.ensures.value c.place_of.ensures.found)).marked))
