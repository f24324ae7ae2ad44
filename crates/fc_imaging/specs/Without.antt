-- An image without a volume.
use Rattle.std.specs.Prelude.{Bool, true, ◌==◌, not, List, [], ◌∷◌, filter}
use Rattle.fc_base.specs.declared.ids.VolId.{VolId}
use Rattle.fc_base.specs.declared.volume.Volume.{Volume}
use Rattle.fc_image.specs.declared.image.MetaChain.{MetaChain}
use Rattle.fc_image.specs.declared.image.MetaImage.{MetaImage}
use Rattle.fc_image.specs.declared.image.MetaLost.{MetaLost}
use Rattle.fc_image.specs.declared.image.MetaSlot.{MetaSlot}

abbrev pub is_other : VolId → Volume → Bool
is_other gone v = not (v.id.0 == gone.0)

abbrev pub is_other_row : VolId → MetaLost → Bool
is_other_row gone row = not (row.volume.0 == gone.0)

-- A chain begins with a slot of another volume.
abbrev pub first_is_other : VolId → List MetaSlot → Bool
first_is_other gone [] = true
first_is_other gone (slot ∷ slots) = not (slot.volume.0 == gone.0)

abbrev pub begins_else : VolId → MetaChain → Bool
begins_else gone chain = first_is_other gone chain.slots

abbrev pub leaving_out : VolId → MetaImage → MetaImage
leaving_out gone image =
    record image {
      volumes = filter (is_other gone) image.volumes;
      chains = filter (begins_else gone) image.chains;
      lost = filter (is_other_row gone) image.lost;
    }
