-- Disks that fail at no call.
use Rattle.std.specs.Prelude.{◌≡◌, Bool, false, Some}
use Rattle.std.specs.List.{All}
use Rattle.fc_grains.specs.Grains.{GrainsState}
use Rattle.fc_grains.specs.Volumes.{VolumeGrains}

-- Every disk tells its armed fault, and no volume's disk has one.
pub record IsQuiet (state : GrainsState) : Type 0 where
  pub told : state.silent ≡ 0
  pub unarmed : All (λ (v : VolumeGrains). v.due ≡ Some 0) state.volumes

-- A call that couldn't fail.
pub record StaysQuiet (old : GrainsState) (failed : Bool) (new : GrainsState) : Type 0 where
  pub done : failed ≡ false
  pub faults : new.faults ≡ old.faults
  pub quiet : IsQuiet new
