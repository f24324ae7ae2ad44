-- Lanes that stand while a command is done.
use Rattle.std.specs.Prelude.{◌≡◌, ltb, Bool, List, length, filter, Contains}
use Rattle.fc_base.specs.declared.size.GrainSize.{GrainSize}
use Rattle.fc_base.specs.declared.volume.Volume.{Volume}
use Rattle.fc_lane.specs.Lane.{LaneView}
use Rattle.fc_legal.specs.Whole.{Whole, lanes}
use Rattle.fc_stands.specs.Store.{AreLanesOf}

-- They stand for what is told.
pub record HaveLanes (grain : GrainSize) (w : Whole) (ls : List LaneView) : Type 0 where
  pub count : length ls ≡ lanes w
  pub each : AreLanesOf grain w ls

-- A lane has as many disks of each kind as before.
abbrev pub HasSameDisks : LaneView → LaneView → Type 0
HasSameDisks old new = new.grains.disks ≡ old.grains.disks

-- Of volumes that were there none went, and those that came have later ids; and none came.
abbrev pub was_given : Whole → Volume → Bool
was_given w v = ltb v.id.0 w.books.next_volume

abbrev pub NoneWent : Whole → Whole → Type 0
NoneWent w now = filter (was_given w) now.books.tables.volumes ≡ w.books.tables.volumes

abbrev pub NoneCame : Whole → Whole → Type 0
NoneCame w now = (v : Volume) → Contains now.books.tables.volumes v → Contains w.books.tables.volumes v
