-- Which calls and events fit a lane.
use Rattle.std.specs.Prelude.{◌≡◌, ◌≢◌, ℕ, ◌+◌, ◌<◌, ◌≤◌, ◌%◌, ◌^◌, All, IsSome, List, [], ◌∷◌}
use Rattle.fc_base.specs.Grain.{grain_blocks}
use Rattle.fc_base.specs.Pools.{of_kind}
use Rattle.fc_base.specs.Sheet.{live_place, volume_grains}
use Rattle.fc_base.specs.SheetFits.{FitsEvent}
use Rattle.fc_base.specs.declared.decision.LaneEvent.{LaneEvent}
use Rattle.fc_base.specs.declared.decision.LaneEvent.TheVariants.{Make, Remove, Trigger, Retire, Detach, Split, Force, Drop, Forget, NoteCut, Access, Work, Arm}
use Rattle.fc_base.specs.declared.ids.VolId.{VolId}
use Rattle.fc_entry.specs.Picture.{grain_of_block}
use Rattle.fc_rules.specs.LaneTold.{LaneOf, LaneTold, LaneVolume, place_of, told_event}

-- An access of blocks of one grain of the lane, of a volume that is there.
pub record FitsPart (l : LaneOf) (told : LaneTold) (volume : VolId) (block count : ℕ) : Type 0 where
  pub some : 1 ≤ count
  pub in_one : block % grain_blocks l.grain + count ≤ grain_blocks l.grain
  pub of_lane : grain_of_block l.grain block % l.lanes ≡ l.lane
  pub there : IsSome (live_place told.sheet.slots volume.0)
  pub inside : place_of l (grain_of_block l.grain block) < volume_grains told.sheet.slots volume.0

-- Beside what the chains need: a volume that comes has an id above those that are there, and there is a disk for it.
abbrev pub HasDisk : LaneTold → LaneEvent → Type 0
HasDisk told (Make volume grains kind) = (0 < of_kind kind told.pool) × All (λ (v : LaneVolume). v.volume.0 < volume.0) told.volumes
HasDisk told (Remove volume) = Unit {0}
HasDisk told (Trigger pairs) = Unit {0}
HasDisk told (Retire m) = Unit {0}
HasDisk told (Detach m) = Unit {0}
HasDisk told (Split m) = Unit {0}
HasDisk told (Force m dependents) = Unit {0}
HasDisk told (Drop slot) = Unit {0}
HasDisk told (Forget m) = Unit {0}
HasDisk told (NoteCut m source target) = Unit {0}
HasDisk told (Access volume access) = Unit {0}
HasDisk told (Work m copies cleans) = Unit {0}
HasDisk told (Arm volume grain calls) = Unit {0}

-- Events fit one after the other, and the births after them are below 2^64.
abbrev pub FitsLane : LaneOf → LaneTold → List LaneEvent → Type 0
FitsLane l told [] = told.sheet.births < 2 ^ 64
FitsLane l told (e ∷ es) = FitsEvent told.sheet e × HasDisk told e × FitsLane l (told_event l told e) es

-- ---- background work

-- A mapping that goes with the first event gets no work by the other.
abbrev pub IsNotGone : LaneEvent → LaneEvent → Type 0
IsNotGone (Forget m) (Work n copies cleans) = m.0 ≢ n.0
IsNotGone first other = Unit {0}

-- A mapping that went gets no work.
abbrev pub WorksFirst : List LaneEvent → Type 0
WorksFirst [] = Unit {0}
WorksFirst (e ∷ es) = All (IsNotGone e) es × WorksFirst es
