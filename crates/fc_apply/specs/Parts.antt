-- That the parts of a lane stand for what its past tells, and what an event does to the grains.
use Rattle.std.specs.Prelude.{◌≡◌, ℕ, ◌+◌, ◌<◌, ◌≤◌, ◌%◌, ◌==◌, ◌&&◌, cond, true, fold, IfSome, IsTrue, Option, List, [], ◌∷◌, ◌++◌, replicate, length, drop, All}
use Rattle.std.specs.List.{remove}
use Rattle.fc_base.specs.declared.decision.LaneEvent.{LaneEvent}
use Rattle.fc_base.specs.declared.decision.LaneEvent.TheVariants.{Make, Remove, Trigger, Retire, Detach, Split, Force, Drop, Forget, NoteCut, Access, Work, Arm}
use Rattle.fc_base.specs.Pools.{Pool, of_kind}
use Rattle.fc_base.specs.Room.{new_reached}
use Rattle.fc_base.specs.declared.disk.DiskKind.{DiskKind}
use Rattle.fc_base.specs.declared.ids.MapId.{MapId}
use Rattle.fc_base.specs.declared.ids.VolId.{VolId}
use Rattle.fc_chain.specs.Chains.{Chains}
use Rattle.fc_entry.specs.Picture.{zeros}
use Rattle.fc_follow.specs.Following.{FitsFollowed, Followed}
use Rattle.fc_chain.specs.Room.{HasRoomFor}
use Rattle.fc_grains.specs.Grains.{GrainsState, NewVolume, next_of, reserved_of}
use Rattle.fc_grains.specs.Volumes.{VolumeGrains, HoldsNothing, is_there, volume_of, changed, without, armed}
use Rattle.fc_mdisk.specs.Disk.{DiskState}
use Rattle.fc_pick.specs.Flags.{WorkState, is_known, with_number, without_number}
use Rattle.fc_rules.specs.LaneTold.{LaneOf, LaneTold, LaneVolume, grains_in, volumes_event, flags_event, pool_event}
use Rattle.fc_apply.specs.Accesses.{AccessState}
use Rattle.fc_steps.specs.Standing.{SameVolumes, Stands}

-- The grains, the volumes with their accesses and the flags of background work are those that are told.
pub record BesideFor (l : LaneOf) (grains : GrainsState) (accesses : AccessState) (work : WorkState) (told : LaneTold) : Type 0 where
  pub grain : grains.grain ≡ l.grain
  pub stands : Stands told.sheet told.picture grains.volumes
  pub same : SameVolumes grains.volumes told.volumes
  pub volumes_are : accesses.volumes ≡ told.volumes
  pub flags_are : work.flags ≡ told.flags
  pub pool_is : grains.pool ≡ told.pool

-- And so are the chains.
pub record StandsFor (l : LaneOf) (chains : Chains) (grains : GrainsState) (accesses : AccessState) (work : WorkState) (told : LaneTold) : Type 0 where
  pub lane_is : chains.lane ≡ l.lane
  pub lanes_are : chains.lanes ≡ l.lanes
  pub sheet_is : chains.sheet ≡ told.sheet
  pub beside : BesideFor l grains accesses work told

-- A new volume of so many grains has zeros in those of the lane.
abbrev pub new_grains : LaneOf → VolId → ℕ → DiskKind → Option ℕ → VolumeGrains
new_grains l volume grains kind due =
    record {
      volume = volume;
      kind = kind;
      contents = replicate (grains_in l grains) (zeros l.grain);
      reached = new_reached kind (grains_in l grains);
      due = due;
    }

-- What an event does to the grains: a volume comes with zeros, over a disk with no armed fault, or goes, or a fault of its
-- disk is armed where the grain is one of the lane's.
abbrev pub GrainsAfter : LaneOf → List VolumeGrains → LaneEvent → List VolumeGrains → Type 0
GrainsAfter l old (Make volume grains kind) new =
    (due : Option ℕ) × IfSome due (λ n. n ≡ 0) × (new ≡ old ++ new_grains l volume grains kind due ∷ [])
GrainsAfter l old (Remove volume) new = new ≡ without volume.0 old
GrainsAfter l old (Arm volume grain calls) new = new ≡ cond (grain.0 % l.lanes == l.lane) (changed volume.0 (armed calls) old) old
GrainsAfter l old (Trigger pairs) new = new ≡ old
GrainsAfter l old (Retire m) new = new ≡ old
GrainsAfter l old (Detach m) new = new ≡ old
GrainsAfter l old (Split m) new = new ≡ old
GrainsAfter l old (Force m dependents) new = new ≡ old
GrainsAfter l old (Drop slot) new = new ≡ old
GrainsAfter l old (Forget m) new = new ≡ old
GrainsAfter l old (NoteCut m source target) new = new ≡ old
GrainsAfter l old (Access volume access) new = new ≡ old
GrainsAfter l old (Work m copies cleans) new = new ≡ old

-- For something that could be told the parts stand, and the events fit it.
abbrev pub FitParts : LaneOf → Chains → GrainsState → AccessState → WorkState → List LaneEvent → Type 0
FitParts l chains grains accesses work events = (f : Followed) × StandsFor l chains grains accesses work f.told × FitsFollowed l f events

-- ---- room

-- The new volumes that an event makes, and those that all events make, in order.
abbrev pub new_of : LaneOf → LaneEvent → List NewVolume
new_of l (Make volume grains kind) = record { kind = kind; grains = grains_in l grains } ∷ []
new_of l event = []

abbrev pub new_volumes : LaneOf → List LaneEvent → List NewVolume
new_volumes l [] = []
new_volumes l (e ∷ es) = new_of l e ++ new_volumes l es

-- Which mappings are known to the background work after an event.
abbrev pub known_event : List ℕ → LaneEvent → List ℕ
known_event known (Work m copies cleans) = with_number m.0 known
known_event known (Forget m) = without_number m known
known_event known event = known

-- The mapping that gets work is known.
abbrev pub KnowsOf : List ℕ → LaneEvent → Type 0
KnowsOf known (Work m copies cleans) = IsTrue (is_known m known)
KnowsOf known event = Unit {0}

-- Each of them, when its turn comes.
abbrev pub KnowsAll : List ℕ → List LaneEvent → Type 0
KnowsAll known [] = Unit {0}
KnowsAll known (e ∷ es) = KnowsOf known e × KnowsAll (known_event known e) es

-- The parts beside the chains can do what the events say without taking memory.
pub record IsReadyBeside (l : LaneOf) (grains : GrainsState) (accesses : AccessState) (work : WorkState) (events : List LaneEvent) : Type 0 where
  pub volumes : grains.reserved ≡ new_volumes l events
  pub rows : length (new_volumes l events) ≤ accesses.room
  pub works : KnowsAll work.known events

-- And so can the chains.
pub record IsReadyFor (l : LaneOf) (chains : Chains) (grains : GrainsState) (accesses : AccessState) (work : WorkState) (events : List LaneEvent) : Type 0 where
  pub room : HasRoomFor chains events
  pub beside : IsReadyBeside l grains accesses work events

-- No disk was called, none came or went.
pub record SameCounts (old new : GrainsState) : Type 0 where
  pub grain : new.grain ≡ old.grain
  pub disks : new.disks ≡ old.disks
  pub silent : new.silent ≡ old.silent
  pub calls : new.calls ≡ old.calls
  pub faults : new.faults ≡ old.faults
  pub write_faults : new.write_faults ≡ old.write_faults

-- ---- one event

-- It can be done.
abbrev pub CanDo : LaneOf → GrainsState → AccessState → WorkState → LaneEvent → Type 0
CanDo l grains accesses work (Make volume size kind) =
    (0 < length grains.reserved)
    × (next_of grains.reserved ≡ record { kind = kind; grains = grains_in l size })
    × All (λ (v : VolumeGrains). v.volume.0 < volume.0) grains.volumes
    × All (λ (v : LaneVolume). v.volume.0 < volume.0) accesses.volumes
    × (0 < accesses.room)
CanDo l grains accesses work (Remove volume) = is_there grains.volumes volume.0 ≡ true
CanDo l grains accesses work (Work m copies cleans) = IsTrue (is_known m work.known)
CanDo l grains accesses work event = Unit {0}

-- It was done.
pub record HasDone (l : LaneOf) (grains : GrainsState) (accesses : AccessState) (work : WorkState) (e : LaneEvent) (grains' : GrainsState) (accesses' : AccessState) (work' : WorkState) : Type 0 where
  pub volumes : GrainsAfter l grains.volumes e grains'.volumes
  pub pool : grains'.pool ≡ pool_event grains.pool e
  pub reserved : grains'.reserved ≡ drop (length (new_of l e)) grains.reserved
  pub kept : SameCounts grains grains'
  pub accesses_are : accesses'.volumes ≡ volumes_event accesses.volumes e
  pub room : accesses.room ≤ accesses'.room + length (new_of l e)
  pub flags : work'.flags ≡ flags_event work.flags e
  pub known : work'.known ≡ known_event work.known e

-- It arms no fault.
abbrev pub ArmsNot : LaneEvent → Type 0
ArmsNot (Arm volume grain calls) = ⊥
ArmsNot event = Unit {0}

-- ---- armed faults

-- A disk's armed fault is so many calls away, where the disk tells it.
abbrev pub IsArmedAt : ℕ → Option ℕ → Type 0
IsArmedAt n due = IfSome due (λ m. m ≡ n)

-- How many calls away the armed fault of a volume's disk is after an event, 0 for none: a new volume's disk has none, and an
-- `Arm` at a grain of the lane sets it. Nothing else does.
abbrev pub armed_event : LaneOf → ℕ → ℕ → LaneEvent → ℕ
armed_event l id n (Make volume grains kind) = cond (volume.0 == id) 0 n
armed_event l id n (Arm volume grain calls) = cond ((grain.0 % l.lanes == l.lane) && (volume.0 == id)) calls n
armed_event l id n event = n

-- After events the armed faults of the volumes' disks are those that they set.
abbrev pub ArmedBy : LaneOf → List LaneEvent → List VolumeGrains → List VolumeGrains → Type 0
ArmedBy l events old new =
    (id n : ℕ) → IsArmedAt n (volume_of old id).due → IsArmedAt (fold (armed_event l id) n events) (volume_of new id).due

-- ---- disks that no volume has

-- After events: volumes took disks of the pool at these places, one after the other, and the others are as they were; and
-- behind those that were put aside are the disks of volumes that went, which hold no grain.
pub record IdleAfter (old new : GrainsState) : Type 0 where
  pub places : List ℕ
  pub taken : new.pooled ≡ fold remove old.pooled places
  pub more : List DiskState
  pub put : new.aside ≡ old.aside ++ more
  pub empty : All HoldsNothing more

-- ---- what room needs

-- A disk is left for the volume that comes with an event, beside those of the new volumes that are ready.
abbrev pub DiskOf : Pool → List NewVolume → LaneEvent → Type 0
DiskOf pool reserved (Make volume grains kind) = reserved_of kind reserved < of_kind kind pool
DiskOf pool reserved event = Unit {0}

abbrev pub HasDisks : LaneOf → Pool → List NewVolume → List LaneEvent → Type 0
HasDisks l pool reserved [] = Unit {0}
HasDisks l pool reserved (e ∷ es) = DiskOf pool reserved e × HasDisks l pool (reserved ++ new_of l e) es

-- All mappings that get work are known.
abbrev pub AreKnown : List ℕ → List LaneEvent → Type 0
AreKnown known events = All (KnowsOf known) events

-- No mapping is known less.
abbrev pub KnowsMore : List ℕ → List ℕ → Type 0
KnowsMore known more = (n : MapId) → IsTrue (is_known n known) → IsTrue (is_known n more)
