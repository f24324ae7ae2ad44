-- The write itself, once its moves are made.
use Rattle.std.specs.Prelude.{◌≡◌, ℕ, ◌+◌, ◌*◌, ◌≤◌, Bool, true, false, cond, Option, Some, None, List, map}
use Rattle.fc_base.specs.Count.{HasRisen}
use Rattle.fc_base.specs.Grain.{block_bytes, grain_bytes}
use Rattle.fc_base.specs.Moves.{write_moves}
use Rattle.fc_base.specs.Sheet.{live_place}
use Rattle.fc_base.specs.SheetFacts.{IsSound}
use Rattle.fc_base.specs.declared.request.Move.{Move}
use Rattle.fc_base.specs.declared.request.Torn.{Torn}
use Rattle.fc_base.specs.declared.request.WritePart.{WritePart}
use Rattle.fc_base.specs.declared.size.GrainSize.{GrainSize}
use Rattle.fc_chain.specs.Chains.{Chains}
use Rattle.fc_entry.specs.Picture.{Content, Bytes, written, byte_in_grain, grain_of_block}
use Rattle.fc_entry.specs.Writes.{calls_of_write, covers_grain}
use Rattle.fc_grains.specs.Grains.{GrainsState}
use Rattle.fc_grains.specs.Volumes.{stored, rooms_of}
use Rattle.fc_steps.specs.Moving.{Counted, IsTornBy, SameLane, SameRooms}
use Rattle.fc_steps.specs.Standing.{SameVolumes, Stands}
use Rattle.fc_steps.specs.StepsEnd.{StandsAt}
use Rattle.fc_steps.specs.declared.stop.Stop.{Stop}
use Rattle.fc_steps.specs.declared.stop.Stop.TheVariants.{Failed, NoMemory}
use Rattle.fc_pictures.specs.LaneLaw.{sheet_before_write}
use Rattle.fc_pictures.specs.StepsLaw.{IsLiveAt}
use Rattle.fc_rules.specs.GrainAnswers.{cannot_write}
use Rattle.fc_rules.specs.LaneFits.{FitsPart}
use Rattle.fc_rules.specs.LaneTold.{LaneOf, LaneTold, place_of, sheet_write, sheet_tear, picture_entry}
use Rattle.fc_rules.specs.LaneTurn.{spot_at}
use Rattle.fc_rules.specs.Rooms.{rooms_write, rooms_tear}
use Rattle.fc_rules.specs.Spot.{Spot, move_in}
use Rattle.fc_rules.specs.Steps.{own_step, torn_by}

-- The grain at hand became what is written: a grain that held this, with the part's bytes. Its rest was read, unless the whole
-- grain is written; and that may have failed.
pub record IsPrepared (grain : GrainSize) (part : WritePart) (content : Content) (failed : Bool) (old new : GrainsState) : Type 0 where
  pub counted : Counted old (cond (covers_grain grain part) 0 1) failed new
  pub part_failed : failed ≡ true → covers_grain grain part ≡ false
  pub bytes : failed ≡ false → Bytes new.buffer ≡ written (byte_in_grain grain part.block) (block_bytes * part.count) part.byte content
  pub stored_same : (w y : ℕ) → stored new.volumes w y ≡ stored old.volumes w y
  pub rooms_same : SameRooms old.volumes new.volumes
  pub same : SameLane old new

-- What is written is a part of a grain.
pub record IsInGrain (grain : GrainSize) (part : WritePart) : Type 0 where
  pub some : 1 ≤ part.count
  pub fits : byte_in_grain grain part.block + block_bytes * part.count ≤ grain_bytes grain

abbrev pub spot_of : LaneOf → LaneTold → WritePart → Spot
spot_of l told part = spot_at l told (grain_of_block l.grain part.block)

-- A write that fits; `t` is the place of the volume's live slot.
pub record FitsWrite (l : LaneOf) (told : LaneTold) (part : WritePart) (t : ℕ) : Type 0 where
  pub fits : FitsPart l told part.volume part.block part.count
  pub place : live_place told.sheet.slots part.volume.0 ≡ Some t
  pub live : IsLiveAt told.sheet.slots (place_of l (grain_of_block l.grain part.block)) t
  pub sound : IsSound told.sheet

-- A write that fits, and whose grain can be written; `t` is the place of the volume's live slot.
pub record IsWrite (l : LaneOf) (told : LaneTold) (part : WritePart) (t : ℕ) : Type 0 where
  pub fits : FitsPart l told part.volume part.block part.count
  pub place : live_place told.sheet.slots part.volume.0 ≡ Some t
  pub live : IsLiveAt told.sheet.slots (place_of l (grain_of_block l.grain part.block)) t
  pub sound : IsSound told.sheet
  pub writable : cannot_write l.grain (spot_of l told part) part ≡ false

-- Its moves are made.
pub record CanWriteOwn (l : LaneOf) (told : LaneTold) (part : WritePart) (t : ℕ) (chains : Chains) (grains : GrainsState) : Type 0 where
  pub is : IsWrite l told part t
  pub lane_is : chains.lane ≡ l.lane
  pub lanes_are : chains.lanes ≡ l.lanes
  pub grain_is : grains.grain ≡ l.grain
  pub sheet_is : chains.sheet ≡ sheet_before_write l told part t
  pub stands : Stands (sheet_before_write l told part t) told.picture grains.volumes
  pub same : SameVolumes grains.volumes told.volumes

-- What stands after it. Done or torn, it reached its grain.
pub record OwnStands (l : LaneOf) (told : LaneTold) (part : WritePart) (t : ℕ) (write : Option WritePart) (calls : ℕ) (torn : Option Torn) (chains : Chains) (old : GrainsState) (after : Chains) (new : GrainsState) : Type 0 where
  pub chains_are : after ≡ record chains { sheet = sheet_tear l (sheet_write l (sheet_before_write l told part t) write) torn }
  pub stands : Stands (sheet_tear l (sheet_write l (sheet_before_write l told part t) write) torn) (picture_entry l told.picture write torn) new.volumes
  pub counted : Counted old calls false new
  pub same : SameLane old new
  pub rooms : rooms_of new.volumes ≡ rooms_tear l (rooms_write l (rooms_of old.volumes) write) torn

-- A call failed.
pub record OwnFailed (l : LaneOf) (told : LaneTold) (part : WritePart) (t calls : ℕ) (torn : Option Torn) (old new : GrainsState) : Type 0 where
  pub called : 1 ≤ calls
  pub within : calls ≤ calls_of_write l.grain part
  pub torn_is : torn ≡ torn_by (spot_of l told part) (own_step l.grain (spot_of l told part) part t) calls
  pub risen : HasRisen old.faults new.faults
  pub torn_by_write : IsTornBy torn old new

-- It was done, or a call failed, or a thin disk found no memory.
abbrev pub OwnEnds : LaneOf → LaneTold → WritePart → ℕ → ℕ → Option Stop → Chains → GrainsState → Chains → GrainsState → Type 0
OwnEnds l told part t calls None chains old after new =
    (calls ≡ calls_of_write l.grain part) × OwnStands l told part t (Some part) calls None chains old after new
OwnEnds l told part t calls (Some (Failed torn)) chains old after new =
    OwnFailed l told part t calls torn old new × OwnStands l told part t None calls torn chains old after new
OwnEnds l told part t calls (Some NoMemory) chains old after new =
    (calls ≤ calls_of_write l.grain part)
    × ((spot_of l told part).is_thin part.volume.0 ≡ true)
    × OwnStands l told part t None calls None chains old after new

-- The write of an entry, which is there exactly where it was done.
abbrev pub write_in : WritePart → Option Stop → Option WritePart
write_in part None = Some part
write_in part (Some stop) = None

-- A write with its planned moves, in a lane that stands for what is told.
pub record IsPlannedWrite (l : LaneOf) (told : LaneTold) (part : WritePart) (t : ℕ) (chains : Chains) (grains : GrainsState) (plan : List Move) (number place : ℕ) : Type 0 where
  pub at : StandsAt l told chains grains
  pub is : IsWrite l told part t
  pub plan_is : plan ≡ map (move_in (spot_of l told part)) (write_moves (spot_of l told part).column t)
  pub number_is : number ≡ grain_of_block l.grain part.block
  pub place_is : place ≡ place_of l (grain_of_block l.grain part.block)
