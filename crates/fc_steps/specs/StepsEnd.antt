-- How far the steps of an entry came, and what stands after them.
use Rattle.std.specs.Prelude.{◌≡◌, ℕ, ◌+◌, ◌≤◌, ◌%◌, true, false, Option, Some, None, List, ◌∷◌, ◌++◌}
use Rattle.fc_base.specs.Count.{HasRisen}
use Rattle.fc_base.specs.declared.request.Move.{Move}
use Rattle.fc_base.specs.declared.request.Torn.{Torn}
use Rattle.fc_base.specs.declared.request.WritePart.{WritePart}
use Rattle.fc_chain.specs.Chains.{Chains}
use Rattle.fc_grains.specs.Grains.{GrainsState}
use Rattle.fc_grains.specs.Volumes.{rooms_of}
use Rattle.fc_steps.specs.Moving.{Counted, IsTornBy, SameLane}
use Rattle.fc_steps.specs.Standing.{SameVolumes, Stands}
use Rattle.fc_steps.specs.declared.stop.Stop.{Stop}
use Rattle.fc_steps.specs.declared.stop.Stop.TheVariants.{Failed, NoMemory}
use Rattle.fc_pictures.specs.StepsLaw.{MovesRun}
use Rattle.fc_rules.specs.LaneTold.{LaneOf, LaneTold, sheet_entry, picture_entry}
use Rattle.fc_rules.specs.Rooms.{rooms_told}
use Rattle.fc_rules.specs.Spot.{Spot}
use Rattle.fc_rules.specs.Steps.{DiskStep, calls_of_steps, moves_of, torn_by}

-- What a stop leaves torn.
abbrev pub torn_in : Option Stop → Option Torn
torn_in None = None
torn_in (Some (Failed torn)) = torn
torn_in (Some NoMemory) = None

-- ---- how far they came

-- They stopped at a step, after `extra` of its calls; those before it were done.
pub record StoppedIn (steps : List DiskStep) (moves : List Move) (calls : ℕ) (step : DiskStep) (extra : ℕ) : Type 0 where
  pub before : List DiskStep
  pub after : List DiskStep
  pub steps_are : steps ≡ before ++ step ∷ after
  pub moves_are : moves ≡ moves_of before
  pub calls_are : calls ≡ calls_of_steps before + extra
  pub within : extra ≤ step.calls

-- A call failed. What is torn was torn by a write that failed.
pub record FailedIn (spot : Spot) (steps : List DiskStep) (moves : List Move) (calls : ℕ) (torn : Option Torn) (old new : GrainsState) : Type 0 where
  pub step : DiskStep
  pub extra : ℕ
  pub stopped : StoppedIn steps moves calls step extra
  pub called : 1 ≤ extra
  pub torn_is : torn ≡ torn_by spot step extra
  pub risen : HasRisen old.faults new.faults
  pub torn_by_write : IsTornBy torn old new

-- A thin disk found no memory.
pub record RefusedIn (spot : Spot) (steps : List DiskStep) (moves : List Move) (calls : ℕ) : Type 0 where
  pub step : DiskStep
  pub extra : ℕ
  pub stopped : StoppedIn steps moves calls step extra
  pub thin : spot.is_thin step.volume ≡ true

-- All were done, or one wasn't.
abbrev pub StepsEnd : Spot → List DiskStep → List Move → ℕ → Option Stop → GrainsState → GrainsState → Type 0
StepsEnd spot steps moves calls None old new = (moves ≡ moves_of steps) × (calls ≡ calls_of_steps steps)
StepsEnd spot steps moves calls (Some (Failed torn)) old new = FailedIn spot steps moves calls torn old new
StepsEnd spot steps moves calls (Some NoMemory) old new = RefusedIn spot steps moves calls

-- ---- what stands then

-- The chains and the grains are as an entry with this write, these moves and this torn grain tells, and so is the memory that
-- the disks use.
pub record StepsStand (l : LaneOf) (told : LaneTold) (write : Option WritePart) (moves : List Move) (calls : ℕ) (torn : Option Torn) (chains : Chains) (old : GrainsState) (after : Chains) (new : GrainsState) : Type 0 where
  pub chains_are : after ≡ record chains { sheet = sheet_entry l told.sheet write moves torn }
  pub stands : Stands (sheet_entry l told.sheet write moves torn) (picture_entry l told.picture write torn) new.volumes
  pub counted : Counted old calls false new
  pub same : SameLane old new
  pub rooms : rooms_of new.volumes ≡ rooms_told l told.picture (rooms_of old.volumes) write moves torn

-- ---- where moves can be made

-- The lane stands for what is told.
pub record StandsAt (l : LaneOf) (told : LaneTold) (chains : Chains) (grains : GrainsState) : Type 0 where
  pub lane_is : chains.lane ≡ l.lane
  pub lanes_are : chains.lanes ≡ l.lanes
  pub sheet_is : chains.sheet ≡ told.sheet
  pub grain_is : grains.grain ≡ l.grain
  pub stands : Stands told.sheet told.picture grains.volumes
  pub same : SameVolumes grains.volumes told.volumes

-- The moves of these slots at a grain of the lane can be made, one after the other.
pub record CanMakeMoves (l : LaneOf) (told : LaneTold) (number : ℕ) (ks : List ℕ) (chains : Chains) (grains : GrainsState) : Type 0 where
  pub at : StandsAt l told chains grains
  pub of_lane : number % l.lanes ≡ l.lane
  pub run : MovesRun l told number ks
