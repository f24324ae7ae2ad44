-- What one step of an entry does to the chains and the physical grains of a lane.
use Rattle.std.specs.Prelude.{◌≡◌, ℕ, zero, suc, ◌<◌, ◌≤◌, ◌/◌, ◌%◌, Bool, true, false, cond, ◌||◌, Option, Some, None, IfSome, List, length, map}
use Rattle.fc_base.specs.Column.{holder}
use Rattle.fc_base.specs.Count.{one_more, HasRisen}
use Rattle.fc_base.specs.Moves.{is_in_place}
use Rattle.fc_base.specs.Room.{reach}
use Rattle.fc_base.specs.Safety.{IsSafeMove}
use Rattle.fc_base.specs.Sheet.{Slot, slot_at, column, birth_place}
use Rattle.fc_base.specs.SheetStep.{sheet_moved, sheet_torn}
use Rattle.fc_base.specs.declared.disk.DiskKind.TheVariants.{Thin}
use Rattle.fc_base.specs.declared.request.Move.{Move}
use Rattle.fc_base.specs.declared.request.Side.TheVariants.{Under}
use Rattle.fc_base.specs.declared.request.Torn.{Torn}
use Rattle.fc_chain.specs.Chains.{Chains}
use Rattle.fc_entry.specs.Picture.{Lost, is_lost}
use Rattle.fc_grains.specs.Grains.{GrainsState}
use Rattle.fc_grains.specs.Quiet.{IsQuiet}
use Rattle.fc_grains.specs.Volumes.{VolumeGrains, ComeNearer, is_there, volume_of, stored, rooms_of}
use Rattle.fc_steps.specs.Standing.{kind_of_grains}
use Rattle.fc_steps.specs.declared.stop.Stop.{Stop}
use Rattle.fc_steps.specs.declared.stop.Stop.TheVariants.{Failed, NoMemory}
use Rattle.fc_pictures.specs.Law.{StoredAt, StoredMoved}

-- ---- counts

-- A count after so many more calls.
abbrev pub more : ℕ → ℕ → ℕ
more zero count = count
more (suc calls) count = one_more (more calls count)

-- So many calls of disks were made. Where one failed the faults rose; they never fall, nor do those of writes. Armed faults
-- come nearer by the calls alone, and none is armed.
pub record Counted (old : GrainsState) (calls : ℕ) (failed : Bool) (new : GrainsState) : Type 0 where
  pub calls_are : new.calls ≡ more calls old.calls
  pub kept : old.faults ≤ new.faults
  pub risen : failed ≡ true → HasRisen old.faults new.faults
  pub writes_kept : old.write_faults ≤ new.write_faults
  pub nearer : ComeNearer calls old.volumes new.volumes

-- A grain is torn by a write that failed alone: the sum of the failed writes rose, or stands at its last value.
abbrev pub IsTornBy : Option Torn → GrainsState → GrainsState → Type 0
IsTornBy torn old new = IfSome torn (λ _. HasRisen old.write_faults new.write_faults)

-- The kinds of volumes stay.
abbrev pub SameKinds : List VolumeGrains → List VolumeGrains → Type 0
SameKinds old new = (v : ℕ) → (volume_of new v).kind ≡ (volume_of old v).kind

-- What entries leave as it is: the disks, the pool and those put aside as they are, the new volumes that are ready, and the
-- ids, kinds and sizes of volumes.
-- Where no disk can fail, none does.
pub record SameLane (old new : GrainsState) : Type 0 where
  pub grain : new.grain ≡ old.grain
  pub pool : new.pool ≡ old.pool
  pub reserved : new.reserved ≡ old.reserved
  pub pooled : new.pooled ≡ old.pooled
  pub aside : new.aside ≡ old.aside
  pub disks : new.disks ≡ old.disks
  pub silent : new.silent ≡ old.silent
  pub ids : map (λ (v : VolumeGrains). v.volume) new.volumes ≡ map (λ (v : VolumeGrains). v.volume) old.volumes
  pub kinds : SameKinds old.volumes new.volumes
  pub each : map kind_of_grains new.volumes ≡ map kind_of_grains old.volumes
  pub there : (v : ℕ) → is_there new.volumes v ≡ is_there old.volumes v
  pub sizes : (v : ℕ) → length (volume_of new.volumes v).contents ≡ length (volume_of old.volumes v).contents
  pub quiet : IsQuiet old → IsQuiet new × (new.faults ≡ old.faults)

-- ---- one move

-- The move of the slot at place `k`, at place `g` of the lane, can be made now.
pub record CanMove (chains : Chains) (g : ℕ) (m : Move) (k : ℕ) : Type 0 where
  pub is_there : birth_place chains.sheet.slots m.slot.0 ≡ Some k
  pub volume : m.volume.0 ≡ (slot_at chains.sheet.slots k).volume
  pub safe : IsSafeMove (column chains.sheet.slots g) k
  pub inside : g < length (slot_at chains.sheet.slots k).held
  pub mark : m.in_place ≡ is_in_place (column chains.sheet.slots g) k
  pub of_lane : m.grain.0 % chains.lanes ≡ chains.lane
  pub place : m.grain.0 / chains.lanes ≡ g

-- The move calls no disk in place and where there is nothing to copy.
abbrev pub calls_none : List Slot → List VolumeGrains → ℕ → Bool → ℕ → Bool
calls_none slots vs g in_place h = in_place || is_lost (stored vs (slot_at slots h).volume g)

-- Otherwise it makes two calls.
abbrev pub calls_of_move : List Slot → List VolumeGrains → ℕ → Bool → ℕ → ℕ
calls_of_move slots vs g in_place h = cond (calls_none slots vs g in_place h) 0 2

-- The volumes occupy the memory that they did.
abbrev pub SameRooms : List VolumeGrains → List VolumeGrains → Type 0
SameRooms old new = rooms_of new ≡ rooms_of old

-- It was made. Where it called disks, its write reached its grain.
pub record MoveMade (chains : Chains) (old : GrainsState) (g k : ℕ) (m : Move) (calls : ℕ) (after : Chains) (new : GrainsState) : Type 0 where
  pub chains_are : after ≡ record chains { sheet = sheet_moved (slot_at chains.sheet.slots k).volume g m.in_place chains.sheet }
  pub stored_is : StoredMoved chains.sheet.slots (stored old.volumes) k g m.in_place (stored new.volumes)
  pub calls_are : (h : ℕ) → holder (column chains.sheet.slots g) k ≡ Some h → calls ≡ calls_of_move chains.sheet.slots old.volumes g m.in_place h
  pub rooms : (h : ℕ) → holder (column chains.sheet.slots g) k ≡ Some h →
      rooms_of new.volumes ≡ cond (calls_none chains.sheet.slots old.volumes g m.in_place h) (rooms_of old.volumes) (reach m.volume.0 g (rooms_of old.volumes))

-- It wasn't: it is out of place and there was something to copy.
pub record MoveNotMade (chains : Chains) (old : GrainsState) (g k : ℕ) (m : Move) : Type 0 where
  pub out : m.in_place ≡ false
  pub holder_is : ℕ
  pub holds : holder (column chains.sheet.slots g) k ≡ Some holder_is
  pub readable : is_lost (stored old.volumes (slot_at chains.sheet.slots holder_is).volume g) ≡ false

-- A call failed: its read, and then nothing changed; or its write, which tore the volume's grain, and reached it.
abbrev pub MoveTorn : Chains → GrainsState → ℕ → ℕ → Move → ℕ → Option Torn → Chains → GrainsState → Type 0
MoveTorn chains old g k m calls None after new =
    (calls ≡ 1) × (after ≡ chains) × ((w y : ℕ) → stored new.volumes w y ≡ stored old.volumes w y) × SameRooms old.volumes new.volumes
MoveTorn chains old g k m calls (Some torn) after new =
    (calls ≡ 2)
    × (torn ≡ record { volume = m.volume; grain = m.grain; side = Under })
    × (after ≡ record chains { sheet = sheet_torn (slot_at chains.sheet.slots k).volume g Under chains.sheet })
    × StoredAt (stored old.volumes) (slot_at chains.sheet.slots k).volume g Lost (stored new.volumes)
    × HasRisen old.write_faults new.write_faults
    × (rooms_of new.volumes ≡ reach m.volume.0 g (rooms_of old.volumes))

abbrev pub MoveEnds : Chains → GrainsState → ℕ → ℕ → Move → ℕ → Option Stop → Chains → GrainsState → Type 0
MoveEnds chains old g k m calls None after new = MoveMade chains old g k m calls after new × Counted old calls false new
MoveEnds chains old g k m calls (Some (Failed torn)) after new =
    MoveNotMade chains old g k m × MoveTorn chains old g k m calls torn after new × Counted old calls true new
MoveEnds chains old g k m calls (Some NoMemory) after new =
    MoveNotMade chains old g k m
    × (calls ≡ 2)
    × (after ≡ chains)
    × ((w y : ℕ) → stored new.volumes w y ≡ stored old.volumes w y)
    × SameRooms old.volumes new.volumes
    × ((volume_of old.volumes (slot_at chains.sheet.slots k).volume).kind ≡ Thin)
    × Counted old calls false new
