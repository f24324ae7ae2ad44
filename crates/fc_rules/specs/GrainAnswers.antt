-- Which answers a read, a write or a fill of one grain may have, and at which cost.
use Rattle.std.specs.Prelude.{◌≡◌, ℕ, ◌*◌, ◌≤◌, Bool, true, false, ◌&&◌, not, None, []}
use Rattle.fc_base.specs.Count.{HasRisen}
use Rattle.fc_base.specs.Grain.{block_bytes}
use Rattle.fc_base.specs.declared.request.ReadPart.{ReadPart}
use Rattle.fc_base.specs.declared.request.Reply.{Reply}
use Rattle.fc_base.specs.declared.request.Reply.TheVariants.{Done, Bytes, Moved, DiskFault, MediumError, NoMemory, Offline, NotAccessible}
use Rattle.fc_base.specs.declared.request.WritePart.{WritePart}
use Rattle.fc_base.specs.declared.size.GrainSize.{GrainSize}
use Rattle.fc_base.specs.declared.state.Access.{Access}
use Rattle.fc_base.specs.declared.state.Access.TheVariants.{Online, Offline as IsOffline, NotAccessible as IsNotAccessible}
use Rattle.fc_entry.specs.Picture.{is_lost, byte_in_grain}
use Rattle.fc_entry.specs.Reads.{IsRightIn}
use Rattle.fc_entry.specs.Writes.{covers_grain}
use Rattle.fc_entry.specs.declared.entry.Entry.{Entry}
use Rattle.fc_rules.specs.Spot.{Spot}
use Rattle.fc_rules.specs.Steps.{HasDone, HasDoneNothing, HasFailed, HasNoMemory, steps_of_fill, steps_of_write}

-- A volume that isn't online answers how it may be reached, and nothing is done.
abbrev pub ByAccess : Access → Entry → Type 0 → Type 0
ByAccess Online entry answers = answers
ByAccess (IsOffline map state) entry answers = (entry.reply ≡ Offline map state) × HasDoneNothing entry
ByAccess (IsNotAccessible map) entry answers = (entry.reply ≡ NotAccessible map) × HasDoneNothing entry

-- A read moves and tears nothing.
pub record HasRead (calls : ℕ) (entry : Entry) : Type 0 where
  pub moves : entry.moves ≡ []
  pub untorn : entry.torn ≡ None
  pub calls_are : entry.calls ≡ calls

-- A read gives the bytes that plain volumes hold, by one call; a medium error exactly where the grain is lost; a disk fault
-- where its call failed; or it wants memory.
abbrev pub ReadAnswers : GrainSize → Spot → ReadPart → Entry → Reply → Type 0
ReadAnswers grain spot part entry (Bytes runs) =
    IsRightIn (byte_in_grain grain part.block) (block_bytes * part.count) (spot.now part.volume.0) runs × HasRead 1 entry
ReadAnswers grain spot part entry MediumError = (is_lost (spot.now part.volume.0) ≡ true) × HasRead 0 entry
ReadAnswers grain spot part entry DiskFault =
    (is_lost (spot.now part.volume.0) ≡ false) × HasRead 1 entry × HasRisen entry.faults_before entry.faults_after
ReadAnswers grain spot part entry NoMemory =
    (is_lost (spot.now part.volume.0) ≡ false) × (calls : ℕ) × (calls ≤ 1) × HasRead calls entry
ReadAnswers grain spot part entry reply = ⊥

-- A part of a lost grain can't be written.
abbrev pub cannot_write : GrainSize → Spot → WritePart → Bool
cannot_write grain spot part = is_lost (spot.now part.volume.0) && not (covers_grain grain part)

-- A write to the volume with live slot `t` is done, with all moves that it owes; a medium error comes exactly where it
-- covers a part of a lost grain; a disk fault where one of its calls failed; or a thin disk wants memory.
abbrev pub WriteAnswers : GrainSize → Spot → WritePart → ℕ → Entry → Reply → Type 0
WriteAnswers grain spot part t entry Done =
    (cannot_write grain spot part ≡ false) × HasDone (steps_of_write grain spot part t) entry
WriteAnswers grain spot part t entry MediumError = (cannot_write grain spot part ≡ true) × HasDoneNothing entry
WriteAnswers grain spot part t entry DiskFault =
    (cannot_write grain spot part ≡ false) × HasFailed spot (steps_of_write grain spot part t) entry
WriteAnswers grain spot part t entry NoMemory =
    (cannot_write grain spot part ≡ false) × HasNoMemory spot (steps_of_write grain spot part t) entry
WriteAnswers grain spot part t entry reply = ⊥

-- A copy or cleaning of mapping `m` at the grain, a fill of slot `k`, has moved it; or a call failed; or a thin disk wants
-- memory.
abbrev pub FillAnswers : Spot → ℕ → ℕ → Entry → Reply → Type 0
FillAnswers spot m k entry (Moved map grain) =
    (map.0 ≡ m) × (grain.0 ≡ spot.number) × HasDone (steps_of_fill spot k) entry
FillAnswers spot m k entry DiskFault = HasFailed spot (steps_of_fill spot k) entry
FillAnswers spot m k entry NoMemory = HasNoMemory spot (steps_of_fill spot k) entry
FillAnswers spot m k entry reply = ⊥
