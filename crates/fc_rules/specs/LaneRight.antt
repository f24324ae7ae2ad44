-- When an entry of a lane is right after what its past tells.
use Rattle.std.specs.Prelude.{◌≡◌, ℕ, ◌≤◌, Option, Some, None, []}
use Rattle.fc_base.specs.Sheet.{live_place}
use Rattle.fc_base.specs.declared.ids.MapId.{MapId}
use Rattle.fc_base.specs.declared.ids.GrainNo.{GrainNo}
use Rattle.fc_base.specs.declared.request.Place.TheVariants.{Lane}
use Rattle.fc_base.specs.declared.request.Reply.{Reply}
use Rattle.fc_base.specs.declared.request.Reply.TheVariants.{Done, Idle}
use Rattle.fc_base.specs.declared.request.Request.{Request}
use Rattle.fc_base.specs.declared.request.Request.TheVariants.{Read, Write, Copy, Clean, CopyTurn, CleanTurn}
use Rattle.fc_base.specs.declared.request.WritePart.{WritePart}
use Rattle.fc_entry.specs.Picture.{grain_of_block}
use Rattle.fc_entry.specs.declared.entry.Entry.{Entry}
use Rattle.fc_entry.specs.declared.entry.Past.{Past}
use Rattle.fc_entry.specs.declared.entry.Past.TheVariants.{Step}
use Rattle.fc_rules.specs.GrainAnswers.{ByAccess, ReadAnswers, WriteAnswers, FillAnswers}
use Rattle.fc_rules.specs.LaneTold.{LaneOf, LaneTold, place_of, lane_access}
use Rattle.fc_rules.specs.LaneTurn.{spot_at, copied_slot, cleaned_slot, next_copy, next_clean}
use Rattle.fc_rules.specs.Steps.{HasDoneNothing}

-- What a write of a volume answers; the volume has a live slot.
abbrev pub VolumeWrite : LaneOf → LaneTold → WritePart → Option ℕ → Entry → Type 0
VolumeWrite l told part None entry = ⊥
VolumeWrite l told part (Some t) entry =
    WriteAnswers l.grain (spot_at l told (grain_of_block l.grain part.block)) part t entry entry.reply

-- What a copy or cleaning of a mapping at a grain answers, where it is possible.
abbrev pub MappingFill : LaneOf → LaneTold → ℕ → ℕ → Option ℕ → Entry → Type 0
MappingFill l told m number None entry = ⊥
MappingFill l told m number (Some k) entry = FillAnswers (spot_at l told number) m k entry entry.reply

abbrev pub CopyAnswers : LaneOf → LaneTold → MapId → GrainNo → Entry → Type 0
CopyAnswers l told m grain entry =
    MappingFill l told m.0 grain.0 (copied_slot told.sheet.slots m.0 (place_of l grain.0)) entry

abbrev pub CleanAnswers : LaneOf → LaneTold → MapId → GrainNo → Entry → Type 0
CleanAnswers l told m grain entry =
    MappingFill l told m.0 grain.0 (cleaned_slot told.sheet.slots m.0 (place_of l grain.0)) entry

-- A worker's turn takes the next piece of work, and is idle exactly where there is none.
abbrev pub TurnAnswers : (MapId → GrainNo → Entry → Type 0) → Option (MapId × GrainNo) → Entry → Type 0
TurnAnswers answers None entry = (entry.reply ≡ Idle) × HasDoneNothing entry
TurnAnswers answers (Some work) entry = answers work.0 work.1 entry

-- What a request may answer.
abbrev pub LaneAnswers : LaneOf → LaneTold → Request → Entry → Type 0
LaneAnswers l told (Read part) entry =
    ByAccess (lane_access told.volumes part.volume) entry
    (ReadAnswers l.grain (spot_at l told (grain_of_block l.grain part.block)) part entry entry.reply)
LaneAnswers l told (Write part) entry =
    ByAccess (lane_access told.volumes part.volume) entry
    (VolumeWrite l told part (live_place told.sheet.slots part.volume.0) entry)
LaneAnswers l told (Copy m grain) entry = CopyAnswers l told m grain entry
LaneAnswers l told (Clean m grain) entry = CleanAnswers l told m grain entry
LaneAnswers l told (CopyTurn lane) entry = TurnAnswers (CopyAnswers l told) (next_copy l told) entry
LaneAnswers l told (CleanTurn lane) entry = TurnAnswers (CleanAnswers l told) (next_clean l told) entry
LaneAnswers l told request entry = ⊥

-- An entry of a lane: it begins with the lane's faults, which never fall, has no effects, and answers as its request may.
pub record IsRightInLane (l : LaneOf) (told : LaneTold) (entry : Entry) : Type 0 where
  pub place : entry.place ≡ Lane l.lane
  pub faults_before : entry.faults_before ≡ told.faults
  pub faults_kept : entry.faults_before ≤ entry.faults_after
  pub no_effects : entry.effects ≡ []
  pub answers : LaneAnswers l told entry.request entry

-- The record of an entry: its write where that was done, its moves, what it tore, and the counts.
abbrev pub done_write : Request → Reply → Option WritePart
done_write (Write part) Done = Some part
done_write request reply = None

abbrev pub record_of : Entry → Past
record_of entry = Step entry.number (done_write entry.request entry.reply) entry.moves entry.torn entry.faults_after entry.calls
