-- When an entry of a lane may come next, by what is kept.
use Rattle.std.specs.Prelude.{◌≡◌, ℕ, ◌+◌, ◌<◌, ◌≤◌, ◌%◌, Option, Some, None, [], length, Contains, slice_index_or}
use Rattle.fc_base.specs.Grain.{grain_blocks}
use Rattle.fc_base.specs.Sheet.{live_place}
use Rattle.fc_base.specs.declared.ids.VolId.{VolId}
use Rattle.fc_base.specs.declared.ids.MapId.{MapId}
use Rattle.fc_base.specs.declared.ids.GrainNo.{GrainNo}
use Rattle.fc_base.specs.declared.request.Place.TheVariants.{Lane}
use Rattle.fc_base.specs.declared.request.ReadPart.{ReadPart}
use Rattle.fc_base.specs.declared.request.Request.{Request}
use Rattle.fc_base.specs.declared.request.Request.TheVariants.{Read, Write, Copy, Clean, CopyTurn, CleanTurn}
use Rattle.fc_base.specs.declared.request.WritePart.{WritePart}
use Rattle.fc_entry.specs.Picture.{grain_of_block}
use Rattle.fc_entry.specs.declared.entry.Entry.{Entry}
use Rattle.fc_rules.specs.GrainAnswers.{ByAccess, ReadAnswers, WriteAnswers, FillAnswers}
use Rattle.fc_rules.specs.LaneRight.{TurnAnswers}
use Rattle.fc_rules.specs.LaneTold.{lane_access}
use Rattle.fc_check_lane.specs.Known.{Known, spot_in}
use Rattle.fc_check_lane.specs.Steps.{CanWriteTo}
use Rattle.fc_check_lane.specs.Turns.{filled_in, next_in}
use Rattle.fc_check_lane.specs.declared.turn.Work.{Work}
use Rattle.fc_check_lane.specs.declared.turn.Work.TheVariants.{Copying, Cleaning}
use Rattle.fc_check_lane.specs.declared.volume.VolumeSize.{VolumeSize}

-- One block or more of a volume that is there, all inside it and inside one grain.
pub record HasGrain (k : Known) (volume : VolId) (number : ℕ) : Type 0 where
  pub of : VolumeSize
  pub there : Contains k.sizes of
  pub id_is : of.volume.0 ≡ volume.0
  pub inside : number < of.grains

pub record IsInsideIn (k : Known) (volume : VolId) (block count : ℕ) : Type 0 where
  pub has : HasGrain k volume (grain_of_block k.grain block)
  pub some : 1 ≤ count
  pub in_one : block % grain_blocks k.grain + count ≤ grain_blocks k.grain

-- An entry of a lane: it begins with the lane's faults, which never fall, and has no effects.
pub record IsOfLane (k : Known) (i : ℕ) (entry : Entry) : Type 0 where
  pub place : entry.place ≡ Lane i
  pub faults_before : entry.faults_before ≡ slice_index_or k.faults i 0
  pub faults_kept : entry.faults_before ≤ entry.faults_after
  pub no_effects : entry.effects ≡ []

-- The same of the lane of a grain.
abbrev pub IsOfGrain : Known → ℕ → Entry → Type 0
IsOfGrain k number entry = IsOfLane k (number % length k.faults) entry

-- What requests may answer.
abbrev pub ReadIn : Known → ReadPart → Entry → Type 0
ReadIn k part entry =
    ByAccess (lane_access k.volumes part.volume) entry
    (ReadAnswers k.grain (spot_in k (grain_of_block k.grain part.block)) part entry entry.reply)

abbrev pub VolumeWriteIn : Known → WritePart → Option ℕ → Entry → Type 0
VolumeWriteIn k part None entry = ⊥
VolumeWriteIn k part (Some t) entry = WriteAnswers k.grain (spot_in k (grain_of_block k.grain part.block)) part t entry entry.reply

abbrev pub WriteIn : Known → WritePart → Entry → Type 0
WriteIn k part entry =
    ByAccess (lane_access k.volumes part.volume) entry (VolumeWriteIn k part (live_place k.sheet.slots part.volume.0) entry)

abbrev pub MappingFillIn : Known → ℕ → ℕ → Option ℕ → Entry → Type 0
MappingFillIn k m number None entry = ⊥
MappingFillIn k m number (Some p) entry = FillAnswers (spot_in k number) m p entry entry.reply

abbrev pub FillIn : Work → Known → MapId → GrainNo → Entry → Type 0
FillIn work k m grain entry = MappingFillIn k m.0 grain.0 (filled_in work k m.0 grain.0) entry

abbrev pub TurnIn : Work → Known → ℕ → Entry → Type 0
TurnIn work k i entry = TurnAnswers (λ m grain e. FillIn work k m grain e) (next_in work k i) entry

-- By the request.
abbrev pub RequestIn : Known → Request → Entry → Type 0
RequestIn k (Read part) entry =
    IsInsideIn k part.volume part.block part.count × IsOfGrain k (grain_of_block k.grain part.block) entry × ReadIn k part entry
RequestIn k (Write part) entry =
    IsInsideIn k part.volume part.block part.count × IsOfGrain k (grain_of_block k.grain part.block) entry × WriteIn k part entry
RequestIn k (Copy m grain) entry = IsOfGrain k grain.0 entry × FillIn Copying k m grain entry
RequestIn k (Clean m grain) entry = IsOfGrain k grain.0 entry × FillIn Cleaning k m grain entry
RequestIn k (CopyTurn lane) entry = (lane < length k.faults) × IsOfLane k lane entry × TurnIn Copying k lane entry
RequestIn k (CleanTurn lane) entry = (lane < length k.faults) × IsOfLane k lane entry × TurnIn Cleaning k lane entry
RequestIn k request entry = ⊥

pub record IsNextIn (k : Known) (entry : Entry) : Type 0 where
  pub number : entry.number ≡ k.entries
  pub right : RequestIn k entry.request entry

-- Volumes that are there have a live slot with all their grains, in chains such as are reached.
abbrev pub CanBeWritten : Known → Type 0
CanBeWritten k = (volume : VolId) (number : ℕ) → HasGrain k volume number → CanWriteTo k volume.0 number
