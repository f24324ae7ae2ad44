-- A lane that has every grain, as it is kept: its spots, and what requests answer there.
use Rattle.std.proofs.Common.{◌≡◌, ◌↔◌, ℕ, Option, Some, None, ap}
use Rattle.fc_base.specs.Sheet.{column, live_place}
use Rattle.fc_base.specs.declared.ids.GrainNo.{GrainNo}
use Rattle.fc_base.specs.declared.ids.MapId.{MapId}
use Rattle.fc_base.specs.declared.request.ReadPart.{ReadPart}
use Rattle.fc_base.specs.declared.request.WritePart.{WritePart}
use Rattle.fc_entry.specs.Picture.{volume_in, now_at, grain_of_block}
use Rattle.fc_entry.specs.declared.entry.Entry.{Entry}
use Rattle.fc_legal.specs.Whole.{single_lane}
use Rattle.fc_parts.proofs.Numbers.{all_place}
use Rattle.fc_rules.specs.GrainAnswers.{ByAccess, ReadAnswers, WriteAnswers, FillAnswers}
use Rattle.fc_rules.specs.LaneRight.{VolumeWrite, MappingFill, CopyAnswers, CleanAnswers}
use Rattle.fc_rules.specs.LaneTold.{LaneTold, lane_access, is_thin_in, place_of}
use Rattle.fc_rules.specs.LaneTurn.{spot_at, copied_slot, cleaned_slot}
use Rattle.fc_rules.specs.Spot.{Spot}
use Rattle.fc_check_lane.specs.Known.{Known, spot_in}
use Rattle.fc_check_lane.specs.Answers.{ReadIn, WriteIn, VolumeWriteIn, MappingFillIn, FillIn}
use Rattle.fc_check_lane.specs.declared.turn.Work.TheVariants.{Copying, Cleaning}
use Rattle.fc_check_lane.proofs.Verdicts.{iff_along, iff_trans, access_iff}

-- what is kept, as such a lane is told it
abbrev pub told_in : Known → LaneTold
told_in k =
    record { sheet = k.sheet; picture = k.picture; volumes = k.volumes; flags = k.flags; pool = record { flat = 0; thin = 0 }; faults = 0; calls = 0 }

-- a spot, by a grain's place and its number
abbrev spot_by : Known → ℕ → ℕ → Spot
spot_by k number place =
    record {
      column = column k.sheet.slots place;
      number = number;
      now = λ v. now_at (volume_in k.picture record { 0 = v }) place;
      is_thin = λ v. is_thin_in k.volumes v;
    }

pub spot_plain : (k : Known) (number : ℕ) → spot_at (single_lane k.grain) (told_in k) number ≡ spot_in k number
spot_plain k number = ap (spot_by k number) (all_place k.grain number)

-- ---- what requests answer

pub read_same : (k : Known) (part : ReadPart) (entry : Entry) →
    ByAccess (lane_access k.volumes part.volume) entry
    (ReadAnswers k.grain (spot_at (single_lane k.grain) (told_in k) (grain_of_block k.grain part.block)) part entry entry.reply)
    ↔ ReadIn k part entry
read_same k part entry =
    access_iff (lane_access k.volumes part.volume) entry _ _
    (iff_along (λ (z : Spot). ReadAnswers k.grain z part entry entry.reply) _ _ (spot_plain k (grain_of_block k.grain part.block)))

volume_write_same : (k : Known) (part : WritePart) (o : Option ℕ) (entry : Entry) → VolumeWrite (single_lane k.grain) (told_in k) part o entry ↔ VolumeWriteIn k part o entry
volume_write_same k part None entry = (λ a. a, λ a. a)
volume_write_same k part (Some t) entry =
    iff_along (λ (z : Spot). WriteAnswers k.grain z part t entry entry.reply) _ _ (spot_plain k (grain_of_block k.grain part.block))

pub write_same : (k : Known) (part : WritePart) (entry : Entry) →
    ByAccess (lane_access k.volumes part.volume) entry (VolumeWrite (single_lane k.grain) (told_in k) part (live_place k.sheet.slots part.volume.0) entry)
    ↔ WriteIn k part entry
write_same k part entry =
    access_iff (lane_access k.volumes part.volume) entry _ _ (volume_write_same k part (live_place k.sheet.slots part.volume.0) entry)

fill_same : (k : Known) (m number : ℕ) (o : Option ℕ) (entry : Entry) → MappingFill (single_lane k.grain) (told_in k) m number o entry ↔ MappingFillIn k m number o entry
fill_same k m number None entry = (λ a. a, λ a. a)
fill_same k m number (Some p) entry = iff_along (λ (z : Spot). FillAnswers z m p entry entry.reply) _ _ (spot_plain k number)

pub copy_same : (k : Known) (m : MapId) (grain : GrainNo) (entry : Entry) → CopyAnswers (single_lane k.grain) (told_in k) m grain entry ↔ FillIn Copying k m grain entry
copy_same k m grain entry =
    iff_trans (fill_same k m.0 grain.0 (copied_slot k.sheet.slots m.0 (place_of (single_lane k.grain) grain.0)) entry)
    (iff_along (λ (o : Option ℕ). MappingFillIn k m.0 grain.0 o entry) _ _ (ap (copied_slot k.sheet.slots m.0) (all_place k.grain grain.0)))

pub clean_same : (k : Known) (m : MapId) (grain : GrainNo) (entry : Entry) → CleanAnswers (single_lane k.grain) (told_in k) m grain entry ↔ FillIn Cleaning k m grain entry
clean_same k m grain entry =
    iff_trans (fill_same k m.0 grain.0 (cleaned_slot k.sheet.slots m.0 (place_of (single_lane k.grain) grain.0)) entry)
    (iff_along (λ (o : Option ℕ). MappingFillIn k m.0 grain.0 o entry) _ _ (ap (cleaned_slot k.sheet.slots m.0) (all_place k.grain grain.0)))
