-- What fits a lane can be read.
use Rattle.std.proofs.Common.{◌≡◌, ℕ, ◌/◌, ◌%◌, Some, sym, ap, subst, ◌∙◌}
use Rattle.fc_base.specs.Grain.{grain_blocks}
use Rattle.fc_base.specs.declared.size.GrainSize.{GrainSize}
use Rattle.fc_base.specs.Sheet.{Sheet, live_place}
use Rattle.fc_base.specs.declared.request.ReadPart.{ReadPart}
use Rattle.fc_entry.specs.Picture.{grain_of_block}
use Rattle.fc_grains.specs.Grains.{GrainsState}
use Rattle.fc_lane.specs.Lane.{LaneView, IsLaneOf, of}
use Rattle.fc_steps.specs.Reading.{CanRead, ReadEnds}
use Rattle.fc_base.specs.SheetFacts.{IsSound}
use Rattle.fc_apply.specs.Parts.{BesideFor}
use Rattle.fc_steps.specs.Standing.{AllSized}
use Rattle.fc_pictures.specs.StepsLaw.{IsLiveAt}
use Rattle.fc_steps.specs.declared.read.GrainRead.{GrainRead}
use Rattle.fc_pictures.proofs.Agreeing.{lane_law_holds}
use Rattle.fc_rules.specs.LaneFits.{FitsPart}
use Rattle.fc_rules.specs.LaneTold.{LaneTold}

-- what fits a lane can be read
pub can_read : (v : LaneView) (told : LaneTold) (part : ReadPart) (number : ℕ) → IsLaneOf v told → FitsPart (of v) told part.volume part.block part.count → number ≡ grain_of_block v.grains.grain part.block →
    CanRead v.chains v.grains part.volume.0 number (number / v.lanes)
can_read v told part number i f e =
    subst (λ (n : ℕ). CanRead v.chains v.grains part.volume.0 n (n / v.lanes)) (sym e) (by
    (subst (λ (s : Sheet). AllSized s v.grains.volumes) same b.stands.sized)
    (lane_law_holds.write_slot told.sheet.slots part.volume.0 place f.there f.inside))
  where
    n : ℕ
    n = grain_of_block v.grains.grain part.block

    place : ℕ
    place = n / v.lanes

    b : BesideFor (of v) v.grains v.accesses v.work told
    b = i.parts.beside

    same : told.sheet ≡ v.chains.sheet
    same = sym i.parts.sheet_is

    by : AllSized v.chains.sheet v.grains.volumes → (t : ℕ) × (live_place told.sheet.slots part.volume.0 ≡ Some t) × IsLiveAt told.sheet.slots place t → CanRead v.chains v.grains part.volume.0 n place
    by sized (t, live, at) = record {
      sound = subst IsSound same b.stands.sound;
      sized = sized;
      of_lane = ap (λ z. n % z) i.parts.lanes_are ∙ (f.of_lane ∙ sym i.parts.lane_is);
      place_is = ap (λ z. n / z) i.parts.lanes_are;
      reader = t;
      live = subst (λ (s : Sheet). live_place s.slots part.volume.0 ≡ Some t) same live;
      there = subst (λ (s : Sheet). IsLiveAt s.slots place t) same at;
    }

-- and so where there is something that fits
pub can_read_now : (v w : LaneView) (part : ReadPart) (number : ℕ) → v ≡ w → (told : LaneTold) × IsLaneOf w told × FitsPart (of w) told part.volume part.block part.count → number ≡ grain_of_block v.grains.grain part.block →
    CanRead v.chains v.grains part.volume.0 number (number / v.lanes)
can_read_now v w part number is fits e =
    let f = subst (λ (x : LaneView). (told : LaneTold) × IsLaneOf x told × FitsPart (of x) told part.volume part.block part.count) (sym is) fits in
    can_read v f.0 part number f.1 f.2 e

pub ends_as : (sheet : Sheet) (old : GrainsState) (volume place : ℕ) (result end : GrainRead) (new : GrainsState) → result ≡ end → ReadEnds sheet old volume place result new → ReadEnds sheet old volume place end new
ends_as sheet old volume place result end new is ends = subst (λ (x : GrainRead). ReadEnds sheet old volume place x new) is ends

pub place_is : (grain own : GrainSize) (block blocks lanes : ℕ) → blocks ≡ grain_blocks own → own ≡ grain → block / blocks / lanes ≡ grain_of_block grain block / lanes
place_is grain own block blocks lanes e same = ap (λ z. block / z / lanes) (e ∙ ap grain_blocks same)
