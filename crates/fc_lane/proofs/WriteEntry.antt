-- The entry of a write.
use Rattle.std.proofs.Common.{◌≡◌, ℕ, true, false, Option, Some, None, List, refl, sym, ap, subst, ◌∙◌}
use Rattle.fc_base.specs.Sheet.{live_place}
use Rattle.fc_base.specs.declared.request.Move.{Move}
use Rattle.fc_base.specs.declared.request.Reply.{Reply}
use Rattle.fc_base.specs.declared.request.Reply.TheVariants.{Done, MediumError}
use Rattle.fc_base.specs.declared.request.Request.TheVariants.{Write}
use Rattle.fc_base.specs.declared.request.WritePart.{WritePart}
use Rattle.fc_base.specs.declared.state.Access.{Access}
use Rattle.fc_base.specs.declared.state.Access.TheVariants.{Online}
use Rattle.fc_entry.specs.Picture.{grain_of_block}
use Rattle.fc_entry.specs.declared.entry.Entry.{Entry}
use Rattle.fc_entry.specs.declared.entry.Past.{Past}
use Rattle.fc_entry.specs.declared.entry.Past.TheVariants.{Step}
use Rattle.fc_grains.specs.Grains.{GrainsState}
use Rattle.fc_steps.specs.WriteStep.{FitsWrite, spot_of, write_in}
use Rattle.fc_lane.specs.Entering.{SameBeside}
use Rattle.fc_steps.specs.Asking.{steps_entry}
use Rattle.fc_lane.specs.Lane.{LaneView, IsLaneOf, of}
use Rattle.fc_steps.specs.StepsEnd.{StepsEnd, StepsStand, torn_in}
use Rattle.fc_steps.specs.declared.stop.Stop.{Stop}
use Rattle.fc_steps.specs.declared.stop.Stop.TheVariants.{Failed, NoMemory as WantsMemory}
use Rattle.fc_steps.proofs.Ending.{entry_done, entry_failed, entry_refused}
use Rattle.fc_lane.proofs.Entering.{lane_after}
use Rattle.fc_pictures.proofs.Agreeing.{lane_law_holds}
use Rattle.fc_rules.specs.GrainAnswers.{ByAccess, WriteAnswers, cannot_write}
use Rattle.fc_rules.specs.LaneFits.{FitsPart}
use Rattle.fc_rules.specs.LaneRight.{IsRightInLane, VolumeWrite, record_of}
use Rattle.fc_rules.specs.LaneTold.{LaneOf, LaneTold, lane_access, place_of, told_past}
use Rattle.fc_rules.specs.Steps.{HasDoneNothing, steps_of_write}

-- ---- a write that fits

pub fits_write : (v : LaneView) (told : LaneTold) (part : WritePart) → IsLaneOf v told → FitsPart (of v) told part.volume part.block part.count → (t : ℕ) × FitsWrite (of v) told part t
fits_write v told part s f =
    let x = lane_law_holds.write_slot told.sheet.slots part.volume.0 (place_of (of v) (grain_of_block (of v).grain part.block)) f.there f.inside in
    (x.0, record { fits = f; place = x.1; live = x.2; sound = s.parts.beside.stands.sound })

-- ---- the entry

pub write_told : (part : WritePart) (stop : Option Stop) (l : LaneOf) (told : LaneTold) (lane number actor before after : ℕ) (moves : List Move) (calls : ℕ) →
    record_of (steps_entry lane number actor (Write part) Done before after moves calls stop) ≡ Step number (write_in part stop) moves (torn_in stop) after calls
write_told part None l told lane n actor before after moves calls = refl
write_told part (Some (Failed torn)) l told lane n actor before after moves calls = refl
write_told part (Some WantsMemory) l told lane n actor before after moves calls = refl

-- the answers of a volume that is online
online_answers : (l : LaneOf) (told : LaneTold) (part : WritePart) (t : ℕ) (entry : Entry) → lane_access told.volumes part.volume ≡ Online → live_place told.sheet.slots part.volume.0 ≡ Some t →
    WriteAnswers l.grain (spot_of l told part) part t entry entry.reply → ByAccess (lane_access told.volumes part.volume) entry (VolumeWrite l told part (live_place told.sheet.slots part.volume.0) entry)
online_answers l told part t entry online place x =
    subst (λ (a : Access). ByAccess a entry (VolumeWrite l told part (live_place told.sheet.slots part.volume.0) entry)) (sym online)
    (subst (λ (o : Option ℕ). VolumeWrite l told part o entry) (sym place) x)

write_answers : (l : LaneOf) (told : LaneTold) (part : WritePart) (t lane number actor : ℕ) (old new : GrainsState) (moves : List Move) (calls : ℕ) (stop : Option Stop) →
    cannot_write l.grain (spot_of l told part) part ≡ false → StepsEnd (spot_of l told part) (steps_of_write l.grain (spot_of l told part) part t) moves calls stop old new →
    let entry = steps_entry lane number actor (Write part) Done old.faults new.faults moves calls stop in
    WriteAnswers l.grain (spot_of l told part) part t entry entry.reply
write_answers l told part t lane number actor old new moves calls None writable e =
    (writable, entry_done lane number actor (Write part) Done old new (spot_of l told part) (steps_of_write l.grain (spot_of l told part) part t) moves calls e)
write_answers l told part t lane number actor old new moves calls (Some (Failed torn)) writable e =
    (writable, entry_failed lane number actor (Write part) Done old new (spot_of l told part) (steps_of_write l.grain (spot_of l told part) part t) moves calls torn e)
write_answers l told part t lane number actor old new moves calls (Some WantsMemory) writable e =
    (writable, entry_refused lane number actor (Write part) Done old new (spot_of l told part) (steps_of_write l.grain (spot_of l told part) part t) moves calls e)

-- the entry of a write whose steps ended so is right, and the lane stands for what is told with it
pub write_right : (v new : LaneView) (told : LaneTold) (part : WritePart) (t number actor : ℕ) (moves : List Move) (calls : ℕ) (stop : Option Stop) (entry : Entry) → IsLaneOf v told → SameBeside v new →
    FitsWrite (of v) told part t → lane_access v.accesses.volumes part.volume ≡ Online → cannot_write (of v).grain (spot_of (of v) told part) part ≡ false →
    StepsEnd (spot_of (of v) told part) (steps_of_write (of v).grain (spot_of (of v) told part) part t) moves calls stop v.grains new.grains →
    StepsStand (of v) told (write_in part stop) moves calls (torn_in stop) v.chains v.grains new.chains new.grains →
    entry ≡ steps_entry v.lane number actor (Write part) Done v.grains.faults new.grains.faults moves calls stop →
    IsRightInLane (of v) told entry × IsLaneOf new (told_past (of v) told (record_of entry))
write_right v new told part t number actor moves calls stop entry s b w online writable e x is =
    let plain : Entry = steps_entry v.lane number actor (Write part) Done v.grains.faults new.grains.faults moves calls stop in
    let online_told : lane_access told.volumes part.volume ≡ Online = ap (λ z. lane_access z part.volume) (sym s.parts.beside.volumes_are) ∙ online in
    subst (λ (z : Entry). IsRightInLane (of v) told z × IsLaneOf new (told_past (of v) told (record_of z))) (sym is) (
      record {
        place = refl;
        faults_before = s.faults;
        faults_kept = x.counted.kept;
        no_effects = refl;
        answers = online_answers (of v) told part t plain online_told w.place (write_answers (of v) told part t v.lane number actor v.grains new.grains moves calls stop writable e);
      },
      subst (λ (p : Past). IsLaneOf new (told_past (of v) told p)) (sym (write_told part stop (of v) told v.lane number actor v.grains.faults new.grains.faults moves calls))
          (lane_after v new told number (write_in part stop) moves calls (torn_in stop) s b x),
    )

-- a volume that isn't online answers how it may be reached
pub unreached : (told : LaneTold) (part : WritePart) (a : Access) (reply : Reply) (e : Entry) (answers : Type 0) → lane_access told.volumes part.volume ≡ a → ((e' : Entry) → e'.reply ≡ reply → HasDoneNothing e' → ByAccess a e' answers) →
    e.reply ≡ reply → HasDoneNothing e → ByAccess (lane_access told.volumes part.volume) e answers
unreached told part a reply e answers is f r n = subst (λ (z : Access). ByAccess z e answers) (sym is) (f e r n)

-- a part of a lost grain
pub lost_answers : (l : LaneOf) (told : LaneTold) (part : WritePart) (t : ℕ) (e : Entry) → lane_access told.volumes part.volume ≡ Online → live_place told.sheet.slots part.volume.0 ≡ Some t →
    cannot_write l.grain (spot_of l told part) part ≡ true → e.reply ≡ MediumError → HasDoneNothing e →
    ByAccess (lane_access told.volumes part.volume) e (VolumeWrite l told part (live_place told.sheet.slots part.volume.0) e)
lost_answers l told part t e online place lost r n =
    online_answers l told part t e online place (subst (λ (z : Reply). WriteAnswers l.grain (spot_of l told part) part t e z) (sym r) (lost, n))
