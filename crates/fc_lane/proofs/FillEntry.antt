-- The entry of a copy or a cleaning.
use Rattle.std.proofs.Common.{◌≡◌, ℕ, ◌≤◌, ◌/◌, ◌%◌, Option, Some, None, IsSome, List, refl, sym, ap, subst, ◌∙◌}
use Rattle.fc_base.specs.Column.{needer}
use Rattle.fc_base.specs.Sheet.{Sheet, column, birth_place, mapping_place}
use Rattle.fc_base.specs.declared.ids.GrainNo.{GrainNo}
use Rattle.fc_base.specs.declared.ids.MapId.{MapId}
use Rattle.fc_base.specs.declared.ids.SlotId.{SlotId}
use Rattle.fc_base.specs.declared.request.Move.{Move}
use Rattle.fc_base.specs.declared.request.Reply.{Reply}
use Rattle.fc_base.specs.declared.request.Reply.TheVariants.{Moved}
use Rattle.fc_base.specs.declared.request.Request.{Request}
use Rattle.fc_base.specs.declared.request.WritePart.{WritePart}
use Rattle.fc_chain.specs.Chains.{found}
use Rattle.fc_entry.specs.declared.entry.Entry.{Entry}
use Rattle.fc_entry.specs.declared.entry.Past.{Past}
use Rattle.fc_entry.specs.declared.entry.Past.TheVariants.{Step}
use Rattle.fc_grains.specs.Grains.{GrainsState}
use Rattle.fc_grains.specs.Volumes.{rooms_of}
use Rattle.fc_lane.specs.Entering.{HasEntered, HasFilled, SameBeside}
use Rattle.fc_lane.specs.Workers.{IsFilled, ask_of, filled_slot}
use Rattle.fc_lane.specs.declared.worker.Worker.{Worker}
use Rattle.fc_lane.specs.declared.worker.Worker.TheVariants.{Copier, Cleaner}
use Rattle.fc_steps.specs.Asking.{done_of, reply_in, request_of, steps_entry}
use Rattle.fc_lane.specs.Lane.{LaneView, IsLaneOf, of}
use Rattle.fc_steps.specs.StepsEnd.{StepsEnd, StepsStand, torn_in}
use Rattle.fc_steps.specs.declared.stop.Stop.{Stop}
use Rattle.fc_steps.specs.declared.stop.Stop.TheVariants.{Failed, NoMemory}
use Rattle.fc_steps.proofs.Ending.{entry_done, entry_failed, entry_refused}
use Rattle.fc_lane.proofs.Entering.{disks_after, disks_as, lane_after, room_after, same_after}
use Rattle.fc_lane.proofs.Workers.{done_moved, fill_answers, fill_writes_none}
use Rattle.fc_pictures.proofs.Agreeing.{lane_law_holds}
use Rattle.fc_rules.specs.GrainAnswers.{FillAnswers}
use Rattle.fc_rules.specs.LaneRight.{IsRightInLane, LaneAnswers, MappingFill, record_of}
use Rattle.fc_rules.specs.LaneTold.{LaneTold, place_of, told_past}
use Rattle.fc_rules.specs.LaneTurn.{cleaned_slot, copied_slot, spot_at}
use Rattle.fc_rules.specs.Rooms.{rooms_entry}
use Rattle.fc_rules.specs.Spot.{Spot}
use Rattle.fc_rules.specs.Steps.{steps_of_fill}
use Rattle.fc_steps.proofs.Filling.{some_of, copied_place, cleaned_place}
use Rattle.fc_steps.proofs.Naming.{named}

module _ (v : LaneView) (m : MapId) (grain : GrainNo) (of_lane : grain.0 % v.lanes ≡ v.lane) where
  abbrev g : ℕ
  g = place_of (of v) grain.0

  pub copier_fills : (slot : SlotId) → birth_place v.chains.sheet.slots slot.0 ≡ mapping_place v.chains.sheet.slots m.0 → IsFilled v Copier m grain slot.0
  copier_fills slot is told s some =
      let x = some_of (copied_slot told.sheet.slots m.0 g) some in
      let f = lane_law_holds.copy_slot told.sheet.slots m.0 g x.0 x.1 in
      let sheet = s.parts.sheet_is in (
        x.0,
        x.1,
        record {
          place = ap (λ (z : Sheet). birth_place z.slots slot.0) (sym sheet) ∙ (is ∙ (ap (λ (z : Sheet). mapping_place z.slots m.0) sheet ∙ copied_place told.sheet.slots m.0 g x.0 x.1));
          live = f.0;
          lacks = f.1;
          of_lane = of_lane;
        },
      )

  pub cleaner_fills : (slot name : SlotId) → birth_place v.chains.sheet.slots slot.0 ≡ mapping_place v.chains.sheet.slots m.0 →
      ((x : ℕ) → birth_place v.chains.sheet.slots slot.0 ≡ Some x → Some name ≡ found v.chains.sheet.slots (needer (column v.chains.sheet.slots (grain.0 / v.chains.lanes)) x)) → IsFilled v Cleaner m grain name.0
  cleaner_fills slot name is needs told s some =
      let sheet = s.parts.sheet_is in
      let sound = s.parts.beside.stands.sound in
      let k = some_of (cleaned_slot told.sheet.slots m.0 g) some in
      let f = lane_law_holds.clean_slot told.sheet.slots m.0 g k.0 sound.sizes k.1 in
      let x = cleaned_place told.sheet.slots m.0 g k.0 k.1 in
      let born : birth_place v.chains.sheet.slots slot.0 ≡ Some x.0 = is ∙ (ap (λ (z : Sheet). mapping_place z.slots m.0) sheet ∙ x.1) in
      let told_needs : Some name ≡ found told.sheet.slots (needer (column told.sheet.slots g) x.0) = needs x.0 born ∙ (λ i. found (sheet i).slots (needer (column (sheet i).slots (grain.0 / s.parts.lanes_are i)) x.0)) in (
        k.0,
        k.1,
        record {
          place = named told.sheet k.0 name (needer (column told.sheet.slots g) x.0) sound f.0.there x.2 told_needs;
          live = f.0;
          lacks = f.1;
          of_lane = of_lane;
        },
      )

-- ---- the entry

fill_ended : (spot : Spot) (k lane number actor : ℕ) (request : Request) (map : MapId) (grain : GrainNo) (old new : GrainsState) (moves : List Move) (calls : ℕ) (stop : Option Stop) → grain.0 ≡ spot.number →
    StepsEnd spot (steps_of_fill spot k) moves calls stop old new →
    let entry = steps_entry lane number actor request (Moved map grain) old.faults new.faults moves calls stop in
    FillAnswers spot map.0 k entry entry.reply
fill_ended spot k lane number actor request map grain old new moves calls None at e =
    (refl, at, entry_done lane number actor request (Moved map grain) old new spot (steps_of_fill spot k) moves calls e)
fill_ended spot k lane number actor request map grain old new moves calls (Some (Failed torn)) at e =
    entry_failed lane number actor request (Moved map grain) old new spot (steps_of_fill spot k) moves calls torn e
fill_ended spot k lane number actor request map grain old new moves calls (Some NoMemory) at e =
    entry_refused lane number actor request (Moved map grain) old new spot (steps_of_fill spot k) moves calls e

module _ (v new : LaneView) (m : MapId) (grain : GrainNo) (number actor : ℕ) (moves : List Move) (calls : ℕ) (stop : Option Stop) (b : SameBeside v new) (room : new.plan_room ≡ v.plan_room) where
  abbrev at : ℕ
  at = place_of (of v) grain.0

  -- the steps of a fill of the slot at place `k` ended so
  abbrev Ends : LaneTold → ℕ → Type 0
  Ends told k =
      StepsEnd (spot_at (of v) told grain.0) (steps_of_fill (spot_at (of v) told grain.0) k) moves calls stop v.grains new.grains
      × StepsStand (of v) told None moves calls (torn_in stop) v.chains v.grains new.chains new.grains

  -- for whatever fits
  fill_right : (request : Request) (entry : Entry) (told : LaneTold) (k : ℕ) → IsLaneOf v told → Ends told k →
      (FillAnswers (spot_at (of v) told grain.0) m.0 k entry entry.reply → LaneAnswers (of v) told request entry) → record_of entry ≡ Step number None moves (torn_in stop) new.grains.faults calls →
      entry ≡ steps_entry v.lane number actor request (Moved m grain) v.grains.faults new.grains.faults moves calls stop → IsRightInLane (of v) told entry × IsLaneOf new (told_past (of v) told (record_of entry))
  fill_right request entry told k s x answers told_is is =
      let plain : Entry = steps_entry v.lane number actor request (Moved m grain) v.grains.faults new.grains.faults moves calls stop in
      let filled : FillAnswers (spot_at (of v) told grain.0) m.0 k plain plain.reply = fill_ended (spot_at (of v) told grain.0) k v.lane number actor request m grain v.grains new.grains moves calls stop refl x.0 in
      let right : LaneAnswers (of v) told request entry = answers (subst (λ (z : Entry). FillAnswers (spot_at (of v) told grain.0) m.0 k z z.reply) (sym is) filled) in (
        record {
          place = ap (λ (e : Entry). e.place) is;
          faults_before = ap (λ (e : Entry). e.faults_before) is ∙ s.faults;
          faults_kept = subst (λ (e : Entry). e.faults_before ≤ e.faults_after) (sym is) x.1.counted.kept;
          no_effects = ap (λ (e : Entry). e.effects) is;
          answers = subst (λ (r : Request). LaneAnswers (of v) told r entry) (sym (ap (λ (e : Entry). e.request) is)) right;
        },
        subst (λ (p : Past). IsLaneOf new (told_past (of v) told p)) (sym told_is) (lane_after v new told number None moves calls (torn_in stop) s b x.1),
      )

  entered : (Fits : LaneTold → Type 0) (request : Request) (entry : Entry) (told : LaneTold) (k : ℕ) → Ends told k →
      ((told : LaneTold) → IsLaneOf v told → Fits told → IsRightInLane (of v) told entry × IsLaneOf new (told_past (of v) told (record_of entry))) →
      ((told : LaneTold) → IsLaneOf v told → Fits told → rooms_of new.grains.volumes ≡ rooms_entry (of v) told.picture (rooms_of v.grains.volumes) entry) →
      entry ≡ steps_entry v.lane number actor request (Moved m grain) v.grains.faults new.grains.faults moves calls stop → HasEntered v Fits number actor request entry new
  entered Fits request entry told k x right rooms is =
      record {
        right = right;
        rooms = rooms;
        asked = record { number_is = ap (λ (e : Entry). e.number) is; actor_is = ap (λ (e : Entry). e.actor) is; request_is = ap (λ (e : Entry). e.request) is };
        same = same_after v new b x.1.same;
        quiet = x.1.same.quiet;
        disks = disks_as entry _ v.grains new.grains is (disks_after (spot_at (of v) told grain.0) (steps_of_fill (spot_at (of v) told grain.0) k) (of v) told None moves calls stop v.chains new.chains v.grains new.grains x.0 x.1);
        plan_room = room;
        changes = b.changes;
      }

  -- by the worker, where for whatever is told and fits its steps ended so
  pub fill_entered : (worker : Worker) (entry : Entry) → (told : LaneTold) × IsLaneOf v told × IsSome (filled_slot worker told.sheet.slots m.0 at) →
      (slot : (told : LaneTold) → IsLaneOf v told → IsSome (filled_slot worker told.sheet.slots m.0 at) → ℕ) →
      ((told : LaneTold) (s : IsLaneOf v told) (some : IsSome (filled_slot worker told.sheet.slots m.0 at)) → filled_slot worker told.sheet.slots m.0 at ≡ Some (slot told s some)) →
      ((told : LaneTold) (s : IsLaneOf v told) (some : IsSome (filled_slot worker told.sheet.slots m.0 at)) → Ends told (slot told s some)) →
      entry ≡ steps_entry v.lane number actor (request_of (ask_of worker m grain)) (done_of (ask_of worker m grain)) v.grains.faults new.grains.faults moves calls stop →
      HasEntered v (λ told. IsSome (filled_slot worker told.sheet.slots m.0 at)) number actor (request_of (ask_of worker m grain)) entry new
  fill_entered worker entry can slot slot_is ends e =
      let asked : Request = request_of (ask_of worker m grain) in
      let is : entry ≡ steps_entry v.lane number actor asked (Moved m grain) v.grains.faults new.grains.faults moves calls stop =
      e ∙ ap (λ (r : Reply). steps_entry v.lane number actor asked r v.grains.faults new.grains.faults moves calls stop) (done_moved worker m grain) in
      let told_is : record_of entry ≡ Step number None moves (torn_in stop) new.grains.faults calls =
      ap record_of is ∙ ap (λ (o : Option WritePart). Step number o moves (torn_in stop) new.grains.faults calls) (fill_writes_none worker m grain (reply_in (Moved m grain) stop)) in
      entered (λ told. IsSome (filled_slot worker told.sheet.slots m.0 at)) asked entry can.0 (slot can.0 can.1 can.2) (ends can.0 can.1 can.2)
      (λ told s some.
      fill_right asked entry told (slot told s some) s (ends told s some)
      (λ a. fill_answers worker (of v) told m grain entry (subst (λ (o : Option ℕ). MappingFill (of v) told m.0 grain.0 o entry) (sym (slot_is told s some)) a)) told_is is)
      (λ told s some. room_after v new told number None moves calls (torn_in stop) entry (ends told s some).1 told_is) is

-- a fill of the slot with this name
pub work_entered : (v new : LaneView) (slot : SlotId) (m : MapId) (grain : GrainNo) (number actor : ℕ) (moves : List Move) (calls : ℕ) (stop : Option Stop) → HasFilled v slot.0 grain.0 moves calls stop new →
    (worker : Worker) (entry : Entry) → IsFilled v worker m grain slot.0 → (told : LaneTold) × IsLaneOf v told × IsSome (filled_slot worker told.sheet.slots m.0 (place_of (of v) grain.0)) →
    entry ≡ steps_entry v.lane number actor (request_of (ask_of worker m grain)) (done_of (ask_of worker m grain)) v.grains.faults new.grains.faults moves calls stop →
    HasEntered v (λ told. IsSome (filled_slot worker told.sheet.slots m.0 (place_of (of v) grain.0))) number actor (request_of (ask_of worker m grain)) entry new
work_entered v new slot m grain number actor moves calls stop f worker entry filled can e =
    fill_entered v new m grain number actor moves calls stop f.beside f.plan_room worker entry can
    (λ told s some. (filled told s some).0) (λ told s some. (filled told s some).1) (λ told s some. f.ends told (filled told s some).0 s (filled told s some).2) e
