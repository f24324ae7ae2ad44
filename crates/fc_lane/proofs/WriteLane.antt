-- A write of a grain in a lane.
use Rattle.std.proofs.Common.{◌≡◌, ℕ, ◌<◌, ◌≤◌, ◌/◌, ◌%◌, Bool, true, false, not, Option, None, IsSome, List, [], length, map, refl, sym, ap, subst, ◌∙◌, arith}
use Rattle.std.proofs.lemmas.List.{length-map}
use Rattle.fc_base.specs.Grain.{grain_blocks}
use Rattle.fc_base.specs.Moves.{write_moves}
use Rattle.fc_base.specs.Plan.{move_at, moves_of_write}
use Rattle.fc_base.specs.Sheet.{Sheet, column, live_place}
use Rattle.fc_base.specs.declared.request.Move.{Move}
use Rattle.fc_base.specs.declared.ids.MapId.{MapId}
use Rattle.fc_base.specs.declared.request.Reply.{Reply}
use Rattle.fc_base.specs.declared.request.Reply.TheVariants.{Done, MediumError, Offline, NotAccessible}
use Rattle.fc_base.specs.declared.request.Request.TheVariants.{Write}
use Rattle.fc_base.specs.declared.request.WritePart.{WritePart}
use Rattle.fc_base.specs.declared.state.Access.{Access}
use Rattle.fc_base.specs.declared.state.Access.TheVariants.{Online, Offline as IsOffline, NotAccessible as IsNotAccessible}
use Rattle.fc_base.specs.declared.state.MapState.{MapState}
use Rattle.fc_chain.specs.Planning.{volume_count}
use Rattle.fc_entry.specs.Picture.{grain_of_block}
use Rattle.fc_entry.specs.declared.entry.Entry.{Entry}
use Rattle.fc_steps.specs.WriteStep.{FitsWrite, IsPlannedWrite, IsWrite, spot_of, write_in}
use Rattle.fc_lane.specs.Entering.{HasEntered, SameBeside}
use Rattle.fc_steps.specs.Asking.{steps_entry}
use Rattle.fc_lane.specs.Lane.{LaneView, IsLaneOf, IsReady, of}
use Rattle.fc_steps.specs.StepsEnd.{StandsAt, StepsEnd, StepsStand, torn_in}
use Rattle.fc_steps.specs.declared.stop.Stop.{Stop}
use Rattle.fc_lane.proofs.Entering.{disks_after, disks_as, nothing_entered, room_after, same_after, stands_at}
use Rattle.fc_lane.proofs.WriteEntry.{fits_write, lost_answers, unreached, write_right, write_told}
use Rattle.fc_lane.proofs.Room.{HasRoom, count_told, room_for, some_room}
use Rattle.fc_steps.proofs.Writable.{write_short}
use Rattle.fc_steps.proofs.Writable.{plan_of_write}
use Rattle.fc_rules.specs.GrainAnswers.{ByAccess, cannot_write}
use Rattle.fc_rules.specs.LaneFits.{FitsPart}
use Rattle.fc_rules.specs.LaneRight.{VolumeWrite, done_write, record_of}
use Rattle.fc_rules.specs.LaneTold.{LaneOf, LaneTold, lane_access, place_of}
use Rattle.fc_rules.specs.Steps.{HasDoneNothing, steps_of_write}

-- a lane in which a grain can be written
pub record IsWritable (v : LaneView) (part : WritePart) (grain place : ℕ) : Type 0 where
  pub can : (told : LaneTold) × IsLaneOf v told × FitsPart (of v) told part.volume part.block part.count
  pub writable : (told : LaneTold) → IsLaneOf v told → FitsPart (of v) told part.volume part.block part.count → cannot_write v.grains.grain (spot_of (of v) told part) part ≡ false
  pub ready : IsReady v
  pub online : lane_access v.accesses.volumes part.volume ≡ Online
  pub number_is : grain ≡ grain_of_block v.grains.grain part.block
  pub place_is : place ≡ grain / v.lanes

-- the steps of a write, for what is told, ended so
pub record WriteEnds (v new : LaneView) (told : LaneTold) (part : WritePart) (moves : List Move) (calls : ℕ) (stop : Option Stop) : Type 0 where
  pub place : ℕ
  pub is : IsWrite (of v) told part place
  pub ends : StepsEnd (spot_of (of v) told part) (steps_of_write (of v).grain (spot_of (of v) told part) part place) moves calls stop v.grains new.grains
  pub stands : StepsStand (of v) told (write_in part stop) moves calls (torn_in stop) v.chains v.grains new.chains new.grains

pub write_done : (v new : LaneView) (part : WritePart) (number actor : ℕ) (moves : List Move) (calls : ℕ) (stop : Option Stop) (entry : Entry) → SameBeside v new → new.plan_room ≡ v.plan_room → lane_access v.accesses.volumes part.volume ≡ Online →
    (told : LaneTold) × IsLaneOf v told × FitsPart (of v) told part.volume part.block part.count →
    ((told : LaneTold) → IsLaneOf v told → FitsPart (of v) told part.volume part.block part.count → WriteEnds v new told part moves calls stop) →
    entry ≡ steps_entry v.lane number actor (Write part) Done v.grains.faults new.grains.faults moves calls stop →
    HasEntered v (λ told. FitsPart (of v) told part.volume part.block part.count) number actor (Write part) entry new
write_done v new part number actor moves calls stop entry b room online can ends is =
    let told = can.0 in
    let x = ends told can.1 can.2 in
    record {
      right = λ told s fits.
          let x = ends told s fits in
          write_right v new told part x.place number actor moves calls stop entry s b (record { fits = x.is.fits; place = x.is.place; live = x.is.live; sound = x.is.sound }) online x.is.writable x.ends x.stands is;
      rooms = λ told s fits.
          room_after v new told number (write_in part stop) moves calls (torn_in stop) entry (ends told s fits).stands (ap record_of is ∙ write_told part stop (of v) told v.lane number actor v.grains.faults new.grains.faults moves calls);
      asked = record { number_is = ap (λ (e : Entry). e.number) is; actor_is = ap (λ (e : Entry). e.actor) is; request_is = ap (λ (e : Entry). e.request) is };
      same = same_after v new b x.stands.same;
      quiet = x.stands.same.quiet;
      disks = disks_as entry _ v.grains new.grains is (disks_after (spot_of (of v) told part) (steps_of_write (of v).grain (spot_of (of v) told part) part x.place) (of v) told (write_in part stop) moves calls stop v.chains new.chains v.grains new.grains x.ends x.stands);
      plan_room = room;
      changes = b.changes;
    }

module _ (v : LaneView) (part : WritePart) (grain place : ℕ) (w : IsWritable v part grain place) (plan : List Move)
    (plan_is : plan ≡ moves_of_write v.chains.sheet.slots (grain / v.chains.lanes) grain (live_place v.chains.sheet.slots part.volume.0)) where
  abbrev Fits : LaneTold → Type 0
  Fits told = FitsPart (of v) told part.volume part.block part.count

  pub planned : (told : LaneTold) (t : ℕ) → IsLaneOf v told → FitsWrite (of v) told part t → IsPlannedWrite (of v) told part t v.chains v.grains plan grain place
  planned told t s f = record {
    at = stands_at v told s;
    is = record { fits = f.fits; place = f.place; live = f.live; sound = f.sound; writable = w.writable told s f.fits };
    plan_is = plan_is ∙ plan_of_write (of v) told part t v.chains v.grains (stands_at v told s) f grain w.number_is;
    number_is = w.number_is;
    place_is = w.place_is ∙ ap (λ z. z / v.lanes) w.number_is;
  }

  pub write_planned : (l : LaneOf) × (told : LaneTold) × (t : ℕ) × IsPlannedWrite l told part t v.chains v.grains plan grain place
  write_planned =
      let f = fits_write v w.can.0 part w.can.1 w.can.2 in
      (of v, w.can.0, f.0, planned w.can.0 f.0 w.can.1 f.1)

  plan_short : length plan ≤ volume_count v.chains.sheet.slots
  plan_short =
      let told = w.can.0 in
      let s = w.can.1 in
      let f = fits_write v told part s w.can.2 in
      let g : ℕ = place_of (of v) (grain_of_block (of v).grain part.block) in
      let ks : List ℕ = write_moves (column told.sheet.slots g) f.0 in
      let e : length plan ≡ length ks = ap (length {A = Move}) (planned told f.0 s f.1).plan_is ∙ length-map ks (move_at told.sheet.slots g (grain_of_block (of v).grain part.block)) in
      let short : length ks ≤ volume_count told.sheet.slots = write_short told.sheet g f.0 f.1.sound f.1.live in
      let same = count_told v told s in
      omega arith

  pub write_room : HasRoom v (length plan)
  write_room = room_for v w.ready (length plan) plan_short

  pub plan_some : 0 < v.entry_room
  plan_some = let f = fits_write v w.can.0 part w.can.1 w.can.2 in some_room v w.ready w.can.0 f.0 w.can.1 f.1.live.there f.1.live.is_live

  pub write_entered : (new : LaneView) (number actor : ℕ) (moves : List Move) (calls : ℕ) (stop : Option Stop) (entry : Entry) → SameBeside v new → new.plan_room ≡ v.plan_room →
      ((l : LaneOf) (told : LaneTold) (t : ℕ) → IsPlannedWrite l told part t v.chains v.grains plan grain place → StepsEnd (spot_of l told part) (steps_of_write l.grain (spot_of l told part) part t) moves calls stop v.grains new.grains
      × StepsStand l told (write_in part stop) moves calls (torn_in stop) v.chains v.grains new.chains new.grains) →
      entry ≡ steps_entry v.lane number actor (Write part) Done v.grains.faults new.grains.faults moves calls stop → HasEntered v Fits number actor (Write part) entry new
  write_entered new number actor moves calls stop entry b room ends is =
      write_done v new part number actor moves calls stop entry b room w.online w.can
      (λ told s fits.
      let f = fits_write v told part s fits in
      let x = ends (of v) told f.0 (planned told f.0 s f.1) in
      record { place = f.0; is = (planned told f.0 s f.1).is; ends = x.0; stands = x.1 }) is

-- ---- a write for which nothing is done

pub untouched_entered : (v : LaneView) (part : WritePart) (number actor : ℕ) (reply : Reply) (entry : Entry) →
    ((told : LaneTold) → IsLaneOf v told → FitsPart (of v) told part.volume part.block part.count → (e : Entry) → e.reply ≡ reply → HasDoneNothing e →
    ByAccess (lane_access told.volumes part.volume) e (VolumeWrite (of v) told part (live_place told.sheet.slots part.volume.0) e)) →
    done_write (Write part) reply ≡ None → entry ≡ steps_entry v.lane number actor (Write part) reply v.grains.faults v.grains.faults [] 0 None →
    HasEntered v (λ told. FitsPart (of v) told part.volume part.block part.count) number actor (Write part) entry v
untouched_entered v part number actor reply entry answers none is =
    nothing_entered v (λ told. FitsPart (of v) told part.volume part.block part.count) number actor (Write part) reply entry none answers is

-- how the volume may be reached, as it is told
access_told : (v : LaneView) (told : LaneTold) (part : WritePart) (a : Access) → IsLaneOf v told → lane_access v.accesses.volumes part.volume ≡ a → lane_access told.volumes part.volume ≡ a
access_told v told part a s is = ap (λ z. lane_access z part.volume) (sym s.parts.beside.volumes_are) ∙ is

pub offline_entered : (v : LaneView) (part : WritePart) (number actor : ℕ) (map : MapId) (state : MapState) (entry : Entry) → lane_access v.accesses.volumes part.volume ≡ IsOffline map state →
    entry ≡ steps_entry v.lane number actor (Write part) (Offline map state) v.grains.faults v.grains.faults [] 0 None →
    HasEntered v (λ told. FitsPart (of v) told part.volume part.block part.count) number actor (Write part) entry v
offline_entered v part number actor map state entry is e =
    untouched_entered v part number actor (Offline map state) entry
    (λ told s f x r n. unreached told part (IsOffline map state) (Offline map state) x _ (access_told v told part (IsOffline map state) s is) (λ y q d. (q, d)) r n) refl e

pub barred_entered : (v : LaneView) (part : WritePart) (number actor : ℕ) (map : MapId) (entry : Entry) → lane_access v.accesses.volumes part.volume ≡ IsNotAccessible map →
    entry ≡ steps_entry v.lane number actor (Write part) (NotAccessible map) v.grains.faults v.grains.faults [] 0 None →
    HasEntered v (λ told. FitsPart (of v) told part.volume part.block part.count) number actor (Write part) entry v
barred_entered v part number actor map entry is e =
    untouched_entered v part number actor (NotAccessible map) entry
    (λ told s f x r n. unreached told part (IsNotAccessible map) (NotAccessible map) x _ (access_told v told part (IsNotAccessible map) s is) (λ y q d. (q, d)) r n) refl e

-- ---- whether it can be written

-- the chains can plan it
pub write_plannable : (v : LaneView) (part : WritePart) (grain place : ℕ) → IsWritable v part grain place → (grain % v.chains.lanes ≡ v.chains.lane) × IsSome (live_place v.chains.sheet.slots part.volume.0)
write_plannable v part grain place w =
    let p = w.can.1.parts in
    let fits = w.can.2 in (
      (λ i. w.number_is i % p.lanes_are i) ∙ (fits.of_lane ∙ sym p.lane_is),
      subst (λ (s : Sheet). IsSome (live_place s.slots part.volume.0)) (sym p.sheet_is) fits.there,
    )

-- a lane with a volume that is online
pub record IsOnline (v : LaneView) (part : WritePart) : Type 0 where
  pub can : (told : LaneTold) × IsLaneOf v told × FitsPart (of v) told part.volume part.block part.count
  pub online : lane_access v.accesses.volumes part.volume ≡ Online

abbrev pub TellsWritable : LaneView → WritePart → ℕ → ℕ → Bool → Type 0
TellsWritable v part grain place answer =
    (l : LaneOf) (told : LaneTold) (t : ℕ) → StandsAt l told v.chains v.grains → FitsWrite l told part t → grain ≡ grain_of_block l.grain part.block → place ≡ place_of l (grain_of_block l.grain part.block) →
    answer ≡ not (cannot_write l.grain (spot_of l told part) part)

module _ (v : LaneView) (part : WritePart) (grain place : ℕ) (w : IsOnline v part) (number_is : grain ≡ grain_of_block v.grains.grain part.block) (place_is : place ≡ grain / v.lanes) where
  place_told : place ≡ place_of (of v) (grain_of_block v.grains.grain part.block)
  place_told = place_is ∙ ap (λ z. z / v.lanes) number_is

  write_fits : (l : LaneOf) × (told : LaneTold) × (t : ℕ) × StandsAt l told v.chains v.grains × FitsWrite l told part t × (grain ≡ grain_of_block l.grain part.block) × (place ≡ place_of l (grain_of_block l.grain part.block))
  write_fits =
      let f = fits_write v w.can.0 part w.can.1 w.can.2 in
      (of v, w.can.0, f.0, stands_at v w.can.0 w.can.1, f.1, number_is, place_told)

  told_by : (answer : Bool) (told : LaneTold) → TellsWritable v part grain place answer → IsLaneOf v told → FitsPart (of v) told part.volume part.block part.count →
      answer ≡ not (cannot_write v.grains.grain (spot_of (of v) told part) part)
  told_by answer told tells s fits =
      let f = fits_write v told part s fits in
      tells (of v) told f.0 (stands_at v told s) f.1 number_is place_told

  is_writable : (answer : Bool) → TellsWritable v part grain place answer → answer ≡ true → (told : LaneTold) → IsLaneOf v told → FitsPart (of v) told part.volume part.block part.count →
      cannot_write v.grains.grain (spot_of (of v) told part) part ≡ false
  is_writable answer tells e told s fits = not_true (cannot_write v.grains.grain (spot_of (of v) told part) part) (sym (told_by answer told tells s fits) ∙ e)
    where
      not_true : (b : Bool) → not b ≡ true → b ≡ false
      not_true true e = absurd cc
      not_true false e = refl

  lost_entered : (answer : Bool) (number actor : ℕ) (entry : Entry) → TellsWritable v part grain place answer → answer ≡ false →
      entry ≡ steps_entry v.lane number actor (Write part) MediumError v.grains.faults v.grains.faults [] 0 None →
      HasEntered v (λ told. FitsPart (of v) told part.volume part.block part.count) number actor (Write part) entry v
  lost_entered answer number actor entry tells e is =
      untouched_entered v part number actor MediumError entry
      (λ told s fits x r n.
      let f = fits_write v told part s fits in
      lost_answers (of v) told part f.0 x (access_told v told part Online s w.online) f.1.place
      (not_false (cannot_write v.grains.grain (spot_of (of v) told part) part) (sym (told_by answer told tells s fits) ∙ e)) r n) refl is
    where
      not_false : (b : Bool) → not b ≡ false → b ≡ true
      not_false true e = refl
      not_false false e = absurd cc

-- ---- as the code finds it

-- `u` is the lane `v` as the code has it, and `blocks` how many blocks a grain has
module _ (u v : LaneView) (part : WritePart) (blocks : ℕ) (same : u ≡ v) (online : IsOnline v part) (blocks_are : blocks ≡ grain_blocks u.grains.grain) where
  abbrev grain_here : ℕ
  grain_here = part.block / blocks

  abbrev place_here : ℕ
  place_here = grain_here / u.lanes

  pub fits_here : (l : LaneOf) × (told : LaneTold) × (t : ℕ) × StandsAt l told u.chains u.grains × FitsWrite l told part t × (grain_here ≡ grain_of_block l.grain part.block) × (place_here ≡ place_of l (grain_of_block l.grain part.block))
  fits_here = write_fits u part grain_here place_here (subst (λ (z : LaneView). IsOnline z part) (sym same) online) (ap (λ (z : ℕ). part.block / z) blocks_are) refl

  grain_told : grain_here ≡ grain_of_block v.grains.grain part.block
  grain_told = ap (λ (z : ℕ). part.block / z) blocks_are ∙ ap (λ (z : LaneView). grain_of_block z.grains.grain part.block) same

  lanes_told : place_here ≡ grain_here / v.lanes
  lanes_told = ap (λ (z : LaneView). grain_here / z.lanes) same

  module _ (answer : Bool) (tells : TellsWritable u part grain_here place_here answer) where
    tells_here : TellsWritable v part grain_here place_here answer
    tells_here = subst (λ (z : LaneView). TellsWritable z part grain_here place_here answer) same tells

    pub writable_here : answer ≡ true → IsReady v → IsWritable v part grain_here (grain_here / v.lanes)
    writable_here is ready = record {
      can = online.can;
      writable = is_writable v part grain_here place_here online grain_told lanes_told answer tells_here is;
      ready = ready;
      online = online.online;
      number_is = grain_told;
      place_is = refl;
    }

    pub lost_here : (number actor : ℕ) (entry : Entry) → answer ≡ false → entry ≡ steps_entry v.lane number actor (Write part) MediumError v.grains.faults v.grains.faults [] 0 None →
        HasEntered v (λ told. FitsPart (of v) told part.volume part.block part.count) number actor (Write part) entry v
    lost_here number actor entry e is = lost_entered v part grain_here place_here online grain_told lanes_told answer number actor entry tells_here e is
