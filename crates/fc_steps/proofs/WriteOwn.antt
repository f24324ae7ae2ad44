-- The write itself, once its moves are made: what it needs, and what stands after it.
use Rattle.std.proofs.Common.{◌≡◌, ℕ, ◌+◌, ◌*◌, ◌<◌, ◌≤◌, ◌/◌, ◌==◌, ◌&&◌, Bool, true, false, not, cond, eqb, Option, Some, None, Ok, Err, List, [], length, refl, sym, ap, subst, ◌∙◌, arith, append-nil}
use Rattle.std.proofs.lemmas.Bool.{eq-eqb}
use Rattle.fc_base.specs.Column.{holder}
use Rattle.fc_base.specs.Grain.{block_bytes}
use Rattle.fc_base.specs.Moves.{after_moves, write_moves}
use Rattle.fc_base.specs.Sheet.{Sheet, slot_at, shape_of, column, live_place}
use Rattle.fc_base.specs.SheetFits.{FitsTaken, FitsLost}
use Rattle.fc_base.specs.SheetStep.{sheet_torn, sheet_written}
use Rattle.fc_base.specs.declared.disk.DiskError.{DiskError}
use Rattle.fc_base.specs.declared.disk.DiskError.TheVariants.{Failed as Fails, NoMemory as NoRoom}
use Rattle.fc_base.specs.declared.disk.DiskKind.TheVariants.{Thin}
use Rattle.fc_base.specs.declared.request.Side.{Side}
use Rattle.fc_base.specs.declared.request.Side.TheVariants.{Now, Under}
use Rattle.fc_base.specs.declared.request.Torn.{Torn}
use Rattle.fc_base.specs.declared.request.WritePart.{WritePart}
use Rattle.fc_base.specs.declared.size.GrainSize.{GrainSize}
use Rattle.fc_chain.specs.Chains.{Chains}
use Rattle.fc_entry.specs.Picture.{Content, Bytes, Lost, byte_in_grain, grain_of_block, written, is_lost}
use Rattle.fc_entry.specs.Writes.{calls_of_write, covers_grain}
use Rattle.fc_grains.specs.Calls.{HasWritten}
use Rattle.fc_grains.specs.Grains.{GrainsState}
use Rattle.fc_grains.specs.Volumes.{is_there, volume_of, stored, rooms_of}
use Rattle.fc_steps.specs.Moving.{Counted, SameLane, SameRooms}
use Rattle.fc_steps.specs.Reading.{HasHolder, IsOfHolder}
use Rattle.fc_steps.specs.Standing.{AllSized}
use Rattle.fc_steps.specs.UnderWay.{OwnStored}
use Rattle.fc_steps.specs.WriteStep.{CanWriteOwn, IsPrepared, OwnEnds, OwnStands, spot_of}
use Rattle.fc_steps.specs.declared.body.StepEnd.{StepEnd}
use Rattle.fc_steps.specs.declared.stop.Stop.{Stop}
use Rattle.fc_steps.specs.declared.stop.Stop.TheVariants.{Failed, NoMemory}
use Rattle.fc_steps.proofs.Moving.{Source, source_at, one_holder, risen_then, same_then, stored_after, wrote_done, wrote_stored, wrote_reached, failed_done, failed_stored, failed_reached, refused_done, refused_stored, refused_rooms}
use Rattle.fc_steps.proofs.Rooms.{reached_after}
use Rattle.fc_steps.proofs.Shown.{ShownIn, holder_shown, volume_shown}
use Rattle.fc_steps.proofs.StepsMade.{both_counted, counted_any, sized_again, size_torn, size_written, thin_told}
use Rattle.fc_pictures.specs.Law.{StoredAt, now_of}
use Rattle.fc_pictures.specs.LaneLaw.{StoredWritten, sheet_before_write, torn_of}
use Rattle.fc_pictures.specs.StepsLaw.{CanWrite, Reached}
use Rattle.fc_pictures.proofs.Agreeing.{lane_law_holds}
use Rattle.fc_pictures.proofs.Lawful.{picture_law_holds}
use Rattle.fc_pictures.proofs.Running.{steps_law_holds}
use Rattle.fc_pictures.proofs.Staying.{stored_shows}
use Rattle.fc_rules.specs.LaneTold.{LaneOf, LaneTold, place_of}
use Rattle.fc_rules.specs.Shows.{Stored}
use Rattle.fc_rules.specs.Spot.{Spot}
use Rattle.fc_rules.specs.Steps.{DiskStep, is_of_volume, own_step, reads_own}
use Rattle.fc_sheets.proofs.Columns.{shape_torn, shape_written}
use Rattle.fc_sheets.proofs.Finding.{live_place_at, live_place_is}

-- ---- counts

calls_both : (whole : Bool) → cond whole 0 1 + 1 ≡ cond whole 1 2
calls_both true = refl
calls_both false = refl

calls_some : (whole : Bool) → 1 ≤ cond whole 1 2
calls_some true = omega arith
calls_some false = omega arith

module _ (l : LaneOf) (told : LaneTold) (part : WritePart) (t : ℕ) (chains : Chains) (old : GrainsState) (can : CanWriteOwn l told part t chains old) where
  abbrev number : ℕ
  number = grain_of_block l.grain part.block

  abbrev g : ℕ
  g = place_of l number

  abbrev before : Sheet
  before = sheet_before_write l told part t

  abbrev spot : Spot
  spot = spot_of l told part

  abbrev own : DiskStep
  own = own_step l.grain spot part t

  abbrev ks : List ℕ
  ks = write_moves (column told.sheet.slots g) t

  abbrev lost_side : Side
  lost_side = cond (reads_own (after_moves (column told.sheet.slots g) ks) t) Now Under

  reached : Reached told.sheet g ks before
  reached = (steps_law_holds.write l told number t can.is.sound can.is.live).reached ks [] (sym (append-nil ks))

  can_write : CanWrite before g t (slot_at told.sheet.slots t).volume lost_side
  can_write = steps_law_holds.can_write l told number t can.is.sound can.is.live

  -- its volume
  named : (slot_at told.sheet.slots t).volume ≡ part.volume.0
  named = (live_place_at told.sheet.slots part.volume.0 t can.is.place).of_volume

  volume_is : (slot_at before.slots t).volume ≡ part.volume.0
  volume_is = sym can_write.volume ∙ named

  place_before : live_place before.slots part.volume.0 ≡ Some t
  place_before =
      let live = can_write.live in
      live_place_is before.slots part.volume.0 t can.stands.sound.one_live (record { there = live.there; is_live = live.is_live; of_volume = volume_is })

  -- ---- the volume that it shows

  source : (h : ℕ) × Source before old.volumes g t h
  source =
      let live = can_write.live in
      source_at before old.volumes g t can.stands.sound can.stands.sized live.there live.is_live live.inside

  pub shows_from : ℕ
  shows_from = (slot_at before.slots source.0).volume

  own_shown : ShownIn l before part.volume.0 t number source.0 chains
  own_shown = record { lane_is = can.lane_is; lanes_are = can.lanes_are; sheet_is = can.sheet_is; sound = can.stands.sound; place = place_before; of_lane = can.is.fits.of_lane; holds = source.1.holds }

  pub own_held : (n : ℕ) → n ≡ number → HasHolder chains (live_place chains.sheet.slots part.volume.0) n
  own_held = holder_shown l before part.volume.0 t number source.0 chains own_shown

  pub own_from : (from n : ℕ) → n ≡ number → IsOfHolder chains (live_place chains.sheet.slots part.volume.0) n from → from ≡ shows_from
  unfolding shows_from
  own_from = volume_shown l before part.volume.0 t number source.0 chains own_shown

  -- what it shows
  shown : spot.now part.volume.0 ≡ stored old.volumes shows_from g
  unfolding shows_from
  shown =
      let live = can_write.live in
      let r = picture_law_holds.read before told.picture (stored old.volumes) t g can.stands.sound can.stands.shows live.there live.is_live live.inside in
      let same : r.0 ≡ source.0 = one_holder (holder (column before.slots g) t) r.0 source.0 r.1 source.1.holds in
      sym (ap (λ (v : ℕ). now_of told.picture v g) volume_is) ∙ (r.2 ∙ ap (λ (h : ℕ). stored old.volumes (slot_at before.slots h).volume g) same)

  -- ---- what it needs

  pub own_there : (from : ℕ) → from ≡ shows_from → is_there old.volumes from ≡ true
  unfolding shows_from
  own_there from e = ap (λ z. is_there old.volumes z) e ∙ source.1.there

  pub own_inside : (from place : ℕ) → from ≡ shows_from → place ≡ g → place < length (volume_of old.volumes from).contents
  unfolding shows_from
  own_inside from place e p =
      let q : length (volume_of old.volumes from).contents ≡ length (volume_of old.volumes (slot_at before.slots source.0).volume).contents = ap (λ z. length (volume_of old.volumes z).contents) e in
      let lt = source.1.inside in
      omega arith

  content_is : (from place : ℕ) → from ≡ shows_from → place ≡ g → stored old.volumes from place ≡ spot.now part.volume.0
  content_is from place e p = (λ i. stored old.volumes (e i) (p i)) ∙ sym shown

  pub own_readable : (from place : ℕ) → from ≡ shows_from → place ≡ g → (is_lost (stored old.volumes from place) && not (covers_grain old.grain part)) ≡ false
  own_readable from place e p =
      (λ i. is_lost (content_is from place e p i) && not (covers_grain (can.grain_is i) part))
      ∙ can.is.writable

  pub own_target : (place : ℕ) → place ≡ g → (is_there old.volumes part.volume.0 ≡ true) × (place < length (volume_of old.volumes part.volume.0).contents)
  own_target place p =
      let q : length (volume_of old.volumes part.volume.0).contents ≡ length (volume_of old.volumes (slot_at before.slots t).volume).contents = ap (λ z. length (volume_of old.volumes z).contents) (sym volume_is) in
      let lt = source.1.target_inside in
      (ap (λ z. is_there old.volumes z) (sym volume_is) ∙ source.1.target_there, omega arith)

  abbrev FitsAt : Sheet → ℕ → ℕ → Type 0
  FitsAt s v y = FitsTaken s.slots v y × (lost_side ≡ Under → FitsLost s.slots v y)

  fits_before : FitsAt before part.volume.0 g
  fits_before =
      let f = picture_law_holds.write_fits before.slots t g can_write.safe in
      subst (λ (v : ℕ). FitsAt before v g) volume_is (f.0, λ e. f.1 (ap (λ z. reads_own z t) reached.here ∙ not_own (reads_own (after_moves (column told.sheet.slots g) ks) t) e))
    where
      not_own : (b : Bool) → cond b Now Under ≡ Under → b ≡ false
      not_own true e = absurd cc
      not_own false e = refl

  -- ---- what stands

  unmade : (calls : ℕ) (new : GrainsState) → ((w y : ℕ) → stored new.volumes w y ≡ stored old.volumes w y) → SameRooms old.volumes new.volumes → Counted old calls false new → SameLane old new →
      OwnStands l told part t None calls None chains old chains new
  unmade calls new same_stored same_rooms counted same = record {
    chains_are = ap (λ (s : Sheet). record chains { sheet = s }) can.sheet_is;
    stands = record {
      sound = can.stands.sound;
      sized = sized_again before before old new refl (λ k. refl) same can.stands.sized;
      shows = stored_shows before.slots told.picture (stored old.volumes) (stored new.volumes) (λ i y below. same_stored (slot_at before.slots i).volume y) can.stands.shows;
    };
    counted = counted;
    same = same;
    rooms = same_rooms;
  }

  -- the read failed
  pub own_unread : (from place : ℕ) (mid : GrainsState) → IsPrepared old.grain part (stored old.volumes from place) true old mid → OwnEnds l told part t 1 (Some (Failed None)) chains old chains mid
  own_unread from place mid p =
      let some : covers_grain l.grain part ≡ false = ap (λ (z : GrainSize). covers_grain z part) (sym can.grain_is) ∙ p.part_failed refl in
      let counted : Counted old 1 true mid = subst (λ (b : Bool). Counted old (cond b 0 1) true mid) (p.part_failed refl) p.counted in (
        record {
          called = omega arith;
          within = calls_some (covers_grain l.grain part);
          torn_is = sym (ap (λ (b : Bool). cond (eqb 1 (cond b 1 2)) (Some (torn_of spot own)) None) some);
          risen = counted.risen refl;
          torn_by_write = tt;
        },
        unmade 1 mid p.stored_same p.rooms_same (counted_any old mid 1 true counted) p.same,
      )

  -- all calls of it
  module _ (from place : ℕ) (mid new : GrainsState) (e : from ≡ shows_from) (at : place ≡ g) (p : IsPrepared old.grain part (stored old.volumes from place) false old mid) where
    abbrev whole : Bool
    whole = covers_grain l.grain part

    calls_all : (failed : Bool) → Counted mid 1 failed new → Counted old (calls_of_write l.grain part) failed new
    calls_all failed c =
        let q : Counted old (cond whole 0 1) false mid = subst (λ (z : GrainSize). Counted old (cond (covers_grain z part) 0 1) false mid) can.grain_is p.counted in
        subst (λ (n : ℕ). Counted old n failed new) (calls_both whole) (both_counted old mid new (cond whole 0 1) 1 failed q c)

    pub target_mid : (is_there mid.volumes part.volume.0 ≡ true) × (place < length (volume_of mid.volumes part.volume.0).contents)
    target_mid =
        let x = own_target place at in
        let size = p.same.sizes part.volume.0 in
        let lt = x.1 in
        (p.same.there part.volume.0 ∙ x.0, omega arith)

    after_sized : (now : Sheet) → shape_of now.slots ≡ shape_of before.slots → ((k : ℕ) → length (slot_at now.slots k).held ≡ length (slot_at before.slots k).held) → SameLane mid new → AllSized now new.volumes
    after_sized now shape long same = sized_again before now old new shape long (same_then old mid new p.same same) can.stands.sized

    -- what is stored
    pub done_stored : {A : Type 0} (a : A) → HasWritten {A = A} mid part.volume.0 place (Ok a) new → StoredWritten l told.picture part (stored old.volumes) (stored new.volumes)
    done_stored {A} a w =
        let x = target_mid in
        let st = stored_after old.volumes mid.volumes new.volumes part.volume.0 place (Bytes mid.buffer) p.stored_same (wrote_stored {A = A} mid new part.volume.0 place a x.0 x.1 w) in
        let content : Bytes mid.buffer ≡ written (byte_in_grain l.grain part.block) (block_bytes * part.count) part.byte (now_of told.picture part.volume.0 g) =
        p.bytes refl ∙ (λ i. written (byte_in_grain (can.grain_is i) part.block) (block_bytes * part.count) part.byte (content_is from place e at i)) in
        subst (λ (c : Content). StoredAt (stored old.volumes) part.volume.0 g c (stored new.volumes)) content
        (subst (λ (y : ℕ). StoredAt (stored old.volumes) part.volume.0 y (Bytes mid.buffer) (stored new.volumes)) at st)

    pub torn_stored : {A : Type 0} → HasWritten {A = A} mid part.volume.0 place (Err Fails) new → StoredAt (stored old.volumes) part.volume.0 g Lost (stored new.volumes)
    torn_stored {A} w =
        let x = target_mid in
        subst (λ (y : ℕ). StoredAt (stored old.volumes) part.volume.0 y Lost (stored new.volumes)) at
        (stored_after old.volumes mid.volumes new.volumes part.volume.0 place Lost p.stored_same (failed_stored {A = A} mid new part.volume.0 place x.0 x.1 w))

    pub refused_same : {A : Type 0} → HasWritten {A = A} mid part.volume.0 place (Err NoRoom) new → (v y : ℕ) → stored new.volumes v y ≡ stored old.volumes v y
    refused_same {A} w v y = let x = target_mid in refused_stored {A = A} mid new part.volume.0 place x.0 w v y ∙ p.stored_same v y

    pub own_done : {A : Type 0} (n : ℕ) (a : A) (after : Chains) → n ≡ number → after ≡ record chains { sheet = sheet_written part.volume.0 (n / chains.lanes) chains.sheet } →
        HasWritten {A = A} mid part.volume.0 place (Ok a) new → OwnEnds l told part t (calls_of_write l.grain part) None chains old after new
    own_done {A} n a after q is w =
        let x = target_mid in
        let d = wrote_done {A = A} mid new part.volume.0 place a x.0 w in
        let agrees = lane_law_holds.written l told part t (stored old.volumes) (stored new.volumes) can.is.sound can.is.place can.is.live
        (record { sound = can.stands.sound; shows = can.stands.shows }) (done_stored {A = A} a w) in (
          refl,
          record {
            chains_are = is ∙ (λ i. record chains { sheet = sheet_written part.volume.0 (q i / can.lanes_are i) (can.sheet_is i) });
            stands = record {
              sound = agrees.sound;
              sized = after_sized (sheet_written part.volume.0 g before) (shape_written before part.volume.0 g) (size_written part.volume.0 g before) d.same;
              shows = agrees.shows;
            };
            counted = calls_all false d.counted;
            same = same_then old mid new p.same d.same;
            rooms = reached_after (rooms_of old.volumes) (rooms_of mid.volumes) (rooms_of new.volumes) part.volume.0 part.volume.0 place g refl at p.rooms_same (wrote_reached {A = A} mid new part.volume.0 place a w);
          },
        )

    pub own_torn : {A : Type 0} (n : ℕ) (side : Side) (torn : Torn) (after : Chains) → n ≡ number → side ≡ lost_side → torn ≡ record { volume = part.volume; grain = record { 0 = n }; side = side } →
        after ≡ record chains { sheet = sheet_torn part.volume.0 (n / chains.lanes) side chains.sheet } → HasWritten {A = A} mid part.volume.0 place (Err Fails) new →
        OwnEnds l told part t (calls_of_write l.grain part) (Some (Failed (Some torn))) chains old after new
    own_torn {A} n side torn after q s r is w =
        let x = target_mid in
        let d = failed_done {A = A} mid new part.volume.0 place x.0 w in
        let agrees = lane_law_holds.torn_write l told part t (stored old.volumes) (stored new.volumes) can.is.sound can.is.place can.is.live
        (record { sound = can.stands.sound; shows = can.stands.shows }) (torn_stored {A = A} w) in
        let torn_is : torn ≡ torn_of spot own = r ∙ (λ i. record { volume = record { 0 = sym named i }; grain = record { 0 = q i }; side = s i }) in
        let counted = calls_all true d.counted in (
          record {
            called = calls_some whole;
            within = omega arith;
            torn_is = ap Some torn_is ∙ sym (same_calls (calls_of_write l.grain part) (torn_of spot own));
            risen = counted.risen refl;
            torn_by_write = risen_then old.write_faults mid.write_faults new.write_faults p.counted.writes_kept (d.torn_by_write refl);
          },
          subst (λ (z : Torn). OwnStands l told part t None (calls_of_write l.grain part) (Some z) chains old after new) (sym torn_is)
              (record {
                chains_are = is ∙ (λ i. record chains { sheet = sheet_torn (sym named i) (q i / can.lanes_are i) (s i) (can.sheet_is i) });
                stands = record {
                  sound = agrees.sound;
                  sized = after_sized (sheet_torn (slot_at told.sheet.slots t).volume g lost_side before) (shape_torn before (slot_at told.sheet.slots t).volume g lost_side) (size_torn (slot_at told.sheet.slots t).volume g lost_side before) d.same;
                  shows = agrees.shows;
                };
                counted = counted_any old new (calls_of_write l.grain part) true counted;
                same = same_then old mid new p.same d.same;
                rooms = reached_after (rooms_of old.volumes) (rooms_of mid.volumes) (rooms_of new.volumes) part.volume.0 own.volume place g (sym named) at p.rooms_same (failed_reached {A = A} mid new part.volume.0 place w);
              }),
        )
      where
        same_calls : (n : ℕ) (x : Torn) → cond (eqb n n) (Some x) None ≡ Some x
        same_calls n x = ap (λ (b : Bool). cond b (Some x) None) (eq-eqb n n refl)

    pub own_refused : {A : Type 0} → HasWritten {A = A} mid part.volume.0 place (Err NoRoom) new → OwnEnds l told part t (calls_of_write l.grain part) (Some NoMemory) chains old chains new
    own_refused {A} w =
        let x = target_mid in
        let d = refused_done {A = A} mid new part.volume.0 place x.0 w in
        let thin : (volume_of old.volumes part.volume.0).kind ≡ Thin = sym (p.same.kinds part.volume.0) ∙ w.allowed in (
          omega arith,
          thin_told old.volumes told.volumes part.volume.0 can.same thin,
          unmade (calls_of_write l.grain part) new (refused_same {A = A} w) (refused_rooms {A = A} mid new part.volume.0 place w ∙ p.rooms_same) (calls_all false d.counted) (same_then old mid new p.same d.same),
        )

  -- the side of a failed write
  pub own_side : (from : ℕ) (side : Side) → from ≡ shows_from → side ≡ cond (from == part.volume.0) Now Under → side ≡ lost_side
  unfolding shows_from
  own_side from side e is =
      let own_is : reads_own (column before.slots g) t ≡ eqb (slot_at before.slots source.0).volume (slot_at before.slots t).volume =
      ap (is_of_volume (column before.slots g) (slot_at before.slots t).volume) source.1.holds in
      is ∙ ap (λ (b : Bool). cond b Now Under) ((λ i. eqb (e i) (sym volume_is i)) ∙ (sym own_is ∙ ap (λ z. reads_own z t) reached.here))

  -- what the chains need
  pub own_fits : (n : ℕ) → n ≡ number → FitsTaken chains.sheet.slots part.volume.0 (n / chains.lanes)
  own_fits n q = subst (λ (s : Sheet). FitsTaken s.slots part.volume.0 (n / chains.lanes)) (sym can.sheet_is) (subst (λ (y : ℕ). FitsTaken before.slots part.volume.0 y) (λ i. sym q i / sym can.lanes_are i) fits_before.0)

  pub own_fits_lost : (n : ℕ) (side : Side) → n ≡ number → side ≡ lost_side → side ≡ Under → FitsLost chains.sheet.slots part.volume.0 (n / chains.lanes)
  own_fits_lost n side q s under =
      subst (λ (z : Sheet). FitsLost z.slots part.volume.0 (n / chains.lanes)) (sym can.sheet_is)
      (subst (λ (y : ℕ). FitsLost before.slots part.volume.0 y) (λ i. sym q i / sym can.lanes_are i) (fits_before.1 (sym s ∙ under)))

pub own_ends_as : (l : LaneOf) (told : LaneTold) (part : WritePart) (t : ℕ) (chains after : Chains) (old new : GrainsState) (n m : ℕ) (o : Option Stop) (end : StepEnd) → end ≡ record { calls = n; stop = o } → n ≡ m →
    OwnEnds l told part t m o chains old after new → OwnEnds l told part t end.calls end.stop chains old after new
own_ends_as l told part t chains after old new n m o end e q x =
    subst (λ (z : StepEnd). OwnEnds l told part t z.calls z.stop chains old after new) (sym e) (subst (λ (z : ℕ). OwnEnds l told part t z o chains old after new) (sym q) x)

pub own_stored_as : (l : LaneOf) (told : LaneTold) (part : WritePart) (old new : Stored) (n : ℕ) (o : Option Stop) (end : StepEnd) → end ≡ record { calls = n; stop = o } → OwnStored l told part o old new → OwnStored l told part end.stop old new
own_stored_as l told part old new n o end e x = subst (λ (z : StepEnd). OwnStored l told part z.stop old new) (sym e) x

-- why a write wasn't done
pub written_as : (A : Type 0) (old new : GrainsState) (v g : ℕ) (e d : DiskError) → e ≡ d → HasWritten {A = A} old v g (Err e) new → HasWritten {A = A} old v g (Err d) new
written_as A old new v g e d q x = subst (λ (z : DiskError). HasWritten {A = A} old v g (Err z) new) q x

-- ---- what its calls need

-- a write that can be done, of the grain with this number, at this place among the lane's
abbrev CanOwn : WritePart → ℕ → ℕ → Chains → GrainsState → Type 0
CanOwn part n place chains old =
    (l : LaneOf) × (told : LaneTold) × (t : ℕ) × CanWriteOwn l told part t chains old × (n ≡ grain_of_block l.grain part.block) × (place ≡ place_of l (grain_of_block l.grain part.block))

-- the write of a volume that shows the grain of this one
pub record OwnNeeds (part : WritePart) (n place from : ℕ) (chains : Chains) (old : GrainsState) : Type 0 where
  pub there : is_there old.volumes from ≡ true
  pub inside : place < length (volume_of old.volumes from).contents
  pub readable : (is_lost (stored old.volumes from place) && not (covers_grain old.grain part)) ≡ false
  pub target : (mid : GrainsState) → IsPrepared old.grain part (stored old.volumes from place) false old mid →
      (is_there mid.volumes part.volume.0 ≡ true) × (place < length (volume_of mid.volumes part.volume.0).contents)
  pub fits : FitsTaken chains.sheet.slots part.volume.0 (n / chains.lanes)
  pub fits_lost : (side : Side) → side ≡ cond (from == part.volume.0) Now Under → side ≡ Under → FitsLost chains.sheet.slots part.volume.0 (n / chains.lanes)

pub own_needs : (part : WritePart) (n place from : ℕ) (chains : Chains) (old : GrainsState) → CanOwn part n place chains old → IsOfHolder chains (live_place chains.sheet.slots part.volume.0) n from →
    OwnNeeds part n place from chains old
own_needs part n place from chains old (l, told, t, can, number, at) is =
    let e = own_from l told part t chains old can from n number is in
    record {
      there = own_there l told part t chains old can from e;
      inside = own_inside l told part t chains old can from place e at;
      readable = own_readable l told part t chains old can from place e at;
      target = λ mid p. target_mid l told part t chains old can from place mid mid e at p;
      fits = own_fits l told part t chains old can n number;
      fits_lost = λ side is under. own_fits_lost l told part t chains old can n side number (own_side l told part t chains old can from side e is) under;
    }
