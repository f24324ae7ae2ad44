-- The law of lanes, from the laws of sheets, pictures and steps.
use Rattle.std.proofs.Common.{true, zero, suc, ◌<◌, Bool, IsSome, is_some, length, slice_index_or, arith, inl, inr, ◌≡◌, ℕ, ◌*◌, false, cond, Some, None, List, [], ◌∷◌, ◌++◌, map, refl, sym, ap, subst, ◌∙◌}
use Rattle.fc_base.specs.Grain.{block_bytes}
use Rattle.fc_base.specs.Moves.{is_in_place, write_moves, after_moves}
use Rattle.fc_base.specs.Sheet.{Slot, Sheet, slot_at, column, live_place, mapping_place, volume_grains, grains_at}
use Rattle.fc_base.specs.SheetFacts.{HasSizes, IsSound}
use Rattle.fc_base.specs.SheetStep.{sheet_written, sheet_torn}
use Rattle.fc_base.specs.declared.request.Side.{Side}
use Rattle.fc_base.specs.declared.request.Side.TheVariants.{Now, Under}
use Rattle.fc_base.specs.declared.request.WritePart.{WritePart}
use Rattle.fc_entry.specs.Picture.{Content, Lost, Picture, changed_at, grain_of_block, byte_in_grain, written}
use Rattle.fc_rules.specs.LaneTold.{LaneOf, LaneTold, place_of, sheet_write, sheet_tear, picture_write, picture_tear, tear_volume}
use Rattle.fc_rules.specs.LaneTurn.{spot_at, lacks_at, copied_slot, needer_at, cleaned_slot}
use Rattle.fc_rules.specs.Shows.{Stored}
use Rattle.fc_rules.specs.Spot.{Spot, move_in}
use Rattle.fc_rules.specs.Steps.{DiskStep, reads_own, step_of_move, own_step, moves_of}
use Rattle.std.proofs.lemmas.Bool.{false_from_ne_true}
use Rattle.fc_base.specs.Column.{first_reader}
use Rattle.fc_moves.proofs.Search.{cases_option}
use Rattle.fc_moves.proofs.Readers.{reader_is, one_holder, own_holder}
use Rattle.fc_sheets.proofs.Lawful.{none_sound, event_sound}
use Rattle.fc_sheets.proofs.Holding.{moved_sound, written_sound, torn_sound}
use Rattle.fc_sheets.proofs.Finding.{live_place_at, mapping_place_at}
use Rattle.fc_pictures.specs.Law.{LosesSide, StoredAt, StoredMoved, changed_now, now_of}
use Rattle.fc_pictures.specs.StepsLaw.{sheet_after, IsLiveAt, MovesRun}
use Rattle.fc_pictures.specs.LaneLaw.{Agrees, sheet_before_write, torn_of, StoredWritten, LaneLaw}
use Rattle.fc_pictures.proofs.Volumes.{id_of}
use Rattle.fc_pictures.proofs.Grains.{moved_shows, written_shows, torn_move_shown, torn_write_shown}
use Rattle.fc_pictures.proofs.Fitting.{move_fits, write_fits}
use Rattle.fc_pictures.proofs.Lawful.{none_shows, event_shows}
use Rattle.fc_pictures.proofs.Running.{sheet_after_push, reader_inside, write_can}

-- ---- moves

moved_agrees : (l : LaneOf) (told : LaneTold) (number : ℕ) (moves before rest : List ℕ) (k : ℕ) (stored after : Stored) → MovesRun l told number moves → moves ≡ before ++ k ∷ rest →
    Agrees (sheet_after l told number before) told.picture stored → StoredMoved (sheet_after l told number before).slots stored k (place_of l number) (move_in (spot_at l told number) k).in_place after →
    Agrees (sheet_after l told number (before ++ k ∷ [])) told.picture after
moved_agrees l told number moves before rest k stored after run split a st =
    let now : Sheet = sheet_after l told number before in
    let m = run.can_move before rest k split in
    let in_place = (move_in (spot_at l told number) k).in_place in
    subst (λ (z : Sheet). Agrees z told.picture after) (sym (sheet_after_push l told number before k m.volume)) (record {
      sound = moved_sound now (slot_at now.slots k).volume (place_of l number) in_place a.sound (λ e. (move_fits now.slots k (place_of l number) m.safe (sym m.mark ∙ e)).0);
      shows = moved_shows now told.picture stored after k (place_of l number) in_place a.sound m.safe m.live.inside m.mark a.shows st;
    })

-- a volume by another name
abbrev TornAs : Sheet → Picture → Stored → Stored → ℕ → Side → ℕ → Type 0
TornAs now picture stored after g side v = StoredAt stored v g Lost after → Agrees (sheet_torn v g side now) (changed_at (id_of v) (tear_volume side g) picture) after

torn_move_agrees : (l : LaneOf) (told : LaneTold) (number : ℕ) (moves before rest : List ℕ) (k : ℕ) (stored after : Stored) → MovesRun l told number moves → moves ≡ before ++ k ∷ rest →
    (move_in (spot_at l told number) k).in_place ≡ false → Agrees (sheet_after l told number before) told.picture stored → StoredAt stored (slot_at told.sheet.slots k).volume (place_of l number) Lost after →
    let torn = Some (torn_of (spot_at l told number) (step_of_move (spot_at l told number) k)) in
    Agrees (sheet_tear l (sheet_after l told number before) torn) (picture_tear l told.picture torn) after
torn_move_agrees l told number moves before rest k stored after run split out a st =
    let g : ℕ = place_of l number in
    let now : Sheet = sheet_after l told number before in
    let m = run.can_move before rest k split in
    let out' : is_in_place (column now.slots g) k ≡ false = sym m.mark ∙ out in
    let f = move_fits now.slots k g m.safe out' in
    let here : TornAs now told.picture stored after g Under (slot_at now.slots k).volume = λ s. record {
      sound = torn_sound now (slot_at now.slots k).volume g Under a.sound f.0 (λ e. f.1);
      shows = torn_move_shown now told.picture stored after k g a.sound m.safe m.live.inside out' a.shows s;
    } in
    subst (TornAs now told.picture stored after g Under) (sym m.volume) here st

-- ---- the write

abbrev WrittenAs : Sheet → Picture → Stored → Stored → ℕ → (Content → Content) → ℕ → Type 0
WrittenAs now picture stored after g change v =
    StoredAt stored v g (change (now_of picture v g)) after → Agrees (sheet_written v g now) (changed_at (id_of v) (changed_now g change) picture) after

written_agrees : (l : LaneOf) (told : LaneTold) (part : WritePart) (t : ℕ) (stored after : Stored) → IsSound told.sheet → live_place told.sheet.slots part.volume.0 ≡ Some t →
    IsLiveAt told.sheet.slots (place_of l (grain_of_block l.grain part.block)) t → Agrees (sheet_before_write l told part t) told.picture stored → StoredWritten l told.picture part stored after →
    Agrees (sheet_write l (sheet_before_write l told part t) (Some part)) (picture_write l told.picture (Some part)) after
written_agrees l told part t stored after sound place live a st =
    let number : ℕ = grain_of_block l.grain part.block in
    let g : ℕ = place_of l number in
    let now : Sheet = sheet_before_write l told part t in
    let w = write_can l told number t sound live in
    let wl = w.live in
    let change : Content → Content = written (byte_in_grain l.grain part.block) (block_bytes * part.count) part.byte in
    let here : WrittenAs now told.picture stored after g change (slot_at now.slots t).volume = λ s. record {
      sound = written_sound now (slot_at now.slots t).volume g a.sound (write_fits now.slots t g w.safe).0;
      shows = written_shows now told.picture stored after t g change a.sound wl.there wl.is_live wl.inside w.safe a.shows s;
    } in
    let name : (slot_at now.slots t).volume ≡ part.volume.0 = sym w.volume ∙ (live_place_at told.sheet.slots part.volume.0 t place).of_volume in
    subst (WrittenAs now told.picture stored after g change) name here st

-- the side of a failed write fits the chains
side_fits : (slots : List Slot) (g t : ℕ) (side : Side) → LosesSide slots g t side → side ≡ Under → reads_own (column slots g) t ≡ false
side_fits slots g t Now own e = absurd cc
side_fits slots g t Under own e = own

torn_write_agrees : (l : LaneOf) (told : LaneTold) (part : WritePart) (t : ℕ) (stored after : Stored) → IsSound told.sheet → live_place told.sheet.slots part.volume.0 ≡ Some t →
    IsLiveAt told.sheet.slots (place_of l (grain_of_block l.grain part.block)) t → Agrees (sheet_before_write l told part t) told.picture stored →
    StoredAt stored part.volume.0 (place_of l (grain_of_block l.grain part.block)) Lost after →
    let spot = spot_at l told (grain_of_block l.grain part.block) in
    let torn = Some (torn_of spot (own_step l.grain spot part t)) in
    Agrees (sheet_tear l (sheet_before_write l told part t) torn) (picture_tear l told.picture torn) after
torn_write_agrees l told part t stored after sound place live a st =
    let number : ℕ = grain_of_block l.grain part.block in
    let g : ℕ = place_of l number in
    let now : Sheet = sheet_before_write l told part t in
    let c = column told.sheet.slots g in
    let side : Side = cond (reads_own (after_moves c (write_moves c t)) t) Now Under in
    let w = write_can l told number t sound live in
    let wl = w.live in
    let f = write_fits now.slots t g w.safe in
    let here : TornAs now told.picture stored after g side (slot_at now.slots t).volume = λ s. record {
      sound = torn_sound now (slot_at now.slots t).volume g side a.sound f.0 (λ e. f.1 (side_fits now.slots g t side w.side_is e));
      shows = torn_write_shown now told.picture stored after t g side a.sound wl.there wl.is_live wl.inside w.safe w.side_is a.shows s;
    } in
    let name : part.volume.0 ≡ (slot_at told.sheet.slots t).volume = sym (live_place_at told.sheet.slots part.volume.0 t place).of_volume in
    subst (TornAs now told.picture stored after g side) (sym w.volume) here (subst (λ v. StoredAt stored v g Lost after) name st)

-- ---- which slots

write_slot : (slots : List Slot) (v g : ℕ) → IsSome (live_place slots v) → g < volume_grains slots v → (t : ℕ) × (live_place slots v ≡ Some t) × IsLiveAt slots g t
write_slot slots v g some lt =
    elim (cases_option (live_place slots v)) [
      | inl none ↦ absurd (let f : true ≡ false = sym some ∙ ap is_some none in cc)
      | inr x ↦ let a = live_place_at slots v x.0 x.1 in
          let e : volume_grains slots v ≡ length (slot_at slots x.0).held = ap (grains_at slots) x.1 in
          (x.0, x.1, record { there = a.there; is_live = a.is_live; inside = omega arith })
    ]

-- a read past the end isn't of a lacking slot
lacks_in : (held : List Bool) (g : ℕ) → slice_index_or held g true ≡ false → (g < length held) × (slice_index_or held g false ≡ false)
lacks_in [] g e = absurd cc
lacks_in (b ∷ bs) zero e = (omega arith, e)
lacks_in (b ∷ bs) (suc g) e = let r = lacks_in bs g e in (omega (arith, r.0), r.1)

lacking : (slots : List Slot) (x k g : ℕ) (live holds : Bool) → (cond live (cond holds None (Some x)) None) ≡ Some k → (live ≡ true) × (holds ≡ false) × (x ≡ k)
lacking slots x k g true true e = absurd cc
lacking slots x k g true false e = (refl, refl, cc)
lacking slots x k g false holds e = absurd cc

copy_slot : (slots : List Slot) (m g k : ℕ) → copied_slot slots m g ≡ Some k → IsLiveAt slots g k × ((column slots g).held k ≡ false)
copy_slot slots m g k e =
    elim (cases_option (mapping_place slots m)) [
      | inl none ↦ absurd (let f : None ≡ Some k = sym (ap (λ o. lacks_at slots o g) none) ∙ e in cc)
      | inr x ↦ let p = mapping_place_at slots m x.0 x.1 in
          let q = lacking slots x.0 k g (slot_at slots x.0).is_live (slice_index_or (slot_at slots x.0).held g true) (sym (ap (λ o. lacks_at slots o g) x.1) ∙ e) in
          let r = lacks_in (slot_at slots x.0).held g q.1 in
          subst (λ (z : ℕ). IsLiveAt slots g z × ((column slots g).held z ≡ false)) q.2 (record { there = p.0; is_live = q.0; inside = r.0 }, r.1)
    ]

clean_slot : (slots : List Slot) (m g k : ℕ) → HasSizes slots → cleaned_slot slots m g ≡ Some k → IsLiveAt slots g k × ((column slots g).held k ≡ false)
clean_slot slots m g k sizes e =
    elim (cases_option (mapping_place slots m)) [
      | inl none ↦ absurd (let f : None ≡ Some k = sym (ap (λ o. needer_at slots o g) none) ∙ e in cc)
      | inr x ↦ let n : first_reader (column slots g) x.0 x.0 ≡ Some k = sym (ap (λ o. needer_at slots o g) x.1) ∙ e in
          let r = reader_is (column slots g) x.0 x.0 k n in (
            record { there = r.there; is_live = r.is_live; inside = reader_inside slots sizes g x.0 x.0 k n },
            false_from_ne_true _ (λ held. r.other (one_holder (column slots g) k k x.0 (own_holder (column slots g) k held) r.reads)),
          )
    ]

-- ---- what entries tell

moves_told : (spot : Spot) (ks : List ℕ) → moves_of (map (step_of_move spot) ks) ≡ map (move_in spot) ks
moves_told spot [] = refl
moves_told spot (k ∷ ks) = ap (λ z. move_in spot k ∷ z) (moves_told spot ks)

moves_then : (spot : Spot) (ks : List ℕ) (own : DiskStep) → own.move ≡ None → moves_of (map (step_of_move spot) ks ++ own ∷ []) ≡ map (move_in spot) ks
moves_then spot [] own e = rw e refl
moves_then spot (k ∷ ks) own e = ap (λ z. move_in spot k ∷ z) (moves_then spot ks own e)

pub lane_law_holds : LaneLaw
lane_law_holds =
    record {
      none = λ stored. record { sound = none_sound; shows = none_shows stored };
      event = λ l told e stored after a f st. record { sound = event_sound _ told.sheet e a.sound f; shows = event_shows l told.sheet told.picture stored after e a.sound f a.shows st };
      moved = moved_agrees;
      torn_move = torn_move_agrees;
      written = written_agrees;
      torn_write = torn_write_agrees;
      write_slot = write_slot;
      copy_slot = copy_slot;
      clean_slot = clean_slot;
      moves_told = moves_told;
      write_told = λ grain spot part t. moves_then spot (write_moves spot.column t) (own_step grain spot part t) refl;
    }
