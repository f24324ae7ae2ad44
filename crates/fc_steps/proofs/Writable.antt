-- Whether a part of a grain can be written, and what the write owes.
use Rattle.std.proofs.Common.{◌≡◌, ℕ, ◌<◌, ◌/◌, ◌&&◌, Bool, true, false, not, List, length, map, refl, sym, ap, ◌∙◌, arith, zero, suc, ◌+◌, ◌≤◌, cond, [], ◌∷◌, reverse}
use Rattle.std.proofs.lemmas.Bool.{and_right, eq-eqb, ne_eqb}
use Rattle.fc_base.specs.Column.{holder, Column}
use Rattle.fc_base.specs.Grain.{grain_blocks}
use Rattle.fc_base.specs.Moves.{write_moves, list_all_with_asked, write_asks}
use Rattle.fc_base.specs.Plan.{move_at, moves_of_write}
use Rattle.fc_base.specs.Sheet.{Slot, Sheet, slot_at, column, live_place}
use Rattle.fc_base.specs.SheetFacts.{IsSound}
use Rattle.fc_base.specs.declared.request.WritePart.{WritePart}
use Rattle.fc_chain.specs.Chains.{Chains}
use Rattle.fc_entry.specs.Picture.{grain_of_block, is_lost}
use Rattle.fc_entry.specs.Writes.{covers_grain}
use Rattle.fc_grains.specs.Grains.{GrainsState}
use Rattle.fc_grains.specs.Volumes.{stored, volume_of}
use Rattle.fc_steps.specs.Reading.{HasHolder, IsOfHolder}
use Rattle.fc_steps.specs.WriteStep.{FitsWrite, spot_of}
use Rattle.fc_steps.specs.StepsEnd.{StandsAt}
use Rattle.fc_steps.proofs.Moving.{Source, source_at, one_holder}
use Rattle.fc_steps.proofs.Shown.{ShownIn, holder_shown, volume_shown}
use Rattle.fc_moves.proofs.Writing.{written}
use Rattle.fc_pictures.specs.Law.{now_of}
use Rattle.fc_pictures.proofs.Lawful.{picture_law_holds}
use Rattle.fc_rules.specs.GrainAnswers.{cannot_write}
use Rattle.fc_rules.specs.LaneTold.{LaneOf, LaneTold, place_of}
use Rattle.fc_rules.specs.Spot.{Spot}
use Rattle.fc_sheets.proofs.Finding.{live_place_at}
use Rattle.std.proofs.lemmas.List.{length-reverse}
use Rattle.std.proofs.lemmas.List.Sums.{sum_by-cons}
use Rattle.fc_chain.specs.Planning.{volume_count}
use Rattle.fc_chain.proofs.Whole.{fits_short}
use Rattle.fc_pictures.specs.StepsLaw.{IsLiveAt}

module _ (l : LaneOf) (told : LaneTold) (part : WritePart) (t : ℕ) (chains : Chains) (old : GrainsState) (at : StandsAt l told chains old) (w : FitsWrite l told part t) where
  abbrev number : ℕ
  number = grain_of_block l.grain part.block

  abbrev g : ℕ
  g = place_of l number

  abbrev spot : Spot
  spot = spot_of l told part

  abbrev slots : List Slot
  slots = told.sheet.slots

  source : (h : ℕ) × Source told.sheet old.volumes g t h
  source = source_at told.sheet old.volumes g t w.sound at.stands.sized w.live.there w.live.is_live w.live.inside

  named : (slot_at slots t).volume ≡ part.volume.0
  named = (live_place_at slots part.volume.0 t w.place).of_volume

  pub shows_first : ℕ
  shows_first = (slot_at slots source.0).volume

  first_shown : ShownIn l told.sheet part.volume.0 t number source.0 chains
  first_shown = record { lane_is = at.lane_is; lanes_are = at.lanes_are; sheet_is = at.sheet_is; sound = w.sound; place = w.place; of_lane = w.fits.of_lane; holds = source.1.holds }

  pub first_held : (n : ℕ) → n ≡ number → HasHolder chains (live_place chains.sheet.slots part.volume.0) n
  first_held = holder_shown l told.sheet part.volume.0 t number source.0 chains first_shown

  pub first_from : (from n : ℕ) → n ≡ number → IsOfHolder chains (live_place chains.sheet.slots part.volume.0) n from → from ≡ shows_first
  unfolding shows_first
  first_from = volume_shown l told.sheet part.volume.0 t number source.0 chains first_shown

  pub first_inside : (from place : ℕ) → from ≡ shows_first → place ≡ g → place < length (volume_of old.volumes from).contents
  unfolding shows_first
  first_inside from place e p =
      let q : length (volume_of old.volumes from).contents ≡ length (volume_of old.volumes (slot_at slots source.0).volume).contents = ap (λ z. length (volume_of old.volumes z).contents) e in
      let lt = source.1.inside in
      omega arith

  shown : spot.now part.volume.0 ≡ stored old.volumes shows_first g
  unfolding shows_first
  shown =
      let r = picture_law_holds.read told.sheet told.picture (stored old.volumes) t g w.sound at.stands.shows w.live.there w.live.is_live w.live.inside in
      let same : r.0 ≡ source.0 = one_holder (holder (column slots g) t) r.0 source.0 r.1 source.1.holds in
      sym (ap (λ (v : ℕ). now_of told.picture v g) named) ∙ (r.2 ∙ ap (λ (h : ℕ). stored old.volumes (slot_at slots h).volume g) same)

  -- whether it can be written
  pub whole_writable : part.count ≡ grain_blocks old.grain → cannot_write l.grain spot part ≡ false
  whole_writable e =
      let whole : covers_grain l.grain part ≡ true = ap (λ z. covers_grain z part) (sym at.grain_is) ∙ eq-eqb part.count (grain_blocks old.grain) e in
      ap (λ (b : Bool). is_lost (spot.now part.volume.0) && not b) whole ∙ and_right (is_lost (spot.now part.volume.0)) false refl

  pub part_writable : (from place : ℕ) → from ≡ shows_first → place ≡ g → (part.count ≡ grain_blocks old.grain → ⊥) → cannot_write l.grain spot part ≡ is_lost (stored old.volumes from place)
  part_writable from place e p some =
      let whole : covers_grain l.grain part ≡ false = ap (λ z. covers_grain z part) (sym at.grain_is) ∙ ne_eqb part.count (grain_blocks old.grain) some in
      let lost : is_lost (spot.now part.volume.0) ≡ is_lost (stored old.volumes from place) = ap is_lost shown ∙ λ i. is_lost (stored old.volumes (sym e i) (sym p i)) in
      (λ i. lost i && not (whole i)) ∙ and_true (is_lost (stored old.volumes from place))
    where
      and_true : (b : Bool) → (b && true) ≡ b
      and_true true = refl
      and_true false = refl

  -- its plan
  pub plan_of_write : (n : ℕ) → n ≡ number → moves_of_write chains.sheet.slots (n / chains.lanes) n (live_place chains.sheet.slots part.volume.0) ≡ map (move_at slots g number) (write_moves spot.column t)
  plan_of_write n e =
      (λ i. moves_of_write (at.sheet_is i).slots (e i / at.lanes_are i) (e i) (live_place (at.sheet_is i).slots part.volume.0))
      ∙ ap (moves_of_write slots g number) w.place

-- ---- how long the plan is

pub write_short : (s : Sheet) (g t : ℕ) → IsSound s → IsLiveAt s.slots g t → length (write_moves (column s.slots g) t) ≤ volume_count s.slots
unfolding write_moves
write_short s g t sound live =
    let c : Column = column s.slots g in
    let w = written c t (record { one = sound.one_live; loops = sound.no_loop; there = live.there; is_live = live.is_live }) in
    let e : length (reverse (list_all_with_asked c (write_asks c t))) ≡ length (list_all_with_asked c (write_asks c t)) = length-reverse (list_all_with_asked c (write_asks c t)) in
    let short : length (list_all_with_asked c (write_asks c t)) ≤ volume_count s.slots = fits_short s.slots g _ w.fits in
    omega arith

pub some_live : (slots : List Slot) (t : ℕ) → t < length slots → (slot_at slots t).is_live ≡ true → 0 < volume_count slots
some_live [] t lt live = absurd (omega arith)
some_live (x ∷ xs) zero lt live =
    let e : volume_count (x ∷ xs) ≡ cond x.is_live 1 0 + volume_count xs = sum_by-cons (λ (z : Slot). cond z.is_live 1 0) x xs in
    let q : cond {A = ℕ} x.is_live 1 0 ≡ 1 = rw live refl in
    omega arith
some_live (x ∷ xs) (suc t) lt live =
    let e : volume_count (x ∷ xs) ≡ cond x.is_live 1 0 + volume_count xs = sum_by-cons (λ (z : Slot). cond z.is_live 1 0) x xs in
    let r = some_live xs t (omega arith) live in
    omega arith
