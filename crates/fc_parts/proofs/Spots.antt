-- What an entry may answer in the lane of its grain it may answer by all grains.
use mathlib.Core.Path.{fun_ext}
use Rattle.std.proofs.Common.{◌≡◌, ℕ, true, false, cond, Option, Some, None, List, get_or, refl, sym, ap, subst, ◌∙◌}
use Rattle.fc_base.specs.Column.{Column, needer}
use Rattle.fc_base.specs.Sheet.{Slot, Sheet, slot_at, column, live_place, mapping_place}
use Rattle.fc_base.specs.declared.ids.GrainNo.{GrainNo}
use Rattle.fc_base.specs.declared.ids.MapId.{MapId}
use Rattle.fc_base.specs.declared.request.Request.{Request}
use Rattle.fc_base.specs.declared.request.Request.TheVariants.{Read, Write, Copy, Clean}
use Rattle.fc_base.specs.declared.request.WritePart.{WritePart}
use Rattle.fc_base.specs.declared.state.Access.{Access}
use Rattle.fc_base.specs.declared.state.Access.TheVariants.{Online, Offline, NotAccessible}
use Rattle.fc_entry.specs.Picture.{Picture, volume_in, now_at, grain_of_block}
use Rattle.fc_entry.specs.declared.entry.Entry.{Entry}
use Rattle.fc_legal.specs.Whole.{part, single_lane}
use Rattle.fc_rules.specs.GrainAnswers.{ByAccess, ReadAnswers, WriteAnswers, FillAnswers}
use Rattle.fc_rules.specs.LaneRight.{VolumeWrite, MappingFill, CopyAnswers, CleanAnswers, LaneAnswers}
use Rattle.fc_rules.specs.LaneTold.{LaneOf, LaneVolume, LaneTold, place_of, lane_access, is_thin_in}
use Rattle.fc_rules.specs.LaneTurn.{spot_at, lacks_at, copied_slot, needer_at, cleaned_slot}
use Rattle.fc_rules.specs.Spot.{Spot}
use Rattle.fc_parts.specs.Law.{IsAt}
use Rattle.fc_parts.proofs.Numbers.{IsLane, IsOf, of_same, number_of_place, all_place, part_at_grain}
use Rattle.fc_parts.proofs.Views.{parts, slot_parts, column_parts, live_parts, mapping_parts}
use Rattle.fc_parts.proofs.Pictures.{shown_parts}
use Rattle.fc_parts.proofs.Told.{Follows}

-- ---- at a grain of the lane

column_at : (l : LaneOf) → IsLane l → (slots : List Slot) (number : ℕ) → IsOf l number → column (parts l slots) (place_of l number) ≡ column slots (place_of (single_lane l.grain) number)
column_at l i slots number is_of =
    column_parts l i slots (place_of l number) ∙ ap (column slots) (number_of_place l number is_of ∙ sym (all_place l.grain number))

same_spot : (a b : Spot) → a.column ≡ b.column → a.number ≡ b.number → a.now ≡ b.now → a.is_thin ≡ b.is_thin → a ≡ b
same_spot a b column number now is_thin = λ i. record { column = column i; number = number i; now = now i; is_thin = is_thin i }

-- all that matters there
pub spot_same : (l : LaneOf) → IsLane l → (big small : LaneTold) → Follows l big small → (number : ℕ) → IsOf l number → spot_at l small number ≡ spot_at (single_lane l.grain) big number
spot_same l i big small f number is_of =
    same_spot (spot_at l small number) (spot_at (single_lane l.grain) big number)
    (ap (λ (s : Sheet). column s.slots (place_of l number)) f.sheet ∙ column_at l i big.sheet.slots number is_of)
    refl
    (fun_ext (λ v. ap (λ (p : Picture). now_at (volume_in p record { 0 = v }) (place_of l number)) f.picture ∙ shown_parts l i big.picture number is_of record { 0 = v }))
    (fun_ext (λ v. ap (λ (z : List LaneVolume). is_thin_in z v) f.volumes))

-- ---- which slot is filled

lacks_parts : (l : LaneOf) → IsLane l → (slots : List Slot) (o : Option ℕ) (number : ℕ) → IsOf l number → lacks_at (parts l slots) o (place_of l number) ≡ lacks_at slots o (place_of (single_lane l.grain) number)
lacks_parts l i slots None number is_of = refl
lacks_parts l i slots (Some k) number is_of =
    ap (λ (t : Slot). cond t.is_live (cond (get_or t.held (place_of l number) true) None (Some k)) None) (slot_parts l i slots k)
    ∙ ap (λ b. cond (slot_at slots k).is_live (cond b None (Some k)) None)
    (part_at_grain l i false (slot_at slots k).held number true is_of ∙ ap (λ g. get_or (slot_at slots k).held g true) (sym (all_place l.grain number)))

pub copied_parts : (l : LaneOf) → IsLane l → (slots : List Slot) (m number : ℕ) → IsOf l number → copied_slot (parts l slots) m (place_of l number) ≡ copied_slot slots m (place_of (single_lane l.grain) number)
copied_parts l i slots m number is_of =
    ap (λ o. lacks_at (parts l slots) o (place_of l number)) (mapping_parts l i slots m) ∙ lacks_parts l i slots (mapping_place slots m) number is_of

needer_parts : (l : LaneOf) → IsLane l → (slots : List Slot) (o : Option ℕ) (number : ℕ) → IsOf l number → needer_at (parts l slots) o (place_of l number) ≡ needer_at slots o (place_of (single_lane l.grain) number)
needer_parts l i slots None number is_of = refl
needer_parts l i slots (Some k) number is_of = ap (λ (c : Column). needer c k) (column_at l i slots number is_of)

pub cleaned_parts : (l : LaneOf) → IsLane l → (slots : List Slot) (m number : ℕ) → IsOf l number → cleaned_slot (parts l slots) m (place_of l number) ≡ cleaned_slot slots m (place_of (single_lane l.grain) number)
cleaned_parts l i slots m number is_of =
    ap (λ o. needer_at (parts l slots) o (place_of l number)) (mapping_parts l i slots m) ∙ needer_parts l i slots (mapping_place slots m) number is_of

-- ---- answers

by_access : (access : Access) (entry : Entry) (P Q : Type 0) → (P → Q) → ByAccess access entry P → ByAccess access entry Q
by_access Online entry P Q f a = f a
by_access (Offline map state) entry P Q f a = a
by_access (NotAccessible map) entry P Q f a = a

-- a fill of the slot that is found
fill_answers : (l : LaneOf) → IsLane l → (big small : LaneTold) → Follows l big small → (m number : ℕ) → IsOf l number → (o o' : Option ℕ) (entry : Entry) → o ≡ o' →
    MappingFill l small m number o entry → MappingFill (single_lane l.grain) big m number o' entry
fill_answers l i big small f m number is_of o o' entry e a = subst (λ (z : Option ℕ). MappingFill (single_lane l.grain) big m number z entry) e (same o a)
  where
    same : (o : Option ℕ) → MappingFill l small m number o entry → MappingFill (single_lane l.grain) big m number o entry
    same None a = a
    same (Some k) a = subst (λ (z : Spot). FillAnswers z m k entry entry.reply) (spot_same l i big small f number is_of) a

write_answers : (l : LaneOf) → IsLane l → (big small : LaneTold) → Follows l big small → (part : WritePart) → IsOf l (grain_of_block l.grain part.block) → (o o' : Option ℕ) (entry : Entry) → o ≡ o' →
    VolumeWrite l small part o entry → VolumeWrite (single_lane l.grain) big part o' entry
write_answers l i big small f part is_of o o' entry e a = subst (λ (z : Option ℕ). VolumeWrite (single_lane l.grain) big part z entry) e (same o a)
  where
    same : (o : Option ℕ) → VolumeWrite l small part o entry → VolumeWrite (single_lane l.grain) big part o entry
    same None a = a
    same (Some t) a = subst (λ (z : Spot). WriteAnswers l.grain z part t entry entry.reply) (spot_same l i big small f (grain_of_block l.grain part.block) is_of) a

pub copy_by_all : (l : LaneOf) → IsLane l → (big small : LaneTold) → Follows l big small → (m : MapId) (grain : GrainNo) (entry : Entry) → IsOf l grain.0 →
    CopyAnswers l small m grain entry → CopyAnswers (single_lane l.grain) big m grain entry
copy_by_all l i big small f m grain entry here a =
    fill_answers l i big small f m.0 grain.0 here (copied_slot small.sheet.slots m.0 (place_of l grain.0)) (copied_slot big.sheet.slots m.0 (place_of (single_lane l.grain) grain.0)) entry
    (ap (λ (s : Sheet). copied_slot s.slots m.0 (place_of l grain.0)) f.sheet ∙ copied_parts l i big.sheet.slots m.0 grain.0 here) a

pub clean_by_all : (l : LaneOf) → IsLane l → (big small : LaneTold) → Follows l big small → (m : MapId) (grain : GrainNo) (entry : Entry) → IsOf l grain.0 →
    CleanAnswers l small m grain entry → CleanAnswers (single_lane l.grain) big m grain entry
clean_by_all l i big small f m grain entry here a =
    fill_answers l i big small f m.0 grain.0 here (cleaned_slot small.sheet.slots m.0 (place_of l grain.0)) (cleaned_slot big.sheet.slots m.0 (place_of (single_lane l.grain) grain.0)) entry
    (ap (λ (s : Sheet). cleaned_slot s.slots m.0 (place_of l grain.0)) f.sheet ∙ cleaned_parts l i big.sheet.slots m.0 grain.0 here) a

pub answers_by_all : (l : LaneOf) → IsLane l → (big small : LaneTold) → Follows l big small → (number : ℕ) → IsOf l number → (request : Request) (entry : Entry) → IsAt l.grain number request →
    LaneAnswers l small request entry → LaneAnswers (single_lane l.grain) big request entry
answers_by_all l i big small f number is_of (Read part) entry at a =
    subst (λ (z : List LaneVolume). ByAccess (lane_access z part.volume) entry (ReadAnswers l.grain (spot_at (single_lane l.grain) big (grain_of_block l.grain part.block)) part entry entry.reply)) f.volumes
    (by_access (lane_access small.volumes part.volume) entry _ _
    (subst (λ (z : Spot). ReadAnswers l.grain z part entry entry.reply) (spot_same l i big small f (grain_of_block l.grain part.block) (of_same l (grain_of_block l.grain part.block) number at is_of))) a)
answers_by_all l i big small f number is_of (Write part) entry at a =
    subst (λ (z : List LaneVolume). ByAccess (lane_access z part.volume) entry (VolumeWrite (single_lane l.grain) big part (live_place big.sheet.slots part.volume.0) entry)) f.volumes
    (by_access (lane_access small.volumes part.volume) entry _ _
    (write_answers l i big small f part (of_same l (grain_of_block l.grain part.block) number at is_of) (live_place small.sheet.slots part.volume.0) (live_place big.sheet.slots part.volume.0) entry
    (ap (λ (s : Sheet). live_place s.slots part.volume.0) f.sheet ∙ live_parts l i big.sheet.slots part.volume.0)) a)
answers_by_all l i big small f number is_of (Copy m grain) entry at a = copy_by_all l i big small f m grain entry (of_same l grain.0 number at is_of) a
answers_by_all l i big small f number is_of (Clean m grain) entry at a = clean_by_all l i big small f m grain entry (of_same l grain.0 number at is_of) a
answers_by_all l i big small f number is_of request entry at a = absurd at
