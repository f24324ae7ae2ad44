-- What moves, a write and a torn write at one grain do to a lane's part.
use Rattle.std.proofs.Common.{◌≡◌, ◌≢◌, ℕ, ◌*◌, ◌%◌, Bool, true, false, cond, not, ◌&&◌, ◌==◌, eqb, Option, Some, None, List, [], ◌∷◌, set, map, fold, refl, sym, ap, ◌∙◌}
use Rattle.fc_base.specs.Grain.{block_bytes}
use Rattle.fc_base.specs.Sheet.{Slot, Sheet}
use Rattle.fc_base.specs.SheetStep.{grain_taken, grain_kept, grain_lost, sheet_moved, sheet_written, sheet_torn}
use Rattle.fc_base.specs.declared.ids.GrainNo.{GrainNo}
use Rattle.fc_base.specs.declared.ids.VolId.{VolId}
use Rattle.fc_base.specs.declared.request.Move.{Move}
use Rattle.fc_base.specs.declared.request.Reply.{Reply}
use Rattle.fc_base.specs.declared.request.Reply.TheVariants.{Done}
use Rattle.fc_base.specs.declared.request.Request.{Request}
use Rattle.fc_base.specs.declared.request.Request.TheVariants.{Write}
use Rattle.fc_base.specs.declared.request.Side.{Side}
use Rattle.fc_base.specs.declared.request.Side.TheVariants.{Now, Under}
use Rattle.fc_base.specs.declared.request.Torn.{Torn}
use Rattle.fc_base.specs.declared.request.WritePart.{WritePart}
use Rattle.fc_base.specs.declared.size.GrainSize.{GrainSize}
use Rattle.fc_entry.specs.Picture.{Content, Lost, PlainVolume, Picture, content_at, changed_at, grain_of_block, byte_in_grain, written}
use Rattle.fc_entry.specs.PlainStep.{after_write, after_torn, after_request, after_loss}
use Rattle.fc_legal.specs.Whole.{part, part_of_slot, part_of_sheet, part_of_volume, part_of_picture, single_lane}
use Rattle.fc_rules.specs.LaneRight.{done_write}
use Rattle.fc_rules.specs.LaneTold.{LaneOf, place_of, sheet_move, sheet_write, sheet_tear, sheet_entry, write_volume, picture_write, tear_volume, picture_tear, picture_entry}
use Rattle.fc_parts.proofs.Lists.{all_seen, none_seen}
use Rattle.fc_parts.proofs.Numbers.{IsLane, IsOf, of_same, all_place, part_at_grain, part_set, part_set_other}
use Rattle.fc_parts.proofs.Views.{sheet_of, parts}
use Rattle.fc_parts.proofs.Pictures.{changed_parts}

-- ---- all is at one grain

abbrev pub MovesAt : ℕ → List Move → Type 0
MovesAt number [] = Unit {0}
MovesAt number (m ∷ ms) = (m.grain.0 ≡ number) × MovesAt number ms

abbrev pub TornAt : ℕ → Option Torn → Type 0
TornAt number None = Unit {0}
TornAt number (Some torn) = torn.grain.0 ≡ number

abbrev pub WriteAt : GrainSize → ℕ → Option WritePart → Type 0
WriteAt grain number None = Unit {0}
WriteAt grain number (Some part) = grain_of_block grain part.block ≡ number

-- what moves do there, one after the other
pub moves_seen : {S : Type 0} → (seen : S → S) (f f' : S → Move → S) (number : ℕ) → ((s : S) (m : Move) → m.grain.0 ≡ number → seen (f s m) ≡ f' (seen s) m) →
    (s : S) (moves : List Move) → MovesAt number moves → seen (fold f s moves) ≡ fold f' (seen s) moves
moves_seen seen f f' number each s [] at = refl
moves_seen seen f f' number each s (m ∷ ms) at = moves_seen seen f f' number each (f s m) ms at.1 ∙ ap (λ z. fold f' z ms) (each s m at.0)

pub moves_unseen : {S : Type 0} → (seen : S → S) (f : S → Move → S) (number : ℕ) → ((s : S) (m : Move) → m.grain.0 ≡ number → seen (f s m) ≡ seen s) →
    (s : S) (moves : List Move) → MovesAt number moves → seen (fold f s moves) ≡ seen s
moves_unseen seen f number each s [] at = refl
moves_unseen seen f number each s (m ∷ ms) at = moves_unseen seen f number each (f s m) ms at.1 ∙ each s m at.0

-- ---- one pair

-- a change of slots that does to the part this
abbrev Parted : LaneOf → (Slot → Slot) → (Slot → Slot) → Type 0
Parted l f f' = (t : Slot) → part_of_slot l (f t) ≡ f' (part_of_slot l t)

all_parted : (l : LaneOf) (f f' : Slot → Slot) → Parted l f f' → (births : ℕ) (slots : List Slot) →
    part_of_sheet l (sheet_of births (map f slots)) ≡ sheet_of births (map f' (parts l slots))
all_parted l f f' each births slots = ap (sheet_of births) (all_seen (part_of_slot l) f f' each slots)

abbrev with_bit : Bool → ℕ → Bool → Slot → Slot
with_bit changes g bit t = cond changes (record t { held = set t.held g bit }) t

bit_here : (l : LaneOf) → IsLane l → (number : ℕ) → IsOf l number → (changes bit : Bool) (t : Slot) → part_of_slot l (with_bit changes number bit t) ≡ with_bit changes (place_of l number) bit (part_of_slot l t)
bit_here l i number is_of true bit t = ap (λ (z : List Bool). record t { held = z }) (sym (part_set l i false t.held number bit is_of))
bit_here l i number is_of false bit t = refl

bit_away : (l : LaneOf) → IsLane l → (number : ℕ) → number % l.lanes ≢ l.lane → (changes bit : Bool) (t : Slot) → part_of_slot l (with_bit changes number bit t) ≡ part_of_slot l t
bit_away l i number other true bit t = ap (λ (z : List Bool). record t { held = z }) (sym (part_set_other l i false t.held number bit other))
bit_away l i number other false bit t = refl

taken_here : (l : LaneOf) → IsLane l → (v number : ℕ) → IsOf l number → Parted l (grain_taken v number) (grain_taken v (place_of l number))
taken_here l i v number is_of t = bit_here l i number is_of (eqb t.volume v) t.is_live t

kept_here : (l : LaneOf) → IsLane l → (v number : ℕ) → IsOf l number → Parted l (grain_kept v number) (grain_kept v (place_of l number))
kept_here l i v number is_of t = bit_here l i number is_of (t.is_live && eqb t.volume v) true t

lost_here : (l : LaneOf) → IsLane l → (v number : ℕ) → IsOf l number → Parted l (grain_lost v number) (grain_lost v (place_of l number))
lost_here l i v number is_of t = bit_here l i number is_of (not t.is_live && eqb t.volume v) false t

-- a change of slots that the part doesn't see
abbrev Unseen : LaneOf → (Slot → Slot) → Type 0
Unseen l f = (t : Slot) → part_of_slot l (f t) ≡ part_of_slot l t

all_unseen : (l : LaneOf) (f : Slot → Slot) → Unseen l f → (births : ℕ) (slots : List Slot) → part_of_sheet l (sheet_of births (map f slots)) ≡ part_of_sheet l (sheet_of births slots)
all_unseen l f each births slots = ap (sheet_of births) (none_seen (part_of_slot l) f each slots)

taken_away : (l : LaneOf) → IsLane l → (v number : ℕ) → number % l.lanes ≢ l.lane → Unseen l (grain_taken v number)
taken_away l i v number other t = bit_away l i number other (eqb t.volume v) t.is_live t

kept_away : (l : LaneOf) → IsLane l → (v number : ℕ) → number % l.lanes ≢ l.lane → Unseen l (grain_kept v number)
kept_away l i v number other t = bit_away l i number other (t.is_live && eqb t.volume v) true t

lost_away : (l : LaneOf) → IsLane l → (v number : ℕ) → number % l.lanes ≢ l.lane → Unseen l (grain_lost v number)
lost_away l i v number other t = bit_away l i number other (not t.is_live && eqb t.volume v) false t

-- ---- the chains, on the lane of the grain

moved_here : (l : LaneOf) → IsLane l → (v number : ℕ) (in_place : Bool) (s : Sheet) → IsOf l number → part_of_sheet l (sheet_moved v number in_place s) ≡ sheet_moved v (place_of l number) in_place (part_of_sheet l s)
moved_here l i v number true s is_of = all_parted l _ _ (kept_here l i v number is_of) s.births s.slots
moved_here l i v number false s is_of = all_parted l _ _ (taken_here l i v number is_of) s.births s.slots

written_here : (l : LaneOf) → IsLane l → (v number : ℕ) (s : Sheet) → IsOf l number → part_of_sheet l (sheet_written v number s) ≡ sheet_written v (place_of l number) (part_of_sheet l s)
written_here l i v number s is_of = all_parted l _ _ (taken_here l i v number is_of) s.births s.slots

torn_here : (l : LaneOf) → IsLane l → (v number : ℕ) (side : Side) (s : Sheet) → IsOf l number → part_of_sheet l (sheet_torn v number side s) ≡ sheet_torn v (place_of l number) side (part_of_sheet l s)
torn_here l i v number Now s is_of = all_parted l _ _ (taken_here l i v number is_of) s.births s.slots
torn_here l i v number Under s is_of = all_parted l _ _ (lost_here l i v number is_of) s.births s.slots

move_here : (l : LaneOf) → IsLane l → (s : Sheet) (m : Move) → IsOf l m.grain.0 → part_of_sheet l (sheet_move (single_lane l.grain) s m) ≡ sheet_move l (part_of_sheet l s) m
move_here l i s m is_of =
    ap (λ x. part_of_sheet l (sheet_moved m.volume.0 x m.in_place s)) (all_place l.grain m.grain.0) ∙ moved_here l i m.volume.0 m.grain.0 m.in_place s is_of

write_here : (l : LaneOf) → IsLane l → (number : ℕ) → IsOf l number → (s : Sheet) (write : Option WritePart) → WriteAt l.grain number write →
    part_of_sheet l (sheet_write (single_lane l.grain) s write) ≡ sheet_write l (part_of_sheet l s) write
write_here l i number is_of s None at = refl
write_here l i number is_of s (Some part) at =
    ap (λ x. part_of_sheet l (sheet_written part.volume.0 x s)) (all_place l.grain (grain_of_block l.grain part.block))
    ∙ written_here l i part.volume.0 (grain_of_block l.grain part.block) s (of_same l (grain_of_block l.grain part.block) number at is_of)

tear_here : (l : LaneOf) → IsLane l → (number : ℕ) → IsOf l number → (s : Sheet) (torn : Option Torn) → TornAt number torn → part_of_sheet l (sheet_tear (single_lane l.grain) s torn) ≡ sheet_tear l (part_of_sheet l s) torn
tear_here l i number is_of s None at = refl
tear_here l i number is_of s (Some torn) at =
    ap (λ x. part_of_sheet l (sheet_torn torn.volume.0 x torn.side s)) (all_place l.grain torn.grain.0)
    ∙ torn_here l i torn.volume.0 torn.grain.0 torn.side s (of_same l torn.grain.0 number at is_of)

pub sheet_here : (l : LaneOf) → IsLane l → (number : ℕ) → IsOf l number → (s : Sheet) (write : Option WritePart) (moves : List Move) (torn : Option Torn) →
    WriteAt l.grain number write → MovesAt number moves → TornAt number torn →
    part_of_sheet l (sheet_entry (single_lane l.grain) s write moves torn) ≡ sheet_entry l (part_of_sheet l s) write moves torn
sheet_here l i number is_of s write moves torn w m t =
    let all : LaneOf = single_lane l.grain in
    let moved : Sheet = fold (sheet_move all) s moves in
    tear_here l i number is_of (sheet_write all moved write) torn t
    ∙ (ap (λ z. sheet_tear l z torn) (write_here l i number is_of moved write w)
    ∙ ap (λ z. sheet_tear l (sheet_write l z write) torn)
    (moves_seen (part_of_sheet l) (sheet_move all) (sheet_move l) number (λ z x at. move_here l i z x (of_same l x.grain.0 number at is_of)) s moves m))

-- ---- the chains, on another lane

moved_away : (l : LaneOf) → IsLane l → (v number : ℕ) (in_place : Bool) (s : Sheet) → number % l.lanes ≢ l.lane → part_of_sheet l (sheet_moved v number in_place s) ≡ part_of_sheet l s
moved_away l i v number true s other = all_unseen l _ (kept_away l i v number other) s.births s.slots
moved_away l i v number false s other = all_unseen l _ (taken_away l i v number other) s.births s.slots

torn_away : (l : LaneOf) → IsLane l → (v number : ℕ) (side : Side) (s : Sheet) → number % l.lanes ≢ l.lane → part_of_sheet l (sheet_torn v number side s) ≡ part_of_sheet l s
torn_away l i v number Now s other = all_unseen l _ (taken_away l i v number other) s.births s.slots
torn_away l i v number Under s other = all_unseen l _ (lost_away l i v number other) s.births s.slots

-- so is a number that is the same by way of the lane of all grains
pub away_same : (l : LaneOf) (x number : ℕ) → x ≡ number → number % l.lanes ≢ l.lane → place_of (single_lane l.grain) x % l.lanes ≢ l.lane
away_same l x number e other q = other (sym (ap (λ z. z % l.lanes) (all_place l.grain x ∙ e)) ∙ q)

move_away : (l : LaneOf) → IsLane l → (number : ℕ) → number % l.lanes ≢ l.lane → (s : Sheet) (m : Move) → m.grain.0 ≡ number → part_of_sheet l (sheet_move (single_lane l.grain) s m) ≡ part_of_sheet l s
move_away l i number other s m at = moved_away l i m.volume.0 (place_of (single_lane l.grain) m.grain.0) m.in_place s (away_same l m.grain.0 number at other)

write_away : (l : LaneOf) → IsLane l → (number : ℕ) → number % l.lanes ≢ l.lane → (s : Sheet) (write : Option WritePart) → WriteAt l.grain number write → part_of_sheet l (sheet_write (single_lane l.grain) s write) ≡ part_of_sheet l s
write_away l i number other s None at = refl
write_away l i number other s (Some part) at =
    all_unseen l _ (taken_away l i part.volume.0 (place_of (single_lane l.grain) (grain_of_block l.grain part.block)) (away_same l (grain_of_block l.grain part.block) number at other)) s.births s.slots

tear_away : (l : LaneOf) → IsLane l → (number : ℕ) → number % l.lanes ≢ l.lane → (s : Sheet) (torn : Option Torn) → TornAt number torn → part_of_sheet l (sheet_tear (single_lane l.grain) s torn) ≡ part_of_sheet l s
tear_away l i number other s None at = refl
tear_away l i number other s (Some torn) at = torn_away l i torn.volume.0 (place_of (single_lane l.grain) torn.grain.0) torn.side s (away_same l torn.grain.0 number at other)

pub sheet_away : (l : LaneOf) → IsLane l → (number : ℕ) → number % l.lanes ≢ l.lane → (s : Sheet) (write : Option WritePart) (moves : List Move) (torn : Option Torn) →
    WriteAt l.grain number write → MovesAt number moves → TornAt number torn → part_of_sheet l (sheet_entry (single_lane l.grain) s write moves torn) ≡ part_of_sheet l s
sheet_away l i number other s write moves torn w m t =
    let all : LaneOf = single_lane l.grain in
    let moved : Sheet = fold (sheet_move all) s moves in
    tear_away l i number other (sheet_write all moved write) torn t
    ∙ (write_away l i number other moved write w ∙ moves_unseen (part_of_sheet l) (sheet_move all) number (move_away l i number other) s moves m)

-- ---- the plain volumes

now_here : (l : LaneOf) → IsLane l → (number : ℕ) → IsOf l number → (change : Content → Content) (v : PlainVolume) →
    part_of_volume l (record v { now = set v.now number (change (content_at v.now number)) })
    ≡ record (part_of_volume l v) { now = set (part l Lost v.now) (place_of l number) (change (content_at (part l Lost v.now) (place_of l number))) }
now_here l i number is_of change v =
    ap (λ (z : List Content). record (part_of_volume l v) { now = z })
    (sym (part_set l i Lost v.now number (change (content_at v.now number)) is_of)
    ∙ ap (λ x. set (part l Lost v.now) (place_of l number) (change x)) (sym (part_at_grain l i Lost v.now number Lost is_of)))

under_here : (l : LaneOf) → IsLane l → (number : ℕ) → IsOf l number → (v : PlainVolume) →
    part_of_volume l (record v { under = set v.under number Lost }) ≡ record (part_of_volume l v) { under = set (part l Lost v.under) (place_of l number) Lost }
under_here l i number is_of v = ap (λ (z : List Content). record (part_of_volume l v) { under = z }) (sym (part_set l i Lost v.under number Lost is_of))

part_written : (l : LaneOf) → IsLane l → (number : ℕ) → IsOf l number → (part : WritePart) → grain_of_block l.grain part.block ≡ number → (picture : Picture) →
    part_of_picture l (changed_at part.volume (after_write l.grain part) picture) ≡ picture_write l (part_of_picture l picture) (Some part)
part_written l i number is_of part at picture =
    changed_parts l part.volume (after_write l.grain part) (write_volume l part)
    (now_here l i (grain_of_block l.grain part.block) (of_same l (grain_of_block l.grain part.block) number at is_of) (written (byte_in_grain l.grain part.block) (block_bytes * part.count) part.byte))
    picture

request_here : (l : LaneOf) → IsLane l → (number : ℕ) → IsOf l number → (picture : Picture) (request : Request) (reply : Reply) → WriteAt l.grain number (done_write request reply) →
    part_of_picture l (after_request l.grain picture request reply) ≡ picture_write l (part_of_picture l picture) (done_write request reply)
request_here l i number is_of picture (Write part) Done at = part_written l i number is_of part at picture
request_here l i number is_of picture (Write part) reply at = refl
request_here l i number is_of picture request reply at = refl

loss_here : (l : LaneOf) → IsLane l → (volume : VolId) (grain : GrainNo) (side : Side) → IsOf l grain.0 → (v : PlainVolume) →
    part_of_volume l (after_torn (record { volume = volume; grain = grain; side = side }) v) ≡ tear_volume side (place_of l grain.0) (part_of_volume l v)
loss_here l i volume grain Now is_of v = now_here l i grain.0 is_of (λ x. Lost) v
loss_here l i volume grain Under is_of v = under_here l i grain.0 is_of v

torn_parts : (l : LaneOf) → IsLane l → (number : ℕ) → IsOf l number → (picture : Picture) (torn : Option Torn) → TornAt number torn → part_of_picture l (after_loss picture torn) ≡ picture_tear l (part_of_picture l picture) torn
torn_parts l i number is_of picture None at = refl
torn_parts l i number is_of picture (Some torn) at =
    changed_parts l torn.volume (after_torn torn) (tear_volume torn.side (place_of l torn.grain.0))
    (loss_here l i torn.volume torn.grain torn.side (of_same l torn.grain.0 number at is_of)) picture

pub picture_here : (l : LaneOf) → IsLane l → (number : ℕ) → IsOf l number → (picture : Picture) (request : Request) (reply : Reply) (torn : Option Torn) →
    WriteAt l.grain number (done_write request reply) → TornAt number torn →
    part_of_picture l (after_loss (after_request l.grain picture request reply) torn) ≡ picture_entry l (part_of_picture l picture) (done_write request reply) torn
picture_here l i number is_of picture request reply torn w t =
    torn_parts l i number is_of (after_request l.grain picture request reply) torn t
    ∙ ap (λ (z : Picture). picture_tear l z torn) (request_here l i number is_of picture request reply w)

-- ---- the plain volumes, on another lane

unseen_volumes : (l : LaneOf) (id : VolId) (f : PlainVolume → PlainVolume) → ((v : PlainVolume) → part_of_volume l (f v) ≡ part_of_volume l v) → (picture : Picture) → part_of_picture l (changed_at id f picture) ≡ part_of_picture l picture
unseen_volumes l id f each picture =
    none_seen (part_of_volume l) (λ v. cond (v.volume.0 == id.0) (f v) v) (λ v. by_test (v.volume.0 == id.0) v) picture
  where
    by_test : (b : Bool) (v : PlainVolume) → part_of_volume l (cond b (f v) v) ≡ part_of_volume l v
    by_test true v = each v
    by_test false v = refl

now_away : (l : LaneOf) → IsLane l → (number : ℕ) → number % l.lanes ≢ l.lane → (x : Content) (v : PlainVolume) → part_of_volume l (record v { now = set v.now number x }) ≡ part_of_volume l v
now_away l i number other x v = ap (λ (z : List Content). record (part_of_volume l v) { now = z }) (sym (part_set_other l i Lost v.now number x other))

under_away : (l : LaneOf) → IsLane l → (number : ℕ) → number % l.lanes ≢ l.lane → (v : PlainVolume) → part_of_volume l (record v { under = set v.under number Lost }) ≡ part_of_volume l v
under_away l i number other v = ap (λ (z : List Content). record (part_of_volume l v) { under = z }) (sym (part_set_other l i Lost v.under number Lost other))

away_at : (l : LaneOf) (x number : ℕ) → x ≡ number → number % l.lanes ≢ l.lane → x % l.lanes ≢ l.lane
away_at l x number e other q = other (sym (ap (λ z. z % l.lanes) e) ∙ q)

request_away : (l : LaneOf) → IsLane l → (number : ℕ) → number % l.lanes ≢ l.lane → (picture : Picture) (request : Request) (reply : Reply) → WriteAt l.grain number (done_write request reply) →
    part_of_picture l (after_request l.grain picture request reply) ≡ part_of_picture l picture
request_away l i number other picture (Write part) Done at =
    unseen_volumes l part.volume (after_write l.grain part) (λ v. now_away l i (grain_of_block l.grain part.block) (away_at l (grain_of_block l.grain part.block) number at other) _ v) picture
request_away l i number other picture (Write part) reply at = refl
request_away l i number other picture request reply at = refl

loss_away : (l : LaneOf) → IsLane l → (volume : VolId) (grain : GrainNo) (side : Side) → grain.0 % l.lanes ≢ l.lane → (v : PlainVolume) → part_of_volume l (after_torn (record { volume = volume; grain = grain; side = side }) v) ≡ part_of_volume l v
loss_away l i volume grain Now other v = now_away l i grain.0 other Lost v
loss_away l i volume grain Under other v = under_away l i grain.0 other v

loss_all_away : (l : LaneOf) → IsLane l → (number : ℕ) → number % l.lanes ≢ l.lane → (picture : Picture) (torn : Option Torn) → TornAt number torn → part_of_picture l (after_loss picture torn) ≡ part_of_picture l picture
loss_all_away l i number other picture None at = refl
loss_all_away l i number other picture (Some torn) at =
    unseen_volumes l torn.volume (after_torn torn) (loss_away l i torn.volume torn.grain torn.side (away_at l torn.grain.0 number at other)) picture

pub picture_away : (l : LaneOf) → IsLane l → (number : ℕ) → number % l.lanes ≢ l.lane → (picture : Picture) (request : Request) (reply : Reply) (torn : Option Torn) →
    WriteAt l.grain number (done_write request reply) → TornAt number torn → part_of_picture l (after_loss (after_request l.grain picture request reply) torn) ≡ part_of_picture l picture
picture_away l i number other picture request reply torn w t =
    loss_all_away l i number other (after_request l.grain picture request reply) torn t ∙ request_away l i number other picture request reply w
