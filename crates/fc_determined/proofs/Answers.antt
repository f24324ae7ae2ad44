-- What an access answers is determined, where nothing failed.
use Rattle.std.proofs.Common.{◌≡◌, ℕ, ◌*◌, true, false, inl, inr, ◌⊎◌, Option, Some, None, List, refl, sym, ap, ◌∙◌, true≢false}
use Rattle.fc_base.specs.Grain.{block_bytes}
use Rattle.fc_base.specs.Sheet.{live_place}
use Rattle.fc_base.specs.declared.ids.GrainNo.{GrainNo}
use Rattle.fc_base.specs.declared.ids.MapId.{MapId}
use Rattle.fc_base.specs.declared.request.ReadPart.{ReadPart}
use Rattle.fc_base.specs.declared.request.Reply.{Reply}
use Rattle.fc_base.specs.declared.request.Reply.TheVariants as reply
use Rattle.fc_base.specs.declared.request.Request.{Request}
use Rattle.fc_base.specs.declared.request.Request.TheVariants.{Read, Write, Copy, Clean}
use Rattle.fc_base.specs.declared.request.WritePart.{WritePart}
use Rattle.fc_base.specs.declared.runs.Run.{Run}
use Rattle.fc_base.specs.declared.size.GrainSize.{GrainSize}
use Rattle.fc_base.specs.declared.state.Access.{Access}
use Rattle.fc_base.specs.declared.state.Access.TheVariants.{Online, Offline, NotAccessible}
use Rattle.fc_determined.proofs.Canonical.{canonical_one}
use Rattle.fc_determined.specs.Smooth.{IsSmooth}
use Rattle.fc_entry.specs.Picture.{is_lost, Content, Bytes, Lost, byte_in_grain, grain_of_block}
use Rattle.fc_entry.specs.Reads.{IsRightIn}
use Rattle.fc_entry.specs.declared.entry.Entry.{Entry}
use Rattle.fc_rules.specs.GrainAnswers.{ByAccess, HasRead, ReadAnswers, WriteAnswers, FillAnswers, cannot_write}
use Rattle.fc_rules.specs.LaneRight.{LaneAnswers, VolumeWrite, MappingFill, TurnAnswers}
use Rattle.fc_rules.specs.LaneTold.{LaneOf, LaneTold, place_of, lane_access}
use Rattle.fc_rules.specs.LaneTurn.{spot_at, copied_slot, cleaned_slot}
use Rattle.fc_rules.specs.Spot.{Spot}
use Rattle.fc_rules.specs.Steps.{HasDone, HasDoneNothing, steps_of_fill, steps_of_write}

-- Two entries answer the same, and did the same.
pub record DidTheSame (x y : Entry) : Type 0 where
  pub reply : y.reply ≡ x.reply
  pub moves : y.moves ≡ x.moves
  pub torn : y.torn ≡ x.torn
  pub calls : y.calls ≡ x.calls

both_nothing : (x y : Entry) (r : Reply) → x.reply ≡ r → y.reply ≡ r → HasDoneNothing x → HasDoneNothing y → DidTheSame x y
both_nothing x y r e f h k =
    record {
      reply = f ∙ sym e;
      moves = k.moves ∙ sym h.moves;
      torn = k.untorn ∙ sym h.untorn;
      calls = k.calls ∙ sym h.calls;
    }

both_read : (x y : Entry) (r : Reply) (calls : ℕ) → x.reply ≡ r → y.reply ≡ r → HasRead calls x → HasRead calls y → DidTheSame x y
both_read x y r calls e f h k =
    record {
      reply = f ∙ sym e;
      moves = k.moves ∙ sym h.moves;
      torn = k.untorn ∙ sym h.untorn;
      calls = k.calls_are ∙ sym h.calls_are;
    }

-- ---- reads

-- A read that didn't fail gave bytes, or its grain is lost.
record GaveBytes (grain : GrainSize) (spot : Spot) (part : ReadPart) (entry : Entry) (r : Reply) : Type 0 where
  runs : List Run
  reply : r ≡ reply.Bytes runs
  right : IsRightIn (byte_in_grain grain part.block) (block_bytes * part.count) (spot.now part.volume.0) runs
  read : HasRead 1 entry

record FoundLost (spot : Spot) (part : ReadPart) (entry : Entry) (r : Reply) : Type 0 where
  reply : r ≡ reply.MediumError
  lost : is_lost (spot.now part.volume.0) ≡ true
  read : HasRead 0 entry

read_seen :
    (grain : GrainSize) (spot : Spot) (part : ReadPart) (entry : Entry) (r : Reply) →
    ReadAnswers grain spot part entry r →
    IsSmooth r →
    GaveBytes grain spot part entry r ⊎ FoundLost spot part entry r
read_seen grain spot part entry (reply.Bytes runs) h smooth = inl (record { runs = runs; reply = refl; right = h.0; read = h.1 })
read_seen grain spot part entry reply.MediumError h smooth = inr (record { reply = refl; lost = h.0; read = h.1 })
read_seen grain spot part entry reply.DiskFault h smooth = absurd smooth
read_seen grain spot part entry reply.NoMemory h smooth = absurd smooth
read_seen grain spot part entry answer h smooth = absurd h

right_not_lost : (from length : ℕ) (c : Content) (runs : List Run) → IsRightIn from length c runs → is_lost c ≡ true → ⊥
right_not_lost from length (Bytes bytes) runs h lost = true≢false (sym lost)
right_not_lost from length Lost runs h lost = absurd h

right_one : (from length : ℕ) (c : Content) (xs ys : List Run) → IsRightIn from length c xs → IsRightIn from length c ys → ys ≡ xs
right_one from length (Bytes bytes) xs ys h k = canonical_one ys xs k.0 h.0 (k.1 ∙ sym h.1)
right_one from length Lost xs ys h k = absurd h

reads_one :
    (grain : GrainSize) (spot : Spot) (part : ReadPart) (x y : Entry) →
    GaveBytes grain spot part x x.reply ⊎ FoundLost spot part x x.reply →
    GaveBytes grain spot part y y.reply ⊎ FoundLost spot part y y.reply →
    DidTheSame x y
reads_one grain spot part x y (inl h) (inl k) =
    let runs : k.runs ≡ h.runs =
    right_one (byte_in_grain grain part.block) (block_bytes * part.count) (spot.now part.volume.0) h.runs k.runs h.right k.right in
    both_read x y (reply.Bytes h.runs) 1 h.reply (k.reply ∙ ap (λ runs. reply.Bytes runs) runs) h.read k.read
reads_one grain spot part x y (inl h) (inr k) =
    absurd (right_not_lost (byte_in_grain grain part.block) (block_bytes * part.count) (spot.now part.volume.0) h.runs h.right k.lost)
reads_one grain spot part x y (inr h) (inl k) =
    absurd (right_not_lost (byte_in_grain grain part.block) (block_bytes * part.count) (spot.now part.volume.0) k.runs k.right h.lost)
reads_one grain spot part x y (inr h) (inr k) = both_read x y reply.MediumError 0 h.reply k.reply h.read k.read

read_one :
    (grain : GrainSize) (spot : Spot) (part : ReadPart) (x y : Entry) →
    ReadAnswers grain spot part x x.reply →
    ReadAnswers grain spot part y y.reply →
    IsSmooth x.reply →
    IsSmooth y.reply →
    DidTheSame x y
read_one grain spot part x y h k smooth smooth_other =
    reads_one grain spot part x y
    (read_seen grain spot part x x.reply h smooth)
    (read_seen grain spot part y y.reply k smooth_other)

-- ---- writes

-- A write that didn't fail was done, or it covers a part of a lost grain.
record WasWritten (grain : GrainSize) (spot : Spot) (part : WritePart) (t : ℕ) (entry : Entry) (r : Reply) : Type 0 where
  reply : r ≡ reply.Done
  can : cannot_write grain spot part ≡ false
  done : HasDone (steps_of_write grain spot part t) entry

record WasLost (grain : GrainSize) (spot : Spot) (part : WritePart) (entry : Entry) (r : Reply) : Type 0 where
  reply : r ≡ reply.MediumError
  can_not : cannot_write grain spot part ≡ true
  nothing : HasDoneNothing entry

write_seen :
    (grain : GrainSize) (spot : Spot) (part : WritePart) (t : ℕ) (entry : Entry) (r : Reply) →
    WriteAnswers grain spot part t entry r →
    IsSmooth r →
    WasWritten grain spot part t entry r ⊎ WasLost grain spot part entry r
write_seen grain spot part t entry reply.Done h smooth = inl (record { reply = refl; can = h.0; done = h.1 })
write_seen grain spot part t entry reply.MediumError h smooth = inr (record { reply = refl; can_not = h.0; nothing = h.1 })
write_seen grain spot part t entry reply.DiskFault h smooth = absurd smooth
write_seen grain spot part t entry reply.NoMemory h smooth = absurd smooth
write_seen grain spot part t entry answer h smooth = absurd h

writes_one :
    (grain : GrainSize) (spot : Spot) (part : WritePart) (t : ℕ) (x y : Entry) →
    WasWritten grain spot part t x x.reply ⊎ WasLost grain spot part x x.reply →
    WasWritten grain spot part t y y.reply ⊎ WasLost grain spot part y y.reply →
    DidTheSame x y
writes_one grain spot part t x y (inl h) (inl k) =
    record {
      reply = k.reply ∙ sym h.reply;
      moves = k.done.moves ∙ sym h.done.moves;
      torn = k.done.untorn ∙ sym h.done.untorn;
      calls = k.done.calls ∙ sym h.done.calls;
    }
writes_one grain spot part t x y (inl h) (inr k) = absurd (true≢false (sym k.can_not ∙ h.can))
writes_one grain spot part t x y (inr h) (inl k) = absurd (true≢false (sym h.can_not ∙ k.can))
writes_one grain spot part t x y (inr h) (inr k) = both_nothing x y reply.MediumError h.reply k.reply h.nothing k.nothing

write_one :
    (l : LaneOf) (told : LaneTold) (part : WritePart) (live : Option ℕ) (x y : Entry) →
    VolumeWrite l told part live x →
    VolumeWrite l told part live y →
    IsSmooth x.reply →
    IsSmooth y.reply →
    DidTheSame x y
write_one l told part None x y h k smooth smooth_other = absurd h
write_one l told part (Some t) x y h k smooth smooth_other =
    let spot : Spot = spot_at l told (grain_of_block l.grain part.block) in
    writes_one l.grain spot part t x y
    (write_seen l.grain spot part t x x.reply h smooth)
    (write_seen l.grain spot part t y y.reply k smooth_other)

-- ---- copies and cleanings

-- A fill that didn't fail has moved its grain.
record WasMoved (spot : Spot) (m k : ℕ) (entry : Entry) (r : Reply) : Type 0 where
  map : MapId
  grain : GrainNo
  reply : r ≡ reply.Moved map grain
  map_is : map.0 ≡ m
  grain_is : grain.0 ≡ spot.number
  done : HasDone (steps_of_fill spot k) entry

fill_seen :
    (spot : Spot) (m k : ℕ) (entry : Entry) (r : Reply) → FillAnswers spot m k entry r → IsSmooth r → WasMoved spot m k entry r
fill_seen spot m k entry (reply.Moved map grain) h smooth =
    record { map = map; grain = grain; reply = refl; map_is = h.0; grain_is = h.1; done = h.2 }
fill_seen spot m k entry reply.DiskFault h smooth = absurd smooth
fill_seen spot m k entry reply.NoMemory h smooth = absurd smooth
fill_seen spot m k entry answer h smooth = absurd h

fills_one : (spot : Spot) (m k : ℕ) (x y : Entry) → WasMoved spot m k x x.reply → WasMoved spot m k y y.reply → DidTheSame x y
fills_one spot m k x y h g =
    let map : g.map ≡ h.map = ap (λ n. record { 0 = n }) (g.map_is ∙ sym h.map_is) in
    let grain : g.grain ≡ h.grain = ap (λ n. record { 0 = n }) (g.grain_is ∙ sym h.grain_is) in
    record {
      reply = g.reply ∙ ap (λ m. reply.Moved m g.grain) map ∙ ap (λ n. reply.Moved h.map n) grain ∙ sym h.reply;
      moves = g.done.moves ∙ sym h.done.moves;
      torn = g.done.untorn ∙ sym h.done.untorn;
      calls = g.done.calls ∙ sym h.done.calls;
    }

fill_one :
    (l : LaneOf) (told : LaneTold) (m number : ℕ) (filled : Option ℕ) (x y : Entry) →
    MappingFill l told m number filled x →
    MappingFill l told m number filled y →
    IsSmooth x.reply →
    IsSmooth y.reply →
    DidTheSame x y
fill_one l told m number None x y h k smooth smooth_other = absurd h
fill_one l told m number (Some slot) x y h k smooth smooth_other =
    fills_one (spot_at l told number) m slot x y
    (fill_seen (spot_at l told number) m slot x x.reply h smooth)
    (fill_seen (spot_at l told number) m slot y y.reply k smooth_other)

-- ---- all

-- A volume that isn't online answers for itself.
by_access :
    (access : Access) (x y : Entry) (P Q : Type 0) →
    (P → Q → DidTheSame x y) →
    ByAccess access x P →
    ByAccess access y Q →
    DidTheSame x y
by_access Online x y P Q one h k = one h k
by_access (Offline map state) x y P Q one h k = both_nothing x y (reply.Offline map state) h.0 k.0 h.1 k.1
by_access (NotAccessible map) x y P Q one h k = both_nothing x y (reply.NotAccessible map) h.0 k.0 h.1 k.1

-- Entries that answer a request, and didn't fail, did the same.
abbrev pub HasOneAnswer : LaneOf → LaneTold → Request → Type 0
HasOneAnswer l told request = (x y : Entry) → LaneAnswers l told request x → LaneAnswers l told request y → IsSmooth x.reply → IsSmooth y.reply → DidTheSame x y

pub read_did : (l : LaneOf) (told : LaneTold) (part : ReadPart) → HasOneAnswer l told (Read part)
read_did l told part x y h k smooth smooth_other =
    by_access (lane_access told.volumes part.volume) x y _ _
    (λ p q. read_one l.grain (spot_at l told (grain_of_block l.grain part.block)) part x y p q smooth smooth_other) h k

pub write_did : (l : LaneOf) (told : LaneTold) (part : WritePart) → HasOneAnswer l told (Write part)
write_did l told part x y h k smooth smooth_other =
    by_access (lane_access told.volumes part.volume) x y _ _
    (λ p q. write_one l told part (live_place told.sheet.slots part.volume.0) x y p q smooth smooth_other) h k

pub copy_did : (l : LaneOf) (told : LaneTold) (m : MapId) (grain : GrainNo) → HasOneAnswer l told (Copy m grain)
copy_did l told m grain x y h k smooth smooth_other =
    fill_one l told m.0 grain.0 (copied_slot told.sheet.slots m.0 (place_of l grain.0)) x y h k smooth smooth_other

pub clean_did : (l : LaneOf) (told : LaneTold) (m : MapId) (grain : GrainNo) → HasOneAnswer l told (Clean m grain)
clean_did l told m grain x y h k smooth smooth_other =
    fill_one l told m.0 grain.0 (cleaned_slot told.sheet.slots m.0 (place_of l grain.0)) x y h k smooth smooth_other

-- A turn of a worker is idle, or did its work.
pub turn_did :
    (Answers : MapId → GrainNo → Entry → Type 0) (work : Option (MapId × GrainNo)) (x y : Entry) →
    ((m : MapId) (grain : GrainNo) → Answers m grain x → Answers m grain y → DidTheSame x y) →
    TurnAnswers Answers work x →
    TurnAnswers Answers work y →
    DidTheSame x y
turn_did Answers None x y one h k = both_nothing x y reply.Idle h.0 k.0 h.1 k.1
turn_did Answers (Some work) x y one h k = one work.0 work.1 h k
