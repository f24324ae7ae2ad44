-- What an access answers where no call of a disk failed and its grain isn't lost.
use Rattle.std.proofs.Common.{◌≡◌, ◌⊎◌, inl, inr, ℕ, ◌*◌, false, ◌&&◌, not, Option, Some, None, List, refl, sym, ap, subst, ◌∙◌, true≢false}
use Rattle.fc_base.specs.Count.{HasRisen}
use Rattle.fc_base.specs.Grain.{block_bytes}
use Rattle.fc_base.specs.declared.ids.GrainNo.{GrainNo}
use Rattle.fc_base.specs.declared.ids.MapId.{MapId}
use Rattle.fc_base.specs.declared.request.ReadPart.{ReadPart}
use Rattle.fc_base.specs.declared.request.Reply.{Reply}
use Rattle.fc_base.specs.declared.request.Reply.TheVariants as reply
use Rattle.fc_base.specs.declared.request.Request.{Request}
use Rattle.fc_base.specs.declared.request.WritePart.{WritePart}
use Rattle.fc_base.specs.declared.runs.Run.{Run}
use Rattle.fc_base.specs.declared.size.GrainSize.{GrainSize}
use Rattle.fc_base.specs.declared.state.Access.{Access}
use Rattle.fc_base.specs.declared.state.Access.TheVariants.{Online, Offline, NotAccessible}
use Rattle.fc_complete.specs.Served.{IsServedReply, IsServed}
use Rattle.fc_entry.specs.Picture.{is_lost, byte_in_grain, grain_of_block}
use Rattle.fc_entry.specs.Reads.{IsRightIn}
use Rattle.fc_entry.specs.Writes.{covers_grain}
use Rattle.fc_entry.specs.declared.entry.Entry.{Entry}
use Rattle.fc_rules.specs.GrainAnswers.{ByAccess, ReadAnswers, WriteAnswers, FillAnswers, cannot_write}
use Rattle.fc_rules.specs.LaneRight.{LaneAnswers, VolumeWrite, MappingFill, TurnAnswers}
use Rattle.fc_rules.specs.LaneTold.{LaneOf, LaneTold}
use Rattle.fc_rules.specs.LaneTurn.{spot_at}
use Rattle.fc_rules.specs.Spot.{Spot}

-- ---- what is served

-- An answer is served, where it is this one.
record IsServedBy (entry : Entry) (r : Reply) : Type 0 where
  answered : IsServedReply r
  untorn : entry.torn ≡ None

as_served : (entry : Entry) → IsServedBy entry entry.reply → IsServed entry
as_served entry h = record { answered = h.answered; untorn = h.untorn }

module _ (entry : Entry) (quiet : HasRisen entry.faults_before entry.faults_after → ⊥) where
  read_by : (grain : GrainSize) (spot : Spot) (part : ReadPart) (r : Reply) → is_lost (spot.now part.volume.0) ≡ false → ReadAnswers grain spot part entry r → IsServedBy entry r
  read_by grain spot part (reply.Bytes runs) there h = record { answered = tt; untorn = h.1.untorn }
  read_by grain spot part reply.MediumError there h = absurd (true≢false (sym h.0 ∙ there))
  read_by grain spot part reply.DiskFault there h = absurd (quiet h.2)
  read_by grain spot part reply.NoMemory there h = record { answered = tt; untorn = h.3.untorn }
  read_by grain spot part answer there h = absurd h

  pub read_served : (grain : GrainSize) (spot : Spot) (part : ReadPart) → is_lost (spot.now part.volume.0) ≡ false → ReadAnswers grain spot part entry entry.reply → IsServed entry
  read_served grain spot part there h = as_served entry (read_by grain spot part entry.reply there h)

  can_write : (grain : GrainSize) (spot : Spot) (part : WritePart) → is_lost (spot.now part.volume.0) ≡ false → cannot_write grain spot part ≡ false
  can_write grain spot part there = ap (λ b. b && not (covers_grain grain part)) there

  write_by : (grain : GrainSize) (spot : Spot) (part : WritePart) (t : ℕ) (r : Reply) → is_lost (spot.now part.volume.0) ≡ false → WriteAnswers grain spot part t entry r → IsServedBy entry r
  write_by grain spot part t reply.Done there h = record { answered = tt; untorn = h.1.untorn }
  write_by grain spot part t reply.MediumError there h = absurd (true≢false (sym h.0 ∙ can_write grain spot part there))
  write_by grain spot part t reply.DiskFault there h = absurd (quiet h.1.risen)
  write_by grain spot part t reply.NoMemory there h = record { answered = tt; untorn = h.1.untorn }
  write_by grain spot part t answer there h = absurd h

  pub write_served :
      (l : LaneOf) (told : LaneTold) (part : WritePart) (live : Option ℕ) →
      is_lost ((spot_at l told (grain_of_block l.grain part.block)).now part.volume.0) ≡ false →
      VolumeWrite l told part live entry →
      IsServed entry
  write_served l told part None there h = absurd h
  write_served l told part (Some t) there h = as_served entry (write_by l.grain (spot_at l told (grain_of_block l.grain part.block)) part t entry.reply there h)

  fill_by : (spot : Spot) (m k : ℕ) (r : Reply) → FillAnswers spot m k entry r → IsServedBy entry r
  fill_by spot m k (reply.Moved map g) h = record { answered = tt; untorn = h.2.untorn }
  fill_by spot m k reply.DiskFault h = absurd (quiet h.risen)
  fill_by spot m k reply.NoMemory h = record { answered = tt; untorn = h.untorn }
  fill_by spot m k answer h = absurd h

  pub fill_served : (l : LaneOf) (told : LaneTold) (m number : ℕ) (filled : Option ℕ) → MappingFill l told m number filled entry → IsServed entry
  fill_served l told m number None h = absurd h
  fill_served l told m number (Some k) h = as_served entry (fill_by (spot_at l told number) m k entry.reply h)

  -- A volume that isn't online says so.
  pub access_served : (access : Access) (P : Type 0) → (P → IsServed entry) → ByAccess access entry P → IsServed entry
  access_served Online P one h = one h
  access_served (Offline map state) P one h = record { answered = subst IsServedReply (sym h.0) tt; untorn = h.1.untorn }
  access_served (NotAccessible map) P one h = record { answered = subst IsServedReply (sym h.0) tt; untorn = h.1.untorn }

  -- A turn of a worker is idle, or served as its work is.
  pub turn_served :
      (Answers : MapId → GrainNo → Entry → Type 0) (work : Option (MapId × GrainNo)) →
      ((m : MapId) (g : GrainNo) → Answers m g entry → IsServed entry) →
      TurnAnswers Answers work entry →
      IsServed entry
  turn_served Answers None one h = record { answered = subst IsServedReply (sym h.0) tt; untorn = h.1.untorn }
  turn_served Answers (Some work) one h = one work.0 work.1 h

-- ---- what a volume that is online answers

-- An answer of bytes, which are right.
pub record AreBytes (grain : GrainSize) (spot : Spot) (part : ReadPart) (r : Reply) : Type 0 where
  pub runs : List Run
  pub reply : r ≡ reply.Bytes runs
  pub right : IsRightIn (byte_in_grain grain part.block) (block_bytes * part.count) (spot.now part.volume.0) runs

pub read_gives : (grain : GrainSize) (spot : Spot) (part : ReadPart) (entry : Entry) (r : Reply) → ReadAnswers grain spot part entry r → IsServedReply r → AreBytes grain spot part r ⊎ (r ≡ reply.NoMemory)
read_gives grain spot part entry (reply.Bytes runs) h served = inl (record { runs = runs; reply = refl; right = h.0 })
read_gives grain spot part entry reply.NoMemory h served = inr refl
read_gives grain spot part entry reply.MediumError h served = absurd served
read_gives grain spot part entry reply.DiskFault h served = absurd served
read_gives grain spot part entry answer h served = absurd h

write_by_slot : (grain : GrainSize) (spot : Spot) (part : WritePart) (t : ℕ) (entry : Entry) (r : Reply) → WriteAnswers grain spot part t entry r → IsServedReply r → (r ≡ reply.Done) ⊎ (r ≡ reply.NoMemory)
write_by_slot grain spot part t entry reply.Done h served = inl refl
write_by_slot grain spot part t entry reply.NoMemory h served = inr refl
write_by_slot grain spot part t entry reply.MediumError h served = absurd served
write_by_slot grain spot part t entry reply.DiskFault h served = absurd served
write_by_slot grain spot part t entry answer h served = absurd h

pub write_does : (l : LaneOf) (told : LaneTold) (part : WritePart) (live : Option ℕ) (entry : Entry) → VolumeWrite l told part live entry → IsServedReply entry.reply → (entry.reply ≡ reply.Done) ⊎ (entry.reply ≡ reply.NoMemory)
write_does l told part None entry h served = absurd h
write_does l told part (Some t) entry h served = write_by_slot l.grain (spot_at l told (grain_of_block l.grain part.block)) part t entry entry.reply h served

-- ---- by its request

-- What a request answered, by which request it was.
pub answers_of : (l : LaneOf) (told : LaneTold) (entry : Entry) (request : Request) → entry.request ≡ request → LaneAnswers l told entry.request entry → LaneAnswers l told request entry
answers_of l told entry request asked h =
    let P : Request → Type 0 = λ r. LaneAnswers l told r entry in
    subst P asked h
