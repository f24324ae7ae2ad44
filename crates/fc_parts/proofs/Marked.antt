-- An entry of a lane is right with any number, and by any actor.
use Rattle.std.specs.Prelude.{ℕ, Option, Some, None, List}
use Rattle.fc_base.specs.Sheet.{live_place}
use Rattle.fc_base.specs.declared.ids.GrainNo.{GrainNo}
use Rattle.fc_base.specs.declared.ids.MapId.{MapId}
use Rattle.fc_base.specs.declared.request.ReadPart.{ReadPart}
use Rattle.fc_base.specs.declared.request.Reply.{Reply}
use Rattle.fc_base.specs.declared.request.Reply.TheVariants.{Done, Bytes, Moved, DiskFault, MediumError, NoMemory}
use Rattle.fc_base.specs.declared.request.Request.{Request}
use Rattle.fc_base.specs.declared.request.Request.TheVariants.{Read, Write, Copy, Clean, CopyTurn, CleanTurn}
use Rattle.fc_base.specs.declared.request.WritePart.{WritePart}
use Rattle.fc_base.specs.declared.size.GrainSize.{GrainSize}
use Rattle.fc_base.specs.declared.state.Access.{Access}
use Rattle.fc_base.specs.declared.state.Access.TheVariants.{Online, Offline, NotAccessible}
use Rattle.fc_entry.specs.Picture.{grain_of_block}
use Rattle.fc_entry.specs.declared.entry.Entry.{Entry}
use Rattle.fc_rules.specs.GrainAnswers.{ByAccess, HasRead, ReadAnswers, WriteAnswers, FillAnswers}
use Rattle.fc_rules.specs.LaneRight.{VolumeWrite, MappingFill, CopyAnswers, CleanAnswers, TurnAnswers, LaneAnswers, IsRightInLane}
use Rattle.fc_rules.specs.LaneTold.{LaneOf, LaneTold, place_of, lane_access}
use Rattle.fc_rules.specs.LaneTurn.{spot_at, copied_slot, cleaned_slot, next_copy, next_clean}
use Rattle.fc_rules.specs.Spot.{Spot}
use Rattle.fc_rules.specs.Steps.{DiskStep, HasDone, HasDoneNothing, StoppedAt, HasFailed, HasNoMemory}

-- The entry with this number, by this actor.
abbrev pub marked : ℕ → ℕ → Entry → Entry
marked number actor entry = record entry { number = number; actor = actor }

module _ (number actor : ℕ) (entry : Entry) where
  -- ---- what it did

  nothing_marked : HasDoneNothing entry → HasDoneNothing (marked number actor entry)
  nothing_marked h = record { moves = h.moves; calls = h.calls; untorn = h.untorn }

  read_marked : (calls : ℕ) → HasRead calls entry → HasRead calls (marked number actor entry)
  read_marked calls h = record { moves = h.moves; untorn = h.untorn; calls_are = h.calls_are }

  done_marked : (steps : List DiskStep) → HasDone steps entry → HasDone steps (marked number actor entry)
  done_marked steps h = record { moves = h.moves; calls = h.calls; untorn = h.untorn }

  stopped_marked : (steps : List DiskStep) (step : DiskStep) (extra : ℕ) → StoppedAt steps step extra entry → StoppedAt steps step extra (marked number actor entry)
  stopped_marked steps step extra h = record { before = h.before; after = h.after; steps_are = h.steps_are; moves = h.moves; calls = h.calls; within = h.within }

  failed_marked : (spot : Spot) (steps : List DiskStep) → HasFailed spot steps entry → HasFailed spot steps (marked number actor entry)
  failed_marked spot steps h =
      record { step = h.step; extra = h.extra; stopped = stopped_marked steps h.step h.extra h.stopped; called = h.called; torn = h.torn; risen = h.risen }

  starved_marked : (spot : Spot) (steps : List DiskStep) → HasNoMemory spot steps entry → HasNoMemory spot steps (marked number actor entry)
  starved_marked spot steps h =
      record { step = h.step; extra = h.extra; stopped = stopped_marked steps h.step h.extra h.stopped; untorn = h.untorn; thin = h.thin }

  -- ---- what it answered

  access_marked : (access : Access) (P Q : Type 0) → (P → Q) → ByAccess access entry P → ByAccess access (marked number actor entry) Q
  access_marked Online P Q f a = f a
  access_marked (Offline map state) P Q f a = (a.0, nothing_marked a.1)
  access_marked (NotAccessible map) P Q f a = (a.0, nothing_marked a.1)

  reads_marked : (grain : GrainSize) (spot : Spot) (part : ReadPart) (reply : Reply) → ReadAnswers grain spot part entry reply → ReadAnswers grain spot part (marked number actor entry) reply
  reads_marked grain spot part (Bytes runs) a = (a.0, read_marked 1 a.1)
  reads_marked grain spot part MediumError a = (a.0, read_marked 0 a.1)
  reads_marked grain spot part DiskFault a = (a.0, read_marked 1 a.1, a.2)
  reads_marked grain spot part NoMemory a = (a.0, a.1, a.2, read_marked a.1 a.3)
  reads_marked grain spot part reply a = absurd a

  writes_marked : (grain : GrainSize) (spot : Spot) (part : WritePart) (t : ℕ) (reply : Reply) → WriteAnswers grain spot part t entry reply → WriteAnswers grain spot part t (marked number actor entry) reply
  writes_marked grain spot part t Done a = (a.0, done_marked _ a.1)
  writes_marked grain spot part t MediumError a = (a.0, nothing_marked a.1)
  writes_marked grain spot part t DiskFault a = (a.0, failed_marked spot _ a.1)
  writes_marked grain spot part t NoMemory a = (a.0, starved_marked spot _ a.1)
  writes_marked grain spot part t reply a = absurd a

  fills_marked : (spot : Spot) (m k : ℕ) (reply : Reply) → FillAnswers spot m k entry reply → FillAnswers spot m k (marked number actor entry) reply
  fills_marked spot m k (Moved map grain) a = (a.0, a.1, done_marked _ a.2)
  fills_marked spot m k DiskFault a = failed_marked spot _ a
  fills_marked spot m k NoMemory a = starved_marked spot _ a
  fills_marked spot m k reply a = absurd a

  module _ (l : LaneOf) (told : LaneTold) where
    volume_marked : (part : WritePart) (o : Option ℕ) → VolumeWrite l told part o entry → VolumeWrite l told part o (marked number actor entry)
    volume_marked part None a = absurd a
    volume_marked part (Some t) a = writes_marked l.grain (spot_at l told (grain_of_block l.grain part.block)) part t entry.reply a

    mapping_marked : (m at : ℕ) (o : Option ℕ) → MappingFill l told m at o entry → MappingFill l told m at o (marked number actor entry)
    mapping_marked m at None a = absurd a
    mapping_marked m at (Some k) a = fills_marked (spot_at l told at) m k entry.reply a

    copy_marked : (m : MapId) (grain : GrainNo) → CopyAnswers l told m grain entry → CopyAnswers l told m grain (marked number actor entry)
    copy_marked m grain a = mapping_marked m.0 grain.0 (copied_slot told.sheet.slots m.0 (place_of l grain.0)) a

    clean_marked : (m : MapId) (grain : GrainNo) → CleanAnswers l told m grain entry → CleanAnswers l told m grain (marked number actor entry)
    clean_marked m grain a = mapping_marked m.0 grain.0 (cleaned_slot told.sheet.slots m.0 (place_of l grain.0)) a

    turn_marked : (Answers : MapId → GrainNo → Entry → Type 0) (work : Option (MapId × GrainNo)) →
        ((m : MapId) (grain : GrainNo) → Answers m grain entry → Answers m grain (marked number actor entry)) → TurnAnswers Answers work entry → TurnAnswers Answers work (marked number actor entry)
    turn_marked Answers None f a = (a.0, nothing_marked a.1)
    turn_marked Answers (Some work) f a = f work.0 work.1 a

    answers_marked : (request : Request) → LaneAnswers l told request entry → LaneAnswers l told request (marked number actor entry)
    answers_marked (Read part) a = access_marked (lane_access told.volumes part.volume) _ _ (reads_marked l.grain (spot_at l told (grain_of_block l.grain part.block)) part entry.reply) a
    answers_marked (Write part) a = access_marked (lane_access told.volumes part.volume) _ _ (volume_marked part (live_place told.sheet.slots part.volume.0)) a
    answers_marked (Copy m grain) a = copy_marked m grain a
    answers_marked (Clean m grain) a = clean_marked m grain a
    answers_marked (CopyTurn lane) a = turn_marked (CopyAnswers l told) (next_copy l told) copy_marked a
    answers_marked (CleanTurn lane) a = turn_marked (CleanAnswers l told) (next_clean l told) clean_marked a
    answers_marked request a = absurd a

    pub right_marked : IsRightInLane l told entry → IsRightInLane l told (marked number actor entry)
    right_marked right =
        record {
          place = right.place;
          faults_before = right.faults_before;
          faults_kept = right.faults_kept;
          no_effects = right.no_effects;
          answers = answers_marked entry.request right.answers;
        }
