-- A right entry is right by any actor.
use Rattle.std.proofs.Common.{ℕ, Option, Some, None, List}
use Rattle.fc_base.specs.Sheet.{live_place}
use Rattle.fc_base.specs.declared.command.Command.{Command}
use Rattle.fc_base.specs.declared.command.Command.TheVariants.{Read as ReadLine, Write as WriteLine, Mkpreset}
use Rattle.fc_base.specs.declared.fault.Refusal.{Refusal}
use Rattle.fc_base.specs.declared.fault.Refusal.TheVariants.{Words}
use Rattle.fc_base.specs.declared.ids.GrainNo.{GrainNo}
use Rattle.fc_base.specs.declared.ids.MapId.{MapId}
use Rattle.fc_base.specs.declared.request.ReadPart.{ReadPart}
use Rattle.fc_base.specs.declared.request.Reply.{Reply}
use Rattle.fc_base.specs.declared.request.Reply.TheVariants.{Done, Bytes, Moved, DiskFault, MediumError, NoMemory}
use Rattle.fc_base.specs.declared.request.Request.{Request}
use Rattle.fc_base.specs.declared.request.Request.TheVariants.{Command as Asked, Unread, Read, Write, Copy, Clean, CopyTurn, CleanTurn}
use Rattle.fc_base.specs.declared.request.WritePart.{WritePart}
use Rattle.fc_base.specs.declared.size.GrainSize.{GrainSize}
use Rattle.fc_base.specs.declared.state.Access.{Access}
use Rattle.fc_base.specs.declared.state.Access.TheVariants.{Online, Offline, NotAccessible}
use Rattle.fc_books.specs.Refused.{access_refused, preset_refused}
use Rattle.fc_entry.specs.Picture.{grain_of_block}
use Rattle.fc_entry.specs.declared.entry.Entry.{Entry}
use Rattle.fc_legal.specs.Steps.{MustBeRefused, CommandIsRight, CommandStep, IsApart, IsRefused, LaneStep, RequestStep, Step, TurnStep}
use Rattle.fc_legal.specs.Whole.{Whole, as_one, lane_at, part_at, single_lane}
use Rattle.fc_rules.specs.GrainAnswers.{ByAccess, HasRead, ReadAnswers, WriteAnswers, FillAnswers}
use Rattle.fc_rules.specs.LaneRight.{CleanAnswers, CopyAnswers, LaneAnswers, MappingFill, TurnAnswers, VolumeWrite}
use Rattle.fc_rules.specs.LaneTold.{LaneOf, LaneTold, lane_access, place_of}
use Rattle.fc_rules.specs.LaneTurn.{cleaned_slot, copied_slot, next_clean, next_copy, spot_at}
use Rattle.fc_rules.specs.Spot.{Spot}
use Rattle.fc_rules.specs.Steps.{DiskStep, HasDone, HasDoneNothing, HasFailed, HasNoMemory, StoppedAt}

module _ (actor : ℕ) (e : Entry) where
  abbrev by : Entry
  by = record e { actor = actor }

  -- What is so of the entry is so of it by that actor.
  abbrev Stays : (Entry → Type 0) → Type 0
  Stays IsSo = IsSo e → IsSo by

  -- ---- what it did

  nothing : Stays HasDoneNothing
  nothing h = record { untorn = h.untorn; calls = h.calls; moves = h.moves }

  read : (calls : ℕ) → Stays (HasRead calls)
  read calls h = record { untorn = h.untorn; calls_are = h.calls_are; moves = h.moves }

  done : (steps : List DiskStep) → Stays (HasDone steps)
  done steps h = record { untorn = h.untorn; calls = h.calls; moves = h.moves }

  module _ (spot : Spot) (steps : List DiskStep) where
    stopped : (step : DiskStep) (extra : ℕ) → Stays (StoppedAt steps step extra)
    stopped step extra h = record { before = h.before; after = h.after; steps_are = h.steps_are; within = h.within; calls = h.calls; moves = h.moves }

    failed : Stays (HasFailed spot steps)
    failed h = record { torn = h.torn; risen = h.risen; called = h.called; step = h.step; extra = h.extra; stopped = stopped h.step h.extra h.stopped }

    starved : Stays (HasNoMemory spot steps)
    starved h = record { thin = h.thin; untorn = h.untorn; step = h.step; extra = h.extra; stopped = stopped h.step h.extra h.stopped }

  -- ---- what it answered

  fill : (spot : Spot) (m k : ℕ) (reply : Reply) → Stays (λ x. FillAnswers spot m k x reply)
  fill spot m k (Moved map grain) a = (a.0, a.1, done _ a.2)
  fill spot m k NoMemory a = starved spot _ a
  fill spot m k DiskFault a = failed spot _ a
  fill spot m k reply a = absurd a

  turn : (Fills : MapId → GrainNo → Entry → Type 0) → ((m : MapId) (g : GrainNo) → Stays (Fills m g)) → (work : Option (MapId × GrainNo)) → Stays (TurnAnswers Fills work)
  turn Fills fills (Some work) a = fills work.0 work.1 a
  turn Fills fills None a = (a.0, nothing a.1)

  module _ (l : LaneOf) (told : LaneTold) where
    mapping : (m number : ℕ) (slot : Option ℕ) → Stays (MappingFill l told m number slot)
    mapping m number (Some k) a = fill (spot_at l told number) m k e.reply a
    mapping m number None a = absurd a

    copy : (m : MapId) (g : GrainNo) → Stays (CopyAnswers l told m g)
    copy m g a = mapping m.0 g.0 (copied_slot told.sheet.slots m.0 (place_of l g.0)) a

    clean : (m : MapId) (g : GrainNo) → Stays (CleanAnswers l told m g)
    clean m g a = mapping m.0 g.0 (cleaned_slot told.sheet.slots m.0 (place_of l g.0)) a

    write : (part : WritePart) (t : ℕ) (reply : Reply) → Stays (λ x. WriteAnswers l.grain (spot_at l told (grain_of_block l.grain part.block)) part t x reply)
    write part t Done a = (a.0, done _ a.1)
    write part t NoMemory a = (a.0, starved (spot_at l told (grain_of_block l.grain part.block)) _ a.1)
    write part t DiskFault a = (a.0, failed (spot_at l told (grain_of_block l.grain part.block)) _ a.1)
    write part t MediumError a = (a.0, nothing a.1)
    write part t reply a = absurd a

    volume : (part : WritePart) (slot : Option ℕ) → Stays (VolumeWrite l told part slot)
    volume part (Some t) a = write part t e.reply a
    volume part None a = absurd a

    bytes : (part : ReadPart) (reply : Reply) → Stays (λ x. ReadAnswers l.grain (spot_at l told (grain_of_block l.grain part.block)) part x reply)
    bytes part (Bytes runs) a = (a.0, read 1 a.1)
    bytes part NoMemory a = (a.0, a.1, a.2, read a.1 a.3)
    bytes part DiskFault a = (a.0, read 1 a.1, a.2)
    bytes part MediumError a = (a.0, read 0 a.1)
    bytes part reply a = absurd a

    reached : (access : Access) (IsSo : Entry → Type 0) → Stays IsSo → Stays (λ x. ByAccess access x (IsSo x))
    reached (NotAccessible map) IsSo so a = (a.0, nothing a.1)
    reached (Offline map state) IsSo so a = (a.0, nothing a.1)
    reached Online IsSo so a = so a

    answer : (request : Request) → Stays (LaneAnswers l told request)
    answer (CopyTurn lane) a = turn (CopyAnswers l told) copy (next_copy l told) a
    answer (CleanTurn lane) a = turn (CleanAnswers l told) clean (next_clean l told) a
    answer (Copy m g) a = copy m g a
    answer (Clean m g) a = clean m g a
    answer (Write part) a = reached (lane_access told.volumes part.volume) (VolumeWrite l told part (live_place told.sheet.slots part.volume.0)) (volume part (live_place told.sheet.slots part.volume.0)) a
    answer (Read part) a =
        reached (lane_access told.volumes part.volume) (λ x. ReadAnswers l.grain (spot_at l told (grain_of_block l.grain part.block)) part x x.reply) (bytes part e.reply) a
    answer request a = absurd a

  -- ---- it is right

  apart : Stays IsApart
  apart h = record { no_moves = h.no_moves; untorn = h.untorn; no_calls = h.no_calls; no_faults_before = h.no_faults_before; no_faults_after = h.no_faults_after }

  module _ (grain : GrainSize) (w next : Whole) where
    refused : (refusal : Refusal) → Stays (λ x. IsRefused refusal w x next)
    refused refusal h = record { apart = apart h.apart; place = h.place; reply = h.reply; next_is = h.next_is; no_effects = h.no_effects }

    must : (refusal : Option Refusal) → Stays (λ x. MustBeRefused refusal w x next)
    must (Some refusal) h = refused refusal h
    must None h = absurd h

    decided : (command : Command) → Stays (λ x. CommandStep grain w command x next)
    decided command h = record { apart = apart h.apart; place = h.place; left = h.left; leaves = h.leaves; next_is = h.next_is }

    command : (asked : Command) → Stays (λ x. CommandIsRight grain w asked x next)
    command (ReadLine volume block count) h = must (access_refused grain w.books volume block count) h
    command (WriteLine volume block count byte) h = must (access_refused grain w.books volume block count) h
    command (Mkpreset source preset name) h = must (preset_refused w.books source) h
    command asked h = decided asked h

    in_lane : (i : ℕ) (Answers : Entry → Type 0) → Stays Answers → Stays (λ x. LaneStep grain w i Answers x next)
    in_lane i Answers so h =
        record { answers = so h.answers; place = h.place; faults_before = h.faults_before; faults_kept = h.faults_kept; no_effects = h.no_effects; next_is = h.next_is }

    at_grain : (i : ℕ) → Stays (λ x. LaneStep grain w i (λ y. LaneAnswers (single_lane grain) (as_one w) y.request y) x next)
    at_grain i h = in_lane i (λ y. LaneAnswers (single_lane grain) (as_one w) y.request y) (answer (single_lane grain) (as_one w) e.request) h

    in_turn : (lane : ℕ) (Fills : MapId → GrainNo → Entry → Type 0) → ((m : MapId) (g : GrainNo) → Stays (Fills m g)) → (work : Option (MapId × GrainNo)) →
        Stays (λ x. TurnStep grain w lane Fills work x next)
    in_turn lane Fills fills work h = record { within = h.within; step = in_lane lane (TurnAnswers Fills work) (turn Fills fills work) h.step }

    right : (request : Request) → Stays (λ x. RequestStep grain w request x next)
    right (Asked asked) h = command asked h
    right (Unread fault) h = refused (Words fault) h
    right (Read part) h = (h.0, at_grain _ h.1)
    right (Write part) h = (h.0, at_grain _ h.1)
    right (Copy m g) h = at_grain _ h
    right (Clean m g) h = at_grain _ h
    right (CopyTurn lane) h =
        in_turn lane (CopyAnswers (single_lane grain) (as_one w)) (copy (single_lane grain) (as_one w)) (next_copy (lane_at grain w lane) (part_at grain w lane)) h
    right (CleanTurn lane) h =
        in_turn lane (CleanAnswers (single_lane grain) (as_one w)) (clean (single_lane grain) (as_one w)) (next_clean (lane_at grain w lane) (part_at grain w lane)) h

    pub step_by : Stays (λ x. Step grain w x next)
    step_by h = record { number = h.number; right = right e.request h.right }
