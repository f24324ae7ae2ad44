-- What holds of each worker.
use Rattle.std.proofs.Common.{◌≡◌, ℕ, Option, None, refl, sym, subst}
use Rattle.fc_base.specs.declared.ids.GrainNo.{GrainNo}
use Rattle.fc_base.specs.declared.ids.MapId.{MapId}
use Rattle.fc_base.specs.declared.request.Reply.{Reply}
use Rattle.fc_base.specs.declared.request.Reply.TheVariants.{Moved}
use Rattle.fc_entry.specs.declared.entry.Entry.{Entry}
use Rattle.fc_lane.specs.Workers.{ask_of, filled_slot, next_of, turn_of}
use Rattle.fc_lane.specs.declared.worker.Worker.{Worker}
use Rattle.fc_lane.specs.declared.worker.Worker.TheVariants.{Copier, Cleaner}
use Rattle.fc_steps.specs.Asking.{done_of, request_of}
use Rattle.fc_rules.specs.LaneRight.{CleanAnswers, CopyAnswers, LaneAnswers, MappingFill, TurnAnswers, done_write}
use Rattle.fc_rules.specs.LaneTold.{LaneOf, LaneTold, place_of}

-- ---- what is asked and answered

pub done_moved : (worker : Worker) (m : MapId) (grain : GrainNo) → done_of (ask_of worker m grain) ≡ Moved m grain
done_moved Copier m grain = refl
done_moved Cleaner m grain = refl

pub fill_writes_none : (worker : Worker) (m : MapId) (grain : GrainNo) (reply : Reply) → done_write (request_of (ask_of worker m grain)) reply ≡ None
fill_writes_none Copier m grain reply = refl
fill_writes_none Cleaner m grain reply = refl

pub turn_writes_none : (worker : Worker) (lane : ℕ) (reply : Reply) → done_write (turn_of worker lane) reply ≡ None
turn_writes_none Copier lane reply = refl
turn_writes_none Cleaner lane reply = refl

-- ---- the answers of one grain, and of a turn

-- the worker's fill for a mapping, as it is told
abbrev pub FillTold : Worker → LaneOf → LaneTold → MapId → GrainNo → Entry → Type 0
FillTold worker l told m grain entry = MappingFill l told m.0 grain.0 (filled_slot worker told.sheet.slots m.0 (place_of l grain.0)) entry

pub fill_answers : (worker : Worker) (l : LaneOf) (told : LaneTold) (m : MapId) (grain : GrainNo) (entry : Entry) → FillTold worker l told m grain entry → LaneAnswers l told (request_of (ask_of worker m grain)) entry
fill_answers Copier l told m grain entry a = a
fill_answers Cleaner l told m grain entry a = a

pub answers_fill : (worker : Worker) (l : LaneOf) (told : LaneTold) (m : MapId) (grain : GrainNo) (entry : Entry) → LaneAnswers l told (request_of (ask_of worker m grain)) entry → FillTold worker l told m grain entry
answers_fill Copier l told m grain entry a = a
answers_fill Cleaner l told m grain entry a = a

pub turn_answers : (worker : Worker) (l : LaneOf) (told : LaneTold) (lane : ℕ) (entry : Entry) (next : Option (MapId × GrainNo)) → next_of worker l told ≡ next → TurnAnswers (FillTold worker l told) next entry →
    LaneAnswers l told (turn_of worker lane) entry
turn_answers Copier l told lane entry next is a = subst (λ (o : Option (MapId × GrainNo)). TurnAnswers (CopyAnswers l told) o entry) (sym is) a
turn_answers Cleaner l told lane entry next is a = subst (λ (o : Option (MapId × GrainNo)). TurnAnswers (CleanAnswers l told) o entry) (sym is) a
