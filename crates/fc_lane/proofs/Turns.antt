-- A worker's turn in a lane.
use Rattle.std.proofs.Common.{◌≡◌, ℕ, ◌%◌, ◌<◌, Bool, IsSome, Option, Some, None, List, [], refl, sym, ap, subst, ◌∙◌}
use Rattle.fc_base.specs.declared.ids.GrainNo.{GrainNo}
use Rattle.fc_base.specs.declared.ids.MapId.{MapId}
use Rattle.fc_base.specs.declared.request.Pick.{Pick}
use Rattle.fc_base.specs.declared.request.Pick.TheVariants.{Any, Grain}
use Rattle.fc_base.specs.declared.request.Reply.{Reply}
use Rattle.fc_base.specs.declared.request.Reply.TheVariants.{Done, Made, Bytes, Listed, Moved, Idle, Offline, NotAccessible, DiskFault, MediumError, NoMemory, Refused}
use Rattle.fc_base.specs.declared.request.Request.{Request}
use Rattle.fc_base.specs.declared.request.WritePart.{WritePart}
use Rattle.fc_entry.specs.declared.entry.Entry.{Entry}
use Rattle.fc_entry.specs.declared.entry.Past.{Past}
use Rattle.fc_entry.specs.declared.entry.Past.TheVariants.{Step}
use Rattle.fc_grains.specs.Volumes.{rooms_of}
use Rattle.fc_steps.specs.Asking.{request_of, steps_entry}
use Rattle.fc_lane.specs.Entering.{HasEntered}
use Rattle.fc_lane.specs.Lane.{LaneView, IsLaneOf, of}
use Rattle.fc_lane.specs.Turns.{CanPick, clean_of, copy_of}
use Rattle.fc_lane.specs.Workers.{ask_of, filled_slot, next_of, pick_of, turn_of}
use Rattle.fc_lane.specs.declared.worker.Worker.{Worker}
use Rattle.fc_lane.specs.declared.worker.Worker.TheVariants.{Copier, Cleaner}
use Rattle.fc_lane.proofs.Entering.{nothing_entered, rooms_past}
use Rattle.fc_lane.proofs.Workers.{FillTold, answers_fill, fill_writes_none, turn_answers, turn_writes_none}
use Rattle.fc_pick.specs.Next.{next_work}
use Rattle.fc_pick.specs.declared.work.WorkFlags.{WorkFlags}
use Rattle.fc_rules.specs.GrainAnswers.{FillAnswers}
use Rattle.fc_rules.specs.LaneRight.{LaneAnswers, MappingFill, record_of, done_write}
use Rattle.fc_rules.specs.LaneTold.{LaneOf, LaneTold, place_of, told_past}
use Rattle.fc_rules.specs.LaneTurn.{copied_slot, cleaned_slot, least_grain, spot_at}
use Rattle.fc_rules.specs.Spot.{Spot}
use Rattle.fc_rules.specs.Steps.{DiskStep as OneStep, StoppedAt, steps_of_fill}
use Rattle.fc_steps.proofs.Filling.{work_is, least_can}

-- ---- it can be done

can_by : (v : LaneView) (told : LaneTold) (has : WorkFlags → Bool) (filled : ℕ → ℕ → Option ℕ) (m : MapId) (g : GrainNo) → v.lane < v.lanes →
    next_work has (λ (n : MapId). least_grain (of v) told.sheet.slots (filled n.0) n.0) told.flags ≡ Some (m, g) → IsSome (filled m.0 (place_of (of v) g.0)) × (g.0 % v.lanes ≡ v.lane)
can_by v told has filled m g i e = least_can (of v) i told.sheet.slots (filled m.0) m.0 g (work_is has (λ (n : MapId). least_grain (of v) told.sheet.slots (filled n.0) n.0) told.flags m g e)

pub work_can : (worker : Worker) (v : LaneView) (told : LaneTold) (m : MapId) (g : GrainNo) → v.lane < v.lanes → next_of worker (of v) told ≡ Some (m, g) →
    IsSome (filled_slot worker told.sheet.slots m.0 (place_of (of v) g.0)) × (g.0 % v.lanes ≡ v.lane)
work_can Copier v told m g i e = can_by v told (λ (row : WorkFlags). row.copies) (copied_slot told.sheet.slots) m g i e
work_can Cleaner v told m g i e = can_by v told (λ (row : WorkFlags). row.cleans) (cleaned_slot told.sheet.slots) m g i e

-- ---- it was done

-- the entry with another request
abbrev pub turned : Request → Entry → Entry
turned request e = record e { request = request }

stopped_turned : (steps : List OneStep) (step : OneStep) (extra : ℕ) (e : Entry) (request : Request) → StoppedAt steps step extra e → StoppedAt steps step extra (turned request e)
stopped_turned steps step extra e request s = record { before = s.before; after = s.after; steps_are = s.steps_are; moves = s.moves; calls = s.calls; within = s.within }

fill_turned : (spot : Spot) (m k : ℕ) (e : Entry) (request : Request) (reply : Reply) → FillAnswers spot m k e reply → FillAnswers spot m k (turned request e) reply
fill_turned spot m k e request Done a = absurd a
fill_turned spot m k e request (Made kind id) a = absurd a
fill_turned spot m k e request (Bytes runs) a = absurd a
fill_turned spot m k e request (Listed rows) a = absurd a
fill_turned spot m k e request (Moved map grain) a = (a.0, a.1, record { moves = a.2.moves; calls = a.2.calls; untorn = a.2.untorn })
fill_turned spot m k e request Idle a = absurd a
fill_turned spot m k e request (Offline map state) a = absurd a
fill_turned spot m k e request (NotAccessible map) a = absurd a
fill_turned spot m k e request DiskFault a = record {
  step = a.step;
  extra = a.extra;
  stopped = stopped_turned (steps_of_fill spot k) a.step a.extra e request a.stopped;
  called = a.called;
  torn = a.torn;
  risen = a.risen;
}
fill_turned spot m k e request MediumError a = absurd a
fill_turned spot m k e request NoMemory a = record {
  step = a.step;
  extra = a.extra;
  stopped = stopped_turned (steps_of_fill spot k) a.step a.extra e request a.stopped;
  untorn = a.untorn;
  thin = a.thin;
}
fill_turned spot m k e request (Refused refusal) a = absurd a

filled_turned : (l : LaneOf) (told : LaneTold) (m number : ℕ) (o : Option ℕ) (e : Entry) (request : Request) → MappingFill l told m number o e → MappingFill l told m number o (turned request e)
filled_turned l told m number None e request a = absurd a
filled_turned l told m number (Some k) e request a = fill_turned (spot_at l told number) m k e request e.reply a

-- what the entry of the one grain records, that of the turn does
past_turned : (worker : Worker) (m : MapId) (g : GrainNo) (lane : ℕ) (e : Entry) → e.request ≡ request_of (ask_of worker m g) → record_of e ≡ record_of (turned (turn_of worker lane) e)
past_turned worker m g lane e asked =
    let past : Option WritePart → Past = λ o. Step e.number o e.moves e.torn e.faults_after e.calls in
    ap past (ap (λ (q : Request). done_write q e.reply) asked ∙ fill_writes_none worker m g e.reply ∙ sym (turn_writes_none worker lane e.reply))

-- a turn needs no more than the lane
abbrev Turn : LaneView → Worker → LaneTold → Type 0
Turn v worker told = CanPick (of v) (filled_slot worker told.sheet.slots) Any

pub work_turned : (worker : Worker) (old new : LaneView) (number actor : ℕ) (m : MapId) (g : GrainNo) (e t : Entry) → old.lane < old.lanes → ((told : LaneTold) → IsLaneOf old told → next_of worker (of old) told ≡ Some (m, g)) →
    HasEntered old (λ told. IsSome (filled_slot worker told.sheet.slots m.0 (place_of (of old) g.0))) number actor (request_of (ask_of worker m g)) e new → t ≡ turned (turn_of worker old.lane) e →
    HasEntered old (Turn old worker) number actor (turn_of worker old.lane) t new
work_turned worker old new number actor m g e t inside next h is =
    subst (λ (z : Entry). HasEntered old (Turn old worker) number actor (turn_of worker old.lane) z new) (sym is) (record {
      right = λ told s fits.
          let l : LaneOf = of old in
          let asked : e.request ≡ request_of (ask_of worker m g) = h.asked.request_is in
          let r = h.right told s (work_can worker old told m g inside (next told s)).0 in
          let filled : FillTold worker l told m g e = answers_fill worker l told m g e (subst (λ (q : Request). LaneAnswers l told q e) asked r.0.answers) in
          let of_turn : FillTold worker l told m g (turned (turn_of worker old.lane) e) = filled_turned l told m.0 g.0 (filled_slot worker told.sheet.slots m.0 (place_of l g.0)) e (turn_of worker old.lane) filled in (
            record {
              place = r.0.place;
              faults_before = r.0.faults_before;
              faults_kept = r.0.faults_kept;
              no_effects = r.0.no_effects;
              answers = turn_answers worker l told old.lane (turned (turn_of worker old.lane) e) (Some (m, g)) (next told s) of_turn;
            },
            subst (λ (p : Past). IsLaneOf new (told_past l told p)) (past_turned worker m g old.lane e asked) r.1,
          );
      rooms = λ told s fits.
          h.rooms told s (work_can worker old told m g inside (next told s)).0 ∙ ap (rooms_past (of old) told.picture (rooms_of old.grains.volumes)) (past_turned worker m g old.lane e h.asked.request_is);
      asked = record { number_is = h.asked.number_is; actor_is = h.asked.actor_is; request_is = refl };
      same = h.same;
      quiet = h.quiet;
      disks = h.disks;
      plan_room = h.plan_room;
      changes = h.changes;
    })

-- ---- nothing is to be done

pub work_idle : (worker : Worker) (v : LaneView) (number actor : ℕ) (entry : Entry) → ((told : LaneTold) → IsLaneOf v told → next_of worker (of v) told ≡ None) →
    entry ≡ steps_entry v.lane number actor (turn_of worker v.lane) Idle v.grains.faults v.grains.faults [] 0 None → HasEntered v (Turn v worker) number actor (turn_of worker v.lane) entry v
work_idle worker v number actor entry next is =
    nothing_entered v (Turn v worker) number actor (turn_of worker v.lane) Idle entry (turn_writes_none worker v.lane Idle)
    (λ told s fits e reply nothing. turn_answers worker (of v) told v.lane e None (next told s) (reply, nothing)) is

-- ---- a grain that is named

pub named_entered : (worker : Worker) (old new : LaneView) (number actor : ℕ) (m : MapId) (g : GrainNo) (entry : Entry) →
    HasEntered old (λ told. IsSome (filled_slot worker told.sheet.slots m.0 (place_of (of old) g.0))) number actor (request_of (ask_of worker m g)) entry new →
    HasEntered old (λ told. CanPick (of old) (filled_slot worker told.sheet.slots) (Grain m g)) number actor (pick_of worker old.lane (Grain m g)) entry new
named_entered worker old new number actor m g entry h = record {
  right = λ told s fits. h.right told s fits.1;
  rooms = λ told s fits. h.rooms told s fits.1;
  asked = h.asked;
  same = h.same;
  quiet = h.quiet;
  disks = h.disks;
  plan_room = h.plan_room;
  changes = h.changes;
}

-- what is asked of a copier and of a cleaner
pub copier_asked : (lane : ℕ) (pick : Pick) → pick_of Copier lane pick ≡ copy_of lane pick
copier_asked lane Any = refl
copier_asked lane (Grain m g) = refl

pub cleaner_asked : (lane : ℕ) (pick : Pick) → pick_of Cleaner lane pick ≡ clean_of lane pick
cleaner_asked lane Any = refl
cleaner_asked lane (Grain m g) = refl
