-- Entries of a lane, step by step.
use Rattle.std.proofs.Common.{◌≡◌, ℕ, ◌≤◌, ◌<◌, ◌/◌, ◌^◌, Option, Some, None, IsSome, List, [], length, map, take, refl, sym, ap, subst, ◌∙◌}
use Rattle.fc_base.specs.MovePlan.{PlannedMoves}
use Rattle.fc_base.specs.Moves.{fill_moves}
use Rattle.fc_base.specs.declared.ids.GrainNo.{GrainNo}
use Rattle.fc_base.specs.declared.ids.MapId.{MapId}
use Rattle.fc_base.specs.declared.ids.SlotId.{SlotId}
use Rattle.fc_base.specs.declared.request.Move.{Move}
use Rattle.fc_base.specs.declared.request.Pick.TheVariants.{Any}
use Rattle.fc_base.specs.declared.request.Planned.TheVariants.{Fill, Write as PlannedWrite}
use Rattle.fc_base.specs.declared.request.Reply.{Reply}
use Rattle.fc_base.specs.declared.request.Reply.TheVariants.{Done}
use Rattle.fc_base.specs.declared.request.Request.{Request}
use Rattle.fc_base.specs.declared.request.Request.TheVariants.{Write as Writes}
use Rattle.fc_base.specs.declared.request.WritePart.{WritePart}
use Rattle.fc_chain.specs.Chains.{Chains}
use Rattle.fc_chain.specs.Planning.{planned_moves}
use Rattle.fc_entry.specs.Picture.{grain_of_block}
use Rattle.fc_entry.specs.declared.entry.Entry.{Entry}
use Rattle.fc_follow.specs.Following.{Followed}
use Rattle.fc_grains.specs.Grains.{GrainsState}
use Rattle.fc_lane.specs.Doing.{CanWrite, FitsAsk, HasBegun, HasBegunAs, IsNextWork, IsUnderWay}
use Rattle.fc_lane.specs.Entering.{HasEntered, SameBeside}
use Rattle.fc_lane.specs.Lane.{LaneView, IsFollowing, IsLaneOf, IsReady, of}
use Rattle.fc_lane.specs.Turns.{CanPick}
use Rattle.fc_lane.specs.Workers.{IsFilled, ask_of, filled_slot, turn_of}
use Rattle.fc_lane.specs.declared.doing.Begun.TheVariants.{Answered}
use Rattle.fc_lane.specs.declared.doing.Doing.{Doing}
use Rattle.fc_lane.specs.declared.worker.Worker.{Worker}
use Rattle.fc_lane.specs.declared.worker.Worker.TheVariants.{Copier, Cleaner}
use Rattle.fc_lane.proofs.FillEntry.{fill_entered}
use Rattle.fc_lane.proofs.FillLane.{CanFillHere, fill_room, plan_of, runs}
use Rattle.fc_lane.proofs.Followed.{untouched_followed}
use Rattle.fc_lane.proofs.Room.{HasRoom}
use Rattle.fc_lane.proofs.Turns.{turned, work_turned}
use Rattle.fc_lane.proofs.Workers.{turn_writes_none}
use Rattle.fc_lane.proofs.WriteEntry.{fits_write}
use Rattle.fc_lane.proofs.WriteLane.{IsWritable, planned, write_done, write_room}
use Rattle.fc_rules.specs.LaneRight.{done_write}
use Rattle.fc_rules.specs.LaneTold.{LaneOf, LaneTold, place_of}
use Rattle.fc_rules.specs.LaneTurn.{spot_at}
use Rattle.fc_rules.specs.Spot.{move_in}
use Rattle.fc_steps.specs.Asking.{done_of, request_of, steps_entry}
use Rattle.fc_steps.specs.StepsEnd.{CanMakeMoves}
use Rattle.fc_steps.specs.UnderWay.{AreAsked, AreUnderWay, CanOwn, IsCounted, after_step, first_steps, next_of, slot_asked}
use Rattle.fc_steps.specs.declared.ask.Ask.{Ask}
use Rattle.fc_steps.specs.declared.ask.Ask.TheVariants.{Write, Copy, Clean}
use Rattle.fc_steps.specs.declared.body.StepEnd.{StepEnd}
use Rattle.fc_steps.specs.declared.stepping.Next.{Next}
use Rattle.fc_steps.specs.declared.stepping.Next.TheVariants.{Over}
use Rattle.fc_steps.specs.declared.stepping.Steps.{Steps}
use Rattle.fc_steps.specs.declared.stop.Stop.{Stop}
use Rattle.fc_steps.proofs.Naming.{some_is}
use Rattle.fc_steps.proofs.UnderWay.{WayEnds, asked_write, counted_first, same_asked, same_planned, way_begins, way_ends}

-- ---- it begins

-- the steps of what is asked, for what is told
pub record AskedAt (v : LaneView) (told : LaneTold) (ask : Ask) (grain : GrainNo) (moves : List Move) : Type 0 where
  pub slot : ℕ
  pub slot_is : slot_asked (of v) told ask ≡ Some slot
  pub asked : AreAsked (of v) told slot ask grain.0 (grain.0 / v.lanes) moves v.chains v.grains

begins : (v new : LaneView) (ask : Ask) (grain : GrainNo) (plan : PlannedMoves) (number actor : ℕ) (doing : Doing) → HasRoom v (length plan.moves) → CanWrite v ask →
    (told : LaneTold) × IsLaneOf v told × FitsAsk (of v) ask told → ((told : LaneTold) → IsLaneOf v told → FitsAsk (of v) ask told → AskedAt v told ask grain plan.moves) →
    doing ≡ record { number = number; actor = actor; before = v.grains.faults; steps = first_steps ask grain (grain.0 / v.lanes) plan } → new ≡ record v { entry_room = new.entry_room } → HasBegun v number actor ask doing new
begins v new ask grain plan number actor doing room can_write can asked is same =
    let now : LaneView = record v { entry_room = new.entry_room } in
    subst (λ (z : LaneView). HasBegun v number actor ask doing z) (sym same)
    (subst (λ (d : Doing). HasBegun v number actor ask d now) (sym is) (record {
      way = record {
        beside = record { lane = refl; lanes = refl; volumes = refl; flags = refl; changes = refl };
        plan_room = refl;
        before = refl;
        counted = counted_first ask grain (grain.0 / v.lanes) plan room.few;
        room = room.planned;
        can_write = can_write;
        can = can;
        came = λ told s fits.
            let y = asked told s fits in
            record { slot = y.slot; slot_is = y.slot_is; way = way_begins (of v) told y.slot ask grain (grain.0 / v.lanes) plan v.chains v.grains y.asked };
      };
      number_is = refl;
      actor_is = refl;
      steps_are = refl;
      same = refl;
    }))

-- by the moves that are planned
abbrev pub Begins : LaneView → Ask → GrainNo → List Move → ℕ → ℕ → Doing → LaneView → Type 0
Begins v ask grain moves number actor doing new =
    (doing ≡ record { number = number; actor = actor; before = v.grains.faults; steps = first_steps ask grain (grain.0 / v.lanes) (record { moves = moves; room = doing.steps.planned.room }) })
    × (new ≡ record v { entry_room = new.entry_room })

pub write_begins : (v new : LaneView) (part : WritePart) (grain : GrainNo) (number actor : ℕ) (doing : Doing) → IsWritable v part grain.0 (grain.0 / v.lanes) → grain_of_block v.grains.grain part.block < 2 ^ 32 →
    Begins v (Write part) grain (planned_moves v.chains.sheet.slots v.chains.lanes (PlannedWrite part.volume grain)) number actor doing new → HasBegun v number actor (Write part) doing new
write_begins v new part grain number actor doing w below b =
    let moves : List Move = planned_moves v.chains.sheet.slots v.chains.lanes (PlannedWrite part.volume grain) in
    begins v new (Write part) grain (record { moves = moves; room = doing.steps.planned.room }) number actor doing (write_room v part grain.0 (grain.0 / v.lanes) w moves refl)
    (w.online, below) w.can
    (λ told s fits.
    let f = fits_write v told part s fits in
    record {
      slot = f.0;
      slot_is = f.1.place;
      asked = asked_write (of v) told part f.0 v.chains v.grains moves grain.0 (grain.0 / v.lanes) (planned v part grain.0 (grain.0 / v.lanes) w moves refl told f.0 s f.1);
    }) b.0 b.1

-- it is answered at once, and nothing is done
pub answered_at_once : (v : LaneView) (ask : Ask) (number actor : ℕ) (reply : Reply) (entry : Entry) → HasEntered v (FitsAsk (of v) ask) number actor (request_of ask) entry v → done_write (request_of ask) reply ≡ None →
    entry ≡ steps_entry v.lane number actor (request_of ask) reply v.grains.faults v.grains.faults [] 0 None → HasBegunAs v number actor ask (Answered entry) v
answered_at_once v ask number actor reply entry e none is = (
  untouched_followed v (FitsAsk (of v) ask) number actor (request_of ask) reply entry e none is,
  refl,
  record { moves = ap (λ (z : Entry). z.moves) is; calls = ap (λ (z : Entry). z.calls) is; untorn = ap (λ (z : Entry). z.torn) is },
  ap (λ (z : Entry). done_write z.request z.reply) is ∙ none,
)

-- a fill of the slot with this name
module _ (v : LaneView) (m : MapId) (grain : GrainNo) (slot : SlotId) (ready : IsReady v) where
  abbrev moves : List Move
  moves = planned_moves v.chains.sheet.slots v.chains.lanes (Fill slot grain)

  abbrev FitsFill : Worker → LaneTold → Type 0
  FitsFill worker told = IsSome (filled_slot worker told.sheet.slots m.0 (place_of (of v) grain.0))

  -- what the worker asks fits where it has something to fill, and it writes nothing
  asks_fill : (worker : Worker) (told : LaneTold) → FitsFill worker told → FitsAsk (of v) (ask_of worker m grain) told
  asks_fill Copier told some = some
  asks_fill Cleaner told some = some

  fill_asked : (worker : Worker) (told : LaneTold) → FitsAsk (of v) (ask_of worker m grain) told → FitsFill worker told
  fill_asked Copier told fits = fits
  fill_asked Cleaner told fits = fits

  fill_owns : (worker : Worker) → CanWrite v (ask_of worker m grain)
  fill_owns Copier = tt
  fill_owns Cleaner = tt

  -- it asks for the moves that fill the slot at place `k`
  fill_asks : (worker : Worker) (told : LaneTold) (k : ℕ) → filled_slot worker told.sheet.slots m.0 (place_of (of v) grain.0) ≡ Some k →
      let spot = spot_at (of v) told grain.0 in
      CanMakeMoves (of v) told grain.0 (fill_moves spot.column k) v.chains v.grains → moves ≡ map (move_in spot) (fill_moves spot.column k) → AskedAt v told (ask_of worker m grain) grain moves
  fill_asks Copier told k is can planned = record { slot = k; slot_is = is; asked = record { can = can; own = tt; number_is = refl; place_is = refl; planned_are = planned } }
  fill_asks Cleaner told k is can planned = record { slot = k; slot_is = is; asked = record { can = can; own = tt; number_is = refl; place_is = refl; planned_are = planned } }

  module _ (worker : Worker) (filled : IsFilled v worker m grain slot.0) (can : (f : Followed) × IsFollowing v f × FitsFill worker f.told) where
    pub fill_here : CanFillHere v slot.0 grain.0 (grain.0 / v.lanes)
    fill_here =
        let x = filled can.0.told can.1.lane can.2 in
        record { can = (can.0.told, x.0, can.1.lane, x.2); ready = ready; place_is = refl }

    pub fill_begins : (new : LaneView) (number actor : ℕ) (doing : Doing) → Begins v (ask_of worker m grain) grain moves number actor doing new → HasBegun v number actor (ask_of worker m grain) doing new
    fill_begins new number actor doing b =
        begins v new (ask_of worker m grain) grain (record { moves = moves; room = doing.steps.planned.room }) number actor doing (fill_room v slot.0 grain.0 (grain.0 / v.lanes) fill_here moves refl)
        (fill_owns worker) (can.0.told, can.1.lane, asks_fill worker can.0.told can.2)
        (λ told s fits.
        let y = filled told s (fill_asked worker told fits) in
        fill_asks worker told y.0 y.1 (runs v slot.0 grain.0 (grain.0 / v.lanes) fill_here moves refl told y.0 s y.2) (plan_of v slot.0 grain.0 (grain.0 / v.lanes) fill_here moves refl told y.0 s y.2))
        b.0 b.1

-- ---- a step

pub step_made : (lane now : LaneView) (doing : Doing) (next : Next) (end : StepEnd) (steps : Steps) (chains : Chains) (grains : GrainsState) → IsUnderWay lane doing now → steps ≡ after_step next end doing.steps → IsCounted steps →
    ((l : LaneOf) (told : LaneTold) (x : ℕ) (c : Chains) (g : GrainsState) → AreUnderWay l told x c g doing.steps now.chains now.grains → AreUnderWay l told x c g steps chains grains) →
    IsUnderWay lane (record doing { steps = steps }) (record now { chains = chains; grains = grains })
step_made lane now doing next end steps chains grains u is counted way =
    let ask : steps.ask ≡ doing.steps.ask = ap (λ (s : Steps). s.ask) is ∙ same_asked next end doing.steps in
    let plan : steps.planned ≡ doing.steps.planned = ap (λ (s : Steps). s.planned) is ∙ same_planned next end doing.steps in
    record {
      beside = record { lane = u.beside.lane; lanes = u.beside.lanes; volumes = u.beside.volumes; flags = u.beside.flags; changes = u.beside.changes };
      plan_room = u.plan_room;
      before = u.before;
      counted = counted;
      room = subst (λ (p : PlannedMoves). length p.moves ≤ lane.plan_room) (sym plan) u.room;
      can_write = subst (λ (a : Ask). CanWrite lane a) (sym ask) u.can_write;
      can = (u.can.0, u.can.1, subst (λ (a : Ask). FitsAsk (of lane) a u.can.0) (sym ask) u.can.2);
      came = λ told s fits.
          let y = u.came told s (subst (λ (a : Ask). FitsAsk (of lane) a told) ask fits) in
          record { slot = y.slot; slot_is = subst (λ (a : Ask). slot_asked (of lane) told a ≡ Some y.slot) (sym ask) y.slot_is; way = way (of lane) told y.slot lane.chains lane.grains y.way };
    }

-- ---- it is over

-- the steps of what was asked, for what is told, ended so
pub record AskEnds (v new : LaneView) (told : LaneTold) (ask : Ask) (moves : List Move) (calls : ℕ) (stop : Option Stop) : Type 0 where
  pub slot : ℕ
  pub slot_is : slot_asked (of v) told ask ≡ Some slot
  pub own : CanOwn (of v) told ask slot
  pub ends : WayEnds (of v) told slot ask moves calls stop v.chains v.grains new.chains new.grains

ask_entered : (v new : LaneView) (ask : Ask) (number actor : ℕ) (moves : List Move) (calls : ℕ) (stop : Option Stop) (entry : Entry) → SameBeside v new → new.plan_room ≡ v.plan_room → CanWrite v ask →
    (told : LaneTold) × IsLaneOf v told × FitsAsk (of v) ask told → ((told : LaneTold) → IsLaneOf v told → FitsAsk (of v) ask told → AskEnds v new told ask moves calls stop) →
    entry ≡ steps_entry v.lane number actor (request_of ask) (done_of ask) v.grains.faults new.grains.faults moves calls stop → HasEntered v (FitsAsk (of v) ask) number actor (request_of ask) entry new
ask_entered v new (Write part) number actor moves calls stop entry b room can_write can ends is =
    write_done v new part number actor moves calls stop entry b room can_write.0 can
    (λ told s fits.
    let y = ends told s fits in
    record { place = y.slot; is = y.own; ends = y.ends.0; stands = y.ends.1 }) is
ask_entered v new (Copy m grain) number actor moves calls stop entry b room can_write can ends is =
    fill_entered v new m grain number actor moves calls stop b room Copier entry can (λ told s some. (ends told s some).slot) (λ told s some. (ends told s some).slot_is) (λ told s some. (ends told s some).ends) is
ask_entered v new (Clean m grain) number actor moves calls stop entry b room can_write can ends is =
    fill_entered v new m grain number actor moves calls stop b room Cleaner entry can (λ told s some. (ends told s some).slot) (λ told s some. (ends told s some).slot_is) (λ told s some. (ends told s some).ends) is

pub finish_entered : (lane now : LaneView) (doing : Doing) (entry : Entry) → IsUnderWay lane doing now → next_of doing.steps ≡ Over →
    entry ≡ steps_entry now.lane doing.number doing.actor (request_of doing.steps.ask) (done_of doing.steps.ask) doing.before now.grains.faults (take doing.steps.made doing.steps.planned.moves) doing.steps.calls doing.steps.stop →
    HasEntered lane (FitsAsk (of lane) doing.steps.ask) doing.number doing.actor (request_of doing.steps.ask) entry now
finish_entered lane now doing entry u over is =
    let made : List Move = take doing.steps.made doing.steps.planned.moves in
    ask_entered lane now doing.steps.ask doing.number doing.actor made doing.steps.calls doing.steps.stop entry u.beside u.plan_room u.can_write u.can
    (λ told s fits.
    let y = u.came told s fits in
    record { slot = y.slot; slot_is = y.slot_is; own = y.way.asked.own; ends = way_ends (of lane) told y.slot lane.chains lane.grains doing.steps now.chains now.grains y.way over })
    (is ∙ (λ i. steps_entry (u.beside.lane i) doing.number doing.actor (request_of doing.steps.ask) (done_of doing.steps.ask) (u.before i) now.grains.faults made doing.steps.calls doing.steps.stop))

-- the number of what was written can be noted
pub note_number : (v : LaneView) (ask : Ask) (part : WritePart) → CanWrite v ask → request_of ask ≡ Writes part → grain_of_block v.grains.grain part.block < 2 ^ 32
note_number v (Write own) part can e =
    let same : ◌≡◌ {A = WritePart} own part = some_is (ap (λ (q : Request). done_write q Done) e) in
    subst (λ (z : WritePart). grain_of_block v.grains.grain z.block < 2 ^ 32) same can.1
note_number v (Copy m grain) part can e = let f : ◌≡◌ {A = Option WritePart} None (Some part) = ap (λ (q : Request). done_write q Done) e in absurd cc
note_number v (Clean m grain) part can e = let f : ◌≡◌ {A = Option WritePart} None (Some part) = ap (λ (q : Request). done_write q Done) e in absurd cc

-- ---- a worker's turn

by_worker : (worker : Worker) (v new : LaneView) (number actor : ℕ) (m : MapId) (grain : GrainNo) (entry : Entry) → HasEntered v (FitsAsk (of v) (ask_of worker m grain)) number actor (request_of (ask_of worker m grain)) entry new →
    HasEntered v (λ told. IsSome (filled_slot worker told.sheet.slots m.0 (place_of (of v) grain.0))) number actor (request_of (ask_of worker m grain)) entry new
by_worker Copier v new number actor m grain entry h = h
by_worker Cleaner v new number actor m grain entry h = h

pub turn_entered : (worker : Worker) (lane now : LaneView) (ask : Ask) (number actor : ℕ) (m : MapId) (grain : GrainNo) (e t : Entry) → lane.lane < lane.lanes → IsNextWork lane worker m grain → ask ≡ ask_of worker m grain →
    HasEntered lane (FitsAsk (of lane) ask) number actor (request_of ask) e now → t ≡ turned (turn_of worker lane.lane) e →
    HasEntered lane (λ told. CanPick (of lane) (filled_slot worker told.sheet.slots) Any) number actor (turn_of worker lane.lane) t now
turn_entered worker lane now ask number actor m grain e t inside next is h turned_is =
    work_turned worker lane now number actor m grain e t inside next
    (by_worker worker lane now number actor m grain e (subst (λ (a : Ask). HasEntered lane (FitsAsk (of lane) a) number actor (request_of a) e now) is h)) turned_is

-- a turn writes nothing
pub turn_number : (worker : Worker) (lane : ℕ) (part : WritePart) (below : Type 0) → turn_of worker lane ≡ Writes part → below
turn_number worker lane part below e =
    let f : ◌≡◌ {A = Option WritePart} None (Some part) = sym (turn_writes_none worker lane Done) ∙ ap (λ (q : Request). done_write q Done) e in
    absurd cc
