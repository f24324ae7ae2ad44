-- The events of a command, one after the other: each can be done, and leaves a lane that follows what is told after it.
use Rattle.std.proofs.Common.{◌≡◌, ℕ, suc, ◌+◌, ◌<◌, ◌≤◌, ◌^◌, List, [], ◌∷◌, length, get_or, drop, map, fold, All, refl, sym, ap, subst, ◌∙◌, arith}
use Rattle.fc_base.specs.Room.{rooms_after}
use Rattle.fc_base.specs.Sheet.{Slot, Sheet, volume_grains}
use Rattle.fc_base.specs.SheetFacts.{IsSound}
use Rattle.fc_base.specs.SheetFits.{FitsEvent}
use Rattle.fc_base.specs.SheetStep.{sheet_step}
use Rattle.fc_base.specs.declared.decision.LaneEvent.{LaneEvent}
use Rattle.fc_base.specs.declared.decision.LaneEvent.TheVariants.{Make, Remove, Trigger, Retire, Detach, Split, Force, Drop, Forget, NoteCut, Access, Work, Arm}
use Rattle.fc_chain.proofs.RoomLeft.{first_slots, first_grains, room_left}
use Rattle.fc_chain.specs.Chains.{Chains, lane_grains}
use Rattle.fc_changed.specs.Row.{Row, restart_in}
use Rattle.fc_diff.specs.State.{ChangesState}
use Rattle.fc_follow.specs.Alike.{AreAlike}
use Rattle.fc_follow.specs.Following.{FitsFollowed, FitsRows, Followed, IsNoTrigger, TriggersFirst, followed_event, restarts, rows_event}
use Rattle.fc_grains.specs.Grains.{stopped}
use Rattle.fc_grains.specs.Quiet.{IsQuiet}
use Rattle.fc_grains.specs.Volumes.{volume_of}
use Rattle.fc_rules.specs.LaneTold.{LaneOf, grains_in}
use Rattle.fc_lane.specs.Applying.{CanApply, HasApplied}
use Rattle.fc_apply.specs.Events.{CanBeginRows, IsSized, chains_after, AreRowsReady}
use Rattle.fc_lane.specs.Lane.{LaneView, ArmsNone, CanDoEvents, IsFollowing, IsSameLane, KeepsQuiet, of}
use Rattle.fc_apply.specs.Parts.{ArmedBy, IdleAfter, IsArmedAt, IsReadyBeside, SameCounts, StandsFor, armed_event}
use Rattle.fc_steps.specs.Standing.{kind_of_told}
use Rattle.fc_apply.proofs.Arming.{armed_one, idle_same, idle_then}
use Rattle.fc_apply.proofs.Rooms.{event_rooms}
use Rattle.fc_apply.proofs.Following.{event_followed, first_births, restarts_fit, rows_sized, told_counts, told_sheet}
use Rattle.fc_lane.proofs.LaneEvents.{of_same, same_counts, arms_first, arms_rest}
use Rattle.fc_apply.proofs.Telling.{can_do, counts_same, counts_then, next_left, still_ready}

-- ---- one event

-- the rows that it begins stand ready
rows_can_begin : (slots : List Slot) (s : ChangesState) (f : Followed) (e : LaneEvent) (es : List LaneEvent) → slots ≡ f.told.sheet.slots → s.rows ≡ f.rows → AreAlike f → FitsRows f.rows e →
    AreRowsReady slots s (e ∷ es) → CanBeginRows slots s e
rows_can_begin slots s f (Trigger pairs) es at rows alike fits ready = (
  ready,
  subst (λ (z : List Slot). All (λ p. length (restart_in p.map.0 s.rows) ≤ volume_grains z p.target.0) pairs) (sym at)
      (subst (λ (z : List Row). All (λ p. length (restart_in p.map.0 z) ≤ volume_grains f.told.sheet.slots p.target.0) pairs) (sym rows) (restarts_fit f pairs alike fits)),
)
rows_can_begin slots s f (Make volume grains kind) es at rows alike fits ready = tt
rows_can_begin slots s f (Remove volume) es at rows alike fits ready = tt
rows_can_begin slots s f (Retire m) es at rows alike fits ready = tt
rows_can_begin slots s f (Detach m) es at rows alike fits ready = tt
rows_can_begin slots s f (Split m) es at rows alike fits ready = tt
rows_can_begin slots s f (Force m dependents) es at rows alike fits ready = tt
rows_can_begin slots s f (Drop slot) es at rows alike fits ready = tt
rows_can_begin slots s f (Forget m) es at rows alike fits ready = tt
rows_can_begin slots s f (NoteCut m source target) es at rows alike fits ready = tt
rows_can_begin slots s f (Access volume access) es at rows alike fits ready = tt
rows_can_begin slots s f (Work m copies cleans) es at rows alike fits ready = tt
rows_can_begin slots s f (Arm volume grain calls) es at rows alike fits ready = tt

-- no event after the first is a trigger, so no rows have to be ready for them
rows_then_ready : (slots : List Slot) (s : ChangesState) (es : List LaneEvent) → All IsNoTrigger es → AreRowsReady slots s es
rows_then_ready slots s [] none = tt
rows_then_ready slots s (Trigger pairs ∷ es) none = absurd (none 0 (Trigger pairs) (omega arith))
rows_then_ready slots s (Make volume grains kind ∷ es) none = tt
rows_then_ready slots s (Remove volume ∷ es) none = tt
rows_then_ready slots s (Retire m ∷ es) none = tt
rows_then_ready slots s (Detach m ∷ es) none = tt
rows_then_ready slots s (Split m ∷ es) none = tt
rows_then_ready slots s (Force m dependents ∷ es) none = tt
rows_then_ready slots s (Drop slot ∷ es) none = tt
rows_then_ready slots s (Forget m ∷ es) none = tt
rows_then_ready slots s (NoteCut m source target ∷ es) none = tt
rows_then_ready slots s (Access volume access ∷ es) none = tt
rows_then_ready slots s (Work m copies cleans ∷ es) none = tt
rows_then_ready slots s (Arm volume grain calls ∷ es) none = tt

triggers_then : (es : List LaneEvent) → All IsNoTrigger es → TriggersFirst es
triggers_then [] none = tt
triggers_then (e ∷ es) none = λ i d lt. none (suc i) d (omega arith)

module _ (v : LaneView) (f : Followed) (e : LaneEvent) (es : List LaneEvent) (i : IsFollowing v f) (fits : FitsFollowed (of v) f (e ∷ es)) where
  own : StandsFor (of v) v.chains v.grains v.accesses v.work f.told
  own = i.lane.parts

  sheet_is : v.chains.sheet ≡ f.told.sheet
  sheet_is = own.sheet_is

  stepped : sheet_step (lane_grains v.chains.lane v.chains.lanes) v.chains.sheet e ≡ sheet_step (grains_in (of v)) f.told.sheet e
  stepped = λ k. sheet_step (lane_grains (own.lane_is k) (own.lanes_are k)) (sheet_is k) e

  pub can_apply : CanDoEvents v (e ∷ es) → CanApply v e
  can_apply ready = record {
    follow = record {
      sound = subst IsSound (sym sheet_is) own.beside.stands.sound;
      fits = subst (λ (s : Sheet). FitsEvent s e) (sym sheet_is) fits.0;
      births = subst (λ (s : Sheet). s.births < 2 ^ 64) (sym stepped) (first_births (of v) f e es fits);
      slots = first_slots v.chains e es ready.parts.room;
      grains = first_grains v.chains e es ready.parts.room;
      sized = subst (λ (s : Sheet). All (IsSized s.slots) v.changes.rows) (sym sheet_is)
          (subst (λ (rows : List Row). All (IsSized f.told.sheet.slots) rows) (sym i.rows) (rows_sized f own.beside.stands.sound i.alike));
      begins = rows_can_begin v.chains.sheet.slots v.changes f e es (ap (λ (s : Sheet). s.slots) sheet_is) i.rows i.alike fits.2 ready.rows;
    };
    same = own.beside.same ∙ ap (map kind_of_told) (sym own.beside.volumes_are);
    can = can_do (of v) f.told e es v.grains v.accesses v.work own.beside fits.0 fits.1 ready.parts.beside;
  }

  pub applied_follows : (v' : LaneView) → HasApplied v e v' → IsFollowing v' (followed_event (of v) f e)
  applied_follows v' d =
      let now : Followed = followed_event (of v) f e in
      let l : of v' ≡ of v = sym (of_same v v' (same_counts v v' d.lane d.lanes d.done.kept)) in
      let x = event_followed (of v) f e v.grains v'.grains v.accesses v'.accesses v.work v'.work own.beside i.alike fits.0 fits.1 fits.2 d.done in
      record {
        lane = record {
          parts = subst (λ (z : LaneOf). StandsFor z v'.chains v'.grains v'.accesses v'.work now.told) (sym l) (record {
            lane_is = ap (λ (c : Chains). c.lane) d.chains ∙ own.lane_is;
            lanes_are = ap (λ (c : Chains). c.lanes) d.chains ∙ own.lanes_are;
            sheet_is =
                ap (λ (c : Chains). c.sheet) d.chains
                ∙ ((λ k. chains_after (restarts (i.rows k)) (lane_grains (own.lane_is k) (own.lanes_are k)) (sheet_is k) e) ∙ sym (told_sheet (of v) f e));
            beside = x.0;
          });
          faults = d.done.kept.faults ∙ (i.lane.faults ∙ sym (told_counts (of v) f e).0);
          calls = d.done.kept.calls ∙ (i.lane.calls ∙ ap stopped (sym (told_counts (of v) f e).1));
        };
        rows = d.rows ∙ (λ k. rows_event (sheet_is k).slots (i.rows k) e);
        alike = x.1;
        rooms = event_rooms (of v) v.grains.volumes v'.grains.volumes e d.done.volumes ∙ ap (λ z. rooms_after (grains_in (of v)) z e) i.rooms;
      }

-- and the others are still ready
applied_ready : (v : LaneView) (e : LaneEvent) (es : List LaneEvent) (v' : LaneView) → CanDoEvents v (e ∷ es) → All IsNoTrigger es → HasApplied v e v' → CanDoEvents v' es
applied_ready v e es v' ready none d =
    let l : of v' ≡ of v = sym (of_same v v' (same_counts v v' d.lane d.lanes d.done.kept)) in
    record {
      parts = record {
        room =
            room_left v.chains v'.chains e es ready.parts.room (ap (λ (c : Chains). c.lane) d.chains) (ap (λ (c : Chains). c.lanes) d.chains) (ap (λ (c : Chains). c.width) d.chains) d.room;
        beside = subst (λ (z : LaneOf). IsReadyBeside z v'.grains v'.accesses v'.work es) (sym l) (still_ready (of v) e es v.grains v'.grains v.accesses v'.accesses v.work v'.work ready.parts.beside d.done);
      };
      rows = rows_then_ready v'.chains.sheet.slots v'.changes es none;
    }

-- ---- a list of events, some of which were done

-- These are left: for all that could be told, the lane follows what is told now, and they lead from it to the end.
pub record Doing (v : LaneView) (events : List LaneEvent) (v' : LaneView) (rest : List LaneEvent) : Type 0 where
  pub leads : (f : Followed) → IsFollowing v f → FitsFollowed (of v) f events →
      (now : Followed) × IsFollowing v' now × FitsFollowed (of v) now rest × (fold (followed_event (of v)) now rest ≡ fold (followed_event (of v)) f events)
  pub ready : CanDoEvents v' rest
  pub triggers : TriggersFirst rest
  pub lane : v'.lane ≡ v.lane
  pub lanes : v'.lanes ≡ v.lanes
  pub kept : SameCounts v.grains v'.grains
  pub quiet : IsQuiet v.grains → ArmsNone events → IsQuiet v'.grains × ArmsNone rest
  pub armed : (id n : ℕ) → IsArmedAt n (volume_of v.grains.volumes id).due →
      (m : ℕ) × IsArmedAt m (volume_of v'.grains.volumes id).due × (fold (armed_event (of v) id) m rest ≡ fold (armed_event (of v) id) n events)
  pub idle : IdleAfter v.grains v'.grains
  pub plan_room : v'.plan_room ≡ v.plan_room
  pub entry_room : v'.entry_room ≡ v.entry_room

pub doing_none : (v : LaneView) (events : List LaneEvent) → CanDoEvents v events → TriggersFirst events → Doing v events v events
doing_none v events ready triggers = record {
  leads = λ f i fits. (f, i, fits, refl);
  ready = ready;
  triggers = triggers;
  lane = refl;
  lanes = refl;
  kept = counts_same v.grains;
  quiet = λ q none. (q, none);
  armed = λ id n at. (n, at, refl);
  idle = idle_same v.grains;
  plan_room = refl;
  entry_room = refl;
}

module _ (v v' : LaneView) (events : List LaneEvent) where
  own_lane : (rest : List LaneEvent) → Doing v events v' rest → of v ≡ of v'
  own_lane rest d = of_same v v' (same_counts v v' d.lane d.lanes d.kept)

  pub doing_can : (e : LaneEvent) (rest : List LaneEvent) → (f : Followed) × IsFollowing v f × FitsFollowed (of v) f events → Doing v events v' (e ∷ rest) → CanApply v' e
  doing_can e rest (f, i, fits) d =
      let n = d.leads f i fits in
      can_apply v' n.0 e rest n.1 (subst (λ (l : LaneOf). FitsFollowed l n.0 (e ∷ rest)) (own_lane (e ∷ rest) d) n.2) d.ready

  pub doing_next : (e : LaneEvent) (rest : List LaneEvent) (v'' : LaneView) → CanApply v' e → Doing v events v' (e ∷ rest) → HasApplied v' e v'' → Doing v events v'' rest
  doing_next e rest v'' can d done =
      let l : of v ≡ of v' = own_lane (e ∷ rest) d in
      record {
        leads = λ f i fits.
            let n = d.leads f i fits in
            let next : IsFollowing v'' (followed_event (of v') n.0 e) = applied_follows v' n.0 e rest n.1 (subst (λ (z : LaneOf). FitsFollowed z n.0 (e ∷ rest)) l n.2) v'' done in
            (followed_event (of v) n.0 e, subst (λ (z : LaneOf). IsFollowing v'' (followed_event z n.0 e)) (sym l) next, n.2.3, n.3);
        ready = applied_ready v' e rest v'' d.ready d.triggers done;
        triggers = triggers_then rest d.triggers;
        lane = done.lane ∙ d.lane;
        lanes = done.lanes ∙ d.lanes;
        kept = counts_then v.grains v'.grains v''.grains d.kept done.done.kept;
        quiet = λ q none. let n = d.quiet q none in (done.quiet n.0 (arms_first e rest n.1), arms_rest e rest n.1);
        armed = λ id n at.
            let m = d.armed id n at in
            let next : IsArmedAt (armed_event (of v') id m.0 e) (volume_of v''.grains.volumes id).due = armed_one (of v') e v'.grains v'.accesses v'.work v''.grains.volumes can.can done.done.volumes id m.0 m.1 in
            (armed_event (of v) id m.0 e, subst (λ (z : LaneOf). IsArmedAt (armed_event z id m.0 e) (volume_of v''.grains.volumes id).due) (sym l) next, m.2);
        idle = idle_then v.grains v'.grains v''.grains d.idle done.idle;
        plan_room = done.plan_room ∙ d.plan_room;
        entry_room = done.entry_room ∙ d.entry_room;
      }

  -- none is left
  pub doing_all : Doing v events v' [] → (f : Followed) → IsFollowing v f → FitsFollowed (of v) f events → IsFollowing v' (fold (followed_event (of v)) f events)
  doing_all d f i fits = let n = d.leads f i fits in subst (λ (z : Followed). IsFollowing v' z) n.3 n.1

  pub doing_armed : Doing v events v' [] → ArmedBy (of v) events v.grains.volumes v'.grains.volumes
  doing_armed d id n at = let m = d.armed id n at in subst (λ (z : ℕ). IsArmedAt z (volume_of v'.grains.volumes id).due) m.2 m.1

  pub doing_same : (rest : List LaneEvent) → Doing v events v' rest → IsSameLane v v'
  doing_same rest d = same_counts v v' d.lane d.lanes d.kept

  pub doing_quiet : (rest : List LaneEvent) → Doing v events v' rest → ArmsNone events → KeepsQuiet v v'
  doing_quiet rest d none q = ((d.quiet q none).0, d.kept.faults)

  pub doing_can_at : (i : ℕ) (e : LaneEvent) → (f : Followed) × IsFollowing v f × FitsFollowed (of v) f events → i < length events → get_or events i e ≡ e → Doing v events v' (drop i events) → CanApply v' e
  doing_can_at i e fit lt here d = doing_can e (drop (i + 1) events) fit (subst (λ (z : List LaneEvent). Doing v events v' z) (next_left events i e lt here) d)

  pub doing_next_at : (i : ℕ) (e : LaneEvent) (v'' : LaneView) → (f : Followed) × IsFollowing v f × FitsFollowed (of v) f events → i < length events → get_or events i e ≡ e → Doing v events v' (drop i events) → HasApplied v' e v'' →
      Doing v events v'' (drop (i + 1) events)
  doing_next_at i e v'' fit lt here d done =
      let so = subst (λ (z : List LaneEvent). Doing v events v' z) (next_left events i e lt here) d in
      doing_next e (drop (i + 1) events) v'' (doing_can e (drop (i + 1) events) fit so) so done
