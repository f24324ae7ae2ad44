-- A write with all its moves.
use Rattle.std.proofs.Common.{◌≡◌, ℕ, ◌+◌, ◌≤◌, true, false, Option, Some, None, List, [], ◌∷◌, ◌++◌, map, fold, is_some, refl, sym, ap, subst, ◌∙◌, append_assoc}
use Rattle.fc_base.specs.Moves.{write_moves}
use Rattle.fc_base.specs.Room.{Room}
use Rattle.fc_base.specs.Sheet.{Sheet}
use Rattle.fc_base.specs.declared.request.Move.{Move}
use Rattle.fc_base.specs.declared.request.Torn.{Torn}
use Rattle.fc_base.specs.declared.request.WritePart.{WritePart}
use Rattle.fc_chain.specs.Chains.{Chains}
use Rattle.fc_entry.specs.Picture.{grain_of_block}
use Rattle.fc_entry.specs.Writes.{calls_of_write}
use Rattle.fc_grains.specs.Grains.{GrainsState}
use Rattle.fc_grains.specs.Volumes.{rooms_of}
use Rattle.fc_steps.specs.Moving.{IsTornBy}
use Rattle.fc_steps.specs.Standing.{Stands}
use Rattle.fc_steps.specs.StepsEnd.{CanMakeMoves, StepsEnd, StepsStand, StoppedIn, torn_in}
use Rattle.fc_steps.specs.WriteStep.{CanWriteOwn, IsPlannedWrite, OwnEnds, OwnStands, spot_of, write_in}
use Rattle.fc_steps.specs.declared.stop.Stop.{Stop}
use Rattle.fc_steps.specs.declared.stop.Stop.TheVariants.{Failed, NoMemory}
use Rattle.fc_steps.proofs.Moving.{risen_then, same_then}
use Rattle.fc_steps.proofs.StepsLoop.{stop_none}
use Rattle.fc_steps.proofs.StepsMade.{both_counted, calls_push}
use Rattle.fc_pictures.specs.LaneLaw.{sheet_before_write}
use Rattle.fc_pictures.proofs.Agreeing.{lane_law_holds}
use Rattle.fc_pictures.proofs.Running.{steps_law_holds}
use Rattle.fc_rules.specs.LaneTold.{LaneOf, LaneTold, place_of, sheet_entry, sheet_tear, sheet_write}
use Rattle.fc_rules.specs.LaneTurn.{spot_at}
use Rattle.fc_rules.specs.Rooms.{rooms_move, rooms_write, rooms_tear}
use Rattle.fc_rules.specs.Spot.{Spot, move_in}
use Rattle.fc_rules.specs.Steps.{DiskStep, own_step, step_of_move, steps_of_write}
use Rattle.fc_sheets.proofs.Finding.{live_place_at}

-- ---- steps with one more at the end

stopped_longer : (steps : List DiskStep) (last : DiskStep) (moves : List Move) (calls : ℕ) (step : DiskStep) (extra : ℕ) → StoppedIn steps moves calls step extra → StoppedIn (steps ++ last ∷ []) moves calls step extra
stopped_longer steps last moves calls step extra s = record {
  before = s.before;
  after = s.after ++ last ∷ [];
  steps_are = ap (λ (z : List DiskStep). z ++ last ∷ []) s.steps_are ∙ append_assoc s.before (step ∷ s.after) (last ∷ []);
  moves_are = s.moves_are;
  calls_are = s.calls_are;
  within = s.within;
}

pub ends_longer : (spot : Spot) (steps : List DiskStep) (last : DiskStep) (moves : List Move) (calls : ℕ) (stop : Stop) (old new : GrainsState) → StepsEnd spot steps moves calls (Some stop) old new →
    StepsEnd spot (steps ++ last ∷ []) moves calls (Some stop) old new
ends_longer spot steps last moves calls (Failed torn) old new e =
    record {
      step = e.step;
      extra = e.extra;
      stopped = stopped_longer steps last moves calls e.step e.extra e.stopped;
      called = e.called;
      torn_is = e.torn_is;
      risen = e.risen;
      torn_by_write = e.torn_by_write;
    }
ends_longer spot steps last moves calls NoMemory old new e =
    record { step = e.step; extra = e.extra; stopped = stopped_longer steps last moves calls e.step e.extra e.stopped; thin = e.thin }

torn_then : (torn : Option Torn) (old mid new : GrainsState) → old.write_faults ≤ mid.write_faults → IsTornBy torn mid new → IsTornBy torn old new
torn_then None old mid new kept by = tt
torn_then (Some torn) old mid new kept by = risen_then old.write_faults mid.write_faults new.write_faults kept by

module _ (l : LaneOf) (told : LaneTold) (part : WritePart) (t : ℕ) (chains : Chains) (old : GrainsState) (plan : List Move) (n place : ℕ) (w : IsPlannedWrite l told part t chains old plan n place) where
  abbrev number : ℕ
  number = grain_of_block l.grain part.block

  abbrev spot : Spot
  spot = spot_of l told part

  abbrev ks : List ℕ
  ks = write_moves spot.column t

  abbrev own : DiskStep
  own = own_step l.grain spot part t

  pub write_can_move : CanMakeMoves l told number ks chains old
  write_can_move = record { at = w.at; of_lane = w.is.fits.of_lane; run = steps_law_holds.write l told number t w.is.sound w.is.live }

  -- the moves stopped
  pub write_stops : (made : List Move) (calls : ℕ) (stop : Option Stop) (after : Chains) (new : GrainsState) → is_some stop ≡ true →
      StepsEnd spot (map (step_of_move spot) ks) made calls stop old new × StepsStand l told None made calls (torn_in stop) chains old after new →
      StepsEnd spot (steps_of_write l.grain spot part t) made calls stop old new × StepsStand l told (write_in part stop) made calls (torn_in stop) chains old after new
  write_stops made calls None after new e x = absurd cc
  write_stops made calls (Some stop) after new e x = (ends_longer spot (map (step_of_move spot) ks) own made calls stop old new x.0, x.1)

  pub moved_whole : (made : List Move) (calls : ℕ) (stop : Option Stop) (after : Chains) (new : GrainsState) → is_some stop ≡ false →
      ((m : LaneOf) (tolds : LaneTold) (x : ℕ) (js : List ℕ) → CanMakeMoves m tolds x js chains old → plan ≡ map (move_in (spot_at m tolds x)) js → place ≡ place_of m x →
      StepsEnd (spot_at m tolds x) (map (step_of_move (spot_at m tolds x)) js) made calls stop old new × StepsStand m tolds None made calls (torn_in stop) chains old after new) →
      StepsEnd spot (map (step_of_move spot) ks) made calls None old new × StepsStand l told None made calls None chains old after new
  moved_whole made calls stop after new e ends =
      subst (λ (z : Option Stop). StepsEnd spot (map (step_of_move spot) ks) made calls z old new × StepsStand l told None made calls (torn_in z) chains old after new) (stop_none stop e)
      (ends l told number ks write_can_move w.plan_is w.place_is)

  -- they were made
  module _ (made : List Move) (calls : ℕ) (after : Chains) (mid : GrainsState) (x : StepsEnd spot (map (step_of_move spot) ks) made calls None old mid × StepsStand l told None made calls None chains old after mid) where
    made_is : made ≡ map (move_in spot) ks
    made_is = x.0.0 ∙ lane_law_holds.moves_told spot ks

    before_is : sheet_entry l told.sheet None made None ≡ sheet_before_write l told part t
    before_is = ap (λ (z : List Move). sheet_entry l told.sheet None z None) made_is

    pub write_can_own : CanWriteOwn l told part t after mid
    write_can_own = record {
      is = w.is;
      lane_is = ap (λ (z : Chains). z.lane) x.1.chains_are ∙ w.at.lane_is;
      lanes_are = ap (λ (z : Chains). z.lanes) x.1.chains_are ∙ w.at.lanes_are;
      grain_is = x.1.same.grain ∙ w.at.grain_is;
      sheet_is = ap (λ (z : Chains). z.sheet) x.1.chains_are ∙ before_is;
      stands = subst (λ (s : Sheet). Stands s told.picture mid.volumes) before_is x.1.stands;
      same = x.1.same.each ∙ w.at.same;
    }

    -- which grains occupy memory then
    moves_reached : rooms_of mid.volumes ≡ fold (rooms_move l told.picture) (rooms_of old.volumes) (map (move_in spot) ks)
    moves_reached = x.1.rooms ∙ ap (fold (rooms_move l told.picture) (rooms_of old.volumes)) made_is

    all_stands : (write : Option WritePart) (m : ℕ) (torn : Option Torn) (after' : Chains) (new : GrainsState) → OwnStands l told part t write m torn after mid after' new →
        StepsStand l told write made (calls + m) torn chains old after' new
    all_stands write m torn after' new o =
        subst (λ (z : List Move). StepsStand l told write z (calls + m) torn chains old after' new) (sym made_is) (record {
          chains_are = o.chains_are ∙ ap (λ (z : Chains). record z { sheet = sheet_tear l (sheet_write l (sheet_before_write l told part t) write) torn }) x.1.chains_are;
          stands = o.stands;
          counted = both_counted old mid new calls m false x.1.counted o.counted;
          same = same_then old mid new x.1.same o.same;
          rooms = o.rooms ∙ ap (λ (rooms : List Room). rooms_tear l (rooms_write l rooms write) torn) moves_reached;
        })

    stopped_own : (m : ℕ) → m ≤ calls_of_write l.grain part → StoppedIn (steps_of_write l.grain spot part t) made (calls + m) own m
    stopped_own m le = record {
      before = map (step_of_move spot) ks;
      after = [];
      steps_are = refl;
      moves_are = x.0.0;
      calls_are = ap (λ (z : ℕ). z + m) x.0.1;
      within = le;
    }

    pub write_ends : (m : ℕ) (stop : Option Stop) (after' : Chains) (new : GrainsState) → OwnEnds l told part t m stop after mid after' new →
        StepsEnd spot (steps_of_write l.grain spot part t) made (calls + m) stop old new × StepsStand l told (write_in part stop) made (calls + m) (torn_in stop) chains old after' new
    write_ends m None after' new o = (
      (
        made_is ∙ sym (lane_law_holds.write_told l.grain spot part t),
        (λ i. x.0.1 i + o.0 i) ∙ sym (calls_push (map (step_of_move spot) ks) own),
      ),
      all_stands (Some part) m None after' new o.1,
    )
    write_ends m (Some (Failed torn)) after' new o = (
      record {
        step = own;
        extra = m;
        stopped = stopped_own m o.0.within;
        called = o.0.called;
        torn_is = o.0.torn_is;
        risen = risen_then old.faults mid.faults new.faults x.1.counted.kept o.0.risen;
        torn_by_write = torn_then torn old mid new x.1.counted.writes_kept o.0.torn_by_write;
      },
      all_stands None m torn after' new o.1,
    )
    write_ends m (Some NoMemory) after' new o = (
      record {
        step = own;
        extra = m;
        stopped = stopped_own m o.0;
        thin = ap (λ (v : ℕ). spot.is_thin v) (live_place_at told.sheet.slots part.volume.0 t w.is.place).of_volume ∙ o.1;
      },
      all_stands None m None after' new o.2,
    )
