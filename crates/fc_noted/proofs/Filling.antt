-- A copy or a cleaning that is next can begin in the lane of its grain.
use Rattle.std.proofs.Common.{◌≡◌, ℕ, ◌%◌, ◌≤◌, Bool, true, false, cond, Option, Some, None, length, slice_index_or, refl, ap, subst}
use Rattle.std.specs.Prelude.{Err, IsErrOf, IsSome}
use Rattle.std.proofs.lemmas.List.{get_or_default}
use Rattle.fc_base.specs.declared.ids.GrainNo.{GrainNo}
use Rattle.fc_base.specs.declared.ids.MapId.{MapId}
use Rattle.fc_base.specs.declared.request.Request.TheVariants.{Copy, Clean}
use Rattle.fc_base.specs.declared.size.GrainSize.{GrainSize}
use Rattle.fc_entry.specs.HistoryState.{HistoryState}
use Rattle.fc_entry.specs.declared.stop.Stop.TheVariants.{LogFull as Full, NoMemory as NoRoom}
use Rattle.fc_entry.specs.declared.stop.Stop.{Stop}
use Rattle.fc_follow.specs.Following.{Followed}
use Rattle.fc_lane.specs.Doing.{FitsAsk}
use Rattle.fc_lane.specs.Lane.{IsFollowing, LaneView, of}
use Rattle.fc_lane.specs.Workers.{ask_of}
use Rattle.fc_lane.specs.declared.worker.Worker.TheVariants.{Cleaner, Copier}
use Rattle.fc_lane.specs.declared.worker.Worker.{Worker}
use Rattle.fc_legal.specs.Seconds.{Work, filled_by}
use Rattle.fc_legal.specs.Whole.{Whole}
use Rattle.fc_marks.specs.Stops.{stop_of_log}
use Rattle.fc_marks.specs.declared.error.NotedStop.TheVariants.{LogFull, MetaFailed}
use Rattle.fc_noted.specs.Stopping.{OfMetadata}
use Rattle.fc_parts.specs.Law.{IsInVolume}
use Rattle.fc_rules.specs.LaneTold.{LaneOf, LaneTold, place_of}
use Rattle.fc_script.specs.Asking.{HasNextFill}
use Rattle.fc_script.specs.declared.asking.Asked.TheVariants.{Command as Decided, Refused, Part, Fill}
use Rattle.fc_script.specs.declared.asking.Asked.{Asked}
use Rattle.fc_stands.proofs.Filling.{can_fill, of_lane}
use Rattle.fc_stands.specs.Store.{StandsFor, StoreView}
use Rattle.fc_steps.specs.Asking.{request_of}
use Rattle.fc_store.specs.Ready.{IsReadyAt, IsStopped}
use Rattle.fc_store.specs.Stepping.{lane_in, no_lane}

-- the history is full only where it says so
pub full_only : (stop : Stop) (history : HistoryState) → IsStopped stop history → stop_of_log stop ≡ LogFull → 262144 ≤ length history.entries
full_only Full history full is = full
full_only NoRoom history full is = absurd cc

-- and it is no error of metadata
pub not_of_metadata : (stop : Stop) → OfMetadata (stop_of_log stop) ⊥
not_of_metadata Full = tt
not_of_metadata NoRoom = tt

pub no_disk_failed : {T : Type 0} (stop : Stop) → IsErrOf {T = T} (Err (stop_of_log stop)) MetaFailed → ⊥
no_disk_failed Full e = cc
no_disk_failed NoRoom e = cc

-- the work of a fill
map_in : MapId → Asked → MapId
map_in other (Fill map cleans g) = map
map_in other (Decided command) = other
map_in other (Refused request refusal) = other
map_in other (Part access volume block count g) = other

cleans_in : Asked → Bool
cleans_in (Fill map cleans g) = cleans
cleans_in (Decided command) = false
cleans_in (Refused request refusal) = false
cleans_in (Part access volume block count g) = false

abbrev pub worker_of : Bool → Worker
worker_of cleans = cond cleans Cleaner Copier

-- what it asks
pub fill_request : (cleans : Bool) (map : MapId) (g : GrainNo) → cond cleans (Clean map g) (Copy map g) ≡ request_of (ask_of (worker_of cleans) map g)
fill_request true map g = refl
fill_request false map g = refl

pub fill_in_volume : (grain : GrainSize) (w : Whole) (cleans : Bool) (map : MapId) (g : GrainNo) → IsInVolume grain w (request_of (ask_of (worker_of cleans) map g))
fill_in_volume grain w true map g = tt
fill_in_volume grain w false map g = tt

fits_by : (cleans : Bool) (map : MapId) (g : GrainNo) (l : LaneOf) (told : LaneTold) → IsSome (filled_by cleans told.sheet.slots map.0 (place_of l g.0)) → FitsAsk l (ask_of (worker_of cleans) map g) told
fits_by true map g l told fits = fits
fits_by false map g l told fits = fits

module _ (s : StoreView) (w : Whole) (stands : StandsFor s w) (g : GrainNo) (place : ℕ) (ready : IsReadyAt s g.0 place) where
  lane_is : lane_in s place ≡ slice_index_or s.lanes place (lane_in s place)
  lane_is = get_or_default s.lanes place no_lane (lane_in s place) ready.inside

  pub fill_can : (cleans : Bool) (map : MapId) (work : Option Work) → HasNextFill s.control.grain w work (Fill map cleans g) →
      (f : Followed) × IsFollowing (lane_in s place) f × FitsAsk (of (lane_in s place)) (ask_of (worker_of cleans) map g) f.told
  unfolding map_in cleans_in
  fill_can cleans map None h = absurd h
  fill_can cleans map (Some work) h =
      let lane : LaneView = lane_in s place in
      let can = can_fill s w g place lane lane lane.plan_room lane.entry_room stands ready.at lane_is refl work h.1 in
      let maps : work.map ≡ map = ap (map_in map) h.0 in
      let cleaning : work.cleans ≡ cleans = ap cleans_in h.0 in
      let some : IsSome (filled_by cleans can.0.told.sheet.slots map.0 (place_of (of lane) g.0)) =
      subst (λ (b : Bool). IsSome (filled_by b can.0.told.sheet.slots map.0 (place_of (of lane) g.0))) cleaning
      (subst (λ (m : MapId). IsSome (filled_by work.cleans can.0.told.sheet.slots m.0 (place_of (of lane) g.0))) maps can.2) in
      (can.0, can.1, fits_by cleans map g (of lane) can.0.told some)

  pub fill_of_lane : g.0 % (lane_in s place).lanes ≡ (lane_in s place).lane
  fill_of_lane = let lane : LaneView = lane_in s place in of_lane s w g place lane lane lane.plan_room lane.entry_room stands ready.at lane_is refl
