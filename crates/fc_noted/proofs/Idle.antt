-- An access that does nothing is answered at once in the lane of its grain, and is logged: the history leads on with it to what stood.
use Rattle.std.proofs.Common.{◌≡◌, ℕ, ◌<◌, None, Some, List, [], ◌∷◌, ◌++◌, length, Result, OnOk, OnErr, IfErr, refl, sym, ap, subst, ◌∙◌, arith}
use Rattle.fc_base.specs.declared.ids.VolId.{VolId}
use Rattle.fc_changed.specs.Row.{Row}
use Rattle.fc_entry.specs.HistoryState.{HistoryState}
use Rattle.fc_entry.specs.declared.entry.Entry.{Entry}
use Rattle.fc_lane.specs.Lane.{LaneView}
use Rattle.fc_lanes.specs.Asking.{request_of}
use Rattle.fc_lanes.specs.declared.access.Access.{Access}
use Rattle.fc_legal.specs.Whole.{Whole, lane_of_grain}
use Rattle.fc_marks.specs.declared.error.NotedStop.TheVariants.{NoMemory as WantsMemory}
use Rattle.fc_marks.specs.declared.error.NotedStop.{NotedStop}
use Rattle.fc_noted.proofs.Accessing.{IsAnswered, answered_control, answered_turn, asks_blocks, no_effects, not_every}
use Rattle.fc_noted.proofs.Counting.{counted_same, has_counted}
use Rattle.fc_noted.proofs.Holding.{HoldSame, have_same, match_same, one_same}
use Rattle.fc_noted.proofs.Still.{HoldStill, access_leads, still_made}
use Rattle.fc_noted.specs.Making.{GoesBehind, StepMade, always}
use Rattle.fc_noted.specs.Noted.{CanBegin, IsNotedAt}
use Rattle.fc_noted.specs.declared.noted.Noted.{Noted}
use Rattle.fc_rules.specs.LaneRight.{done_write}
use Rattle.fc_rules.specs.Steps.{HasDoneNothing}
use Rattle.fc_script.specs.Asking.{IsNext}
use Rattle.fc_script.specs.Script.{agenda_of}
use Rattle.fc_script.specs.declared.asking.Asked.TheVariants.{Part}
use Rattle.fc_script.specs.declared.script.Script.{Script}
use Rattle.fc_stands.specs.Store.{StandsFor, StoreView}
use Rattle.fc_store.specs.Stepping.{lane_in}

module _ {C D : Type 0} (seen : D → List ℕ) (may_leave : D → List ℕ → Type 0) (moment : D → ℕ) (left_since : D → ℕ → List ℕ → Type 0) (disk_calls : D → ℕ) (only_now : (disk : D) (c : List ℕ) → left_since disk (moment disk) c → may_leave disk c)
    (old : Noted C D) (history : HistoryState) (begins : CanBegin seen may_leave old history) (room : length history.entries < 262144)
    {roomy store : StoreView} {volume : VolId} {block count g place first many : ℕ} {access : Access} {entry : Entry} (a : IsAnswered old.store roomy store history volume block count g place first many access entry)
    (unchanged : lane_in store place ≡ lane_in roomy place) (nothing : HasDoneNothing entry) (unwritten : done_write entry.request entry.reply ≡ None) where
  same : HoldSame old.store.lanes store.lanes
  same = one_same roomy store place a.others (ap (λ (v : LaneView). v.grains) unchanged) a.reached.ready.inside ∙ a.reached.roomier.grains

  holds : (w : Whole) (least : List Row) (h : IsNotedAt seen may_leave old history w least) → HoldStill seen may_leave moment left_since disk_calls only_now old history begins.at.idle begins.live room store (answered_control a) w h.point
  holds w least h =
      let few : w.entries < 262144 = subst (λ (k : ℕ). k < 262144) (sym h.told.1.entries) room in
      record {
        matches = match_same old.store.lanes store.lanes same old.store.control.grain old.named h.point.kept h.point.disks h.keeps.matches;
        volumes = have_same old.disks old.store store (answered_control a) same h.keeps.volumes;
        counted = counted_same w old.store.lanes store.lanes same (has_counted old.store w h.told.0 (omega (arith, few)));
      }

  pub idle_made : (script : Script) (result : Result (Unit {0}) NotedStop) (behind : HistoryState) →
      ((w : Whole) → StandsFor old.store w → IsNext old.store.control.grain w (Some (Part access volume block count g)) (agenda_of old.store.control.grain old.script)) →
      OnOk result (behind ≡ record history { entries = history.entries ++ entry ∷ [] }) → OnOk result (GoesBehind store.control.grain (StandsFor store) old.script entry script) → OnErr result (behind ≡ history) →
      IfErr result (λ stop. stop ≡ WantsMemory) → StepMade seen may_leave moment left_since disk_calls (always result) old (record old { store = store; script = script }) history behind
  idle_made script result behind next =
      still_made seen may_leave moment left_since disk_calls only_now old history begins.at.idle begins.live room store (answered_control a) holds (request_of access volume first many) entry script result behind
      (record {
        leads = λ w least h.
            access_leads (StandsFor store) old.store.control.grain w least h.point (request_of access volume first many) entry (lane_of_grain w g) (answered_turn a w h.told)
            (record { request_is = refl; written = unwritten; moves = nothing.moves; torn_is = nothing.untorn; no_effects = no_effects a w h.told }) (not_every a w h.told);
        asks = λ w up. asks_blocks a.reached access (agenda_of old.store.control.grain old.script) w (next w up);
      })
