-- A lane in which room was made for an entry.
use Rattle.std.proofs.Common.{◌≡◌, ◌≢◌, ℕ, ◌%◌, ◌<◌, ◌≤◌, List, length, map, slice_index_or, slice_set, Err, refl, sym, ◌∙◌, ap, subst, arith, ◌⊎◌, inl, inr}
use Rattle.std.proofs.lemmas.Bool.{cases_eq}
use Rattle.std.proofs.lemmas.List.{get_or-map, get_or-set_same, get_or-set_other, length-set, map-set, set-get_or}
use Rattle.std.proofs.lemmas.List.Elements.{All-set}
use Rattle.fc_base.specs.declared.request.Reply.{Reply}
use Rattle.fc_base.specs.declared.request.Request.{Request}
use Rattle.fc_base.specs.declared.size.GrainSize.{GrainSize}
use Rattle.fc_entry.specs.HistoryState.{HistoryState}
use Rattle.fc_entry.specs.declared.entry.Entry.{Entry}
use Rattle.fc_entry.specs.declared.stop.Stop.{Stop}
use Rattle.fc_entry.specs.declared.stop.Stop.TheVariants.{LogFull, NoMemory}
use Rattle.fc_grains.specs.Grains.{GrainsState}
use Rattle.fc_lane.specs.Lane.{LaneView, IsReady, KeepsQuiet}
use Rattle.fc_legal.specs.Added.{IsTold, StaysUp}
use Rattle.fc_legal.specs.Whole.{Whole}
use Rattle.fc_stands.specs.Logged.{Logged}
use Rattle.fc_stands.specs.Quiet.{IsArmedBy, QuietBy}
use Rattle.fc_stands.specs.Store.{IsLaneAt, StandsFor, StoreView}
use Rattle.fc_stands.proofs.Parting.{inside as is_inside, is_lane, place_is, roomy}
use Rattle.fc_stands.proofs.Quieting.{one_keeps}
use Rattle.fc_stands.proofs.Ranging.{disks_stay}
use Rattle.fc_stands.proofs.Turns.{history_full}
use Rattle.fc_store.specs.Ready.{IsReadyAt, IsRoomier, IsStopped}

-- The lane of a grain, at its place, before and after.
module _ (s : StoreView) (v : Whole) (g place : ℕ) (old new : LaneView)
    (up : StandsFor s v) (at : place ≡ g % length s.lanes) (is : old ≡ slice_index_or s.lanes place old) (made : new ≡ roomy old new.plan_room new.entry_room) where
  there : place < length s.lanes
  there = is_inside s v g place old new new.plan_room new.entry_room up at is made

  each : (w : Whole) → StandsFor s w → (i : ℕ) (d : LaneView) → i < length s.lanes → (i ≡ place) ⊎ (i ≢ place) → IsLaneAt s.control.grain w i (slice_index_or (slice_set s.lanes place new) i d)
  each w stands i d lt (inl same) =
      let here : IsLaneAt s.control.grain w place new =
      subst (λ k. IsLaneAt s.control.grain w k new) (sym (place_is s w g place old new new.plan_room new.entry_room stands at is made)) (is_lane s w g place old new new.plan_room new.entry_room stands at is made) in
      subst (λ k. IsLaneAt s.control.grain w k (slice_index_or (slice_set s.lanes place new) k d)) (sym same)
      (subst (λ (x : LaneView). IsLaneAt s.control.grain w place x) (sym (get_or-set_same s.lanes place new d there)) here)
  each w stands i d lt (inr other) =
      subst (λ (x : LaneView). IsLaneAt s.control.grain w i x) (sym (get_or-set_other s.lanes place i new d other)) (stands.each i d lt)

  roomier_stands : (w : Whole) → StandsFor s w → StandsFor (record { control = s.control; lanes = slice_set s.lanes place new }) w
  roomier_stands w stands = record {
    control = stands.control;
    count = length-set s.lanes place new ∙ stands.count;
    each = λ i d lt. each w stands i d (omega (arith, lt, length-set s.lanes place new)) (cases_eq i place);
    decisions = stands.decisions;
    few = stands.few;
    stands = stands.stands;
    calls = stands.calls;
  }

  roomier_quiet : (entries : List Entry) → QuietBy entries s → QuietBy entries (record { control = s.control; lanes = slice_set s.lanes place new })
  roomier_quiet entries quiet =
      let Armed : LaneView → Type 0 = λ x. IsArmedBy entries s.control.tables.volumes x in
      let keeps : KeepsQuiet old new = subst (λ (x : LaneView). KeepsQuiet old x) (sym made) (λ q. (q, refl)) in
      record {
        quiet = λ none. one_keeps s.lanes place old new there is keeps (quiet.quiet none);
        armed = All-set Armed s.lanes place new (subst Armed (sym made) (subst Armed (sym is) (quiet.armed place old there))) quiet.armed;
      }

  roomier : IsRoomier s (record { control = s.control; lanes = slice_set s.lanes place new })
  roomier = record {
    control = refl;
    stands = roomier_stands;
    disks = disks_stay s.lanes place old new there is (ap (λ (x : LaneView). x.grains.disks) made);
    grains =
        let held : LaneView → GrainsState = λ v. v.grains in
        map-set held s.lanes place new
        ∙ (ap (λ (x : GrainsState). slice_set (map held s.lanes) place x) (ap held made ∙ (ap held is ∙ sym (get_or-map held s.lanes place old (held old) there)))
        ∙ set-get_or (map held s.lanes) place (held old));
    quiet = roomier_quiet;
  }

  ready_there : IsReady new → IsReadyAt (record { control = s.control; lanes = slice_set s.lanes place new }) g place
  ready_there ready = record {
    at = at ∙ ap (λ n. g % n) (sym (length-set s.lanes place new));
    inside = omega (arith, there, length-set s.lanes place new);
    ready = λ d. subst IsReady (sym (get_or-set_same s.lanes place new d there)) ready;
  }

-- As a call sees the store: its lanes lie inside it, so many.
module _ {s inside : StoreView} {v : Whole} {old new : LaneView} (g many : ℕ) (up : StandsFor s v) (seen : inside ≡ s) (count : many ≡ length inside.lanes)
    (is : old ≡ slice_index_or inside.lanes (g % many) old) (made : new ≡ roomy old new.plan_room new.entry_room) where
  pub made_roomier : IsRoomier s (record { control = inside.control; lanes = slice_set inside.lanes (g % many) new })
  made_roomier =
      subst (λ (x : StoreView). IsRoomier x (record { control = inside.control; lanes = slice_set inside.lanes (g % many) new })) seen
      (roomier inside v g (g % many) old new (subst (λ (x : StoreView). StandsFor x v) (sym seen) up) (ap (λ n. g % n) count) is made)

  pub made_ready : IsReady new → IsReadyAt (record { control = inside.control; lanes = slice_set inside.lanes (g % many) new }) g (g % many)
  made_ready ready = ready_there inside v g (g % many) old new (subst (λ (x : StoreView). StandsFor x v) (sym seen) up) (ap (λ n. g % n) count) is made ready

-- Nothing was done.
pub as_roomy : (s : StoreView) → IsRoomier s s
as_roomy s = record { control = refl; stands = λ w stands. stands; disks = refl; grains = refl; quiet = λ entries quiet. quiet }

-- No entry was made.
pub not_logged : (A : Type 0) (stop : Stop) (Says : A → Reply → Type 0) (Stands : Whole → Type 0) (grain : GrainSize) (w : Whole) (request : Request) (history : HistoryState) →
    IsStopped stop history → length history.entries ≤ 262144 → IsTold Stands history w → Logged (Err stop) Says Stands grain w request history history
not_logged A LogFull Says Stands grain w request history full room told = history_full Stands w history told room full
not_logged A NoMemory Says Stands grain w request history full room told = refl

pub stays_up : (A : Type 0) (stop : Stop) (Holds : Type 0) → Holds → StaysUp {A = A} (Err stop) Holds
stays_up A LogFull Holds holds = holds
stays_up A NoMemory Holds holds = tt
