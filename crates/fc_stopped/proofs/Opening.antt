-- A call before its first line: the noted store that it opens, or the first image that isn't written.
use Rattle.std.proofs.Common.{◌≡◌, ℕ, ◌-◌, ◌<◌, ◌≤◌, ◌^◌, true, List, [], ◌++◌, All, Global, Vec, inl, inr, length, map, replicate, refl, sym, ap, subst, ◌∙◌, arith, None, vec_len}
use Rattle.std.proofs.lemmas.List.{length-map, length-replicate}
use Rattle.std.proofs.lemmas.List.FromFn.{length-map-range_with_len}
use Rattle.fc_base.specs.Count.{HasRisen}
use Rattle.fc_base.specs.declared.limits.TheConstants.{LANES}
use Rattle.fc_base.specs.declared.size.GrainSize.{GrainSize}
use Rattle.fc_base.specs.declared.size.GrainSize.TheVariants.{K64}
use Rattle.fc_call.specs.Call.{Call}
use Rattle.fc_entry.specs.HistoryState.{HistoryState}
use Rattle.fc_entry.specs.Text.{history_text}
use Rattle.fc_format.specs.Halves.{half_size, recovered}
use Rattle.fc_grains.specs.Grains.{pool_of}
use Rattle.fc_lane.specs.Lane.{LaneView}
use Rattle.fc_lanes.specs.Dealing.{AreAllIn, AreByLane, Begin, all_dealt, dealt, pools_dealt}
use Rattle.fc_legal.proofs.Appending.{IsRun-nil}
use Rattle.fc_legal.specs.Agenda.{Session}
use Rattle.fc_legal.specs.Run.{IsRun}
use Rattle.fc_legal.specs.Whole.{opened}
use Rattle.fc_marks.specs.declared.error.NotedStop.{NotedStop}
use Rattle.fc_marks.specs.declared.error.NotedStop.TheVariants.{LogFull, MetaFailed, MetaFull, NoMemory}
use Rattle.fc_mdisk.specs.Disk.{DiskState, IsFresh}
use Rattle.fc_marks.specs.Meter.{IsCalledUpTo}
use Rattle.fc_meta.specs.Answers.{more_calls}
use Rattle.fc_meta.specs.States.{disk_of, room_of}
use Rattle.fc_metadisk.specs.Disk.{Only}
use Rattle.fc_metadisk.specs.Stop.{StopLeaves, StopState, new_stop}
use Rattle.fc_noted.proofs.Counting.{has_counted}
use Rattle.fc_noted.specs.Metered.{FirstPasses}
use Rattle.fc_noted.specs.Noted.{BeginsOver, IsNotedAt, NoHistory}
use Rattle.fc_noted.specs.Stopping.{AreCounted, LeavesFirst}
use Rattle.fc_noted.specs.declared.noted.Noted.{Noted}
use Rattle.fc_owner.proofs.SessionOver.{gave_nothing}
use Rattle.fc_owner.specs.FirstTold.{first_told}
use Rattle.fc_recovery_text.specs.Recovering.{IsFirstFront, IsFirstText}
use Rattle.fc_stands.specs.Store.{StandsFor, StoreView}
use Rattle.fc_stopped.proofs.Apart.{LieApart, lie_apart}
use Rattle.fc_stopped.proofs.Counted.{all_back, given_back}
use Rattle.fc_stopped.proofs.Counting.{counted_first, faulted_at, more_are, quiet_before, quiet_first, risen_some}
use Rattle.fc_stopped.proofs.Ends.{far_ends}
use Rattle.fc_stopped.proofs.Found.{first_put, first_state}
use Rattle.fc_stopped.proofs.Lanes.{lanes_begin}
use Rattle.fc_stopped.proofs.Putting.{put_as}
use Rattle.fc_stopped.proofs.Sessions.{CameFar}
use Rattle.fc_stopped.proofs.Starved.{main_told, no_entries, no_lines, none_answered, starved_named}
use Rattle.fc_stopped.specs.Countdown.{calls_by_stop, faults_by_stop}
use Rattle.fc_stopped.specs.Ending.{EndsUnopened, IsOpened, StatePut, goes_by, over_disks}
use Rattle.fc_stopped.specs.Lines.{HasAnswered, HasCounted, HasLanes}
use Rattle.fc_stopped.specs.Reading.{stop_reading}
use Rattle.fc_stopped.specs.Stopped.{IsLeftFront, IsState, StopEnds}
use Rattle.fc_stopped.specs.Text.{far_text}
use Rattle.fc_stopped.specs.declared.far.Far.{Far}
use Rattle.fc_stopped.specs.declared.far.Far.TheVariants.{ToCall, ToFull}

-- ---- the store

-- It was made over the disks that were taken.
begins_over : (count : ℕ) (disks taken : List DiskState) (s : StoreView) → taken ≡ disks → length disks ≡ count → count < 2 ^ 30 → All IsFresh disks → StandsFor s (first_told taken) → s.control.grain ≡ K64 →
    Begin K64 LANES (all_dealt LANES taken) s.lanes → BeginsOver count disks s
begins_over count disks taken s same counted few fresh stands grain begin =
    record {
      counted = counted;
      few = few;
      fresh = fresh;
      stands = subst (λ (ds : List DiskState). StandsFor s (first_told ds)) same stands;
      begin = subst (λ (g : GrainSize). Begin g LANES (all_dealt LANES disks) s.lanes) (sym grain)
          (subst (λ (ds : List DiskState). Begin K64 LANES (all_dealt LANES ds) s.lanes) same begin);
    }

-- The same by the vectors: so many were there, all of them fresh.
pub taken_over : {A : Type 0} (m : A → DiskState) {disks taken : Vec A Global} {count : ℕ} {s : StoreView} → taken ≡ disks → count ≡ vec_len disks → vec_len disks < 2 ^ 30 → All IsFresh (map m disks.items) →
    StandsFor s (first_told (map m taken.items)) → s.control.grain ≡ K64 → Begin K64 LANES (all_dealt LANES (map m taken.items)) s.lanes → BeginsOver count (map m disks.items) s
taken_over {A = A} m {disks = disks} {taken = taken} {count = count} {s = s} same counted few fresh stands grain begin =
    let all : map m taken.items ≡ map m disks.items = ap (λ (v : Vec A Global). map m v.items) same in
    let many : length (map m disks.items) ≡ count = omega (arith, length-map disks.items m, counted, disks.ok.0) in
    begins_over count (map m disks.items) (map m taken.items) s all many (omega (arith, few, counted)) fresh stands grain begin

pub begin_lanes : (count : ℕ) (disks : List DiskState) (s : StoreView) → s.control.grain ≡ K64 → BeginsOver count disks s → HasLanes (over_disks disks) s.lanes
begin_lanes count disks s grain begins =
    subst (λ (g : GrainSize). HasLanes (record { grain = g; disks = disks }) s.lanes) grain (lanes_begin disks s begins.stands begins.begin)

pub begin_counted : (count : ℕ) (disks : List DiskState) (s : StoreView) → BeginsOver count disks s → AreCounted (first_told disks) s.lanes
begin_counted count disks s begins = has_counted s (first_told disks) begins.stands (omega arith)

is_opened : {C : Type 0} (count number : ℕ) (disks : List DiskState) (s : StoreView) (n : Noted C StopState) → s.control.grain ≡ K64 → BeginsOver count disks s → n.store ≡ s → n.live ≡ true →
    IsNotedAt (λ (d : StopState). d.bytes) StopLeaves n NoHistory (first_told disks) [] →
    HasCounted (λ (d : StopState). d.bytes) StopLeaves faults_by_stop calls_by_stop n (goes_by number (room_of (λ (d : StopState). d.bytes) n.meta) disks) → IsOpened n disks number
is_opened count number disks s n grain begins same live at counted =
    record {
      live = live;
      grain = ap (λ (x : StoreView). x.control.grain) same ∙ grain;
      lanes = subst (λ (x : StoreView). HasLanes (over_disks disks) x.lanes) (sym same) (begin_lanes count disks s grain begins);
      at = at;
      counted = counted;
    }

-- ---- the calls of its disk of metadata

-- Opening made four, and none of them failed.
opened_counted : {C : Type 0} (size number : ℕ) (disks : List DiskState) (d : StopState) (n : Noted C StopState) → d ≡ new_stop size number → 0 < number → number < 2 ^ 32 → n.calls ≡ 4 →
    calls_by_stop (disk_of n.meta) ≡ more_calls 4 (calls_by_stop d) → faults_by_stop (disk_of n.meta) ≡ faults_by_stop d →
    HasCounted (λ (d : StopState). d.bytes) StopLeaves faults_by_stop calls_by_stop n (goes_by number (room_of (λ (d : StopState). d.bytes) n.meta) disks)
opened_counted size number disks d n is some few count called quiet =
    let none : d.calls ≡ 0 = ap (λ (x : StopState). x.calls) is in
    let stop : d.stop ≡ number = ap (λ (x : StopState). x.stop) is in
    record {
      few = few;
      made = 4;
      count = count;
      called = called ∙ ap (more_calls 4) (counted_first d none (omega (arith, stop, some)) ∙ ap (λ (x : ℕ). 2 ^ 64 - 1 - x) stop);
      quiet = quiet ∙ quiet_first d none (omega (arith, stop, some));
      size = refl;
      before = quiet_before;
      at = faulted_at;
    }

pub over_opened : {C : Type 0} (size : ℕ) {number count : ℕ} {disks : List DiskState} {s : StoreView} {n : Noted C StopState} (d : StopState) → s.control.grain ≡ K64 → BeginsOver count disks s → n.store ≡ s → n.live ≡ true →
    IsNotedAt (λ (d : StopState). d.bytes) StopLeaves n NoHistory (first_told disks) [] → d ≡ new_stop size number → 0 < number → number < 2 ^ 32 →
    (n.calls ≡ 4) × (calls_by_stop (disk_of n.meta) ≡ more_calls 4 (calls_by_stop d)) × (faults_by_stop (disk_of n.meta) ≡ faults_by_stop d) × (room_of (λ (d : StopState). d.bytes) n.meta ≡ half_size d.bytes) →
    IsOpened n disks number
over_opened size {number = number} {count = count} {disks = disks} {s = s} {n = n} d grain begins same live at is some few made =
    is_opened count number disks s n grain begins same live at (opened_counted size number disks d n is some few made.0 made.1 made.2)

-- It failed within those four.
pub first_failed : (size number : ℕ) (d e : StopState) → d ≡ new_stop size number → 0 < number → number < 2 ^ 32 → IsCalledUpTo 4 (calls_by_stop d) (calls_by_stop e) → HasRisen (faults_by_stop d) (faults_by_stop e) → number ≤ 4
first_failed size number d e is some few called rose =
    let none : d.calls ≡ 0 = ap (λ (x : StopState). x.calls) is in
    let stop : d.stop ≡ number = ap (λ (x : StopState). x.stop) is in
    let first : calls_by_stop d ≡ 2 ^ 64 - 1 - number = counted_first d none (omega (arith, stop, some)) ∙ ap (λ (x : ℕ). 2 ^ 64 - 1 - x) stop in
    let last : calls_by_stop e ≡ 2 ^ 64 - 1 = faulted_at e (risen_some (faults_by_stop d) (faults_by_stop e) rose) in
    omega (arith, few, first, last, called.1, called.2, more_are called.0 (calls_by_stop d) (omega (arith, first)))

-- ---- a disk of zeros

pub zeros_at_first : (size stop : ℕ) (d : StopState) → d ≡ new_stop size stop → d.bytes ≡ replicate (length d.bytes) 0
zeros_at_first size stop d is =
    subst (λ (x : StopState). x.bytes ≡ replicate (length x.bytes) 0) (sym is) (ap (λ (n : ℕ). replicate n 0) (sym (length-replicate size 0)))

pub synced_at_first : (size stop : ℕ) (d : StopState) → d ≡ new_stop size stop → Only d.bytes (StopLeaves d)
synced_at_first size stop d is = subst (λ (x : StopState). Only x.bytes (StopLeaves x)) (sym is) only
  where
    only : Only (new_stop size stop).bytes (StopLeaves (new_stop size stop))
    only c (inl same) = same
    only c (inr same) = same

-- ---- no line is answered yet

pub opened_answers : {C : Type 0} (n : Noted C StopState) (old : List DiskState) (number : ℕ) (history : HistoryState) → history ≡ NoHistory → IsOpened n old number →
    HasAnswered (λ (d : StopState). d.bytes) StopLeaves faults_by_stop calls_by_stop n None (goes_by number (room_of (λ (d : StopState). d.bytes) n.meta) old) [] history
opened_answers n old number history main opened =
    record {
      on = refl;
      live = opened.live;
      sized = refl;
      grain = opened.grain;
      lanes = opened.lanes;
      last = first_told old;
      least = [];
      at = subst (λ (h : HistoryState). IsNotedAt (λ (d : StopState). d.bytes) StopLeaves n h (first_told old) []) (sym main) opened.at;
      counted = opened.counted;
      run = subst (λ (h : HistoryState). IsRun K64 stop_reading (first_told old) [] h.entries (first_told old)) (sym main) (IsRun-nil K64 stop_reading (first_told old));
    }

-- ---- the first image isn't written

module _ (number half : ℕ) (call : Call) (bytes : List ℕ) (lanes : List LaneView) (main : call.history ≡ NoHistory) (source : call.source' ≡ call.source) (leaves : LeavesFirst bytes)
    (has : HasLanes (over_disks call.disks) lanes) (counted : AreCounted (first_told call.disks) lanes) (all : AreAllIn lanes call.disks') (by : AreByLane lanes call.disks') where
  none : call.history.entries ≡ []
  none = ap (λ (h : HistoryState). h.entries) main

  unopened_put : (far : Far) → CameFar number half far call [] (Session []) (first_told call.disks) →
      StatePut (far_text far) (IsFirstText K64 (recovered bytes)) (IsFirstFront K64 (recovered bytes)) call.status call.sink call.sink' → StopEnds number half call
  unopened_put far came put =
      let w = first_told call.disks in
      let apart : LieApart lanes call.disks' = lie_apart lanes call.disks' by in
      let many : length apart.back ≡ length (pools_dealt LANES call.disks) =
      apart.count ∙ has.count ∙ sym (length-map (all_dealt LANES call.disks) pool_of ∙ length-map-range_with_len (dealt LANES call.disks) 0 LANES) in
      let known : far_text far ≡ history_text call.history ++ far_text far = ap (λ (h : HistoryState). history_text h ++ far_text far) (sym main) in
      let state : StatePut (far_text far) (IsState call w (Session [])) (IsLeftFront call w (Session [])) call.status call.sink call.sink' =
      put_as (far_text far) (IsFirstText K64 (recovered bytes)) (IsFirstFront K64 (recovered bytes)) (IsState call w (Session [])) (IsLeftFront call w (Session [])) call.status call.sink call.sink'
      (λ text is. first_state call (Session []) bytes text apart.back many (sym apart.are) none leaves is)
      (λ text is. first_put call (Session []) bytes text apart.back many (sym apart.are) none leaves is) put in
      record {
        last = w;
        legal = no_entries call none;
        named = inl (main_told call.disks call.history main);
        bytes = [];
        gave = gave_nothing call.source call.source' source;
        ends = far_ends number half far call [] (Session []) w came record { few = omega arith; taken = none_answered call none } call.status
            (subst (λ (t : List ℕ). StatePut t (IsState call (first_told call.disks) (Session [])) (IsLeftFront call (first_told call.disks) (Session [])) call.status call.sink call.sink') known state);
        disks = all_back call.status call.disks call.disks' w (given_back (over_disks call.disks) lanes call.disks' w has all apart counted);
      }

  pub unopened_ends : (stop : NotedStop) → ((stop ≡ MetaFailed) → number ≤ 4) → ((stop ≡ MetaFull) → FirstPasses half) → EndsUnopened number (recovered bytes) stop call.status call.sink call.sink' → StopEnds number half call
  unopened_ends LogFull first full ends = absurd ends
  unopened_ends NoMemory first full ends = starved_named number half call ends.0 source ends.1 main
  unopened_ends MetaFailed first full ends = unopened_put (ToCall number) record { few = omega arith; lines = no_lines call none; costs = (refl, inl (none, first refl)) } ends
  unopened_ends MetaFull first full ends = unopened_put ToFull record { few = omega arith; lines = no_lines call none; costs = inl (none, full refl) } ends
