-- The counts of the lanes' disks are those that the entries tell.
use Rattle.std.proofs.Common.{◌≡◌, ℕ, ◌+◌, ◌*◌, ◌^◌, ◌<◌, ◌≤◌, List, [], ◌∷◌, length, map, slice_index_or, sym, ◌∙◌, ap, subst, arith, suc, refl}
use Rattle.std.specs.List.{All, sum}
use Rattle.std.proofs.Math.Nat.{min-eq_left}
use Rattle.std.proofs.lemmas.List.{ext_get_or, get_or-map, length-map}
use Rattle.std.proofs.lemmas.List.Elements.{All-get_or, All-from_get_or}
use Rattle.std.proofs.lemmas.List.Sums.{sum-map, sum_by-cons}
use Rattle.fc_base.specs.declared.size.GrainSize.{GrainSize}
use Rattle.fc_call.specs.Call.{status_of}
use Rattle.fc_entry.specs.HistoryState.{HistoryState}
use Rattle.fc_entry.specs.declared.entry.Entry.{Entry}
use Rattle.fc_grains.specs.Grains.{pool_of, stopped, silent_of}
use Rattle.fc_lane.specs.Lane.{LaneView}
use Rattle.fc_legal.specs.Legal.{IsLegal}
use Rattle.fc_legal.specs.Whole.{Whole, part_at}
use Rattle.fc_mdisk.specs.Disk.{DiskState}
use Rattle.fc_lanes.specs.Dealing.{AreAllIn, AreByLane, disks_in, faults_in}
use Rattle.fc_stands.specs.Store.{StoreView, StandsFor, IsLaneAt}
use Rattle.fc_run.specs.declared.ended.Ended.{Ended}
use Rattle.fc_run.specs.declared.ended.Ended.TheVariants as ended
use Rattle.fc_owner.specs.FirstTold.{first_told}
use Rattle.fc_top.specs.DisksBack.{AreBack, AreCounted, DisksAfter}
use Rattle.fc_owner.specs.StoreRuns.{HasDisks, IsUp, Start, StandsOr}
use Rattle.fc_stands.specs.Quiet.{AreQuiet, QuietBy}
use Rattle.fc_top.proofs.ArmedBack.{armed_back}
use Rattle.law_together.proofs.Kept.{IsLegal-keeps}

few-counted : (n m : ℕ) → n ≤ m * 2 ^ 32 → m ≤ 262144 → n + 1 < 2 ^ 64
few-counted n m few entries = omega (arith, few, entries)

stopped-few : (n m : ℕ) → n ≤ m * 2 ^ 32 → m ≤ 262144 → stopped n ≡ n
stopped-few n m few entries = min-eq_left (omega (arith, few-counted n m few entries))

-- what each lane tells is what is told of it
by_lanes :
    (f : LaneView → ℕ) (ls : List LaneView) (counts : List ℕ) (d : LaneView) →
    length ls ≡ length counts →
    ((i : ℕ) → i < length ls → f (slice_index_or ls i d) ≡ slice_index_or counts i 0) →
    map f ls ≡ counts
by_lanes f ls counts d long each =
    ext_get_or 0 (map f ls) counts (length-map ls f ∙ long)
    (λ i inside.
    let within : i < length ls = omega (arith, inside, length-map ls f) in
    get_or-map f ls i d 0 within ∙ each i within)

-- a fact on what all lanes tell
All-of_map : (P : ℕ → Type 0) (f : LaneView → ℕ) (ls : List LaneView) (d : LaneView) → All P (map f ls) → All (λ v. P (f v)) ls
All-of_map P f ls d all =
    All-from_get_or (λ v. P (f v)) ls d
    (λ i inside.
    subst P (get_or-map f ls i d 0 inside)
    (All-get_or P (map f ls) i 0 (omega (arith, inside, length-map ls f)) all))

lane_calls :
    (grain : GrainSize) (w : Whole) (i : ℕ) (v : LaneView) →
    slice_index_or w.calls i 0 ≤ w.entries * 2 ^ 32 →
    w.entries ≤ 262144 →
    IsLaneAt grain w i v →
    v.grains.calls ≡ slice_index_or w.calls i 0
unfolding part_at
lane_calls grain w i v few entries at =
    at.stands.lane.calls ∙ stopped-few (slice_index_or w.calls i 0) w.entries few entries

lane_faults :
    (grain : GrainSize) (w : Whole) (i : ℕ) (v : LaneView) →
    IsLaneAt grain w i v →
    v.grains.faults ≡ slice_index_or w.faults i 0
unfolding part_at
lane_faults grain w i v at = at.stands.lane.faults

calls_told : (s : StoreView) (w : Whole) (d : LaneView) → StandsFor s w → w.entries ≤ 262144 → map (λ (v : LaneView). v.grains.calls) s.lanes ≡ w.calls
calls_told s w d stands entries =
    by_lanes (λ (v : LaneView). v.grains.calls) s.lanes w.calls d (stands.count ∙ sym stands.stands.each_lane.calls)
    (λ i within. lane_calls s.control.grain w i (slice_index_or s.lanes i d) (stands.calls i) entries (stands.each i d within))

faults_told : (s : StoreView) (w : Whole) (d : LaneView) → StandsFor s w → map (λ (v : LaneView). v.grains.faults) s.lanes ≡ w.faults
faults_told s w d stands =
    by_lanes (λ (v : LaneView). v.grains.faults) s.lanes w.faults d stands.count
    (λ i within. lane_faults s.control.grain w i (slice_index_or s.lanes i d) (stands.each i d within))

-- the calls of each lane are counted
calls_counted : (w : Whole) → ((i : ℕ) → slice_index_or w.calls i 0 ≤ w.entries * 2 ^ 32) → w.entries ≤ 262144 → AreCounted w.calls
calls_counted w few entries =
    All-from_get_or (λ n. n + 1 < 2 ^ 64) w.calls 0
    (λ i inside. few-counted (slice_index_or w.calls i 0) w.entries (few i) entries)

-- some lane
lane_in : (s : StoreView) (w : Whole) → StandsFor s w → LaneView
lane_in s w stands = first s.lanes (omega (arith, stands.count, stands.stands.each_lane.some))
  where
    first : (ls : List LaneView) → 0 < length ls → LaneView
    first [] some = absurd (omega (arith, some))
    first (v ∷ ls) some = v

-- lanes none of whose disks ever failed
counted-quiet : (ls : List LaneView) → AreQuiet ls → All (λ (v : LaneView). v.grains.faults + 1 < 2 ^ 64) ls
counted-quiet ls quiet i d within = omega (arith, (quiet i d within).faults)

faults-quiet : (ls : List LaneView) → AreQuiet ls → faults_in ls ≡ 0
faults-quiet [] quiet = refl
faults-quiet (v ∷ vs) quiet =
    let rest : faults_in vs ≡ 0 = faults-quiet vs (λ i d within. quiet (suc i) d (omega (arith, within))) in
    omega (arith, sum_by-cons (λ (x : LaneView). x.grains.faults) v vs, (quiet 0 v (omega arith)).faults, rest)

-- all disks that the lanes have, as many as were handed in
AreBack-all :
    (old given : List DiskState) (s : StoreView) (history : List Entry) (w : Whole) →
    StandsFor s w →
    w.entries ≤ 262144 →
    disks_in s.lanes ≡ pool_of old →
    AreAllIn s.lanes given →
    (silent_of old ≡ 0 → QuietBy history s) →
    AreByLane s.lanes given →
    AreBack old given history w
AreBack-all old given s history w stands entries many all quiet by_lane =
    let d : LaneView = lane_in s w stands in
    let calls_are = calls_told s w d stands entries in
    let faults_are = faults_told s w d stands in
    let calls_of_lane : LaneView → ℕ = λ v. v.grains.calls in
    let faults_of_lane : LaneView → ℕ = λ v. v.grains.faults in
    record {
      kinds = all.kinds ∙ many;
      calls =
          all.calls (All-of_map (λ n. n + 1 < 2 ^ 64) calls_of_lane s.lanes d (subst AreCounted (sym calls_are) (calls_counted w stands.calls entries)))
          ∙ (sym (sum-map calls_of_lane s.lanes) ∙ ap sum calls_are);
      faults = λ counted.
          all.faults (All-of_map (λ n. n + 1 < 2 ^ 64) faults_of_lane s.lanes d (subst AreCounted (sym faults_are) counted))
          ∙ (sym (sum-map faults_of_lane s.lanes) ∙ ap sum faults_are);
      counted =
          let told : sum w.faults ≡ faults_in s.lanes = ap sum (sym faults_are) ∙ sum-map faults_of_lane s.lanes in
          omega (arith, told, all.counted);
      quiet = λ none told. let q = (quiet told).quiet none in all.faults (counted-quiet s.lanes q) ∙ faults-quiet s.lanes q;
      armed = λ told. armed_back history s w stands given (quiet told).armed by_lane;
    }

-- after a legal history of no more than the greatest number of entries
back_of_up :
    (start : Start) (s : StoreView) (given : List DiskState) (history : HistoryState) (last : Whole) →
    AreAllIn s.lanes given →
    AreByLane s.lanes given →
    length history.entries ≤ 262144 →
    IsLegal start.grain (first_told start.disks) history.entries last →
    IsUp start s history last →
    AreBack start.disks given history.entries last
back_of_up start s given history last all by_lane few legal up =
    AreBack-all start.disks given s history.entries last up.stands
    (omega (arith, few, (IsLegal-keeps start.grain (first_told start.disks) last history.entries legal).entries)) up.disks all
    up.quiet by_lane

-- The disks that a store gave after a session.
pub DisksAfter-given :
    (e : Ended) (start : Start) (s : StoreView) (given : List DiskState) (history : HistoryState) (last : Whole) →
    AreAllIn s.lanes given →
    AreByLane s.lanes given →
    length history.entries ≤ 262144 →
    IsLegal start.grain (first_told start.disks) history.entries last →
    StandsOr e (IsUp start s history last) (HasDisks start s) →
    DisksAfter (status_of e) start.disks given history.entries last
DisksAfter-given ended.NoMemory start s given history last all by_lane few legal up = tt
DisksAfter-given ended.Done start s given history last all by_lane few legal up = back_of_up start s given history last all by_lane few legal up
DisksAfter-given ended.Unended start s given history last all by_lane few legal up = back_of_up start s given history last all by_lane few legal up
DisksAfter-given ended.ReadFault start s given history last all by_lane few legal up = back_of_up start s given history last all by_lane few legal up
DisksAfter-given ended.TooLong start s given history last all by_lane few legal up = back_of_up start s given history last all by_lane few legal up
DisksAfter-given ended.LogFull start s given history last all by_lane few legal up = back_of_up start s given history last all by_lane few legal up
DisksAfter-given ended.WriteFault start s given history last all by_lane few legal up = back_of_up start s given history last all by_lane few legal up
