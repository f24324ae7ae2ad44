-- A store that stands for what is told has counted the calls and faults that are told.
use Rattle.std.proofs.Common.{◌≡◌, ℕ, zero, suc, ◌+◌, ◌*◌, ◌^◌, ◌<◌, ◌≤◌, List, [], ◌∷◌, length, slice_index_or, slice_set, refl, sym, ap, subst, ◌∙◌, le_refl, le_trans, le_of_suc-le-suc, arith}
use Rattle.std.proofs.lemmas.List.{length-set}
use Rattle.fc_base.specs.declared.command.Command.{Command}
use Rattle.fc_base.specs.declared.size.GrainSize.{GrainSize}
use Rattle.fc_changed.specs.Row.{Row}
use Rattle.fc_entry.specs.declared.entry.Entry.{Entry}
use Rattle.fc_grains.specs.Grains.{GrainsState, stopped}
use Rattle.fc_kept.specs.Marks.{LeastLeft, LeastLeft.decided, LeastLeft.settled_alone, LeastLeft.unsettled}
use Rattle.fc_lane.specs.Lane.{LaneView}
use Rattle.fc_legal.specs.Steps.{after_access}
use Rattle.fc_legal.specs.Whole.{Whole}
use Rattle.fc_noted.proofs.Holding.{HoldSame, as_many, same_at}
use Rattle.fc_noted.specs.Stopping.{AreCounted}
use Rattle.fc_parts.proofs.Decisions.{calls_of_part, faults_of_part}
use Rattle.fc_stands.specs.Store.{AreFewCalls, AreLanesOf, StandsFor, StoreView}
use Rattle.law_commanded.specs.Law.{AreLanesIn}

-- ---- it stands for it, or for what has the same counts

-- few calls are counted to the last
few_counted : (n entries : ℕ) → n ≤ entries * 2 ^ 32 → entries ≤ 262144 → n ≤ stopped n
few_counted n entries few within = omega (arith, few, within)

module _ (grain : GrainSize) (for w : Whole) (ls : List LaneView) (calls_are : for.calls ≡ w.calls) (faults_are : for.faults ≡ w.faults) (each : AreLanesOf grain for ls) where
  calls_at : (i : ℕ) (d : LaneView) → i < length ls → (slice_index_or ls i d).grains.calls ≡ stopped (slice_index_or w.calls i 0)
  calls_at i d il =
      (each i d il).stands.lane.calls
      ∙ (ap stopped (calls_of_part grain for i) ∙ ap (λ (ns : List ℕ). stopped (slice_index_or ns i 0)) calls_are)

  faults_at : (i : ℕ) (d : LaneView) → i < length ls → (slice_index_or ls i d).grains.faults ≡ slice_index_or w.faults i 0
  faults_at i d il = (each i d il).stands.lane.faults ∙ (faults_of_part grain for i ∙ ap (λ (ns : List ℕ). slice_index_or ns i 0) faults_are)

  pub counted_as : length ls ≡ length for.faults → length w.calls ≡ length w.faults → AreFewCalls w → w.entries ≤ 262144 → AreCounted w ls
  counted_as count as_many few within =
      let lanes_are : length ls ≡ length w.faults = count ∙ ap (λ (ns : List ℕ). length ns) faults_are in
      record {
        of_calls = lanes_are ∙ sym as_many;
        of_faults = lanes_are;
        calls = λ i d il. subst (λ (n : ℕ). slice_index_or w.calls i 0 ≤ n) (sym (calls_at i d il)) (few_counted (slice_index_or w.calls i 0) w.entries (few i) within);
        faults = λ i d il. subst (λ (n : ℕ). slice_index_or w.faults i 0 ≤ n) (sym (faults_at i d il)) (le_refl _);
      }

pub has_counted : (s : StoreView) (w : Whole) → StandsFor s w → w.entries ≤ 262144 → AreCounted w s.lanes
has_counted s w up within = counted_as s.control.grain w w s.lanes refl refl up.each up.count up.stands.each_lane.calls up.calls within

-- ---- lanes that hold the same

pub counted_same : (w : Whole) (old new : List LaneView) → HoldSame old new → AreCounted w old → AreCounted w new
counted_same w old new same c =
    let many : length new ≡ length old = as_many old new same in
    let inside : (i : ℕ) → i < length new → i < length old = λ i il. subst (λ (n : ℕ). i < n) many il in
    record {
      of_calls = many ∙ c.of_calls;
      of_faults = many ∙ c.of_faults;
      calls = λ i d il. subst (λ (g : GrainsState). slice_index_or w.calls i 0 ≤ g.calls) (sym (same_at old new same i d il)) (c.calls i d (inside i il));
      faults = λ i d il. subst (λ (g : GrainsState). slice_index_or w.faults i 0 ≤ g.faults) (sym (same_at old new same i d il)) (c.faults i d (inside i il));
    }

-- ---- while a command is done, which counts nothing

same_counts : (grain : GrainSize) (w : Whole) (least : List Row) (command : Command) (for : Whole) (least_for : List Row) → LeastLeft grain w least command for least_for → (for.calls ≡ w.calls) × (for.faults ≡ w.faults)
same_counts grain w least command for least_for (decided loop told) = (refl, refl)
same_counts grain w least command for least_for unsettled = (refl, refl)
same_counts grain w least command for least_for settled_alone = (refl, refl)

pub counted_in : (grain : GrainSize) (s : StoreView) (w : Whole) (least : List Row) (command : Command) (old now : List LaneView) → StandsFor s w → w.entries ≤ 262144 → AreLanesIn grain w least command old now → AreCounted w now
counted_in grain s w least command old now up within inside =
    let same = same_counts grain w least command inside.for inside.least_for inside.leaves in
    counted_as grain inside.for w now same.0 same.1 inside.stand.each inside.stand.count up.stands.each_lane.calls up.calls within

-- ---- with more calls and faults

-- No more of either are told of the one than of the other.
pub record CountsLess (w next : Whole) : Type 0 where
  pub of_calls : length next.calls ≡ length w.calls
  pub of_faults : length next.faults ≡ length w.faults
  pub calls : (i : ℕ) → slice_index_or w.calls i 0 ≤ slice_index_or next.calls i 0
  pub faults : (i : ℕ) → slice_index_or w.faults i 0 ≤ slice_index_or next.faults i 0

pub counted_before : (w next : Whole) (ls : List LaneView) → CountsLess w next → AreCounted next ls → AreCounted w ls
counted_before w next ls less c =
    record {
      of_calls = c.of_calls ∙ less.of_calls;
      of_faults = c.of_faults ∙ less.of_faults;
      calls = λ i d il. le_trans (less.calls i) (c.calls i d il);
      faults = λ i d il. le_trans (less.faults i) (c.faults i d il);
    }

rise_one : (xs : List ℕ) (place n i : ℕ) → slice_index_or xs place 0 ≤ n → slice_index_or xs i 0 ≤ slice_index_or (slice_set xs place n) i 0
rise_one [] place n i le = le_refl _
rise_one (x ∷ xs) zero n zero le = le
rise_one (x ∷ xs) zero n (suc i) le = le_refl _
rise_one (x ∷ xs) (suc place) n zero le = le_refl _
rise_one (x ∷ xs) (suc place) n (suc i) le = rise_one xs place n i le

-- before an entry of a lane
pub counts_less : (grain : GrainSize) (w : Whole) (place : ℕ) (entry : Entry) → entry.faults_before ≡ slice_index_or w.faults place 0 → entry.faults_before ≤ entry.faults_after → CountsLess w (after_access grain w place entry)
counts_less grain w place entry before kept =
    record {
      of_calls = length-set w.calls place (slice_index_or w.calls place 0 + entry.calls);
      of_faults = length-set w.faults place entry.faults_after;
      calls = λ i. rise_one w.calls place (slice_index_or w.calls place 0 + entry.calls) i (omega arith);
      faults = λ i. rise_one w.faults place entry.faults_after i (subst (λ (n : ℕ). n ≤ entry.faults_after) before kept);
    }

-- and in its lane, by which the counts rose
rise_in : (count_of : LaneView → ℕ) (ls : List LaneView) (place : ℕ) (lane other : LaneView) → count_of (slice_index_or ls place other) ≤ count_of lane → (i : ℕ) (d : LaneView) → i < length ls →
    count_of (slice_index_or ls i d) ≤ count_of (slice_index_or (slice_set ls place lane) i d)
rise_in count_of [] place lane other le i d il = le_refl _
rise_in count_of (v ∷ vs) zero lane other le zero d il = le
rise_in count_of (v ∷ vs) zero lane other le (suc i) d il = le_refl _
rise_in count_of (v ∷ vs) (suc place) lane other le zero d il = le_refl _
rise_in count_of (v ∷ vs) (suc place) lane other le (suc i) d il = rise_in count_of vs place lane other le i d (le_of_suc-le-suc il)

pub counted_in_lane : (w : Whole) (ls : List LaneView) (place : ℕ) (lane other : LaneView) → AreCounted w ls → (slice_index_or ls place other).grains.calls ≤ lane.grains.calls → (slice_index_or ls place other).grains.faults ≤ lane.grains.faults →
    AreCounted w (slice_set ls place lane)
counted_in_lane w ls place lane other c calls faults =
    let as_many : length (slice_set ls place lane) ≡ length ls = length-set ls place lane in
    let inside : (i : ℕ) → i < length (slice_set ls place lane) → i < length ls = λ i il. subst (λ (n : ℕ). i < n) as_many il in
    record {
      of_calls = as_many ∙ c.of_calls;
      of_faults = as_many ∙ c.of_faults;
      calls = λ i d il. le_trans (c.calls i d (inside i il)) (rise_in (λ (v : LaneView). v.grains.calls) ls place lane other calls i d (inside i il));
      faults = λ i d il. le_trans (c.faults i d (inside i il)) (rise_in (λ (v : LaneView). v.grains.faults) ls place lane other faults i d (inside i il));
    }
