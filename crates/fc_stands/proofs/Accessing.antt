-- An entry of a lane: it is right, and the store stands for what it leaves.
use Rattle.std.proofs.Common.{◌≡◌, ◌≢◌, ℕ, ◌+◌, ◌*◌, ◌^◌, ◌<◌, ◌≤◌, List, length, slice_index_or, slice_set, sym, ◌∙◌, subst, arith, ◌⊎◌, inl, inr, [], ◌∷◌}
use Rattle.fc_base.specs.declared.size.GrainSize.{GrainSize}
use Rattle.fc_entry.specs.declared.entry.Entry.{Entry}
use Rattle.fc_follow.specs.Following.{Followed, followed_entry}
use Rattle.fc_lane.specs.Lane.{LaneView, IsFollowing}
use Rattle.fc_legal.specs.Stands.{Stands}
use Rattle.fc_legal.specs.Steps.{Step, after_access}
use Rattle.fc_legal.specs.Whole.{Whole, lanes, lane_at, part_at, followed_at}
use Rattle.fc_parts.specs.Law.{IsInVolume, IsOfLane}
use Rattle.fc_rules.specs.LaneRight.{IsRightInLane}
use Rattle.fc_stands.specs.Store.{StoreView, IsLaneAt, AreLanesOf, AreFewCalls, StandsFor}
use Rattle.std.proofs.lemmas.Bool.{cases_eq}
use Rattle.std.proofs.lemmas.List.{get_or-set_same, get_or-set_other, length-set}
use Rattle.fc_parts.proofs.Lawful.{part_law_holds}

-- ---- the entry

-- An entry that is right in its lane is right.
pub access_step :
    (grain : GrainSize) (decisions : ℕ) (w : Whole) (i : ℕ) (entry : Entry) →
    Stands decisions w →
    i < lanes w →
    IsOfLane grain w i entry.request →
    IsInVolume grain w entry.request →
    IsRightInLane (lane_at grain w i) (part_at grain w i) entry →
    entry.number ≡ w.entries →
    Step grain w entry (after_access grain w i entry)
access_step grain decisions w i entry stands below of inside right counted = record {
  number = counted;
  right = part_law_holds.right grain decisions w i entry stands below of inside right;
}

-- ---- the store

-- How many lanes there are stays.
pub lanes_stay : (grain : GrainSize) (w : Whole) (i : ℕ) (entry : Entry) → lanes (after_access grain w i entry) ≡ lanes w
lanes_stay grain w i entry = length-set w.faults i entry.faults_after

-- Which lane it is says all of it.
abbrev pub IsLane : GrainSize → Whole → ℕ → LaneView → Type 0
IsLane grain w i v = (v.lane ≡ i) × (v.lanes ≡ lanes w) × (v.grains.grain ≡ grain)

-- The lane of the entry, as it is then, stands for its part of what is told.
pub lane_stands :
    (grain : GrainSize) (decisions : ℕ) (w : Whole) (i : ℕ) (entry : Entry) (v : LaneView) →
    Stands decisions w →
    i < lanes w →
    IsOfLane grain w i entry.request →
    IsRightInLane (lane_at grain w i) (part_at grain w i) entry →
    IsLane grain w i v →
    IsFollowing v (followed_entry (lane_at grain w i) (followed_at grain w i) entry) →
    IsLaneAt grain (after_access grain w i entry) i v
lane_stands grain decisions w i entry v stands below of right same now =
    let R : Followed → Type 0 = λ f. IsFollowing v f in
    record {
      lane = same.0;
      lanes_are = same.1 ∙ sym (lanes_stay grain w i entry);
      grain_is = same.2;
      stands = subst R (sym (part_law_holds.told grain decisions w i entry stands below of right)) now;
    }

-- Any other lane stands for its own, which stays.
pub other_stands :
    (grain : GrainSize) (decisions : ℕ) (w : Whole) (i : ℕ) (entry : Entry) (j : ℕ) (v : LaneView) →
    Stands decisions w →
    i < lanes w →
    IsOfLane grain w i entry.request →
    IsRightInLane (lane_at grain w i) (part_at grain w i) entry →
    j < lanes w →
    j ≢ i →
    IsLaneAt grain w j v →
    IsLaneAt grain (after_access grain w i entry) j v
other_stands grain decisions w i entry j v stands below of right within other old =
    let R : Followed → Type 0 = λ f. IsFollowing v f in
    record {
      lane = old.lane;
      lanes_are = old.lanes_are ∙ sym (lanes_stay grain w i entry);
      grain_is = old.grain_is;
      stands = subst R (sym (part_law_holds.others grain decisions w i entry j stands below of right within other)) old.stands;
    }

-- So do all lanes.
each_stands :
    (grain : GrainSize) (decisions : ℕ) (w : Whole) (i : ℕ) (entry : Entry) (ls : List LaneView) (v : LaneView) →
    Stands decisions w →
    length ls ≡ lanes w →
    AreLanesOf grain w ls →
    i < lanes w →
    IsOfLane grain w i entry.request →
    IsRightInLane (lane_at grain w i) (part_at grain w i) entry →
    IsLane grain w i v →
    IsFollowing v (followed_entry (lane_at grain w i) (followed_at grain w i) entry) →
    AreLanesOf grain (after_access grain w i entry) (slice_set ls i v)
each_stands grain decisions w i entry ls v stands count each below of right same now j d inside = by (cases_eq j i)
  where
    within : j < length ls
    within = omega (arith, inside, length-set ls i v)

    by : (j ≡ i) ⊎ (j ≢ i) → IsLaneAt grain (after_access grain w i entry) j (slice_index_or (slice_set ls i v) j d)
    by (inl here) =
        let P : ℕ → Type 0 = λ k. IsLaneAt grain (after_access grain w i entry) k (slice_index_or (slice_set ls i v) k d) in
        let Q : LaneView → Type 0 = λ x. IsLaneAt grain (after_access grain w i entry) i x in
        subst P (sym here)
        (subst Q (sym (get_or-set_same ls i v d (subst (λ k. k < length ls) here within)))
        (lane_stands grain decisions w i entry v stands below of right same now))
    by (inr other) =
        let Q : LaneView → Type 0 = λ x. IsLaneAt grain (after_access grain w i entry) j x in
        subst Q (sym (get_or-set_other ls i j v d other))
        (other_stands grain decisions w i entry j (slice_index_or ls j d) stands below of right (omega (arith, count, within)) other (each j d within))

-- Its calls stay few.
pub few_stay :
    (grain : GrainSize) (w : Whole) (i : ℕ) (entry : Entry) →
    entry.calls ≤ 2 ^ 32 →
    AreFewCalls w →
    AreFewCalls (after_access grain w i entry)
few_stay grain w i entry few calls j = by (cases_eq j i)
  where
    more : ℕ
    more = slice_index_or w.calls i 0 + entry.calls

    -- past the last lane nothing is counted
    set_at : (xs : List ℕ) (i : ℕ) (x bound : ℕ) → x ≤ bound → slice_index_or (slice_set xs i x) i 0 ≤ bound
    set_at [] i x bound le = omega arith
    set_at (y ∷ xs) ℕ.zero x bound le = le
    set_at (y ∷ xs) (ℕ.suc i) x bound le = set_at xs i x bound le

    by : (j ≡ i) ⊎ (j ≢ i) → slice_index_or (slice_set w.calls i more) j 0 ≤ (w.entries + 1) * 2 ^ 32
    by (inl here) =
        let P : ℕ → Type 0 = λ k. slice_index_or (slice_set w.calls i more) k 0 ≤ (w.entries + 1) * 2 ^ 32 in
        subst P (sym here) (set_at w.calls i more ((w.entries + 1) * 2 ^ 32) (omega (arith, calls i, few)))
    by (inr other) =
        let P : ℕ → Type 0 = λ x. x ≤ (w.entries + 1) * 2 ^ 32 in
        subst P (sym (get_or-set_other w.calls i j more 0 other)) (omega (arith, calls j))

-- After it the store stands for what it leaves.
pub access_stands :
    (s : StoreView) (w : Whole) (i : ℕ) (entry : Entry) (v : LaneView) →
    StandsFor s w →
    i < lanes w →
    IsOfLane s.control.grain w i entry.request →
    IsRightInLane (lane_at s.control.grain w i) (part_at s.control.grain w i) entry →
    IsLane s.control.grain w i v →
    IsFollowing v (followed_entry (lane_at s.control.grain w i) (followed_at s.control.grain w i) entry) →
    entry.calls ≤ 2 ^ 32 →
    StandsFor (record s { lanes = slice_set s.lanes i v }) (after_access s.control.grain w i entry)
access_stands s w i entry v stands below of right same now few = record {
  control = record {
    tables = stands.control.tables;
    next_volume = stands.control.next_volume;
    next_mapping = stands.control.next_mapping;
    next_group = stands.control.next_group;
    flags = stands.control.flags;
  };
  count = length-set s.lanes i v ∙ stands.count ∙ sym (lanes_stay s.control.grain w i entry);
  each = each_stands s.control.grain stands.decisions w i entry s.lanes v stands.stands stands.count stands.each below of right same now;
  decisions = stands.decisions;
  few = omega (arith, stands.few);
  stands = part_law_holds.stands s.control.grain stands.decisions w i entry stands.stands below of right;
  calls = few_stay s.control.grain w i entry few stands.calls;
}
