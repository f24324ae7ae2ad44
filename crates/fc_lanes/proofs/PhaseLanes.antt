-- Lanes that do something one after the other.
use Rattle.std.proofs.Common.{◌≡◌, ◌≢◌, ℕ, ◌+◌, ◌<◌, ◌≤◌, List, [], ◌∷◌, length, slice_index_or, slice_set, refl, sym, ◌∙◌, subst, arith, ◌⊎◌, inl, inr}
use Rattle.std.proofs.lemmas.Bool.{cases_eq, cases_lt}
use Rattle.std.proofs.lemmas.List.{get_or-set_same, get_or-set_other, length-set}
use Rattle.fc_base.specs.declared.decision.LaneEvent.{LaneEvent}
use Rattle.fc_follow.specs.Following.{Followed, FitsFollowed}
use Rattle.fc_grains.specs.Calls.{HasReadied}
use Rattle.fc_grains.specs.Grains.{GrainsState, NewVolume}
use Rattle.fc_grains.specs.Quiet.{IsQuiet}
use Rattle.fc_lane.specs.Lane.{LaneView, CanDoEvents, IsFollowing, IsSameLane, of}
use Rattle.fc_lanes.specs.AllLanes.{EachLane, IsDueIn, IsLaneReady, CanAllDo, FitAll}

-- The first so many did it, and the others are as they were.
pub record EachBelow (P : LaneView → LaneView → Type 0) (n : ℕ) (old now : List LaneView) : Type 0 where
  pub count : length now ≡ length old
  pub below : (i : ℕ) (d : LaneView) → i < n → P (slice_index_or old i d) (slice_index_or now i d)
  pub rest : (i : ℕ) (d : LaneView) → n ≤ i → slice_index_or now i d ≡ slice_index_or old i d

pub none_below : (P : LaneView → LaneView → Type 0) (ls : List LaneView) → EachBelow P 0 ls ls
none_below P ls = record { count = refl; below = λ i d lt. absurd (omega (arith, lt)); rest = λ i d le. refl }

inside : (ls : List LaneView) (i : ℕ) (d e : LaneView) → i < length ls → slice_index_or ls i d ≡ slice_index_or ls i e
inside [] i d e lt = absurd (omega (arith, lt))
inside (v ∷ vs) ℕ.zero d e lt = refl
inside (v ∷ vs) (ℕ.suc i) d e lt = inside vs i d e (omega (arith, lt))

pub one_more_lane : (P : LaneView → LaneView → Type 0) (n : ℕ) (old now : List LaneView) (v e : LaneView) → EachBelow P n old now → n < length old →
    P (slice_index_or now n e) v → EachBelow P (n + 1) old (slice_set now n v)
one_more_lane P n old now v e b lt done = record {
  count = length-set now n v ∙ b.count;
  below = λ i d le. by_place i d le (cases_eq i n);
  rest = λ i d le. get_or-set_other now n i v d (λ same. omega (arith, le, same)) ∙ b.rest i d (omega (arith, le));
}
  where
    first : (d : LaneView) → P (slice_index_or old n d) v
    first d = subst (λ (x : LaneView). P x v) (b.rest n e (omega arith) ∙ inside old n e d lt) done

    by_place : (i : ℕ) (d : LaneView) → i < n + 1 → (i ≡ n) ⊎ (i ≢ n) → P (slice_index_or old i d) (slice_index_or (slice_set now n v) i d)
    by_place i d le (inl here) =
        subst (λ (k : ℕ). P (slice_index_or old k d) (slice_index_or (slice_set now n v) k d)) (sym here)
        (subst (λ (x : LaneView). P (slice_index_or old n d) x) (sym (get_or-set_same now n v d (omega (arith, lt, b.count)))) (first d))
    by_place i d le (inr other) =
        subst (λ (x : LaneView). P (slice_index_or old i d) x) (sym (get_or-set_other now n i v d other)) (b.below i d (omega (arith, le, other)))

pub all_below : (P : LaneView → LaneView → Type 0) (n : ℕ) (old now : List LaneView) → EachBelow P n old now → length old ≤ n → EachLane P old now
all_below P n old now b le = record { count = b.count; each = λ i d lt. b.below i d (omega (arith, lt, le)) }

-- The next lane is as it was.
pub can_next : (P : LaneView → LaneView → Type 0) (n : ℕ) (old now : List LaneView) (events : List LaneEvent) (d : LaneView) → EachBelow P n old now → CanAllDo old events → n < length old →
    CanDoEvents (slice_index_or now n d) events
can_next P n old now events d b can lt = subst (λ (v : LaneView). CanDoEvents v events) (sym (b.rest n d (omega arith))) (can n d lt)

pub fits_next : (P : LaneView → LaneView → Type 0) (n : ℕ) (old now : List LaneView) (events : List LaneEvent) (d : LaneView) → EachBelow P n old now → FitAll old events → n < length old →
    (f : Followed) × IsFollowing (slice_index_or now n d) f × FitsFollowed (of (slice_index_or now n d)) f events
fits_next P n old now events d b fit lt =
    subst (λ (v : LaneView). (f : Followed) × IsFollowing v f × FitsFollowed (of v) f events) (sym (b.rest n d (omega arith))) (fit n d lt)

-- ---- made ready

abbrev pub IsMadeReady : List LaneEvent → LaneView → LaneView → Type 0
IsMadeReady events old new = IsLaneReady old new × CanDoEvents new events

-- A lane that has disks reserved keeps its armed faults.
pub readied : (old new : LaneView) (reserved : List NewVolume) → IsSameLane old new → ((f : Followed) → IsFollowing old f → IsFollowing new f) →
    (IsQuiet old.grains → IsQuiet new.grains) → new.grains.faults ≡ old.grains.faults → HasReadied old.grains reserved new.grains → IsLaneReady old new
readied old new reserved same stands quiet faults has = record {
  same = same;
  stands = stands;
  quiet = λ q. (quiet q, faults);
  armed = λ id n due.
      let P : GrainsState → Type 0 = λ g. IsDueIn (record old { grains = g }) id n in
      subst P (sym has.rest) due;
}

as_it_was : (v : LaneView) → IsLaneReady v v
as_it_was v = record {
  same = record { lane = refl; lanes = refl; grain = refl; disks = refl; silent = refl };
  stands = λ f is. is;
  quiet = λ q. (q, refl);
  armed = λ id n due. due;
}

-- So far, where the next finds no memory.
pub ready_so_far : (events : List LaneEvent) (n : ℕ) (old now : List LaneView) (v e : LaneView) → EachBelow (IsMadeReady events) n old now → n < length old →
    IsLaneReady (slice_index_or now n e) v → EachLane IsLaneReady old (slice_set now n v)
ready_so_far events n old now v e b lt done =
    let weaker : EachBelow IsLaneReady n old now = record { count = b.count; below = λ i d le. (b.below i d le).0; rest = b.rest } in
    let more : EachBelow IsLaneReady (n + 1) old (slice_set now n v) = one_more_lane IsLaneReady n old now v e weaker lt done in
    record { count = more.count; each = λ i d le. by_place i d more (cases_lt i (n + 1)) }
  where
    by_place : (i : ℕ) (d : LaneView) → EachBelow IsLaneReady (n + 1) old (slice_set now n v) → (i < n + 1) ⊎ (n + 1 ≤ i) →
        IsLaneReady (slice_index_or old i d) (slice_index_or (slice_set now n v) i d)
    by_place i d more (inl lt) = more.below i d lt
    by_place i d more (inr le) = subst (λ (x : LaneView). IsLaneReady (slice_index_or old i d) x) (sym (more.rest i d le)) (as_it_was (slice_index_or old i d))

pub all_ready : (events : List LaneEvent) (n : ℕ) (old now : List LaneView) → EachBelow (IsMadeReady events) n old now → length old ≤ n → EachLane IsLaneReady old now
all_ready events n old now b le = record { count = b.count; each = λ i d lt. (b.below i d (omega (arith, lt, le))).0 }

pub all_can : (events : List LaneEvent) (n : ℕ) (old now : List LaneView) → EachBelow (IsMadeReady events) n old now → length old ≤ n → CanAllDo now events
all_can events n old now b le = λ i d lt. (b.below i d (omega (arith, lt, le, b.count))).1
