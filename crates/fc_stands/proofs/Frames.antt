-- What each lane keeps, through several steps.
use Rattle.std.proofs.Common.{◌≡◌, ℕ, ◌+◌, List, [], ◌∷◌, slice_index_or, refl, sym, ◌∙◌, ap, ap₂, arith}
use Rattle.std.specs.List.{sum_by}
use Rattle.std.proofs.lemmas.List.Sums.{sum_by-cons}
use Rattle.fc_base.specs.Pools.{Pool}
use Rattle.fc_lane.specs.Lane.{LaneView, IsSameLane, KeepsQuiet}
use Rattle.fc_lanes.specs.AllLanes.{EachLane, KeepsArmed}
use Rattle.fc_lanes.specs.Dealing.{disks_in}

-- ---- one lane

lane_stays : (v : LaneView) → IsSameLane v v
lane_stays v = record { lane = refl; lanes = refl; grain = refl; disks = refl; silent = refl }

lane_goes_on : (a b c : LaneView) → IsSameLane a b → IsSameLane b c → IsSameLane a c
lane_goes_on a b c first second = record {
  lane = second.lane ∙ first.lane;
  lanes = second.lanes ∙ first.lanes;
  grain = second.grain ∙ first.grain;
  disks = second.disks ∙ first.disks;
  silent = second.silent ∙ first.silent;
}

quiet_stays : (v : LaneView) → KeepsQuiet v v
quiet_stays v = λ quiet. (quiet, refl)

quiet_goes_on : (a b c : LaneView) → KeepsQuiet a b → KeepsQuiet b c → KeepsQuiet a c
quiet_goes_on a b c first second = λ quiet.
    let mid = first quiet in
    let last = second mid.0 in
    (last.0, last.1 ∙ mid.1)

-- ---- each lane

each_stays : (P : LaneView → LaneView → Type 0) → ((v : LaneView) → P v v) → (ls : List LaneView) → EachLane P ls ls
each_stays P stays ls = record { count = refl; each = λ i d inside. stays (slice_index_or ls i d) }

each_goes_on : (P : LaneView → LaneView → Type 0) → ((a b c : LaneView) → P a b → P b c → P a c) → (xs ys zs : List LaneView) →
    EachLane P xs ys → EachLane P ys zs → EachLane P xs zs
each_goes_on P goes_on xs ys zs first second = record {
  count = second.count ∙ first.count;
  each = λ i d inside. goes_on (slice_index_or xs i d) (slice_index_or ys i d) (slice_index_or zs i d) (first.each i d inside) (second.each i d (omega (arith, inside, first.count)));
}

pub all_stay : (ls : List LaneView) → EachLane IsSameLane ls ls
all_stay ls = each_stays IsSameLane lane_stays ls

pub all_go_on : (xs ys zs : List LaneView) → EachLane IsSameLane xs ys → EachLane IsSameLane ys zs → EachLane IsSameLane xs zs
all_go_on xs ys zs first second = each_goes_on IsSameLane lane_goes_on xs ys zs first second

pub all_stay_quiet : (ls : List LaneView) → EachLane KeepsQuiet ls ls
all_stay_quiet ls = each_stays KeepsQuiet quiet_stays ls

pub all_go_on_quiet : (xs ys zs : List LaneView) → EachLane KeepsQuiet xs ys → EachLane KeepsQuiet ys zs → EachLane KeepsQuiet xs zs
all_go_on_quiet xs ys zs first second = each_goes_on KeepsQuiet quiet_goes_on xs ys zs first second

pub all_stay_armed : (ls : List LaneView) → EachLane KeepsArmed ls ls
all_stay_armed ls = each_stays KeepsArmed (λ v id n due. due) ls

pub all_go_on_armed : (xs ys zs : List LaneView) → EachLane KeepsArmed xs ys → EachLane KeepsArmed ys zs → EachLane KeepsArmed xs zs
all_go_on_armed xs ys zs first second = each_goes_on KeepsArmed (λ a b c one two id n due. two id n (one id n due)) xs ys zs first second

-- ---- their disks

same_sum : (f : Pool → ℕ) (old new : List LaneView) → EachLane IsSameLane old new → sum_by (λ (v : LaneView). f v.grains.disks) new ≡ sum_by (λ (v : LaneView). f v.grains.disks) old
same_sum f [] [] each = refl
same_sum f [] (u ∷ us) each = absurd (omega (arith, each.count))
same_sum f (v ∷ vs) [] each = absurd (omega (arith, each.count))
same_sum f (v ∷ vs) (u ∷ us) each =
    let first : f u.grains.disks ≡ f v.grains.disks = ap f (each.each 0 v (omega arith)).disks in
    let rest = same_sum f vs us record { count = omega (arith, each.count); each = λ i d lt. each.each (ℕ.suc i) d (omega (arith, lt)) } in
    sum_by-cons (λ (x : LaneView). f x.grains.disks) u us
    ∙ ap₂ (λ a b. a + b) first rest
    ∙ sym (sum_by-cons (λ (x : LaneView). f x.grains.disks) v vs)

-- Lanes that stay what they are have as many disks of each kind.
pub same_disks : (old new : List LaneView) → EachLane IsSameLane old new → disks_in new ≡ disks_in old
same_disks old new each = λ k. record { flat = same_sum (λ (p : Pool). p.flat) old new each k; thin = same_sum (λ (p : Pool). p.thin) old new each k }
