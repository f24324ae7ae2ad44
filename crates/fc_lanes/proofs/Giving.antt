-- What the lanes give back, lane by lane.
use Rattle.std.proofs.Common.{◌≡◌, ℕ, suc, ◌+◌, ◌^◌, ◌<◌, ◌≤◌, List, [], ◌∷◌, ◌++◌, refl, sym, ap, ap₂, ◌∙◌, arith}
use Rattle.std.specs.List.{All}
use Rattle.std.proofs.lemmas.List.{append-nil, append_assoc}
use Rattle.std.proofs.lemmas.List.Elements.{All-nil, All-cons}
use Rattle.std.proofs.lemmas.List.Sums.{sum_by-append, sum_by-cons, sum_by_push}
use Rattle.fc_base.specs.Pools.{Pool}
use Rattle.fc_grains.specs.Grains.{AreAllOf, one_if_silent, stopped, total_of}
use Rattle.fc_grains.proofs.KindCounts.{flat-append, thin-append}
use Rattle.fc_lane.specs.Lane.{LaneView}
use Rattle.fc_mdisk.specs.Disk.{DiskState}
use Rattle.fc_lanes.specs.Dealing.{AreAllIn, AreByLane, disks_in}

pub all_but_last : {X : Type 0} → (P : X → Type 0) (xs : List X) (y : X) → All P (xs ++ y ∷ []) → All P xs
all_but_last P [] y all = All-nil P
all_but_last P (x ∷ xs) y all = All-cons P x xs (all 0 x (omega arith)) (all_but_last P xs y (λ k e lt. all (suc k) e (omega (arith, lt))))

pub of_last : {X : Type 0} → (P : X → Type 0) (xs : List X) (y : X) → All P (xs ++ y ∷ []) → P y
of_last P [] y all = all 0 y (omega arith)
of_last P (x ∷ xs) y all = of_last P xs y (λ k e lt. all (suc k) e (omega (arith, lt)))

counted : (n c : ℕ) → stopped n ≡ c → c + 1 < 2 ^ 64 → n ≡ c
counted n c is below = grind (arith, is, below)

at_most : (n c : ℕ) → stopped n ≡ c → c ≤ n
at_most n c is = grind (arith, is)

-- the disks of one lane and of those behind it
pub first_lane : (v : LaneView) (vs : List LaneView) → total_of (disks_in (v ∷ vs)) ≡ total_of v.grains.disks + total_of (disks_in vs)
first_lane v vs =
    omega (arith, sum_by-cons (λ (x : LaneView). x.grains.disks.flat) v vs, sum_by-cons (λ (x : LaneView). x.grains.disks.thin) v vs)

pub nothing_given : AreAllIn [] []
nothing_given = record { kinds = refl; silent = refl; calls = λ below. refl; faults = λ below. refl; counted = omega arith }

pub lane_given : (done : List LaneView) (v : LaneView) (disks own : List DiskState) → AreAllIn done disks → AreAllOf v.grains own → AreAllIn (done ++ v ∷ []) (disks ++ own)
lane_given done v disks own all more = record {
  kinds = λ k. record {
    flat = (flat-append disks own
        ∙ ap₂ (λ a b. a + b) (ap (λ (p : Pool). p.flat) all.kinds) (ap (λ (p : Pool). p.flat) more.kinds)
        ∙ sym (sum_by_push (λ (x : LaneView). x.grains.disks.flat) done v)) k;
    thin = (thin-append disks own
        ∙ ap₂ (λ a b. a + b) (ap (λ (p : Pool). p.thin) all.kinds) (ap (λ (p : Pool). p.thin) more.kinds)
        ∙ sym (sum_by_push (λ (x : LaneView). x.grains.disks.thin) done v)) k;
  };
  silent =
      sum_by-append (λ (d : DiskState). one_if_silent d.due) disks own
      ∙ ap₂ (λ a b. a + b) all.silent more.silent
      ∙ sym (sum_by_push (λ (x : LaneView). x.grains.silent) done v);
  calls = λ below.
      let P : LaneView → Type 0 = λ x. x.grains.calls + 1 < 2 ^ 64 in
      sum_by-append (λ (d : DiskState). d.calls) disks own
      ∙ ap₂ (λ a b. a + b) (all.calls (all_but_last P done v below)) (counted _ v.grains.calls more.calls (of_last P done v below))
      ∙ sym (sum_by_push (λ (x : LaneView). x.grains.calls) done v);
  faults = λ below.
      let P : LaneView → Type 0 = λ x. x.grains.faults + 1 < 2 ^ 64 in
      sum_by-append (λ (d : DiskState). d.faults) disks own
      ∙ ap₂ (λ a b. a + b) (all.faults (all_but_last P done v below)) (counted _ v.grains.faults more.faults (of_last P done v below))
      ∙ sym (sum_by_push (λ (x : LaneView). x.grains.faults) done v);
  counted = omega (
    arith,
    all.counted,
    at_most _ v.grains.faults more.faults,
    sum_by-append (λ (d : DiskState). d.faults) disks own,
    sum_by_push (λ (x : LaneView). x.grains.faults) done v,
  );
}

-- One lane more gives its disks back.
pub lane_behind : (done : List LaneView) (v : LaneView) (disks own : List DiskState) → AreByLane done disks → AreAllOf v.grains own → AreByLane (done ++ v ∷ []) (disks ++ own)
lane_behind [] v disks own none all = (own, [], ap (λ (ds : List DiskState). ds ++ own) none ∙ sym (append-nil own), all, refl)
lane_behind (x ∷ xs) v disks own some all = (
  some.0,
  some.1 ++ own,
  ap (λ (ds : List DiskState). ds ++ own) some.2 ∙ append_assoc some.0 some.1 own,
  some.3,
  lane_behind xs v some.1 own some.4 all,
)
