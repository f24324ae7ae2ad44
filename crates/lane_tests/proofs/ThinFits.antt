-- Two thin volumes fit a lane that begins; then a copy of one to the other fits, and so does a fault; and their first blocks can
-- be written.
use Rattle.std.proofs.Common.{◌≡◌, ◌≢◌, ℕ, zero, suc, ◌<◌, true, false, true≢false, Option, Some, None, IsSome, List, [], ◌∷◌, length, take, Contains, refl, sym, ap, subst, ◌∙◌, arith}
use Rattle.std.proofs.lemmas.List.Elements.{All-nil, All-cons}
use Rattle.fc_base.specs.Column.{first_below, last_below}
use Rattle.fc_base.specs.RestoreGraph.{Edge, HasNoLoop, Way, last_edge, next_edge}
use Rattle.fc_base.specs.Sheet.{Slot, live_place, mapping_place, grains_at, volume_grains, shape_of, slot_at}
use Rattle.fc_base.specs.SheetFits.{FitsPair, FitsTrigger}
use Rattle.fc_base.specs.SheetStep.{triggered}
use Rattle.fc_base.specs.declared.ids.VolId.{VolId}
use Rattle.fc_base.specs.declared.request.Pair.{Pair}
use Rattle.fc_grains.specs.Grains.{pool_of}
use Rattle.fc_mdisk.specs.Disk.{DiskState}
use Rattle.fc_follow.specs.Following.{FitsFollowed, Followed}
use Rattle.fc_rules.specs.LaneFits.{FitsPart}
use Rattle.fc_rules.specs.LaneTold.{LaneVolume}
use Rattle.lane_tests.specs.First.{the_lane, told_after, told_begun}
use Rattle.lane_tests.specs.Thin.{copied, fails, pair, thin, told_thin}

-- ---- the volumes come

one_slot : (slots : List Slot) → length slots ≡ 1 → (slot_at slots 0).volume ≡ 0 → (k : ℕ) → k < length slots → (slot_at slots k).volume ≢ 1
one_slot slots one first zero kl e = absurd (omega (arith, first, e))
one_slot slots one first (suc k) kl e = absurd (omega (arith, one, kl))

pub thin_fits : (disks : List DiskState) → 1 < (pool_of disks).thin → FitsFollowed the_lane (told_begun disks) thin
thin_fits disks some = (
  λ k kl. absurd (omega arith),
  (omega arith, All-nil (λ (v : LaneVolume). v.volume.0 < 0)),
  tt,
  (
    one_slot (told_after (told_begun disks) (take 1 thin)).told.sheet.slots refl refl,
    (omega arith, All-cons (λ (v : LaneVolume). v.volume.0 < 1) _ [] (omega arith) (All-nil (λ (v : LaneVolume). v.volume.0 < 1))),
    tt,
    omega arith,
  ),
)

-- ---- the copy

place_0 : (disks : List DiskState) → live_place (told_thin disks).told.sheet.slots 0 ≡ Some 0
unfolding live_place first_below
place_0 disks = refl

place_1 : (disks : List DiskState) → live_place (told_thin disks).told.sheet.slots 1 ≡ Some 1
unfolding live_place first_below
place_1 disks = refl

no_slot_yet : (disks : List DiskState) → mapping_place (told_thin disks).told.sheet.slots 0 ≡ None
unfolding mapping_place first_below
no_slot_yet disks = refl

pair_fits : (disks : List DiskState) → FitsPair (told_thin disks).told.sheet.slots pair
pair_fits disks = record {
  source = 0;
  target = 1;
  source_there = place_0 disks;
  target_there = place_1 disks;
  as_large = refl;
  complete = refl;
  no_slot_yet = no_slot_yet disks;
}

-- both volumes' slots are live, and they are all
abbrev after : List DiskState → List Slot
after disks = (triggered (pair ∷ []) (told_thin disks).told.sheet).slots

two_slots : (disks : List DiskState) → length (after disks) ≡ 2
unfolding live_place first_below last_below
two_slots disks = refl

first_live : (disks : List DiskState) → (slot_at (after disks) 0).is_live ≡ true
unfolding live_place first_below last_below
first_live disks = refl

no_edge : (slots : List Slot) (v w : ℕ) → length slots ≡ 2 → (slot_at slots 0).is_live ≡ true → Edge (shape_of slots) v w → ⊥
no_edge slots v w two live e = by e.old e.live e.before e.there e.old_is_old
  where
    by : (i j : ℕ) → i < j → j < length slots → (slot_at slots i).is_live ≡ false → ⊥
    by zero j before there old = true≢false (sym live ∙ old)
    by (suc i) j before there old = absurd (omega (arith, before, there, two))

no_loop : (disks : List DiskState) → HasNoLoop (shape_of (after disks))
no_loop disks v way = by v v way
  where
    by : (x y : ℕ) → Way (shape_of (after disks)) x y → ⊥
    by x y (last_edge e) = no_edge (after disks) x y (two_slots disks) (first_live disks) e
    by x y (next_edge {w = z} e rest) = no_edge (after disks) x z (two_slots disks) (first_live disks) e

the_pair : (p : Pair) → Contains (pair ∷ []) p → pair ≡ p
the_pair p (zero, lt, e) = e
the_pair p (suc k, lt, e) = absurd (omega (arith, lt))

trigger_fits : (disks : List DiskState) → FitsTrigger (told_thin disks).told.sheet (pair ∷ [])
trigger_fits disks = record {
  each = λ p c. subst (λ (q : Pair). FitsPair (told_thin disks).told.sheet.slots q) (the_pair p c) (pair_fits disks);
  maps = λ i j d il jl same. omega (arith, il, jl);
  targets = λ i j d il jl same. omega (arith, il, jl);
  apart = λ p q cp cq same. (let e : 1 ≡ 0 = ap (λ (z : Pair). z.target.0) (the_pair p cp) ∙ (same ∙ ap (λ (z : Pair). z.source.0) (sym (the_pair q cq))) in absurd cc);
  no_loop = no_loop disks;
}

none_some : {A : Type 0} (x : A) → None ≡ Some x → ⊥
none_some x e = absurd cc

births : (disks : List DiskState) → (told_after (told_thin disks) copied).told.sheet.births ≡ 3
unfolding live_place mapping_place first_below last_below
births disks = refl

pub copied_fits : (disks : List DiskState) → FitsFollowed the_lane (told_thin disks) copied
copied_fits disks = (trigger_fits disks, tt, λ i d lt row found. absurd (none_some row found), omega (arith, births disks))

pub fails_fits : (disks : List DiskState) → FitsFollowed the_lane (told_thin disks) fails
fails_fits disks = (tt, tt, tt, omega arith)

-- ---- the first block of a volume

part_of : (f : Followed) (volume : VolId) (k : ℕ) → live_place f.told.sheet.slots volume.0 ≡ Some k → length (slot_at f.told.sheet.slots k).held ≡ 2 → FitsPart the_lane f.told volume 0 1
part_of f volume k place size =
    let grains : volume_grains f.told.sheet.slots volume.0 ≡ 2 = ap (grains_at f.told.sheet.slots) place ∙ size in
    record {
      some = omega arith;
      in_one = omega arith;
      of_lane = refl;
      there = subst (λ (o : Option ℕ). IsSome o) (sym place) cc;
      inside = omega (arith, grains);
    }

pub thin_part : (disks : List DiskState) → FitsPart the_lane (told_thin disks).told record { 0 = 1 } 0 1
thin_part disks = part_of (told_thin disks) record { 0 = 1 } 1 (place_1 disks) refl

pub failing_part : (disks : List DiskState) → FitsPart the_lane (told_after (told_thin disks) fails).told record { 0 = 1 } 0 1
failing_part disks = part_of (told_after (told_thin disks) fails) record { 0 = 1 } 1 (place_1 disks) refl

pub copied_part : (disks : List DiskState) → FitsPart the_lane (told_after (told_thin disks) copied).told record { 0 = 0 } 0 1
unfolding live_place mapping_place first_below last_below
copied_part disks = part_of (told_after (told_thin disks) copied) record { 0 = 0 } 0 refl refl
