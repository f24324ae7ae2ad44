-- The lanes of a store that began over disks: what they keep, and the disks that they give back.
use Rattle.std.proofs.Common.{◌≡◌, ℕ, ◌+◌, ◌<◌, Option, List, [], ◌∷◌, length, get_or, All, refl, sym, ap, ap₂, subst, ◌∙◌, arith}
use Rattle.std.specs.List.{sum_by}
use Rattle.std.proofs.lemmas.List.{length-map}
use Rattle.std.proofs.lemmas.List.FromFn.{length-map-range_with_len}
use Rattle.std.proofs.lemmas.List.Sums.{sum_by-cons}
use Rattle.fc_base.specs.Pools.{Pool}
use Rattle.fc_base.specs.declared.limits.TheConstants.{LANES}
use Rattle.fc_base.specs.declared.request.Request.{Request}
use Rattle.fc_base.specs.declared.size.GrainSize.{GrainSize}
use Rattle.fc_changed.specs.Row.{Row}
use Rattle.fc_grains.proofs.KindCounts.{flat-append, thin-append, total-pool}
use Rattle.fc_grains.specs.Grains.{GrainsState, opened as opened_grains, pool_of, total_of}
use Rattle.fc_held.proofs.Whole.{whole_back}
use Rattle.fc_held.specs.Held.{HoldAllOf}
use Rattle.fc_image.specs.declared.image.MetaImage.{MetaImage}
use Rattle.fc_kept.specs.Disks.{NamedDisk}
use Rattle.fc_kept.specs.Images.{kept_in}
use Rattle.fc_kept.specs.OneGrain.{Another}
use Rattle.fc_kept.specs.Recoverable.{Recoverable, disks_at}
use Rattle.fc_kept.specs.Sound.{IsSoundImage}
use Rattle.fc_lane.specs.Lane.{LaneView}
use Rattle.fc_lanes.specs.AllLanes.{EachLane}
use Rattle.fc_lanes.specs.Dealing.{Begin, all_dealt, dealt, disks_in, pools_dealt}
use Rattle.fc_legal.specs.Whole.{Whole, opened}
use Rattle.fc_mdisk.specs.Disk.{DiskState}
use Rattle.fc_noted.specs.Making.{HasItsDisks, KeepLanes}
use Rattle.fc_owner.specs.StoreRuns.{Start}
use Rattle.fc_recovered.proofs.Making.{says_can}
use Rattle.fc_recovered.specs.Readying.{HasWholeGrains}
use Rattle.fc_recovered.specs.Recovered.{CanRecover}
use Rattle.fc_recovery_text.specs.Recovering.{KeepDisks}
use Rattle.fc_stands.proofs.NewStore.{kinds_made}
use Rattle.fc_stands.specs.Store.{StandsFor, StoreView}
use Rattle.fc_store.specs.Stepping.{no_lane}
use Rattle.fc_stopped.specs.Ending.{all_disks, own_disks}
use Rattle.fc_stopped.specs.Lines.{HasLanes}

-- ---- lanes that keep their disks

same_sum : (f : Pool → ℕ) (old new : List LaneView) → EachLane HasItsDisks old new → sum_by (λ (v : LaneView). f v.grains.disks) new ≡ sum_by (λ (v : LaneView). f v.grains.disks) old
same_sum f [] [] each = refl
same_sum f [] (u ∷ us) each = absurd (omega (arith, each.count))
same_sum f (v ∷ vs) [] each = absurd (omega (arith, each.count))
same_sum f (v ∷ vs) (u ∷ us) each =
    let first : f u.grains.disks ≡ f v.grains.disks = ap f (each.each 0 v (omega arith)).1 in
    let rest = same_sum f vs us record { count = omega (arith, each.count); each = λ i d lt. each.each (ℕ.suc i) d (omega (arith, lt)) } in
    sum_by-cons (λ (x : LaneView). f x.grains.disks) u us
    ∙ ap₂ (λ a b. a + b) first rest
    ∙ sym (sum_by-cons (λ (x : LaneView). f x.grains.disks) v vs)

disks_kept : (old new : List LaneView) → EachLane HasItsDisks old new → disks_in new ≡ disks_in old
disks_kept old new each = λ k. record { flat = same_sum (λ (p : Pool). p.flat) old new each k; thin = same_sum (λ (p : Pool). p.thin) old new each k }

pub lanes_kept : (start : Start) (old new : StoreView) → KeepLanes old new → HasLanes start old.lanes → HasLanes start new.lanes
lanes_kept start old new keep has =
    record {
      count = keep.count ∙ has.count;
      grain = λ i d il.
          let lt : i < length old.lanes = omega (arith, keep.count, il) in
          (keep.each i d lt).0 ∙ has.grain i d lt;
      disks = disks_kept old.lanes new.lanes keep ∙ has.disks;
    }

-- ---- lanes that begin

pub lanes_begin : (disks : List DiskState) (s : StoreView) → StandsFor s (opened (pools_dealt LANES disks)) → Begin s.control.grain LANES (all_dealt LANES disks) s.lanes →
    HasLanes (record { grain = s.control.grain; disks = disks }) s.lanes
lanes_begin disks s stands begin =
    record {
      count =
          sym (length-map s.lanes (λ (v : LaneView). v.grains))
          ∙ ap (length {A = GrainsState}) begin.grains
          ∙ length-map (all_dealt LANES disks) (opened_grains s.control.grain)
          ∙ length-map-range_with_len (dealt LANES disks) 0 LANES;
      grain = λ i d il. (stands.each i d il).grain_is;
      disks = let some : 0 < 4 = omega arith in kinds_made s.control.grain LANES disks s.lanes begin some;
    }

-- ---- what lanes give back

kinds_back : (lanes : List LaneView) (ds : List (List NamedDisk)) → length ds ≡ length lanes →
    ((i : ℕ) (d : LaneView) → i < length lanes → pool_of (own_disks (disks_at ds i)) ≡ (get_or lanes i d).grains.disks) → pool_of (all_disks ds) ≡ disks_in lanes
kinds_back [] [] count each = refl
kinds_back [] (own ∷ rest) count each = absurd (omega (arith, count))
kinds_back (v ∷ vs) [] count each = absurd (omega (arith, count))
kinds_back (v ∷ vs) (own ∷ rest) count each =
    let first : pool_of (own_disks own) ≡ v.grains.disks = each 0 v (omega arith) in
    let others : pool_of (all_disks rest) ≡ disks_in vs = kinds_back vs rest (omega (arith, count)) (λ i d il. each (ℕ.suc i) d (omega (arith, il))) in
    λ k. record {
      flat = (flat-append (own_disks own) (all_disks rest)
          ∙ ap₂ (λ a b. a + b) (ap (λ (p : Pool). p.flat) first) (ap (λ (p : Pool). p.flat) others)
          ∙ sym (sum_by-cons (λ (x : LaneView). x.grains.disks.flat) v vs)) k;
      thin = (thin-append (own_disks own) (all_disks rest)
          ∙ ap₂ (λ a b. a + b) (ap (λ (p : Pool). p.thin) first) (ap (λ (p : Pool). p.thin) others)
          ∙ sym (sum_by-cons (λ (x : LaneView). x.grains.disks.thin) v vs)) k;
    }

-- As many of each kind come back, also where some were read meanwhile.
pub disks_back : (start : Start) (named : ℕ) (lanes : List LaneView) (ds last : List (List NamedDisk)) → HasLanes start lanes → HoldAllOf named lanes ds → KeepDisks ds last →
    pool_of (all_disks last) ≡ pool_of start.disks
disks_back start named lanes ds last has hold keep =
    kinds_back lanes last (keep.count ∙ hold.count) (λ i d il. keep.kinds i ∙ (hold.each i d il).kinds) ∙ has.disks

pub count_back : (start : Start) (named : ℕ) (lanes : List LaneView) (ds last : List (List NamedDisk)) → HasLanes start lanes → HoldAllOf named lanes ds → KeepDisks ds last →
    length (all_disks last) ≡ length start.disks
count_back start named lanes ds last has hold keep =
    sym (total-pool (all_disks last)) ∙ ap total_of (disks_back start named lanes ds last has hold keep) ∙ total-pool start.disks

pub count_in : (start : Start) (lanes : List LaneView) → HasLanes start lanes → total_of (disks_in lanes) ≡ length start.disks
count_in start lanes has = ap total_of has.disks ∙ total-pool start.disks

-- ---- what may be recovered may be read

whole_disks : (start : Start) (named : ℕ) (lanes : List LaneView) (ds : List (List NamedDisk)) → HasLanes start lanes → HoldAllOf named lanes ds → (i : ℕ) → i < length ds →
    All (HasWholeGrains start.grain) (disks_at ds i)
whole_disks start named lanes ds has hold i il =
    let lt : i < length lanes = omega (arith, hold.count, il) in
    subst (λ (g : GrainSize). All (HasWholeGrains g) (disks_at ds i)) (has.grain i no_lane lt)
    (whole_back named (get_or lanes i no_lane).grains (disks_at ds i) (hold.each i no_lane lt))

pub can_recover : (start : Start) (named : ℕ) (lanes : List LaneView) (image : MetaImage) (ds : List (List NamedDisk)) (w : Whole) (least : List Row) (asked : Option Request) (one : Option Another) →
    HasLanes start lanes → HoldAllOf named lanes ds → IsSoundImage image → Recoverable start.grain ds (kept_in image) w least asked one → CanRecover start.grain image ds
can_recover start named lanes image ds w least asked one has hold sound r =
    let four : length ds ≡ 4 = hold.count ∙ has.count in
    says_can start.grain image ds r.now r.least_now sound r.says (omega (arith, four)) (omega (arith, four)) (whole_disks start named lanes ds has hold)
