-- The disks that a store gives back, lane by lane and without names.
use Rattle.std.proofs.Common.{◌≡◌, ℕ, ◌<◌, List, [], ◌∷◌, ◌++◌, length, get_or, map, None, refl, sym, ap, ap₂, subst, ◌∙◌, arith}
use Rattle.fc_grains.specs.Grains.{AreAllOf}
use Rattle.fc_kept.specs.Disks.{NamedDisk}
use Rattle.fc_kept.specs.Recoverable.{disks_at}
use Rattle.fc_lane.specs.Lane.{LaneView}
use Rattle.fc_lanes.specs.Dealing.{AreByLane}
use Rattle.fc_mdisk.specs.Disk.{DiskState}
use Rattle.fc_stopped.specs.Ending.{all_disks, own_disks}

abbrev unnamed : List DiskState → List NamedDisk
unnamed disks = map (λ (d : DiskState). record { volume = None; disk = d }) disks

own_unnamed : (disks : List DiskState) → own_disks (unnamed disks) ≡ disks
own_unnamed [] = refl
own_unnamed (d ∷ ds) = ap (λ (rest : List DiskState). d ∷ rest) (own_unnamed ds)

pub record LieApart (lanes : List LaneView) (disks : List DiskState) : Type 0 where
  pub back : List (List NamedDisk)
  pub count : length back ≡ length lanes
  pub are : all_disks back ≡ disks
  pub each : (i : ℕ) (d : LaneView) → i < length lanes → AreAllOf (get_or lanes i d).grains (own_disks (disks_at back i))

pub lie_apart : (lanes : List LaneView) (disks : List DiskState) → AreByLane lanes disks → LieApart lanes disks
lie_apart [] disks none = record { back = []; count = refl; are = sym none; each = λ i d il. absurd (omega (arith, il)) }
lie_apart (v ∷ vs) disks by =
    let rest : LieApart vs by.1 = lie_apart vs by.1 by.4 in
    record {
      back = unnamed by.0 ∷ rest.back;
      count = omega (arith, rest.count);
      are = ap₂ (λ (own others : List DiskState). own ++ others) (own_unnamed by.0) rest.are ∙ sym by.2;
      each = each v vs by.0 rest.back by.3 rest.each;
    }
  where
    each : (v : LaneView) (vs : List LaneView) (own : List DiskState) (back : List (List NamedDisk)) → AreAllOf v.grains own →
        ((i : ℕ) (d : LaneView) → i < length vs → AreAllOf (get_or vs i d).grains (own_disks (disks_at back i))) →
        (i : ℕ) (d : LaneView) → i < length (v ∷ vs) → AreAllOf (get_or (v ∷ vs) i d).grains (own_disks (disks_at (unnamed own ∷ back) i))
    each v vs own back first others ℕ.zero d il = subst (AreAllOf v.grains) (sym (own_unnamed own)) first
    each v vs own back first others (ℕ.suc i) d il = others i d (omega (arith, il))
