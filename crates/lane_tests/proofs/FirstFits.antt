-- The first volume fits a lane that begins, and its blocks can be read.
use Rattle.std.proofs.Common.{◌≡◌, ℕ, ◌<◌, Option, Some, IsSome, List, refl, sym, ap, subst, arith}
use Rattle.std.proofs.lemmas.List.Elements.{All-nil}
use Rattle.fc_base.specs.Column.{first_below}
use Rattle.fc_base.specs.Sheet.{live_place, grains_at, volume_grains}
use Rattle.fc_grains.specs.Grains.{pool_of}
use Rattle.fc_lane.specs.Lane.{LaneView, IsFollowing, of}
use Rattle.fc_mdisk.specs.Disk.{DiskState}
use Rattle.fc_follow.specs.Following.{FitsFollowed, Followed}
use Rattle.fc_rules.specs.LaneFits.{FitsPart}
use Rattle.fc_rules.specs.LaneTold.{LaneOf, LaneVolume}
use Rattle.lane_tests.specs.First.{first, the_lane, told_begun, told_first}

pub first_fits : (disks : List DiskState) → 0 < (pool_of disks).flat → FitsFollowed the_lane (told_begun disks) first
first_fits disks flat = ((λ k kl. absurd (omega arith)), (flat, All-nil (λ (v : LaneVolume). v.volume.0 < 0)), tt, omega arith)

place : (disks : List DiskState) → live_place (told_first disks).told.sheet.slots 0 ≡ Some 0
unfolding live_place first_below
place disks = refl

part_fits : (disks : List DiskState) → FitsPart the_lane (told_first disks).told record { 0 = 0 } 130 2
part_fits disks =
    let grains : volume_grains (told_first disks).told.sheet.slots 0 ≡ 2 = ap (grains_at (told_first disks).told.sheet.slots) (place disks) in
    record {
      some = omega arith;
      in_one = omega arith;
      of_lane = refl;
      there = subst (λ (o : Option ℕ). IsSome o) (sym (place disks)) cc;
      inside = omega (arith, grains);
    }

pub reads_now : (v : LaneView) (disks : List DiskState) → of v ≡ the_lane → IsFollowing v (told_first disks) → (f : Followed) × IsFollowing v f × FitsPart (of v) f.told record { 0 = 0 } 130 2
reads_now v disks is i = (told_first disks, i, subst (λ (l : LaneOf). FitsPart l (told_first disks).told record { 0 = 0 } 130 2) (sym is) (part_fits disks))
