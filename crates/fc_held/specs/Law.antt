-- What holds of the disks that lanes hold.
use Rattle.std.specs.Prelude.{ℕ, List}
use Rattle.std.specs.List.{AllZip}
use Rattle.fc_base.specs.declared.size.GrainSize.{GrainSize}
use Rattle.fc_kept.specs.Disks.{NamedDisk}
use Rattle.fc_kept.specs.Kept.{Kept}
use Rattle.fc_grains.specs.Grains.{GrainsState}
use Rattle.fc_lane.specs.Lane.{LaneView}
use Rattle.fc_rules.specs.LaneTold.{LaneOf}
use Rattle.law_agreeing.specs.Agreeing.{AllAgree}
use Rattle.law_crash.specs.Doing.{SameDisk}
use Rattle.fc_held.specs.Held.{AreOnce, GoesAlong, HoldAllOf, MatchAll, Matches, StayHeld}

pub record HeldLaw : Type 0 where
  -- disks that match what the lanes hold agree with whatever disks the lanes give back
  pub agree : (grain : GrainSize) (named : ℕ) (k : Kept) (lanes : List LaneView) (ds back : List (List NamedDisk)) → LaneView →
      MatchAll grain named k lanes ds → HoldAllOf named lanes back → AllAgree grain k ds back
  -- disks that keep names, kinds and sizes still match a lane, where both go along
  pub steps : (l : LaneOf) (named : ℕ) (k_old k_new : Kept) (old new : GrainsState) (ds_old ds_new : List NamedDisk) →
      AllZip SameDisk ds_old ds_new → StayHeld old new → AreOnce new.volumes → GoesAlong l k_old k_new old new ds_old ds_new →
      Matches l named k_old old ds_old → Matches l named k_new new ds_new
