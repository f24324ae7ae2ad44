-- A lane with two thin volumes.
use Rattle.std.specs.Prelude.{false, List, [], ◌∷◌}
use Rattle.fc_base.specs.declared.decision.LaneEvent.{LaneEvent}
use Rattle.fc_base.specs.declared.decision.LaneEvent.TheVariants.{Make, Trigger, Arm}
use Rattle.fc_base.specs.declared.disk.DiskKind.TheVariants.{Thin}
use Rattle.fc_base.specs.declared.request.Pair.{Pair}
use Rattle.fc_follow.specs.Following.{Followed}
use Rattle.fc_mdisk.specs.Disk.{DiskState}
use Rattle.lane_tests.specs.First.{told_after, told_begun}

-- Volumes 0 and 1 come, with two grains each.
abbrev pub thin : List LaneEvent
thin = Make record { 0 = 0 } 2 Thin ∷ Make record { 0 = 1 } 2 Thin ∷ []

abbrev pub told_thin : List DiskState → Followed
told_thin disks = told_after (told_begun disks) thin

-- Volume 1 becomes a copy of volume 0.
abbrev pub pair : Pair
pair = record { map = record { 0 = 0 }; source = record { 0 = 0 }; target = record { 0 = 1 }; incremental = false }

abbrev pub copied : List LaneEvent
copied = Trigger (pair ∷ []) ∷ []

-- The second call of volume 1's disk is to fail.
abbrev pub fails : List LaneEvent
fails = Arm record { 0 = 1 } record { 0 = 0 } 2 ∷ []
