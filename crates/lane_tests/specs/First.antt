-- A lane with one volume.
use Rattle.std.specs.Prelude.{List, [], ◌∷◌, fold}
use Rattle.fc_base.specs.declared.decision.LaneEvent.{LaneEvent}
use Rattle.fc_base.specs.declared.decision.LaneEvent.TheVariants.{Make}
use Rattle.fc_base.specs.declared.disk.DiskKind.TheVariants.{Flat}
use Rattle.fc_base.specs.declared.size.GrainSize.TheVariants.{K64}
use Rattle.fc_follow.specs.Following.{Followed, followed_event}
use Rattle.fc_grains.specs.Grains.{opened}
use Rattle.fc_lane.specs.Lane.{begun}
use Rattle.fc_steps.specs.Standing.{lane_of}
use Rattle.fc_mdisk.specs.Disk.{DiskState}
use Rattle.fc_rules.specs.LaneTold.{LaneOf}

abbrev pub the_lane : LaneOf
the_lane = lane_of 0 1 K64

-- Volume 0 comes, with two grains.
abbrev pub first : List LaneEvent
first = Make record { 0 = 0 } 2 Flat ∷ []

abbrev pub told_begun : List DiskState → Followed
told_begun disks = record { told = begun (opened K64 disks); rows = []; rooms = [] }

-- After events.
abbrev pub told_after : Followed → List LaneEvent → Followed
told_after f events = fold (followed_event the_lane) f events

abbrev pub told_first : List DiskState → Followed
told_first disks = told_after (told_begun disks) first
