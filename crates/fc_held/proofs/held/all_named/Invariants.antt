-- The lanes that are done gave their disks back with names; those that are left have the volumes of the tables.
use Rattle.std.proofs.Common.{◌≡◌, ◌≤◌, ◌++◌, List, length}
use Rattle.std.specs.List.{All, AllZip}
use Rattle.fc_grains.specs.Grains.{total_of}
use Rattle.fc_lane.specs.Lane.{LaneView}
use Rattle.fc_held.specs.Held.{HasVolumes}
use Rattle.fc_held.proofs.Naming.{HoldsLane}
use Rattle.fc_held.proofs.held.all_named.Given as goal

abbrev pub invariant-loop-lane : goal.invariant-loop-lane
invariant-loop-lane g l = record {
  done : List LaneView;
  split : done ++ l.left.items ≡ l.initial.left.items;
  volumes : All (HasVolumes l.volumes) l.left.items;
  few : All (λ (v : LaneView). total_of v.grains.disks ≤ l.count) l.left.items;
  held : AllZip (HoldsLane l.named) done l.back.items;
}

abbrev pub decreases-loop-lane : goal.decreases-loop-lane
decreases-loop-lane g l = length l.left.items
