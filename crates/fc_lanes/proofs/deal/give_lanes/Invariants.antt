use Rattle.std.proofs.Common.{◌≡◌, ◌+◌, ◌≤◌, ◌++◌, List, length, map, vec_len, vec_capacity}
use Rattle.fc_grains.specs.Grains.{total_of}
use Rattle.fc_lane.specs.Lane.{LaneView}
use Rattle.fc_lanes.specs.Dealing.{AreAllIn, AreByLane, disks_in}
use Rattle.fc_lanes.proofs.deal.give_lanes.Given as goal

abbrev pub invariant-loop-lane : goal.invariant-loop-lane
invariant-loop-lane g l = record {
  done : List LaneView;
  given : List g.row.D.Denot;
  split : done ++ l.lanes.items ≡ l.fn.lanes.items;
  items : l.into.items ≡ l.fn.into.items ++ given;
  all : AreAllIn done (map g.D.Mdisk.meaning given);
  by_lane : AreByLane done (map g.D.Mdisk.meaning given);
  room : vec_len l.into + total_of (disks_in l.lanes.items) ≤ vec_capacity l.into;
}

abbrev pub decreases-loop-lane : goal.decreases-loop-lane
decreases-loop-lane g l = length l.lanes.items
