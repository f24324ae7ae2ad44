use Rattle.std.proofs.Common.{◌≡◌, ◌+◌, ◌≤◌, ◌++◌, List, length, vec_len, vec_capacity}
use Rattle.fc_lane.specs.Lane.{LaneView}
use Rattle.fc_store.specs.StoreParts.{lane_parts}
use Rattle.fc_actors.proofs.whole.gather.Given as goal

abbrev pub invariant-loop-parts : goal.invariant-loop-parts
invariant-loop-parts g l = record {
  left : List LaneView;
  are_lanes : l.parts.items ≡ lane_parts left;
  kept : lane_parts l.lanes.items ++ l.parts.items ≡ l.initial.parts.items;
  room : vec_len l.lanes + length l.parts.items ≤ vec_capacity l.lanes;
  parts_room : vec_capacity l.parts ≡ vec_capacity l.fn.parts;
  lanes_room : vec_capacity l.lanes ≡ vec_capacity l.fn.lanes;
}

abbrev pub decreases-loop-parts : goal.decreases-loop-parts
decreases-loop-parts g l = length l.parts.items
