use Rattle.std.proofs.Common.{◌≡◌, ◌+◌, ◌≤◌, ◌++◌, List, length, vec_len, vec_capacity}
use Rattle.fc_lane.specs.Lane.{LaneView}
use Rattle.fc_store.specs.StoreParts.{lane_parts}
use Rattle.fc_store.proofs.store_part.take_lanes.Given as goal

abbrev pub invariant-loop-part : goal.invariant-loop-part
invariant-loop-part g l = record {
  rest : List LaneView;
  are_lanes : l.parts.items ≡ lane_parts rest;
  kept : lane_parts l.lanes.items ++ l.parts.items ≡ lane_parts l.fn.lanes.items ++ l.fn.parts.items;
  room : vec_len l.lanes + length l.parts.items ≤ vec_capacity l.lanes;
}

abbrev pub decreases-loop-part : goal.decreases-loop-part
decreases-loop-part g l = length l.parts.items
