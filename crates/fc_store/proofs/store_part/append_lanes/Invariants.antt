use Rattle.std.proofs.Common.{◌≡◌, ◌+◌, ◌≤◌, ◌++◌, length, vec_len, vec_capacity}
use Rattle.std.specs.Vec.Iter.{drain_items}
use Rattle.fc_store.specs.StoreParts.{lane_parts}
use Rattle.fc_store.proofs.store_part.append_lanes.Given as goal

abbrev pub invariant-loop-lane : goal.invariant-loop-lane
invariant-loop-lane g l = (goal.iterator-loop-lane g).can_next l.lane-iterator
    × (goal.iterator-loop-lane g).is_finite l.lane-iterator
    × (l.parts.items ++ lane_parts (drain_items l.lane-iterator) ≡ l.fn.parts.items ++ lane_parts (drain_items l.initial.lane-iterator))
    × (vec_len l.parts + length (drain_items l.lane-iterator) ≤ vec_capacity l.parts)
