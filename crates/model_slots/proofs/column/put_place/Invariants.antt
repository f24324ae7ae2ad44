use Rattle.std.proofs.Common.{◌≡◌, ◌++◌, ◌≤◌, ◌-◌, length, take, drop}
use Rattle.fc_base.specs.Column.{put_by_birth}
use Rattle.fc_base.specs.Sheet.{shape_of}
use Rattle.model_slots.proofs.column.put_place.Given as goal

-- the places so far stand before the new one
abbrev pub invariant-loop-index : goal.invariant-loop-index
invariant-loop-index l = record {
  within : l.index ≤ length l.places.items;
  before : put_by_birth (shape_of l.slots).birth l.place l.places.items ≡ take l.index l.places.items ++ put_by_birth (shape_of l.slots).birth l.place (drop l.index l.places.items);
}

abbrev pub decreases-loop-index : goal.decreases-loop-index
decreases-loop-index l = length l.places.items - l.index
