use Rattle.std.proofs.Common.{◌≡◌}
use Rattle.fc_base.specs.Column.{places_by_birth, is_old_of}
use Rattle.fc_base.specs.Sheet.{shape_of}
use Rattle.model_slots.proofs.column.old_places.Given as goal

-- the old slots so far
abbrev pub invariant-loop-place : goal.invariant-loop-place
invariant-loop-place l = l.places.items ≡ places_by_birth (shape_of l.slots).birth (is_old_of (shape_of l.slots) l.volume) l.place
