use Rattle.std.proofs.Common.{◌≡◌, take}
use Rattle.std.specs.List.{filter}
use Rattle.fc_base.specs.Sheet.{column}
use Rattle.model_slots.proofs.column.holders_among.Given as goal

-- those so far that hold the grain
abbrev pub invariant-loop-place : goal.invariant-loop-place
invariant-loop-place l = l.places.items ≡ filter (column l.slots l.grain).held (take l.place-index l.old)
