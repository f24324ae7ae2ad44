-- The ids so far.
use Rattle.std.proofs.Common.{◌≡◌, take}
use Rattle.fc_stops.proofs.stop_effects.copy_ids.Given as goal

abbrev pub invariant-loop-id : goal.invariant-loop-id
invariant-loop-id l = l.copy ≡ take l.id-index l.ids
