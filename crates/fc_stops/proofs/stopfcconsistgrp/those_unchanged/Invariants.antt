-- The ids so far.
use Rattle.std.proofs.Common.{◌≡◌, not, take, filter}
use Rattle.fc_base.specs.declared.ids.MapId.{MapId}
use Rattle.fc_stops.specs.Stops.{changes_some}
use Rattle.fc_stops.proofs.stopfcconsistgrp.those_unchanged.Given as goal

abbrev pub invariant-loop-id : goal.invariant-loop-id
invariant-loop-id l = l.left ≡ filter (λ (id : MapId). not (changes_some id.0 l.changes)) (take l.id-index l.ids)
