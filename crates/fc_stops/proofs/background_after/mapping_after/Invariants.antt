-- The mapping after the changes so far.
use Rattle.std.proofs.Common.{◌≡◌, take, option_copied}
use Rattle.fc_stops.specs.Stops.{mapping_after}
use Rattle.fc_stops.proofs.background_after.mapping_after.Given as goal

abbrev pub invariant-loop-change : goal.invariant-loop-change
invariant-loop-change l = option_copied l.current ≡ mapping_after (take l.change-index l.changes) l.fn.mapping
