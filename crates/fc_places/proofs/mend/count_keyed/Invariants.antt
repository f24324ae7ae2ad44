use Rattle.std.proofs.Common.{◌≡◌, ◌≤◌}
use Rattle.fc_base.specs.Counts.{count_below}
use Rattle.fc_places.specs.Indexing.{has_key}
use Rattle.fc_places.proofs.mend.count_keyed.Given as goal

-- the slots so far are counted
abbrev pub invariant-loop-slot : goal.invariant-loop-slot
invariant-loop-slot l = record {
  counted : l.count ≡ count_below (has_key l.slots l.by) l.slot-index;
  few : l.count ≤ l.slot-index;
}
