use Rattle.std.proofs.Common.{◌≡◌, take}
use Rattle.fc_apply.specs.Events.{new_rows}
use Rattle.fc_apply.proofs.chains.ready_pairs.Given as goal

-- the rows of the pairs before this one stand ready
abbrev pub invariant-loop-pair : goal.invariant-loop-pair
invariant-loop-pair l = l.changes ≡ record l.initial.changes { ready = new_rows l.cascade.sheet.slots l.initial.changes.rows (take l.pair-index l.pairs) }
