use Rattle.std.proofs.Common.{drop}
use Rattle.fc_apply.proofs.Noting.{LeavesRest}
use Rattle.fc_apply.proofs.chains.note_leavings.Given as goal

-- it is noted that the mappings before this one leave
abbrev pub invariant-loop-map : goal.invariant-loop-map
invariant-loop-map l = LeavesRest l.cascade.sheet.slots l.initial.changes l.maps l.changes (drop l.map-index l.maps)
