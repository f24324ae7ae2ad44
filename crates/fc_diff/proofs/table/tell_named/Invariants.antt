use Rattle.std.proofs.Common.{take}
use Rattle.fc_diff.proofs.Telling.{IsTold}
use Rattle.fc_diff.proofs.table.tell_named.Given as goal

-- those named so far are told
abbrev pub invariant-loop-number : goal.invariant-loop-number
invariant-loop-number l = IsTold l.event l.initial.rows (take l.number-index l.named) l.rows
