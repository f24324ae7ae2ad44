use Rattle.std.proofs.Common.{◌≡◌, take}
use Rattle.fc_legal.specs.Scripts.{faults_asked}
use Rattle.fc_check_lines.proofs.lines.tell_faults.Given as goal

-- the faults before this one are told
abbrev pub invariant-loop-fault : goal.invariant-loop-fault
invariant-loop-fault l = l.requests ≡ faults_asked (take l.fault-index l.faults)
