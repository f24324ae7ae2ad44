use Rattle.fc_recovered.proofs.Making.{ReadySoFar}
use Rattle.fc_recovered.proofs.recovered.ready_all.Given as goal

-- the lanes so far are ready
abbrev pub invariant-loop-lane : goal.invariant-loop-lane
invariant-loop-lane g l = ReadySoFar l.grain l.volumes l.initial.disks.items l.disks.items l.lane
