use Rattle.std.proofs.Common.{◌-◌, length}
use Rattle.fc_plain.proofs.change.+write_from.Given as goal

abbrev pub decreases-write_from : goal.decreases-write_from
decreases-write_from l = length l.volumes.now - l.index
