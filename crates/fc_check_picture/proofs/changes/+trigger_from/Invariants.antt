use Rattle.std.proofs.Common.{◌-◌, length}
use Rattle.fc_check_picture.proofs.changes.+trigger_from.Given as goal

abbrev pub decreases-trigger_from : goal.decreases-trigger_from
decreases-trigger_from g l = length l.volumes.now - l.index
