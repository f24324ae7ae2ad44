use Rattle.fc_mdisk.proofs.Reached.{unwritten_state}
use Rattle.fc_mdisk.proofs.thin_grains.ThinGrainsGrains.format.Goals as goal

pub returns-in-Ok-clause-ok : goal.returns-in-Ok-clause-ok
returns-in-Ok-clause-ok c = rw c.in-Ok.ensures (unwritten_state c.args.width c.args.count)
