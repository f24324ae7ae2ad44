use Rattle.fc_loops.proofs.LoopVolumes.{not_listed}
use Rattle.fc_loops.proofs.links.node_of.Goals as goal

pub returns-in-Err : goal.returns-in-Err
returns-in-Err c = not_listed c.args.volumes.now c.args.volume c.binary_search.result c.in-Err.field-0 c.requires c.binary_search.ensures.position c.in-Err.is
