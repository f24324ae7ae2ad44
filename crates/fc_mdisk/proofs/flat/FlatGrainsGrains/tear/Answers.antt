use Rattle.fc_mdisk.proofs.FlatState.{all_occupied}
use Rattle.fc_mdisk.proofs.flat.FlatGrainsGrains.tear.Goals as goal

pub returns-clause-reached : goal.returns-clause-reached
returns-clause-reached c = all_occupied c.args.self.now c.put.new.self c.args.grain _ c.put.ensures
