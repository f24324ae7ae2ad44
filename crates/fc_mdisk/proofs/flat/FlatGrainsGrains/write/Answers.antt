use Rattle.fc_mdisk.proofs.FlatState.{written_state}
use Rattle.fc_mdisk.proofs.flat.FlatGrainsGrains.write.Goals as goal

pub returns-clause-ok : goal.returns-clause-ok
returns-clause-ok c = written_state c.args.self.now c.put.new.self c.args.grain c.args.bytes.now c.put.ensures c.requires.whole
