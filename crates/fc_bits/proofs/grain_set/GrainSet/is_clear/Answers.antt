use Rattle.fc_bits.proofs.Grains.{none_set}
use Rattle.fc_bits.proofs.grain_set.GrainSet.is_clear.Goals as goal

pub returns : goal.returns
returns c = none_set c.args.self.now c.next_set.result c.is_none.result c.next_set.ensures c.is_none.ensures
