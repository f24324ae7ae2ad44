use Rattle.fc_bits.proofs.Grains.{none_clear}
use Rattle.fc_bits.proofs.grain_set.GrainSet.is_full.Goals as goal

pub returns : goal.returns
returns c = none_clear c.args.self.now c.next_clear.result c.is_none.result c.next_clear.ensures c.is_none.ensures
