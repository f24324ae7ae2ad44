use Rattle.fc_stands.proofs.AskedSheet.{AreRead}
use Rattle.fc_store.proofs.chains.count_all_grains.Given as goal

abbrev pub invariant-loop-volume : goal.invariant-loop-volume
invariant-loop-volume l = AreRead l.volumes l.volume-index
