use Rattle.std.proofs.lemmas.Result.{IfOk-weaker}
use Rattle.fc_check_picture.proofs.Writes.{zero_blocks}
use Rattle.fc_check_picture.proofs.grain.Grain.zeros.Goals as goal

pub returns : goal.returns
returns g c = IfOk-weaker c.filled.result _ _ (λ k e. zero_blocks c.args.size _ _ k c.blocks-2.ensures c.zero.ensures e) c.filled.ensures
