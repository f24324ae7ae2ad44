use Rattle.std.proofs.Common.{[], ◌∷◌, refl}
use Rattle.fc_format.proofs.Puts.{gated_put}
use Rattle.fc_format.proofs.write.put_gated.Goals as goal

pub returns : goal.returns
returns c = gated_put c.args.out.now.items c.args.written.now (0 ∷ []) c.in_ok-put_count.ensures refl c.in_ok-put_bytes.ensures c.in_ok-put_bytes-2.ensures
