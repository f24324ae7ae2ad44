use Rattle.fc_format.specs.declared.half.Half.TheVariants.{First}
use Rattle.std.proofs.Common.{false}
use Rattle.fc_meta.proofs.Crash.{rests_found}
use Rattle.fc_meta.proofs.meta.Meta.open.Goals as goal

pub returns-in-Ok-clause-found : goal.returns-in-Ok-clause-found
returns-in-Ok-clause-found g c = rests_found First 1 c.in-Ok.used false c.args.image.now (g.M.MetaDisk.seen c.write_first.new.disk) c.in-Ok.ensures.rests
