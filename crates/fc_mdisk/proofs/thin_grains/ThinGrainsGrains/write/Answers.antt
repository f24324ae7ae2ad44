use Rattle.std.proofs.Common.{arith}
use Rattle.fc_mdisk.proofs.Reached.{written_left, count_fits}
use Rattle.fc_mdisk.proofs.thin_grains.ThinGrainsGrains.write.Goals as goal

pub overflow_add-self : goal.overflow_add-self
overflow_add-self c =
    count_fits c.self.inside.width c.args.grain c.self.inside.grains.items _ _ c.self.view_is c.requires.in_range c.index_mut-place.ensures.value
    c.self.inside.used c.is_reached-first.result c.is_reached-first.ensures (omega arith) (omega arith)

pub returns-in-Ok-clause-ok : goal.returns-in-Ok-clause-ok
returns-in-Ok-clause-ok c =
    written_left c.self.inside.width c.args.grain c.self.inside.grains.items _ _ c.self.view_is c.requires.in_range c.index_mut-place.ensures.value
    c.write.new.self c.args.bytes.now (c.in-Ok.ensures.bytes c.self.inside.width) c.in-Ok.ensures.reached
