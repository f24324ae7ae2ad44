use Rattle.std.proofs.Common.{ap, ◌∙◌}
use Rattle.fc_base.specs.Grain.{grain_blocks}
use Rattle.fc_lane.proofs.WriteLane.{fits_here, lost_here, writable_here}
use Rattle.fc_lane.proofs.lane.Lane.write_online.Goals as goal

pub can_write-requires : goal.can_write-requires
can_write-requires g c = record { can = fits_here _ c.args.self.now c.args.part c.blocks-blocks.result c.self.view_is (record { can = c.requires.can; online = c.requires.online }) (c.blocks-blocks.ensures ∙ ap grain_blocks c.grain.ensures) }

pub returns-then-not-can_write : goal.returns-then-not-can_write
returns-then-not-can_write g c =
    lost_here _ c.args.self.now c.args.part c.blocks-blocks.result c.self.view_is (record { can = c.requires.can; online = c.requires.online }) (c.blocks-blocks.ensures ∙ ap grain_blocks c.grain.ensures)
    c.can_write.result c.can_write.ensures c.args.number c.args.actor c.untouched.result c.if-not-can_write.true c.untouched.ensures

pub write_grain-requires-clause-writable : goal.write_grain-requires-clause-writable
write_grain-requires-clause-writable g c =
    (writable_here _ c.args.self.now c.args.part c.blocks-blocks.result c.self.view_is (record { can = c.requires.can; online = c.requires.online }) (c.blocks-blocks.ensures ∙ ap grain_blocks c.grain.ensures) c.can_write.result c.can_write.ensures c.if-not-can_write.false c.requires.ready).writable
