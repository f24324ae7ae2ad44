use Rattle.std.proofs.Common.{◌/◌, refl, ap, ◌∙◌}
use Rattle.fc_base.specs.Grain.{grain_blocks}
use Rattle.fc_base.specs.declared.request.Reply.TheVariants.{MediumError}
use Rattle.fc_lane.proofs.InSteps.{answered_at_once, write_begins}
use Rattle.fc_lane.proofs.WriteLane.{fits_here, lost_here, plan_some, writable_here, write_plannable, write_room}
use Rattle.fc_lane.proofs.lane.Lane.begin_online.Goals as goal
use Rattle.fc_steps.specs.declared.ask.Ask.TheVariants.{Write}

pub can_write-requires : goal.can_write-requires
can_write-requires g c = record { can = fits_here _ c.args.self.now c.args.part c.blocks-blocks.result c.self.view_is (record { can = c.requires.can; online = c.requires.online }) (c.blocks-blocks.ensures ∙ ap grain_blocks c.grain.ensures) }

pub returns-then-not-can_write : goal.returns-then-not-can_write
returns-then-not-can_write g c =
    answered_at_once c.args.self.now (Write c.args.part) c.args.number c.args.actor MediumError c.untouched.result
    (lost_here _ c.args.self.now c.args.part c.blocks-blocks.result c.self.view_is (record { can = c.requires.can; online = c.requires.online }) (c.blocks-blocks.ensures ∙ ap grain_blocks c.grain.ensures)
    c.can_write.result c.can_write.ensures c.args.number c.args.actor c.untouched.result c.if-not-can_write.true c.untouched.ensures) refl c.untouched.ensures

pub begin_steps-requires-clause-fit : goal.begin_steps-requires-clause-fit
begin_steps-requires-clause-fit g c =
    write_plannable _ _ _ _ (writable_here _ c.args.self.now c.args.part c.blocks-blocks.result c.self.view_is (record { can = c.requires.can; online = c.requires.online }) (c.blocks-blocks.ensures ∙ ap grain_blocks c.grain.ensures) c.can_write.result c.can_write.ensures c.if-not-can_write.false c.requires.ready)

pub begin_steps-requires-clause-some : goal.begin_steps-requires-clause-some
begin_steps-requires-clause-some g c =
    plan_some _ _ _ _ (writable_here _ c.args.self.now c.args.part c.blocks-blocks.result c.self.view_is (record { can = c.requires.can; online = c.requires.online }) (c.blocks-blocks.ensures ∙ ap grain_blocks c.grain.ensures) c.can_write.result c.can_write.ensures c.if-not-can_write.false c.requires.ready) _ refl

pub begin_steps-requires-clause-room : goal.begin_steps-requires-clause-room
begin_steps-requires-clause-room g c =
    (write_room _ _ _ _ (writable_here _ c.args.self.now c.args.part c.blocks-blocks.result c.self.view_is (record { can = c.requires.can; online = c.requires.online }) (c.blocks-blocks.ensures ∙ ap grain_blocks c.grain.ensures) c.can_write.result c.can_write.ensures c.if-not-can_write.false c.requires.ready) _ refl).entered

pub returns : goal.returns
returns g c =
    write_begins c.args.self.now c.begin_steps.new.self c.args.part (record { 0 = c.args.part.block / c.blocks-blocks.result }) c.args.number c.args.actor c.begin_steps.result
    (writable_here _ c.args.self.now c.args.part c.blocks-blocks.result c.self.view_is (record { can = c.requires.can; online = c.requires.online }) (c.blocks-blocks.ensures ∙ ap grain_blocks c.grain.ensures) c.can_write.result c.can_write.ensures c.if-not-can_write.false c.requires.ready)
    c.requires.number (c.begin_steps.ensures.doing, c.begin_steps.ensures.same)
