use Rattle.std.proofs.Common.{◌∙◌, ◌/◌, refl, ap}
use Rattle.fc_base.specs.Grain.{grain_blocks}
use Rattle.fc_steps.specs.declared.read.GrainRead.TheVariants.{Done, IsLost, Failed}
use Rattle.fc_lane.proofs.Reading.{can_read_now, ends_as, place_is}
use Rattle.fc_lane.proofs.ReadAnswers.{answered_lost, answered_failed, answered_no_memory, answered_bytes}
use Rattle.fc_lane.proofs.lane.Lane.read_online.Goals as goal

pub read_shown-requires : goal.read_shown-requires
read_shown-requires g c = record {
  can =
      can_read_now _ c.args.self.now c.args.part (c.args.part.block / c.blocks-blocks.result) c.self.view_is c.requires.can
      (ap (λ z. c.args.part.block / z) (c.blocks-blocks.ensures ∙ ap grain_blocks c.grain.ensures));
}

pub returns-in-IsLost-clause-entered : goal.returns-in-IsLost-clause-entered
returns-in-IsLost-clause-entered g c =
    let at = place_is c.self.inside.body.grains.grain c.grain.result c.args.part.block c.blocks-blocks.result c.self.inside.lanes c.blocks-blocks.ensures c.grain.ensures in
    let ends = ends_as _ _ _ _ c.read_shown.result IsLost _ c.in-IsLost.is c.read_shown.ensures.ends in
    answered_lost _ c.args.self.now _ c.args.number c.args.actor c.args.part c.self.view_is (record { lane = refl; lanes = refl; chains = c.read_shown.ensures.chains; accesses = refl; work = refl; changes = refl; plan_room = refl })
    c.requires.online _ at c.faults-before.result c.answered.result c.faults-before.ensures ends c.answered.ensures

pub returns-in-Failed-clause-entered : goal.returns-in-Failed-clause-entered
returns-in-Failed-clause-entered g c =
    let at = place_is c.self.inside.body.grains.grain c.grain.result c.args.part.block c.blocks-blocks.result c.self.inside.lanes c.blocks-blocks.ensures c.grain.ensures in
    let ends = ends_as _ _ _ _ c.read_shown.result Failed _ c.in-Failed.is c.read_shown.ensures.ends in
    answered_failed _ c.args.self.now _ c.args.number c.args.actor c.args.part c.self.view_is (record { lane = refl; lanes = refl; chains = c.read_shown.ensures.chains; accesses = refl; work = refl; changes = refl; plan_room = refl })
    c.requires.online _ at c.faults-before.result c.answered-in-Failed.result c.faults-before.ensures ends c.answered-in-Failed.ensures

pub returns-in-Ok-clause-entered : goal.returns-in-Ok-clause-entered
returns-in-Ok-clause-entered g c =
    let at = place_is c.self.inside.body.grains.grain c.grain.result c.args.part.block c.blocks-blocks.result c.self.inside.lanes c.blocks-blocks.ensures c.grain.ensures in
    let ends = ends_as _ _ _ _ c.read_shown.result Done _ c.in-Done.is c.read_shown.ensures.ends in
    answered_bytes _ c.args.self.now _ c.args.number c.args.actor c.args.part c.self.view_is (record { lane = refl; lanes = refl; chains = c.read_shown.ensures.chains; accesses = refl; work = refl; changes = refl; plan_room = refl })
    c.requires.online _ at c.faults-before.result c.answered-in-Ok.result c.faults-before.ensures ends c.in-Ok.runs c.in-Ok.ensures.canonical c.in-Ok.ensures.expands c.answered-in-Ok.ensures

pub returns-in-Err-clause-entered : goal.returns-in-Err-clause-entered
returns-in-Err-clause-entered g c =
    let at = place_is c.self.inside.body.grains.grain c.grain.result c.args.part.block c.blocks-blocks.result c.self.inside.lanes c.blocks-blocks.ensures c.grain.ensures in
    let ends = ends_as _ _ _ _ c.read_shown.result Done _ c.in-Done.is c.read_shown.ensures.ends in
    answered_no_memory _ c.args.self.now _ c.args.number c.args.actor c.args.part c.self.view_is (record { lane = refl; lanes = refl; chains = c.read_shown.ensures.chains; accesses = refl; work = refl; changes = refl; plan_room = refl })
    c.requires.online _ at c.faults-before.result c.answered-in-Err.result c.faults-before.ensures ends c.answered-in-Err.ensures
