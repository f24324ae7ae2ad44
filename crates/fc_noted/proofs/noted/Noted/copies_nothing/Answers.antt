-- The holder of the move's slot, by the chains of the lane.
use Rattle.fc_noted.proofs.Copying.{by_holder, by_none, grain_of_lane, holder_there, slot_there}
use Rattle.fc_noted.proofs.noted.Noted.copies_nothing.Goals as goal

pub holder-requires-clause-there : goal.holder-requires-clause-there
holder-requires-clause-there g c =
    slot_there g.M.MetaDisk.seen g.M.MetaDisk.may_leave c.args.self.now c.args.way.now c.requires.at c.requires.due c.args.mv.now c.requires.next c.all_lanes.result.now c.index-all_lanes-way.result c.all_lanes.ensures c.index-all_lanes-way.is
    c.cascade.result.now c.cascade.ensures

pub holder-requires-clause-of_lane : goal.holder-requires-clause-of_lane
holder-requires-clause-of_lane g c =
    grain_of_lane g.M.MetaDisk.seen g.M.MetaDisk.may_leave c.args.self.now c.args.way.now c.requires.at c.requires.due c.args.mv.now c.requires.next c.all_lanes.result.now c.index-all_lanes-way.result c.all_lanes.ensures c.index-all_lanes-way.is
    c.cascade.result.now c.cascade.ensures

pub volume-requires : goal.volume-requires
volume-requires g c =
    holder_there g.M.MetaDisk.seen g.M.MetaDisk.may_leave c.args.self.now c.args.way.now c.requires.at c.requires.due c.args.mv.now c.requires.next c.all_lanes.result.now c.index-all_lanes-way.result c.all_lanes.ensures c.index-all_lanes-way.is
    c.cascade.result.now c.cascade.ensures c.holder.result c.holder.ensures c.in-Some.source c.cascade-in-Some.result.now c.cascade-in-Some.ensures c.in-Some.is

pub returns-in-Some : goal.returns-in-Some
returns-in-Some g c =
    by_holder g.M.MetaDisk.seen g.M.MetaDisk.may_leave c.args.self.now c.args.way.now c.requires.at c.requires.due c.args.mv.now c.requires.next c.all_lanes.result.now c.index-all_lanes-way.result c.all_lanes.ensures c.index-all_lanes-way.is
    c.cascade.result.now c.cascade.ensures c.holder.result c.holder.ensures c.in-Some.source c.cascade-in-Some.result.now c.volume.result c.is_unreadable.result c.cascade-in-Some.ensures c.in-Some.is c.volume.ensures c.is_unreadable.ensures
    c.if-mv.false

pub returns-in-None : goal.returns-in-None
returns-in-None g c =
    by_none g.M.MetaDisk.seen g.M.MetaDisk.may_leave c.args.self.now c.args.way.now c.requires.at c.requires.due c.args.mv.now c.requires.next c.all_lanes.result.now c.index-all_lanes-way.result c.all_lanes.ensures c.index-all_lanes-way.is
    c.cascade.result.now c.cascade.ensures c.holder.result c.holder.ensures c.in-None.is c.if-mv.false
