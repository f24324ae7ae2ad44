use Rattle.std.proofs.Common.{rules, ◌≤◌, List, length, [], OnOk, sym, subst}
use Rattle.fc_base.specs.declared.decision.LaneEvent.{LaneEvent}
use Rattle.fc_chain.specs.Room.{HasRoomFor}
use Rattle.fc_grains.specs.Calls.{HasReadied}
use Rattle.fc_apply.specs.Parts.{AreKnown, HasDisks, new_volumes}
use Rattle.fc_steps.specs.Standing.{lane_of}
use Rattle.fc_apply.proofs.Readying.{disks_there, is_ready}
use Rattle.fc_apply.proofs.parts.reserve_events.Goals as goal

pub reserve_volumes-requires-clause-disks : goal.reserve_volumes-requires-clause-disks
reserve_volumes-requires-clause-disks g c =
    subst (λ (z : List LaneEvent). HasDisks (lane_of c.args.lane c.args.lanes c.args.grains.now.grain) c.args.grains.now.pool [] z) (sym c.as_slice-2.ensures)
    (disks_there (lane_of c.args.lane c.args.lanes c.args.grains.now.grain) c.args.cascade.now c.args.grains.now c.args.accesses.now c.args.work.now c.args.events.now c.requires.fit)

pub returns-clause-ok : goal.returns-clause-ok
returns-clause-ok g c =
    let room : HasRoomFor c.reserve.new.self c.args.events.now = search rules in
    let rows : length c.args.events.now ≤ c.reserve-2.new.self.room = search rules in
    let tracked : AreKnown c.track_all.new.work.known c.as_slice.result.now = search rules in
    let known : AreKnown c.track_all.new.work.known c.args.events.now = subst (λ (z : List LaneEvent). AreKnown c.track_all.new.work.known z) c.as_slice.ensures tracked in
    is_ready c.args.lane c.args.lanes c.reserve.new.self c.args.grains.now c.reserve_volumes.new.grains c.reserve-2.new.self c.track_all.new.work c.args.events.now c.reserve_volumes.result room
    (subst (λ (z : List LaneEvent). OnOk c.reserve_volumes.result (HasReadied c.args.grains.now (new_volumes (lane_of c.args.lane c.args.lanes c.args.grains.now.grain) z) c.reserve_volumes.new.grains)) c.as_slice-2.ensures c.reserve_volumes.ensures.ok)
    rows known c.requires.works
