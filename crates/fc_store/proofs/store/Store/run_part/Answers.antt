-- The access fits the lane of its grain, and its entry is right.
use Rattle.std.proofs.Common.{length, slice_set, ap, arith}
use Rattle.fc_lanes.specs.Asking.{part_of}
use Rattle.fc_stands.specs.Logged.{anything}
use Rattle.fc_stands.specs.Quiet.{QuietBy}
use Rattle.fc_stands.specs.Store.{StandsFor, StoreView}
use Rattle.fc_stands.proofs.Quieting.{quiet_logged}
use Rattle.fc_store.proofs.InLane.{at_hand, disks_each, disks_left, each_left, goes_by, part_can, part_here, part_logged, still_quiet}
use Rattle.fc_store.proofs.ReadyLane.{not_logged, stays_up}
use Rattle.fc_store.proofs.store.Store.run_part.Goals as goal

pub returns-in-Err-clause-answered : goal.returns-in-Err-clause-answered
returns-in-Err-clause-answered g c = λ w told.
    not_logged (Unit {0}) c.in-Err.stop anything (StandsFor c.ready_lane.new.self) c.args.self.now.control.grain w
    (part_of c.args.self.now.control.grain c.args.access c.args.volume c.args.block c.args.count c.args.grain) c.args.history.now
    c.in-Err.ensures.stopped c.requires.room (c.ready_lane.ensures.kept.stands w told.0, told.1)

pub returns-in-Err-clause-each : goal.returns-in-Err-clause-each
returns-in-Err-clause-each g c = disks_each c.args.self.now.lanes c.ready_lane.new.self.lanes c.ready_lane.ensures.kept.grains

pub returns-in-Err-clause-quiet : goal.returns-in-Err-clause-quiet
returns-in-Err-clause-quiet g c = λ quiet.
    stays_up (Unit {0}) c.in-Err.stop (QuietBy c.args.history.now.entries c.ready_lane.new.self) (c.ready_lane.ensures.kept.quiet c.args.history.now.entries quiet)

pub index_mut-lane-requires : goal.index_mut-lane-requires
index_mut-lane-requires g c = omega (arith, c.in-Ok.ensures.ready.inside, ap (λ (s : StoreView). length s.lanes) c.self.view_is, c.self.inside.lanes.ok.0)

pub access_lane-entry-requires-clause-can : goal.access_lane-entry-requires-clause-can
access_lane-entry-requires-clause-can g c =
    let here = at_hand c.ready_lane.ensures.kept c.in-Ok.ensures.ready c.self.view_is c.index_mut-lane.ensures.value in
    let part = part_here c.args.self.now.control _ c.args.volume c.grain.result c.args.block c.args.count c.args.grain c.blocks_in-first.result.0 c.blocks_in-first.result.1 here.control
    c.grain.ensures c.requires.there c.requires.some c.requires.begins c.requires.ends c.blocks_in-first.ensures.first c.blocks_in-first.ensures.count in
    part_can here c.requires.stands.0 c.requires.stands.1.0 c.args.volume c.blocks_in-first.result.0 c.blocks_in-first.result.1 part

pub access_lane-entry-requires-clause-ready : goal.access_lane-entry-requires-clause-ready
access_lane-entry-requires-clause-ready g c = (at_hand c.ready_lane.ensures.kept c.in-Ok.ensures.ready c.self.view_is c.index_mut-lane.ensures.value).ready

pub returns-clause-answered : goal.returns-clause-answered
returns-clause-answered g c = λ w told.
    let here = at_hand c.ready_lane.ensures.kept c.in-Ok.ensures.ready c.self.view_is c.index_mut-lane.ensures.value in
    let part = part_here c.args.self.now.control _ c.args.volume c.grain.result c.args.block c.args.count c.args.grain c.blocks_in-first.result.0 c.blocks_in-first.result.1 here.control
    c.grain.ensures c.requires.there c.requires.some c.requires.begins c.requires.ends c.blocks_in-first.ensures.first c.blocks_in-first.ensures.count in
    part_logged here w told.0 c.args.volume c.blocks_in-first.result.0 c.blocks_in-first.result.1 part c.args.access c.grain.result c.args.block c.args.count c.len-number.result
    c.args.history.now c.log.new.history c.access_lane-entry.result c.access_lane-entry.new.lane c.log.result c.grain.ensures c.blocks_in-first.ensures.first c.blocks_in-first.ensures.count
    c.access_lane-entry.ensures (omega arith) c.len-number.ensures told c.log.ensures.ok c.log.ensures.err c.log.ensures.stop

pub returns-clause-disks : goal.returns-clause-disks
returns-clause-disks g c = disks_left (at_hand c.ready_lane.ensures.kept c.in-Ok.ensures.ready c.self.view_is c.index_mut-lane.ensures.value) c.access_lane-entry.ensures

pub returns-clause-each : goal.returns-clause-each
returns-clause-each g c = each_left (at_hand c.ready_lane.ensures.kept c.in-Ok.ensures.ready c.self.view_is c.index_mut-lane.ensures.value) c.access_lane-entry.ensures

pub returns-clause-quiet : goal.returns-clause-quiet
returns-clause-quiet g c = λ quiet.
    let here = at_hand c.ready_lane.ensures.kept c.in-Ok.ensures.ready c.self.view_is c.index_mut-lane.ensures.value in
    let part = part_here c.args.self.now.control _ c.args.volume c.grain.result c.args.block c.args.count c.args.grain c.blocks_in-first.result.0 c.blocks_in-first.result.1 here.control
    c.grain.ensures c.requires.there c.requires.some c.requires.begins c.requires.ends c.blocks_in-first.ensures.first c.blocks_in-first.ensures.count in
    let can = part_can here c.requires.stands.0 c.requires.stands.1.0 c.args.volume c.blocks_in-first.result.0 c.blocks_in-first.result.1 part in
    let before = here.quiet c.args.history.now.entries quiet in
    let new : StoreView = record { control = c.self.inside.control; lanes = slice_set c.self.inside.lanes.items c.in-Ok.place c.access_lane-entry.new.lane } in
    quiet_logged c.log.result (record { control = c.self.inside.control; lanes = c.self.inside.lanes.items }) new c.args.history.now c.log.new.history c.access_lane-entry.result
    (λ none unarmed. still_quiet here c.access_lane-entry.ensures (before.quiet none)) (goes_by here c.access_lane-entry.ensures can) before.armed c.log.ensures.ok c.log.ensures.stop
