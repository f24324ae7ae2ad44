-- A read is answered in the lane of its grain, and its entry is logged.
use Rattle.std.proofs.Common.{◌<◌, ◌^◌, arith, ap, subst, sym}
use Rattle.fc_base.specs.declared.size.GrainSize.{GrainSize}
use Rattle.fc_entry.specs.Picture.{grain_of_block}
use Rattle.fc_lanes.specs.declared.access.Access.TheVariants.{Read}
use Rattle.fc_noted.proofs.Accessing.{IsAnswered, IsReached, access_can, answered_stands, begins_within, blocks_reached, ends_within, lane_grain, number_small}
use Rattle.fc_noted.proofs.KeepingLanes.{lanes_go_on, lanes_hold, lanes_still, stays_in_lane}
use Rattle.fc_noted.proofs.MeteringNoted.{memory_alone, no_calls}
use Rattle.fc_noted.proofs.Reading.{read_made}
use Rattle.fc_noted.proofs.Unready.{unready_counts, unready_made}
use Rattle.fc_noted.specs.Making.{StepMade, always}
use Rattle.fc_noted.proofs.noted.Noted.read.Given as given
use Rattle.fc_noted.proofs.noted.Noted.read.Goals as goal
use Rattle.fc_noted.proofs.noted.Noted.read.Goals.{After-len, After-read_at-entry}

pub ready_lane-requires : goal.ready_lane-requires
ready_lane-requires g c = record { stands = (c.requires.begins.w, c.requires.begins.at.told) }

pub returns-in_err-place-clause-made : goal.returns-in_err-place-clause-made
returns-in_err-place-clause-made g c =
    unready_made g.M.MetaDisk.seen g.M.MetaDisk.may_leave g.M.MetaDisk.moment g.M.MetaDisk.left_since g.M.MetaDisk.calls g.met.M.MetaDisk.only_now c.args.self.now c.args.history.now c.requires.begins c.ready_lane.new.self c.ready_lane.ensures.kept
    c.in_err-place.field-0.0 c.in_err-place.ensures.stopped c.from_residual.result c.from_residual.ensures.1

pub blocks_in-first-requires-clause-begins : goal.blocks_in-first-requires-clause-begins
blocks_in-first-requires-clause-begins g c =
    begins_within c.args.self.now.store.control c.ready_lane.new.self.control c.ready_lane.ensures.kept.control c.args.volume c.args.block c.args.count c.args.grain c.requires.can c.grain.result c.grain.ensures

pub blocks_in-first-requires-clause-ends : goal.blocks_in-first-requires-clause-ends
blocks_in-first-requires-clause-ends g c =
    ends_within c.args.self.now.store.control c.ready_lane.new.self.control c.ready_lane.ensures.kept.control c.args.volume c.args.block c.args.count c.args.grain c.requires.can c.grain.result c.grain.ensures

-- the blocks that are read are reached
blocks : (g : given.Over) (c : After-len g) →
    IsReached c.args.self.now.store c.ready_lane.new.self c.args.volume c.args.block c.args.count c.args.grain c.in_ok-place.place c.blocks_in-first.result.0 c.blocks_in-first.result.1
blocks g c =
    blocks_reached c.args.self.now.store c.ready_lane.new.self c.args.volume c.args.block c.args.count c.args.grain c.in_ok-place.place c.grain.result c.blocks_in-first.result.0 c.blocks_in-first.result.1
    c.ready_lane.ensures.kept c.in_ok-place.ensures.ready c.requires.can c.grain.ensures c.blocks_in-first.ensures.first c.blocks_in-first.ensures.count

pub read_at-entry-requires-clause-there : goal.read_at-entry-requires-clause-there
read_at-entry-requires-clause-there g c = c.in_ok-place.ensures.ready.inside

pub read_at-entry-requires-clause-can : goal.read_at-entry-requires-clause-can
read_at-entry-requires-clause-can g c = access_can (blocks g c) c.requires.begins.w c.requires.begins.at.told.0

pub read_at-entry-requires-clause-number : goal.read_at-entry-requires-clause-number
read_at-entry-requires-clause-number g c =
    let r = blocks g c in
    subst (λ (z : GrainSize). grain_of_block z c.blocks_in-first.result.0 < 2 ^ 32) (sym (lane_grain r c.requires.begins.w c.requires.begins.at.told.0)) (number_small r c.ranges.grain.fits)

-- and answered
answered : (g : given.Over) (c : After-read_at-entry g) →
    IsReached c.args.self.now.store c.ready_lane.new.self c.args.volume c.args.block c.args.count c.args.grain c.in_ok-place.place c.blocks_in-first.result.0 c.blocks_in-first.result.1 →
    IsAnswered c.args.self.now.store c.ready_lane.new.self c.read_at-entry.new.store c.args.history.now c.args.volume c.args.block c.args.count c.args.grain c.in_ok-place.place c.blocks_in-first.result.0
    c.blocks_in-first.result.1 Read c.read_at-entry.result
answered g c r =
    record { reached = r; number = c.len.result; numbered = c.len.ensures; followed = c.read_at-entry.ensures.followed; others = c.read_at-entry.ensures.others; few = omega arith }

pub log_entry-requires-clause-stands : goal.log_entry-requires-clause-stands
log_entry-requires-clause-stands g c =
    let at = goal.at.log_entry-requires-clause-stands g c in
    answered_stands (answered g at.After-read_at-entry (blocks g at.After-len)) c.requires.begins.w c.requires.begins.at.told

pub returns-clause-made : goal.returns-clause-made
returns-clause-made g c =
    let old = c.args.self.now in
    let history = c.args.history.now in
    let at = goal.at.returns-clause-made g c in
    subst (λ n. StepMade g.M.MetaDisk.seen g.M.MetaDisk.may_leave g.M.MetaDisk.moment g.M.MetaDisk.left_since g.M.MetaDisk.calls (always c.log_entry.result) old n history c.log_entry.new.history) (sym c.log_entry.ensures.others)
    (read_made g.M.MetaDisk.seen g.M.MetaDisk.may_leave g.M.MetaDisk.moment g.M.MetaDisk.left_since g.M.MetaDisk.calls g.met.M.MetaDisk.only_now old history c.requires.begins c.in_ok-place.ensures.room
    (answered g at.After-read_at-entry (blocks g at.After-len))
    c.log_entry.new.self.script c.log_entry.result c.log_entry.new.history c.requires.next c.log_entry.ensures.logged c.log_entry.ensures.goes c.log_entry.ensures.unlogged c.log_entry.ensures.stop)

pub returns-in_err-place-clause-lanes : goal.returns-in_err-place-clause-lanes
returns-in_err-place-clause-lanes g c = lanes_hold c.args.self.now.store c.ready_lane.new.self c.ready_lane.ensures.kept.grains

pub returns-clause-lanes : goal.returns-clause-lanes
returns-clause-lanes g c =
    let old = c.args.self.now.store in
    let roomy = c.ready_lane.new.self in
    let store = c.read_at-entry.new.store in
    lanes_go_on old store c.log_entry.new.self.store
    (lanes_go_on old roomy store (lanes_hold old roomy c.ready_lane.ensures.kept.grains) (stays_in_lane c.in_ok-place.place roomy store c.read_at-entry.ensures.others c.read_at-entry.ensures.followed.same))
    (lanes_still store c.log_entry.new.self.store (ap (λ n. n.store) c.log_entry.ensures.others))

-- ---- the disk of metadata isn't called

pub returns-in_err-place-clause-counted : goal.returns-in_err-place-clause-counted
returns-in_err-place-clause-counted g c =
    unready_counts g.M.MetaDisk.seen g.M.MetaDisk.fault_count g.M.MetaDisk.calls c.args.self.now c.ready_lane.new.self c.in_err-place.field-0.0 c.from_residual.result c.from_residual.ensures.1

pub returns-clause-counted : goal.returns-clause-counted
returns-clause-counted g c =
    no_calls g.M.MetaDisk.seen g.M.MetaDisk.fault_count g.M.MetaDisk.calls c.log_entry.result c.args.self.now c.log_entry.new.self (ap (λ n. n.calls) c.log_entry.ensures.others) (ap (λ n. n.meta) c.log_entry.ensures.others)
    (memory_alone c.log_entry.result c.log_entry.ensures.stop)
