-- A write begins in the lane of its grain.
use Rattle.std.proofs.Common.{Ok, true, subst, sym, ap, arith}
use Rattle.fc_base.specs.declared.request.WritePart.{WritePart}
use Rattle.fc_lane.specs.Lane.{LaneView}
use Rattle.fc_lanes.specs.declared.access.Access.TheVariants.{Write}
use Rattle.fc_noted.proofs.Accessing.{IsAnswered, IsReached, access_can, access_in_volume, answered_stands, asks_blocks, begins_within, blocks_reached, ends_within, lane_grain, number_small}
use Rattle.fc_noted.proofs.Begun.{begun_made}
use Rattle.fc_noted.proofs.CallsMade.{no_error}
use Rattle.fc_noted.proofs.Idle.{idle_made}
use Rattle.fc_noted.proofs.KeepingLanes.{begun_keeps, holds_in_lane, lanes_go_on, lanes_hold, lanes_still}
use Rattle.fc_noted.proofs.MeteringNoted.{memory_alone, no_calls}
use Rattle.fc_noted.proofs.Unready.{unready_counts, unready_made}
use Rattle.fc_noted.specs.Making.{KeepLanes, StepMade, always, done}
use Rattle.fc_rules.specs.Steps.{HasDoneNothing}
use Rattle.fc_script.specs.Script.{agenda_of}
use Rattle.fc_steps.specs.declared.ask.Ask.TheVariants.{Write as WriteAsk}
use Rattle.fc_store.specs.Stepping.{no_lane}
use Rattle.fc_noted.proofs.noted.Noted.begin_write.Given as given
use Rattle.fc_noted.proofs.noted.Noted.begin_write.Goals as goal
use Rattle.fc_noted.proofs.noted.Noted.begin_write.Goals.{After-len, In-Answered}

pub ready_lane-requires : goal.ready_lane-requires
ready_lane-requires g c = record { stands = (c.requires.begins.w, c.requires.begins.at.told) }

pub returns-in_err-place-clause-made : goal.returns-in_err-place-clause-made
returns-in_err-place-clause-made g c =
    unready_made g.M.MetaDisk.seen g.M.MetaDisk.may_leave g.M.MetaDisk.moment g.M.MetaDisk.left_since g.M.MetaDisk.calls g.met.M.MetaDisk.only_now c.args.self.now c.args.history.now c.requires.begins c.ready_lane.new.self c.ready_lane.ensures.kept
    c.in_err-place.field-0.0 c.in_err-place.ensures.stopped c.from_residual.result c.from_residual.ensures.1

pub blocks_in-first-requires-clause-begins : goal.blocks_in-first-requires-clause-begins
blocks_in-first-requires-clause-begins g c =
    begins_within c.args.self.now.store.control c.ready_lane.new.self.control c.ready_lane.ensures.kept.control c.args.volume c.args.block c.args.count c.args.grain c.requires.can c.grain.result c.grain.ensures

pub blocks_in-first-requires-clause-ends : goal.blocks_in-first-requires-clause-ends
blocks_in-first-requires-clause-ends g c =
    ends_within c.args.self.now.store.control c.ready_lane.new.self.control c.ready_lane.ensures.kept.control c.args.volume c.args.block c.args.count c.args.grain c.requires.can c.grain.result c.grain.ensures

-- the blocks that are written are reached
blocks : (g : given.Over) (c : After-len g) →
    IsReached c.args.self.now.store c.ready_lane.new.self c.args.volume c.args.block c.args.count c.args.grain c.in_ok-place.place c.blocks_in-first.result.0 c.blocks_in-first.result.1
blocks g c =
    blocks_reached c.args.self.now.store c.ready_lane.new.self c.args.volume c.args.block c.args.count c.args.grain c.in_ok-place.place c.grain.result c.blocks_in-first.result.0 c.blocks_in-first.result.1
    c.ready_lane.ensures.kept c.in_ok-place.ensures.ready c.requires.can c.grain.ensures c.blocks_in-first.ensures.first c.blocks_in-first.ensures.count

pub begin_write-requires-clause-there : goal.begin_write-requires-clause-there
begin_write-requires-clause-there g c = c.in_ok-place.ensures.ready.inside

pub begin_write-requires-clause-can : goal.begin_write-requires-clause-can
begin_write-requires-clause-can g c = access_can (blocks g c) c.requires.begins.w c.requires.begins.at.told.0

pub begin_write-requires-clause-number : goal.begin_write-requires-clause-number
begin_write-requires-clause-number g c = number_small (blocks g c) c.ranges.grain.fits

pub begin_write-requires-clause-grain : goal.begin_write-requires-clause-grain
begin_write-requires-clause-grain g c = lane_grain (blocks g c) c.requires.begins.w c.requires.begins.at.told.0

pub begin_write-requires-clause-ready : goal.begin_write-requires-clause-ready
begin_write-requires-clause-ready g c = c.in_ok-place.ensures.ready.ready no_lane

pub returns-in-UnderWay-clause-made : goal.returns-in-UnderWay-clause-made
returns-in-UnderWay-clause-made g c =
    let old = c.args.self.now in
    let history = c.args.history.now in
    let part : WritePart = record { volume = c.args.volume; block = c.blocks_in-first.result.0; count = c.blocks_in-first.result.1; byte = c.args.byte } in
    let r = blocks g (goal.at.returns-in-UnderWay-clause-made g c).After-len in
    subst (λ n. StepMade g.M.MetaDisk.seen g.M.MetaDisk.may_leave g.M.MetaDisk.moment g.M.MetaDisk.left_since g.M.MetaDisk.calls (Ok true) old n history history) (sym c.take_up.ensures)
    (begun_made g.M.MetaDisk.seen g.M.MetaDisk.may_leave g.M.MetaDisk.moment g.M.MetaDisk.left_since g.M.MetaDisk.calls g.met.M.MetaDisk.only_now old history c.requires.begins c.ready_lane.new.self c.ready_lane.ensures.kept
    c.in_ok-place.place c.len.result c.in_ok-place.ensures.ready.inside (WriteAsk part) c.in-UnderWay.doing c.begin_write.new.self c.in-UnderWay.ensures.begun c.len.ensures c.in-UnderWay.ensures.others
    (λ w up. asks_blocks r (Write c.args.byte) (agenda_of old.store.control.grain old.script) w (c.requires.next w up)) (λ w up. access_in_volume r w up (Write c.args.byte)) c.in_ok-place.ensures.room)

-- or they are answered at once
answered : (g : given.Over) (c : In-Answered g) →
    IsReached c.args.self.now.store c.ready_lane.new.self c.args.volume c.args.block c.args.count c.args.grain c.in_ok-place.place c.blocks_in-first.result.0 c.blocks_in-first.result.1 →
    IsAnswered c.args.self.now.store c.ready_lane.new.self c.begin_write.new.self c.args.history.now c.args.volume c.args.block c.args.count c.args.grain c.in_ok-place.place c.blocks_in-first.result.0
    c.blocks_in-first.result.1 (Write c.args.byte) c.in-Answered.entry
answered g c r =
    let begun = c.in-Answered.ensures.begun in
    let nothing : HasDoneNothing c.in-Answered.entry = begun.2 in
    record { reached = r; number = c.len.result; numbered = c.len.ensures; followed = begun.0; others = c.in-Answered.ensures.others; few = omega (arith, nothing.calls) }

pub log_entry-requires-clause-stands : goal.log_entry-requires-clause-stands
log_entry-requires-clause-stands g c =
    let at = goal.at.log_entry-requires-clause-stands g c in
    answered_stands (answered g at.In-Answered (blocks g at.After-len)) c.requires.begins.w c.requires.begins.at.told

pub returns-in-Answered-clause-made : goal.returns-in-Answered-clause-made
returns-in-Answered-clause-made g c =
    let old = c.args.self.now in
    let history = c.args.history.now in
    let begun = c.in-Answered.ensures.begun in
    let at = goal.at.returns-in-Answered-clause-made g c in
    subst (λ n. StepMade g.M.MetaDisk.seen g.M.MetaDisk.may_leave g.M.MetaDisk.moment g.M.MetaDisk.left_since g.M.MetaDisk.calls (always c.log_entry.result) old n history c.log_entry.new.history) (sym c.log_entry.ensures.others)
    (idle_made g.M.MetaDisk.seen g.M.MetaDisk.may_leave g.M.MetaDisk.moment g.M.MetaDisk.left_since g.M.MetaDisk.calls g.met.M.MetaDisk.only_now old history c.requires.begins c.in_ok-place.ensures.room
    (answered g at.In-Answered (blocks g at.After-len)) begun.1 begun.2 begun.3
    c.log_entry.new.self.script c.log_entry.result c.log_entry.new.history c.requires.next c.log_entry.ensures.logged c.log_entry.ensures.goes c.log_entry.ensures.unlogged c.log_entry.ensures.stop)

pub returns-in_err-place-clause-lanes : goal.returns-in_err-place-clause-lanes
returns-in_err-place-clause-lanes g c = lanes_hold c.args.self.now.store c.ready_lane.new.self c.ready_lane.ensures.kept.grains

pub returns-in-UnderWay-clause-lanes : goal.returns-in-UnderWay-clause-lanes
returns-in-UnderWay-clause-lanes g c =
    let old = c.args.self.now.store in
    let roomy = c.ready_lane.new.self in
    let store = c.begin_write.new.self in
    subst (λ n. KeepLanes c.args.self.now.store n.store) (sym c.take_up.ensures)
    (lanes_go_on old roomy store (lanes_hold old roomy c.ready_lane.ensures.kept.grains) (begun_keeps c.in_ok-place.place roomy store c.in-UnderWay.doing c.in-UnderWay.ensures.others c.in-UnderWay.ensures.begun.way))

pub returns-in-Answered-clause-lanes : goal.returns-in-Answered-clause-lanes
returns-in-Answered-clause-lanes g c =
    let old = c.args.self.now.store in
    let roomy = c.ready_lane.new.self in
    let store = c.begin_write.new.self in
    lanes_go_on old store c.log_entry.new.self.store
    (lanes_go_on old roomy store (lanes_hold old roomy c.ready_lane.ensures.kept.grains)
    (holds_in_lane c.in_ok-place.place roomy store c.in-Answered.ensures.others (ap (λ (z : LaneView). z.grains) c.in-Answered.ensures.begun.1)))
    (lanes_still store c.log_entry.new.self.store (ap (λ n. n.store) c.log_entry.ensures.others))

-- ---- the disk of metadata isn't called

pub returns-in_err-place-clause-counted : goal.returns-in_err-place-clause-counted
returns-in_err-place-clause-counted g c =
    unready_counts g.M.MetaDisk.seen g.M.MetaDisk.fault_count g.M.MetaDisk.calls c.args.self.now c.ready_lane.new.self c.in_err-place.field-0.0 c.from_residual.result c.from_residual.ensures.1

pub returns-in-UnderWay-clause-counted : goal.returns-in-UnderWay-clause-counted
returns-in-UnderWay-clause-counted g c =
    no_calls g.M.MetaDisk.seen g.M.MetaDisk.fault_count g.M.MetaDisk.calls done c.args.self.now c.take_up.new.self (ap (λ n. n.calls) c.take_up.ensures) (ap (λ n. n.meta) c.take_up.ensures) (no_error tt)

pub returns-in-Answered-clause-counted : goal.returns-in-Answered-clause-counted
returns-in-Answered-clause-counted g c =
    no_calls g.M.MetaDisk.seen g.M.MetaDisk.fault_count g.M.MetaDisk.calls c.log_entry.result c.args.self.now c.log_entry.new.self (ap (λ n. n.calls) c.log_entry.ensures.others) (ap (λ n. n.meta) c.log_entry.ensures.others)
    (memory_alone c.log_entry.result c.log_entry.ensures.stop)
