-- The grain has something to do in its lane, and its entry is right.
use Rattle.std.proofs.Common.{◌≡◌, Bool, [], ◌∷◌, ◌++◌, length, slice_set, ap, subst, arith}
use Rattle.std.specs.Prelude.{IfOk}
use Rattle.fc_legal.specs.Seconds.{fill_of}
use Rattle.fc_stands.specs.Logged.{whether_moved}
use Rattle.fc_stands.specs.Quiet.{QuietBy}
use Rattle.fc_stands.specs.Store.{StandsFor, StoreView}
use Rattle.fc_stands.proofs.Quieting.{quiet_says}
use Rattle.fc_store.proofs.InLane.{at_hand, disks_left, fill_can, fill_in_lane, fill_logged, goes_by, still_quiet}
use Rattle.fc_store.proofs.ReadyLane.{not_logged, stays_up}
use Rattle.fc_store.proofs.store.Store.fill.Goals as goal

pub returns-in-Err-clause-filled : goal.returns-in-Err-clause-filled
returns-in-Err-clause-filled g c = λ w told.
    not_logged Bool c.in-Err.stop whether_moved (StandsFor c.ready_lane.new.self) c.args.self.now.control.grain w (fill_of c.args.work.now c.args.grain) c.args.history.now
    c.in-Err.ensures.stopped c.requires.room (c.ready_lane.ensures.kept.stands w told.0, told.1)

pub returns-in-Err-clause-quiet : goal.returns-in-Err-clause-quiet
returns-in-Err-clause-quiet g c = λ quiet.
    stays_up Bool c.in-Err.stop (QuietBy c.args.history.now.entries c.ready_lane.new.self) (c.ready_lane.ensures.kept.quiet c.args.history.now.entries quiet)

pub index_mut-lane-requires : goal.index_mut-lane-requires
index_mut-lane-requires g c = omega (arith, c.in-Ok.ensures.ready.inside, ap (λ (s : StoreView). length s.lanes) c.self.view_is, c.self.inside.lanes.ok.0)

pub fill_lane-entry-requires-clause-can : goal.fill_lane-entry-requires-clause-can
fill_lane-entry-requires-clause-can g c =
    let here = at_hand c.ready_lane.ensures.kept c.in-Ok.ensures.ready c.self.view_is c.index_mut-lane.ensures.value in
    fill_can here c.requires.stands.0 c.requires.stands.1.0 c.args.work.now (c.requires.next c.requires.stands.0 c.requires.stands.1.0)

pub fill_lane-entry-requires-clause-of_lane : goal.fill_lane-entry-requires-clause-of_lane
fill_lane-entry-requires-clause-of_lane g c =
    let here = at_hand c.ready_lane.ensures.kept c.in-Ok.ensures.ready c.self.view_is c.index_mut-lane.ensures.value in
    fill_in_lane here c.requires.stands.0 c.requires.stands.1.0 c.args.work.now (c.requires.next c.requires.stands.0 c.requires.stands.1.0)

pub fill_lane-entry-requires-clause-ready : goal.fill_lane-entry-requires-clause-ready
fill_lane-entry-requires-clause-ready g c = (at_hand c.ready_lane.ensures.kept c.in-Ok.ensures.ready c.self.view_is c.index_mut-lane.ensures.value).ready

pub returns-clause-filled : goal.returns-clause-filled
returns-clause-filled g c = λ w told.
    let here = at_hand c.ready_lane.ensures.kept c.in-Ok.ensures.ready c.self.view_is c.index_mut-lane.ensures.value in
    let Says : Bool → Type 0 = λ b. IfOk c.log_telling.result (λ moved. (moved ≡ b) × (c.log_telling.new.history ≡ record c.args.history.now { entries = c.args.history.now.entries ++ c.fill_lane-entry.result ∷ [] })) in
    fill_logged here w told.0 c.args.work.now (c.requires.next w told.0) c.len-number.result c.args.history.now c.log_telling.new.history c.fill_lane-entry.result c.fill_lane-entry.new.lane
    c.log_telling.result c.fill_lane-entry.ensures (omega arith) c.len-number.ensures told (subst Says c.has_moved-moved.ensures c.log_telling.ensures.ok) c.log_telling.ensures.err c.log_telling.ensures.stop

pub returns-clause-disks : goal.returns-clause-disks
returns-clause-disks g c = disks_left (at_hand c.ready_lane.ensures.kept c.in-Ok.ensures.ready c.self.view_is c.index_mut-lane.ensures.value) c.fill_lane-entry.ensures

pub returns-clause-quiet : goal.returns-clause-quiet
returns-clause-quiet g c = λ quiet.
    let here = at_hand c.ready_lane.ensures.kept c.in-Ok.ensures.ready c.self.view_is c.index_mut-lane.ensures.value in
    let can = fill_can here c.requires.stands.0 c.requires.stands.1.0 c.args.work.now (c.requires.next c.requires.stands.0 c.requires.stands.1.0) in
    let before = here.quiet c.args.history.now.entries quiet in
    let new : StoreView = record { control = c.self.inside.control; lanes = slice_set c.self.inside.lanes.items c.in-Ok.place c.fill_lane-entry.new.lane } in
    quiet_says c.log_telling.result (record { control = c.self.inside.control; lanes = c.self.inside.lanes.items }) new c.args.history.now c.log_telling.new.history c.fill_lane-entry.result
    c.has_moved-moved.result
    (λ none unarmed. still_quiet here c.fill_lane-entry.ensures (before.quiet none)) (goes_by here c.fill_lane-entry.ensures can) before.armed c.log_telling.ensures.ok c.log_telling.ensures.stop
