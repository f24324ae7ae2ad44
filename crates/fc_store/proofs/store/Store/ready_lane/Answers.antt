-- Room in the lane at its place leaves what the store stands for.
use Rattle.std.proofs.Common.{◌≡◌, length, arith}
use Rattle.fc_store.proofs.ReadyLane.{as_roomy, made_ready, made_roomier}
use Rattle.fc_store.proofs.store.Store.ready_lane.Goals as goal

pub returns-then-is_full-clause-kept : goal.returns-then-is_full-clause-kept
returns-then-is_full-clause-kept g c = as_roomy c.args.self.now

pub returns-clause-ready : goal.returns-clause-ready
returns-clause-ready g c =
    let many : c.len.result ≡ length c.self.inside.lanes.items = omega (arith, c.len.ensures) in
    made_ready c.args.grain c.len.result c.requires.stands.1.0 c.self.view_is many c.index_mut-lane.ensures.value c.in-Ok.ensures.same c.in-Ok.ensures.ok

pub returns-clause-kept : goal.returns-clause-kept
returns-clause-kept g c =
    let many : c.len.result ≡ length c.self.inside.lanes.items = omega (arith, c.len.ensures) in
    made_roomier c.args.grain c.len.result c.requires.stands.1.0 c.self.view_is many c.index_mut-lane.ensures.value c.in-Ok.ensures.same

pub returns-in-Err-clause-kept : goal.returns-in-Err-clause-kept
returns-in-Err-clause-kept g c =
    let many : c.len.result ≡ length c.self.inside.lanes.items = omega (arith, c.len.ensures) in
    made_roomier c.args.grain c.len.result c.requires.stands.1.0 c.self.view_is many c.index_mut-lane.ensures.value c.in-Err.ensures.same
