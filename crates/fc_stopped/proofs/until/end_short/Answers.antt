-- There is room for all disks, and they come back.
use Rattle.std.proofs.Common.{◌≡◌, ◌++◌, List, length, map, ap, sym, subst, ◌∙◌, arith}
use Rattle.fc_grains.specs.Grains.{total_of}
use Rattle.fc_lane.specs.Lane.{LaneView}
use Rattle.fc_lanes.specs.Dealing.{AreAllIn, AreByLane, disks_in}
use Rattle.fc_stands.specs.Store.{StoreView}
use Rattle.fc_stopped.proofs.Apart.{lie_apart}
use Rattle.fc_stopped.proofs.Counted.{AreBack, all_back, given_back}
use Rattle.fc_stopped.proofs.Lanes.{count_in}
use Rattle.fc_stopped.specs.Ending.{over_disks}
use Rattle.fc_stopped.proofs.until.end_short.Goals as goal

pub give_disks-requires : goal.give_disks-requires
give_disks-requires g c =
    let total : total_of (disks_in c.into_store-store.result.0.lanes) ≡ length c.requires.lanes.0 =
    ap (λ (s : StoreView). total_of (disks_in s.lanes)) c.into_store-store.ensures.store ∙ count_in (over_disks c.requires.lanes.0) c.args.noted.store.lanes c.requires.lanes.1 in
    omega (arith, total, c.requires.lanes.2, ap length c.requires.none)

pub returns-clause-disks : goal.returns-clause-disks
returns-clause-disks g c = λ old last has counted.
    let m = g.D.Mdisk.meaning in
    let lanes : List LaneView = c.args.noted.store.lanes in
    let given : List g.row.D.Denot = c.give_disks.ensures.0 in
    let back : c.give_disks.new.into.items ≡ given = c.give_disks.ensures.1 ∙ ap (λ (xs : List g.row.D.Denot). xs ++ given) c.requires.none in
    let all : AreAllIn lanes (map m given) = subst (λ (s : StoreView). AreAllIn s.lanes (map m given)) c.into_store-store.ensures.store c.give_disks.ensures.2 in
    let by : AreByLane lanes (map m given) = subst (λ (s : StoreView). AreByLane s.lanes (map m given)) c.into_store-store.ensures.store c.give_disks.ensures.3 in
    all_back c.end_with.result old (map m c.give_disks.new.into.items) last
    (subst (λ (xs : List g.row.D.Denot). AreBack old (map m xs) last) (sym back) (given_back (over_disks old) lanes (map m given) last has all (lie_apart lanes (map m given) by) counted))
