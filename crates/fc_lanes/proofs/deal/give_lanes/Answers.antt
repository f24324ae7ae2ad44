use Rattle.std.proofs.Common.{◌≡◌, ◌+◌, ◌∙◌, ◌∷◌, ◌++◌, [], List, length, map, ap, sym, subst, refl, arith}
use Rattle.std.proofs.lemmas.List.{append-nil, append_assoc, length-append, length-map, map-append}
use Rattle.fc_grains.specs.Grains.{total_of}
use Rattle.fc_grains.proofs.KindCounts.{total-pool}
use Rattle.fc_lane.specs.Lane.{LaneView}
use Rattle.fc_mdisk.specs.Disk.{DiskState}
use Rattle.fc_lanes.specs.Dealing.{AreAllIn, AreByLane, disks_in}
use Rattle.fc_lanes.proofs.DealLists.{moved}
use Rattle.fc_lanes.proofs.Giving.{first_lane, lane_behind, lane_given, nothing_given}
use Rattle.fc_lanes.proofs.deal.give_lanes.Goals as goal

pub loop-lane-init : goal.loop-lane-init
loop-lane-init g c = record {
  done = [];
  given = [];
  split = refl;
  items = sym (append-nil c.args.into.now.items);
  all = nothing_given;
  by_lane = refl;
  room = c.requires;
}

pub loop-lane-preserved : goal.loop-lane-preserved
loop-lane-preserved g c =
    let m = g.D.Mdisk.meaning in
    let done : List LaneView = c.loop-lane.invariant.done in
    let given : List g.row.D.Denot = c.loop-lane.invariant.given in
    let own : List g.row.D.Denot = c.give_disks.ensures.given.0 in
    let rest : List LaneView = c.pop_front.new.self.items in
    let split : done ++ c.in-Some.lane ∷ rest ≡ c.args.lanes.items =
    ap (λ (ls : List LaneView). done ++ ls) (sym c.in-Some.ensures.items) ∙ c.loop-lane.invariant.split in
    let left : total_of (disks_in c.loop-lane.lanes.items) ≡ total_of c.in-Some.lane.grains.disks + total_of (disks_in rest) =
    ap (λ (ls : List LaneView). total_of (disks_in ls)) c.in-Some.ensures.items ∙ first_lane c.in-Some.lane rest in
    record {
      done = done ++ c.in-Some.lane ∷ [];
      given = given ++ own;
      split = moved done c.in-Some.lane rest c.args.lanes.items split;
      items =
          c.give_disks.ensures.given.1
          ∙ ap (λ (xs : List g.row.D.Denot). xs ++ own) c.loop-lane.invariant.items
          ∙ append_assoc c.args.into.now.items given own;
      all = subst (λ (ds : List DiskState). AreAllIn (done ++ c.in-Some.lane ∷ []) ds) (sym (map-append m given own)) (lane_given done c.in-Some.lane (map m given) (map m own) c.loop-lane.invariant.all c.give_disks.ensures.given.2);
      by_lane = subst (λ (ds : List DiskState). AreByLane (done ++ c.in-Some.lane ∷ []) ds) (sym (map-append m given own)) (lane_behind done c.in-Some.lane (map m given) (map m own) c.loop-lane.invariant.by_lane c.give_disks.ensures.given.2);
      room = omega (
        arith,
        c.loop-lane.invariant.room,
        left,
        c.give_disks.ensures.room,
        ap total_of c.give_disks.ensures.given.2.kinds,
        total-pool (map m own),
        length-map own m,
        ap length c.give_disks.ensures.given.1,
        length-append c.loop-lane.into.items own,
        c.give_disks.new.into.ok.0,
        c.loop-lane.into.ok.0,
      );
    }
