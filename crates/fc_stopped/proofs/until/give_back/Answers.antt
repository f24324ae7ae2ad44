-- One lane more is given.
use Rattle.std.proofs.Common.{◌≡◌, ◌∷◌, ◌++◌, [], List, length, ap, sym, ◌∙◌, arith}
use Rattle.fc_kept.specs.Disks.{NamedDisk}
use Rattle.fc_lanes.proofs.DealLists.{moved}
use Rattle.fc_stopped.proofs.Giving.{given_count, lane_given, room_of_lane}
use Rattle.fc_stopped.specs.Ending.{all_disks}
use Rattle.fc_stopped.proofs.until.give_back.Goals as goal

pub give_lane-requires : goal.give_lane-requires
give_lane-requires g c =
    let rest : List (List NamedDisk) = c.pop_front.new.self.items in
    omega (arith, c.loop-lane.invariant.room, ap (λ (ls : List (List NamedDisk)). length (all_disks ls)) c.in-Some.ensures.items, room_of_lane c.in-Some.lane rest)

pub loop-lane-preserved : goal.loop-lane-preserved
loop-lane-preserved g c =
    let done : List (List NamedDisk) = c.loop-lane.invariant.done in
    let rest : List (List NamedDisk) = c.pop_front.new.self.items in
    let split : done ++ c.in-Some.lane ∷ rest ≡ c.args.lanes.items =
    ap (λ (ls : List (List NamedDisk)). done ++ ls) (sym {A = List (List NamedDisk)} c.in-Some.ensures.items) ∙ c.loop-lane.invariant.split in
    record {
      done = done ++ c.in-Some.lane ∷ [];
      split = moved done c.in-Some.lane rest c.args.lanes.items split;
      given = lane_given g.D.Mdisk.meaning c.loop-lane.disks.items c.give_lane.new.disks.items done c.in-Some.lane c.loop-lane.invariant.given c.give_lane.ensures.given;
      room = omega (
        arith,
        c.loop-lane.invariant.room,
        ap (λ (ls : List (List NamedDisk)). length (all_disks ls)) c.in-Some.ensures.items,
        room_of_lane c.in-Some.lane rest,
        given_count g.D.Mdisk.meaning c.loop-lane.disks.items c.give_lane.new.disks.items c.in-Some.lane c.give_lane.ensures.given,
        c.give_lane.ensures.room,
        c.loop-lane.disks.ok.0,
        c.give_lane.new.disks.ok.0,
      );
    }
