-- One disk more is given.
use Rattle.std.proofs.Common.{◌≡◌, suc, ◌<◌, ◌∷◌, ◌++◌, [], List, length, map, ap, sym, ◌∙◌, arith, vec_len, vec_capacity}
use Rattle.std.proofs.lemmas.List.{append-nil}
use Rattle.fc_kept.specs.Disks.{NamedDisk}
use Rattle.fc_lanes.proofs.DealLists.{moved}
use Rattle.fc_stopped.proofs.Giving.{disk_given, pushed}
use Rattle.fc_stopped.proofs.until.give_lane.Goals as goal

pub loop-named-init : goal.loop-named-init
loop-named-init g c =
    let all : c.from-left.result.items ≡ c.args.lane = c.from-left.ensures.0 ∙ c.into_vec.ensures in
    record {
      done = [];
      split = all;
      given = sym (append-nil (map g.D.Mdisk.meaning c.args.disks.now.items));
      room = omega (arith, c.requires.room, ap (length {A = NamedDisk}) all);
      capacity = omega arith;
    }

pub loop-named-preserved : goal.loop-named-preserved
loop-named-preserved g c =
    let done : List NamedDisk = c.loop-named.invariant.done in
    let rest : List NamedDisk = c.pop_front.new.self.items in
    let split : done ++ c.in-Some.named ∷ rest ≡ c.args.lane =
    ap (λ (ds : List NamedDisk). done ++ ds) (sym {A = List NamedDisk} c.in-Some.ensures.items) ∙ c.loop-named.invariant.split in
    let left : length c.loop-named.left.items ≡ suc (length rest) = ap (length {A = NamedDisk}) c.in-Some.ensures.items in
    let room : vec_len c.loop-named.disks < vec_capacity c.loop-named.disks = omega (arith, c.loop-named.invariant.room, left) in
    let is : c.push-room_is_there.new.self.items ≡ c.loop-named.disks.items ++ c.into_disk.result ∷ [] =
    pushed c.push-room_is_there.result c.push-room_is_there.new.self.items (c.loop-named.disks.items ++ c.into_disk.result ∷ []) c.loop-named.disks.items
    (c.push-room_is_there.ensures.succeeds room) c.push-room_is_there.ensures.items in
    record {
      done = done ++ c.in-Some.named ∷ [];
      split = moved done c.in-Some.named rest c.args.lane split;
      given = disk_given g.D.Mdisk.meaning c.loop-named.disks.items c.push-room_is_there.new.self.items c.into_disk.result (map g.D.Mdisk.meaning c.args.disks.now.items) done c.in-Some.named
          c.into_disk.ensures is c.loop-named.invariant.given;
      room = omega (arith, c.loop-named.invariant.room, left, c.push-room_is_there.ensures.upper_bound, c.push-room_is_there.ensures.capacity);
      capacity = omega (arith, c.loop-named.invariant.capacity, c.push-room_is_there.ensures.capacity);
    }
