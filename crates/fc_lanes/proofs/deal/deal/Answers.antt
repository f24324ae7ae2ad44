use Rattle.std.proofs.Common.{◌≡◌, ◌∙◌, ◌∷◌, ◌++◌, [], List, map, ap, sym, refl, arith}
use Rattle.std.proofs.lemmas.List.{length-append, length-map}
use Rattle.std.proofs.lemmas.Nat.{mod_below}
use Rattle.fc_mdisk.specs.Disk.{DiskState}
use Rattle.fc_lanes.proofs.DealLists.{disk_dealt, lists_count, moved, none_dealt, some_left}
use Rattle.fc_lanes.proofs.deal.deal.Goals as goal

pub loop-disk-init : goal.loop-disk-init
loop-disk-init g c = record {
  done = [];
  count_is = refl;
  number = refl;
  split = ap (map g.D.Mdisk.meaning) c.from-left.ensures.0;
  lists = c.in-Ok.ensures ∙ none_dealt c.args.count;
}

pub index_mut-requires : goal.index_mut-requires
index_mut-requires g c =
    omega (
      arith,
      mod_below c.loop-disk.dealt c.args.count c.requires,
      lists_count g.D.Mdisk.meaning c.args.count c.loop-disk.invariant.done c.loop-disk.lists.items c.loop-disk.invariant.lists,
      c.loop-disk.lists.ok.0,
    )

pub overflow_add-dealt : goal.overflow_add-dealt
overflow_add-dealt g c =
    let m = g.D.Mdisk.meaning in
    let all : c.loop-disk.invariant.done ++ m c.in-Some.disk ∷ map m c.pop_front.new.self.items ≡ map m c.args.disks.items =
    ap (λ (xs : List g.row.D.Denot). c.loop-disk.invariant.done ++ map m xs) (sym c.in-Some.ensures.items) ∙ c.loop-disk.invariant.split in
    record { fits = omega (arith, c.loop-disk.invariant.number, some_left c.loop-disk.invariant.done (m c.in-Some.disk) (map m c.pop_front.new.self.items) (map m c.args.disks.items) all, length-map c.args.disks.items m, c.args.disks.ok.0, c.args.disks.small) }

pub loop-disk-preserved : goal.loop-disk-preserved
loop-disk-preserved g c =
    let m = g.D.Mdisk.meaning in
    let done : List DiskState = c.loop-disk.invariant.done in
    let all : done ++ m c.in-Some.disk ∷ map m c.pop_front.new.self.items ≡ map m c.args.disks.items =
    ap (λ (xs : List g.row.D.Denot). done ++ map m xs) (sym c.in-Some.ensures.items) ∙ c.loop-disk.invariant.split in
    record {
      done = done ++ m c.in-Some.disk ∷ [];
      count_is = refl;
      number = omega (arith, c.loop-disk.invariant.number, length-append done (m c.in-Some.disk ∷ []));
      split = moved done (m c.in-Some.disk) (map m c.pop_front.new.self.items) (map m c.args.disks.items) all;
      lists = disk_dealt m c.args.count c.requires done c.loop-disk.dealt c.loop-disk.lists.items c.index_mut.result.now c.push.new.self c.in-Some.disk c.loop-disk.invariant.number c.loop-disk.invariant.lists c.index_mut.ensures.value c.in-Ok-push.ensures.items;
    }
