use Rattle.std.proofs.Common.{◌≡◌, ◌+◌, ◌∙◌, ◌∷◌, ◌++◌, [], List, length, map, drop, reverse, ap, sym, arith}
use Rattle.fc_base.specs.declared.volume.Volume.{Volume}
use Rattle.fc_kept.specs.Disks.{NamedDisk}
use Rattle.fc_held.proofs.Naming.{all_named, lane_held, none_left, one_named, with_names}
use Rattle.fc_held.proofs.held.lane_named.Goals as goal

pub loop-disk-preserved : goal.loop-disk-preserved
loop-disk-preserved g c =
    let m = g.D.Mdisk.meaning in
    let vs : List Volume = reverse c.args.volumes.now in
    let before : List NamedDisk = c.loop-disk.back.items in
    let was : before ++ with_names c.args.named (drop c.loop-disk.place vs) (map m (c.in-Some.disk ∷ c.pop_front.new.self.items)) ≡ with_names c.args.named vs (map m c.from-left.result.items) =
    ap (λ (xs : List g.row.D.Denot). before ++ with_names c.args.named (drop c.loop-disk.place vs) (map m xs)) (sym c.in-Some.ensures.items) ∙ c.loop-disk.invariant.named in
    record {
      count = omega (arith, c.loop-disk.invariant.count, ap (length {A = g.row.D.Denot}) c.in-Some.ensures.items);
      named = one_named c.args.named c.loop-disk.place (c.loop-disk.place + 1) vs (m c.in-Some.disk) (map m c.pop_front.new.self.items) c.name_at-name.result c.new.result before c.push.new.self.items
          (with_names c.args.named vs (map m c.from-left.result.items)) (omega arith) c.name_at-name.ensures c.new.ensures c.in-Ok-push.ensures.items was;
    }

pub returns : goal.returns
returns g c has =
    let m = g.D.Mdisk.meaning in
    let vs : List Volume = reverse c.args.volumes.now in
    let back : List NamedDisk = c.loop-disk.back.items in
    let given : List g.row.D.Denot = c.give_disks.ensures.given.0 in
    let none : c.loop-disk.left.items ≡ [] =
    none_left c.loop-disk.left.items c.pop_front.new.self.items c.in_default-pop_front.ensures.items c.in_default-pop_front.ensures.rest in
    let named : back ≡ with_names c.args.named vs (map m c.from-left.result.items) =
    all_named c.args.named c.loop-disk.place vs back (with_names c.args.named vs (map m c.from-left.result.items))
    (ap (λ (xs : List g.row.D.Denot). back ++ with_names c.args.named (drop c.loop-disk.place vs) (map m xs)) (sym none) ∙ c.loop-disk.invariant.named) in
    let all : c.from-left.result.items ≡ given =
    c.from-left.ensures.0 ∙ (c.give_disks.ensures.given.1 ∙ ap (λ (xs : List g.row.D.Denot). xs ++ given) c.in-Ok.ensures.items) in
    lane_held c.args.named c.args.volumes.now c.args.lane.grains (map m given) c.new-2.result
    (c.new-2.ensures ∙ (named ∙ ap (λ (xs : List g.row.D.Denot). with_names c.args.named vs (map m xs)) all))
    c.give_disks.ensures.given.2
    has
