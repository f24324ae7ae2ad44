use Rattle.std.proofs.Common.{◌≡◌, ◌∙◌, ◌∷◌, ◌++◌, [], List, map, ap, sym, subst, refl}
use Rattle.std.specs.List.{All}
use Rattle.std.proofs.lemmas.List.{map-append}
use Rattle.fc_mdisk.specs.Disk.{DiskState}
use Rattle.fc_grains.specs.Grains.{IsUnarmed}
use Rattle.fc_grains.specs.Parts.{QueuesState}
use Rattle.fc_grains.proofs.Pooling.{IsSorting, last_unarmed, sorting}
use Rattle.fc_grains.proofs.queues.Queues.new.Goals as goal

pub put_first-requires-clause-unarmed : goal.put_first-requires-clause-unarmed
put_first-requires-clause-unarmed g c =
    let m = g.D.Mdisk.meaning in
    let items : map m c.loop-disk.disks.items ≡ map m c.pop.new.self.items ++ m c.in-Some.disk ∷ [] = ap (map m) c.in-Some.ensures.items ∙ map-append m c.pop.new.self.items (c.in-Some.disk ∷ []) in
    let P : List DiskState → Type 0 = λ ds. All IsUnarmed ds in
    last_unarmed (map m c.pop.new.self.items) (m c.in-Some.disk) (subst P items c.loop-disk.invariant.unarmed)

pub loop-disk-preserved : goal.loop-disk-preserved
loop-disk-preserved g c =
    let m = g.D.Mdisk.meaning in
    let items : map m c.loop-disk.disks.items ≡ map m c.pop.new.self.items ++ m c.in-Some.disk ∷ [] = ap (map m) c.in-Some.ensures.items ∙ map-append m c.pop.new.self.items (c.in-Some.disk ∷ []) in
    let P : List DiskState → Type 0 = λ ds. IsSorting (map m c.args.disks.items) ds c.loop-disk.queues in
    let Q : QueuesState → Type 0 = λ q. IsSorting (map m c.args.disks.items) (map m c.pop.new.self.items) q in
    subst Q (sym c.in-Ok.ensures.ok)
    (sorting (map m c.args.disks.items) (map m c.pop.new.self.items) c.loop-disk.queues (m c.in-Some.disk) (m c.in-Some.disk).kind refl (subst P items c.loop-disk.invariant))
