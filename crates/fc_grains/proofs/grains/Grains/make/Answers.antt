use Rattle.std.proofs.Common.{◌<◌, ◌∙◌, List, length, map, refl, sym, subst, arith}
use Rattle.std.specs.List.{All}
use Rattle.std.proofs.lemmas.List.{length-map}
use Rattle.fc_grains.specs.Calls.{HasMade}
use Rattle.fc_grains.specs.Grains.{next_of}
use Rattle.fc_grains.specs.Kept.{IsKept, state_of}
use Rattle.fc_grains.specs.Parts.{VolumeDiskState, grains_of, new_of}
use Rattle.fc_grains.specs.Volumes.{VolumeGrains}
use Rattle.fc_grains.proofs.Moving.{kept_made, has_made}
use Rattle.fc_grains.proofs.Readying.{pushed}
use Rattle.fc_grains.proofs.grains.Grains.make.Goals as goal

pub invariant_of-self : goal.invariant_of-self
invariant_of-self g c =
    let items = pushed c.push.result c.self.inside.volumes.items c.push.new.self.items c.take_next-disk.result c.push.ensures.items (sym c.is_err.ensures.value ∙ c.if-is_err.false) in
    let coming : 0 < length (map new_of c.self.inside.pool.reserved) = rw (← c.self.view_is) at c.requires.reserved in
    let newest : All (λ (v : VolumeGrains). v.volume.0 < c.args.volume.0) (map grains_of c.self.inside.volumes.items) = rw (← c.self.view_is) at c.requires.newest in
    let P : List VolumeDiskState → Type 0 = λ vs. IsKept c.self.inside.grain vs c.take_next-disk.new.self (map g.D.Mdisk.meaning c.self.inside.aside.items) c.self.inside.buffer.items c.self.inside.sums c.push.new.self.cap c.self.inside.aside.cap in
    subst P (sym items)
    (kept_made c.self.inside.grain c.self.inside.volumes.items c.self.inside.pool c.take_next-disk.new.self _ _ _ _ _ _ c.self.invariant c.take_next-disk.result (next_of (map new_of c.self.inside.pool.reserved))
    c.take_next-disk.ensures.kind c.take_next-disk.ensures.zeros c.take_next-disk.ensures.unwritten c.take_next-disk.ensures.unmarked c.take_next-disk.ensures.unarmed c.take_next-disk.ensures.bytes c.take_next-disk.ensures.reserved
    (omega (arith, length-map c.self.inside.pool.reserved new_of)) c.take_next-disk.ensures.disks c.args.volume.0 (λ k. (c.take_next-disk.ensures.volume k).0) newest c.push.ensures.capacity)

pub returns : goal.returns
returns g c =
    let items = pushed c.push.result c.self.inside.volumes.items c.push.new.self.items c.take_next-disk.result c.push.ensures.items (sym c.is_err.ensures.value ∙ c.if-is_err.false) in
    let coming : 0 < length (map new_of c.self.inside.pool.reserved) = rw (← c.self.view_is) at c.requires.reserved in
    let newest : All (λ (v : VolumeGrains). v.volume.0 < c.args.volume.0) (map grains_of c.self.inside.volumes.items) = rw (← c.self.view_is) at c.requires.newest in
    let P : List VolumeDiskState → Type 0 = λ vs.
    HasMade (state_of c.self.inside.grain c.self.inside.volumes.items c.self.inside.pool (map g.D.Mdisk.meaning c.self.inside.aside.items) c.self.inside.buffer.items c.self.inside.sums) c.args.volume.0
    (state_of c.self.inside.grain vs c.take_next-disk.new.self (map g.D.Mdisk.meaning c.self.inside.aside.items) c.self.inside.buffer.items c.self.inside.sums) in
    rw (← c.self.view_is)
    (subst P (sym items)
    (has_made c.self.inside.grain c.self.inside.volumes.items c.self.inside.pool c.take_next-disk.new.self _ _ _ c.self.inside.volumes.cap c.self.inside.volumes.cap c.self.inside.aside.cap c.self.invariant c.take_next-disk.result (next_of (map new_of c.self.inside.pool.reserved))
    c.take_next-disk.ensures.kind c.take_next-disk.ensures.zeros c.take_next-disk.ensures.unwritten c.take_next-disk.ensures.unmarked c.take_next-disk.ensures.unarmed c.take_next-disk.ensures.bytes c.take_next-disk.ensures.reserved
    (omega (arith, length-map c.self.inside.pool.reserved new_of)) c.take_next-disk.ensures.disks c.args.volume.0 (λ k. (c.take_next-disk.ensures.volume k).0) newest refl c.take_next-disk.ensures.left c.take_next-disk.ensures.first c.take_next-disk.ensures.taken))
