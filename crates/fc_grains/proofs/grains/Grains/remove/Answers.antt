use Rattle.std.proofs.Common.{◌∙◌, ◌++◌, ◌∷◌, [], List, map, ap, sym, subst, arith}
use Rattle.std.proofs.lemmas.List.{map-append}
use Rattle.fc_mdisk.specs.Disk.{DiskState}
use Rattle.fc_grains.specs.Calls.{HasRemoved}
use Rattle.fc_grains.specs.Kept.{IsKept, state_of}
use Rattle.fc_grains.specs.Parts.{VolumeDiskState}
use Rattle.fc_grains.proofs.Finding.{at_within, at_found}
use Rattle.fc_grains.proofs.Moving.{kept_removed, has_removed}
use Rattle.fc_grains.proofs.Readying.{pushed}
use Rattle.fc_grains.proofs.grains.Grains.remove.Goals as goal

pub invariant_of-self : goal.invariant_of-self
invariant_of-self g c =
    let put = ap (map g.D.Mdisk.meaning) (pushed c.push.result c.self.inside.aside.items c.push.new.self.items c.into_cleared_disk-disk.result c.push.ensures.items (sym c.is_err.ensures.value ∙ c.if-is_err.false))
    ∙ map-append g.D.Mdisk.meaning c.self.inside.aside.items (c.into_cleared_disk-disk.result ∷ [])
    ∙ ap (λ (d : DiskState). map g.D.Mdisk.meaning c.self.inside.aside.items ++ d ∷ []) c.into_cleared_disk-disk.ensures in
    let P : List VolumeDiskState → Type 0 = λ vs. IsKept c.self.inside.grain vs c.self.inside.pool (map g.D.Mdisk.meaning c.push.new.self.items) c.self.inside.buffer.items c.self.inside.sums c.remove.new.self.cap c.push.new.self.cap in
    subst P (sym c.remove.ensures.items)
    (kept_removed c.self.inside.grain c.self.inside.volumes.items c.self.inside.pool _ _ _ _ _ _ _ c.self.invariant c.place_of-place.result (at_within _ _ _ c.deref.ensures.value c.place_of-place.ensures.in_range) c.remove.result c.remove.ensures.value c.args.volume.0 (at_found _ _ _ _ c.deref.ensures.value c.place_of-place.ensures.found) _ put
    (omega (arith, c.remove.ensures.capacity)) c.push.ensures.capacity)

pub returns : goal.returns
returns g c =
    let put = ap (map g.D.Mdisk.meaning) (pushed c.push.result c.self.inside.aside.items c.push.new.self.items c.into_cleared_disk-disk.result c.push.ensures.items (sym c.is_err.ensures.value ∙ c.if-is_err.false))
    ∙ map-append g.D.Mdisk.meaning c.self.inside.aside.items (c.into_cleared_disk-disk.result ∷ [])
    ∙ ap (λ (d : DiskState). map g.D.Mdisk.meaning c.self.inside.aside.items ++ d ∷ []) c.into_cleared_disk-disk.ensures in
    let P : List VolumeDiskState → Type 0 = λ vs.
    HasRemoved (state_of c.self.inside.grain c.self.inside.volumes.items c.self.inside.pool (map g.D.Mdisk.meaning c.self.inside.aside.items) c.self.inside.buffer.items c.self.inside.sums) c.args.volume.0
    (state_of c.self.inside.grain vs c.self.inside.pool (map g.D.Mdisk.meaning c.push.new.self.items) c.self.inside.buffer.items c.self.inside.sums) in
    rw (← c.self.view_is)
    (subst P (sym c.remove.ensures.items)
    (has_removed c.self.inside.grain c.self.inside.volumes.items c.self.inside.pool _ _ _ c.self.inside.volumes.cap c.self.inside.volumes.cap c.self.inside.aside.cap c.self.inside.aside.cap c.self.invariant c.place_of-place.result (at_within _ _ _ c.deref.ensures.value c.place_of-place.ensures.in_range) c.remove.result c.remove.ensures.value c.args.volume.0 (at_found _ _ _ _ c.deref.ensures.value c.place_of-place.ensures.found) _ put))
