-- One disk more was counted.
use Rattle.std.proofs.Common.{◌<◌, ◌%◌, ◌==◌, List, ap, cond, arith, length, map, sym, ◌∙◌}
use Rattle.std.proofs.lemmas.List.{get_or-map, length-map}
use Rattle.fc_base.specs.Pools.{Pool}
use Rattle.fc_base.specs.declared.disk.DiskKind.{DiskKind}
use Rattle.fc_grains.proofs.KindCounts.{flat-cons}
use Rattle.fc_mdisk.specs.Disk.{DiskState, is_flat}
use Rattle.fc_top.proofs.TracedLemmas.{counted, flat-within, left_at, thin_first, thin-within}
use Rattle.fc_top.proofs.traced.disks_of_lane.Goals as goal

pub loop-place-preserved : goal.loop-place-preserved
loop-place-preserved g c =
    let at = c.loop-place.place in
    let disks : List DiskState = map g.D.Mdisk.meaning c.args.disks.now in
    let d : DiskState = g.D.Mdisk.meaning c.index-disks-place.result in
    let lt : at < length disks = omega (arith, c.loop-place-test.true, length-map c.args.disks.now g.D.Mdisk.meaning) in
    let of = c.kind.ensures ∙ ap (λ x. (g.D.Mdisk.meaning x).kind) c.index-disks-place.is
    ∙ sym (ap (λ (x : DiskState). x.kind) (get_or-map g.D.Mdisk.meaning c.args.disks.now at c.index-disks-place.result d c.loop-place-test.true)) in
    record {
      flat = counted (λ (pool : Pool). pool.flat) (λ (kind : DiskKind). cond (is_flat kind) 1 0) flat-cons c.args.lane at disks d lt
          c.loop-place.of.flat c.with_disk-of.result.flat (left_at c.args.lane disks 0).flat c.kind.result of
          c.with_disk-of.ensures.flat c.loop-place.invariant.flat;
      thin = counted (λ (pool : Pool). pool.thin) (λ (kind : DiskKind). cond (is_flat kind) 0 1) thin_first c.args.lane at disks d lt
          c.loop-place.of.thin c.with_disk-of.result.thin (left_at c.args.lane disks 0).thin c.kind.result of
          c.with_disk-of.ensures.thin c.loop-place.invariant.thin;
      flat_within = flat-within (at % 4 == c.args.lane) (is_flat c.kind.result) c.loop-place.of.flat c.with_disk-of.result.flat at
          c.with_disk-of.ensures.flat c.loop-place.invariant.flat_within;
      thin_within = thin-within (at % 4 == c.args.lane) (is_flat c.kind.result) c.loop-place.of.thin c.with_disk-of.result.thin at
          c.with_disk-of.ensures.thin c.loop-place.invariant.thin_within;
    }
