use Rattle.std.proofs.Common.{◌≡◌, List, length, subst, arith}
use Rattle.fc_base.specs.Grain.{grain_bytes}
use Rattle.fc_base.specs.declared.volume.Volume.{Volume}
use Rattle.fc_recovered.specs.Recovered.{AreReadied}
use Rattle.fc_recovered.proofs.Making.{made, made_stands}
use Rattle.fc_recovered.proofs.recovered.Recovered.new.Goals as goal

pub invariant_of-result : goal.invariant_of-result
invariant_of-result g c =
    let room : length c.in-Ok.buffer.items ≡ grain_bytes c.args.grain = omega (arith, c.in-Ok.ensures.len, c.in-Ok.buffer.ok.0, c.bytes.ensures) in
    made c.args.grain c.args.image c.args.disks.items c.in_ok-disks.disks.items c.in-Ok.buffer.items c.requires
    (subst (λ (vs : List Volume). AreReadied c.args.grain vs c.args.disks.items c.in_ok-disks.disks.items) c.as_slice.ensures c.in_ok-disks.ensures.ok) room

pub returns-clause-stands : goal.returns-clause-stands
returns-clause-stands g c now one s =
    made_stands c.args.grain c.args.image c.args.disks.items c.in_ok-disks.disks.items c.requires
    (subst (λ (vs : List Volume). AreReadied c.args.grain vs c.args.disks.items c.in_ok-disks.disks.items) c.as_slice.ensures c.in_ok-disks.ensures.ok) now one s
