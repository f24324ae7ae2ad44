use Rattle.std.proofs.Common.{◌<◌, ◌∙◌, length, ap}
use Rattle.fc_grains.specs.Parts.{VolumeDiskState, disks_in}
use Rattle.fc_grains.proofs.Pooling.{first_taken, rest_taken}
use Rattle.fc_grains.proofs.pool.Pool.take_next.Goals as goal

pub returns-clause-first : goal.returns-clause-first
returns-clause-first g c =
    let some : 0 < length c.self.inside.reserved.items = rw (← c.self.view_is) at c.requires in
    rw (← c.self.view_is)
    (ap (λ (v : VolumeDiskState). v.disk) c.new.ensures
    ∙ c.take_first-disk.ensures.first
    ∙ first_taken record { bytes = c.self.inside.bytes; queues = c.self.inside.queues; reserved = c.self.inside.reserved.items } c.remove-next.result c.self.invariant some c.remove-next.ensures.value)

pub returns-clause-taken : goal.returns-clause-taken
returns-clause-taken g c =
    let some : 0 < length c.self.inside.reserved.items = rw (← c.self.view_is) at c.requires in
    rw (← c.self.view_is)
    (ap disks_in c.take_first-disk.ensures.rest
    ∙ rest_taken record { bytes = c.self.inside.bytes; queues = c.self.inside.queues; reserved = c.self.inside.reserved.items } c.remove-next.result c.self.invariant some c.remove-next.ensures.value)
