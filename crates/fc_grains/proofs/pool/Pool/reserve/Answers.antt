use Rattle.std.proofs.Common.{◌<◌, ◌∙◌, map, ap, sym}
use Rattle.fc_base.specs.Pools.{of_kind}
use Rattle.fc_mdisk.specs.Disk.{cleared}
use Rattle.fc_grains.specs.Grains.{reserved_of}
use Rattle.fc_grains.specs.Parts.{PoolState, QueuesState, disks_in, disks_of, left_in, new_of}
use Rattle.fc_grains.proofs.Pooling.{all_cleared}
use Rattle.fc_grains.proofs.Readying.{formatted_free, reserved_ready}
use Rattle.fc_grains.proofs.pool.Pool.reserve.Goals as goal

pub invariant_of-self-3 : goal.invariant_of-self-3
invariant_of-self-3 g c =
    let some : reserved_of c.args.kind (map new_of c.self.inside.reserved.items) < of_kind c.args.kind (left_in c.self.inside.queues) = rw (← c.self.view_is) at c.requires in
    reserved_ready c.push.result c.args.kind c.in-Ok.lost c.self.inside.bytes c.args.grains c.self.inside.reserved.items c.reserve.new.self.items c.push.new.self.items c.self.inside.queues c.format.new.self
    c.reserved_of-place.result c.in-Ok.ensures c.reserve.ensures.items c.push.ensures.items (sym c.is_err-2.ensures.value ∙ c.if-is_err-2.false)
    c.reserved_of-place.ensures some c.in-Ok-format.ensures.ok c.self.invariant

pub returns-clause-cleared : goal.returns-clause-cleared
returns-clause-cleared g c =
    ap (λ (q : QueuesState). map cleared (disks_in q)) c.in-Ok-format.ensures.ok
    ∙ all_cleared c.args.kind c.self.inside.queues c.reserved_of-place.result c.args.grains c.self.inside.bytes
    ∙ ap (λ (p : PoolState). map cleared (disks_of p)) c.self.view_is

pub returns-clause-formatted : goal.returns-clause-formatted
returns-clause-formatted g c =
    let some : reserved_of c.args.kind (map new_of c.self.inside.reserved.items) < of_kind c.args.kind (left_in c.self.inside.queues) = rw (← c.self.view_is) at c.requires in
    rw (← c.self.view_is)
    (formatted_free c.args.kind c.self.inside.bytes c.args.grains c.self.inside.reserved.items c.reserve.new.self.items c.self.inside.queues c.format.new.self
    c.reserved_of-place.result c.reserve.ensures.items c.reserved_of-place.ensures some c.in-Ok-format.ensures.ok)
