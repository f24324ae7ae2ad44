use Rattle.std.proofs.Common.{◌≡◌, map, take}
use Rattle.fc_base.specs.declared.ids.VolId.{VolId}
use Rattle.fc_loops.specs.Joins.{volume_at}
use Rattle.fc_loops.proofs.links.named.Given as goal

-- the first nodes are named
abbrev pub invariant-loop-node : goal.invariant-loop-node
invariant-loop-node l = map (λ (w : VolId). w.0) l.names ≡ map (volume_at l.volumes) (take l.node-index l.nodes)
