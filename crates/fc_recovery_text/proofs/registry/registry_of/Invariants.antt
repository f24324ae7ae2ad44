use Rattle.std.proofs.Common.{◌≡◌, [], take}
use Rattle.fc_recovery_text.proofs.registry.registry_of.Given as goal

-- the volumes so far
abbrev pub invariant-loop-volume : goal.invariant-loop-volume
invariant-loop-volume l = l.registry.tables ≡ record { volumes = take l.volume-index l.image.volumes; mappings = []; groups = [] }

-- all volumes, and the groups so far
abbrev pub invariant-loop-group : goal.invariant-loop-group
invariant-loop-group l = l.registry.tables ≡ record { volumes = l.image.volumes; mappings = []; groups = take l.group-index l.image.groups }

-- all volumes and groups, and the mappings so far
abbrev pub invariant-loop-mapping : goal.invariant-loop-mapping
invariant-loop-mapping l = l.registry.tables ≡ record { volumes = l.image.volumes; mappings = take l.mapping-index l.image.mappings; groups = l.image.groups }
