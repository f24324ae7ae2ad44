-- The copies so far.
use Rattle.std.proofs.Common.{◌≡◌, ◌≤◌, ◌==◌, take}
use Rattle.std.specs.List.{count_by}
use Rattle.fc_base.specs.declared.volume.Mapping.{Mapping}
use Rattle.fc_objects.proofs.mkfcmap.count_copies.Given as goal

abbrev pub invariant-loop-mapping : goal.invariant-loop-mapping
invariant-loop-mapping l = (l.count ≡ count_by (λ (m : Mapping). m.source.0 == l.source.id.0) (take l.mapping-index l.mappings)) × (l.count ≤ l.mapping-index)
