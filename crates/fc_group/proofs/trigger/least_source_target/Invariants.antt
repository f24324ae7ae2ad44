-- The least of the ids so far.
use Rattle.std.proofs.Common.{◌≡◌, take, map}
use Rattle.std.specs.List.{filter}
use Rattle.fc_base.specs.declared.volume.Mapping.{Mapping}
use Rattle.fc_books.specs.Groups.{least}
use Rattle.fc_group.specs.Found.{ids_of, mappings_of, is_some_target}
use Rattle.fc_group.proofs.trigger.least_source_target.Given as goal

abbrev pub invariant-loop-map : goal.invariant-loop-map
invariant-loop-map l =
    ids_of l.least ≡ least (filter (is_some_target l.registry.tables l.maps) (map (λ (m : Mapping). m.source.0) (mappings_of l.registry.tables (take l.map-index l.maps))))
