-- The ids so far.
use Rattle.std.proofs.Common.{◌≡◌, map, take}
use Rattle.std.specs.List.{filter}
use Rattle.fc_base.specs.declared.volume.Mapping.{Mapping}
use Rattle.fc_starts.specs.Choosing.{is_chosen}
use Rattle.fc_starts.proofs.chosen.chosen_ids.Given as goal

abbrev pub invariant-loop-mapping : goal.invariant-loop-mapping
invariant-loop-mapping l = l.ids ≡ map (λ (m : Mapping). m.id) (filter (is_chosen l.chosen) (take l.mapping-index l.mappings))
