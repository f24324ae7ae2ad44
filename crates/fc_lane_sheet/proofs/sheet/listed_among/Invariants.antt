use Rattle.std.proofs.Common.{◌≡◌, take, map}
use Rattle.std.specs.Prelude.{filter}
use Rattle.fc_base.specs.declared.volume.Mapping.{Mapping}
use Rattle.fc_lane_sheet.specs.LaneSheet.{has_map}
use Rattle.fc_lane_sheet.proofs.sheet.listed_among.Given as goal

abbrev pub invariant-loop-mapping : goal.invariant-loop-mapping
invariant-loop-mapping l = l.maps ≡ map (λ (m : Mapping). m.id) (filter (λ (m : Mapping). has_map l.among m.id) (take l.mapping-index l.mappings))
