use Rattle.std.proofs.Common.{◌≡◌, take, map}
use Rattle.std.specs.Prelude.{filter}
use Rattle.fc_base.specs.declared.volume.Mapping.{Mapping}
use Rattle.fc_lane_sheet.specs.LaneSheet.{is_owner_among}
use Rattle.fc_lane_sheet.proofs.sheet.owners.Given as goal

abbrev pub invariant-loop-mapping : goal.invariant-loop-mapping
invariant-loop-mapping g l = l.maps ≡ map (λ (m : Mapping). m.id) (filter (λ (m : Mapping). is_owner_among l.names l.lane.chains.sheet m.id.0) (take l.mapping-index l.mappings))
