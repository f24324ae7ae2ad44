use Rattle.std.proofs.Common.{◌≡◌, take}
use Rattle.std.specs.Prelude.{fold}
use Rattle.fc_lane_sheet.specs.LaneSheet.{with_map}
use Rattle.fc_lane_sheet.proofs.sheet.add_maps.Given as goal

abbrev pub invariant-loop-map : goal.invariant-loop-map
invariant-loop-map l = l.reached ≡ fold (with_map l.but) l.initial.reached (take l.map-index l.maps)
