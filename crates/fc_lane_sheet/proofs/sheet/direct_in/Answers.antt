use Rattle.std.proofs.Common.{List, refl, sym, ◌∙◌, subst}
use Rattle.fc_base.specs.SheetView.{AreMappings, ReadsMapping}
use Rattle.fc_base.specs.declared.ids.MapId.{MapId}
use Rattle.fc_lane_sheet.specs.LaneSheet.{sheet_of}
use Rattle.fc_lane_sheet.proofs.LaneSheets.{first_is}
use Rattle.fc_lane_sheet.proofs.Readers.{place_of_first, no_place_of_first, there_in_lanes, direct_answer, no_mappings}
use Rattle.fc_lane_sheet.proofs.sheet.direct_in.Goals as goal

pub readers_of-requires : goal.readers_of-requires
readers_of-requires g c =
    let first = first_is c.args.lanes.now c.requires.have c.index-lanes-0.result c.cascade.result.now c.index-lanes-0.is c.cascade.ensures in
    let place = place_of_first c.args.lanes.now c.requires.have c.cascade.result.now.sheet first c.in-Some.slot c.args.map.0 (sym c.in-Some.ensures.value) c.in-Some.ensures.there in
    there_in_lanes c.args.lanes.now c.requires.have c.in-Some.slot place.place place.named

pub returns-in-Ok : goal.returns-in-Ok
returns-in-Ok g c =
    let first = first_is c.args.lanes.now c.requires.have c.index-lanes-0.result c.cascade.result.now c.index-lanes-0.is c.cascade.ensures in
    let place = place_of_first c.args.lanes.now c.requires.have c.cascade.result.now.sheet first c.in-Some.slot c.args.map.0 (sym c.in-Some.ensures.value) c.in-Some.ensures.there in
    let again = first_is c.args.lanes.now c.requires.have c.index-lanes-0-in-Ok.result c.index-lanes-0-in-Ok.result.chains c.index-lanes-0-in-Ok.is refl in
    direct_answer c.args.lanes.now c.requires.have c.args.mappings.now c.requires.listed c.index-lanes-0-in-Ok.result.chains.sheet again
    c.in-Some.slot c.args.map.0 place c.as_slice.result.now (c.as_slice.ensures ∙ c.in-Ok.ensures) c.owners.result c.owners.ensures

pub returns-in-None : goal.returns-in-None
returns-in-None g c =
    let first = first_is c.args.lanes.now c.requires.have c.index-lanes-0.result c.cascade.result.now c.index-lanes-0.is c.cascade.ensures in
    let P : List MapId → Type 0 = λ z. AreMappings (ReadsMapping (sheet_of c.args.lanes.now).slots c.args.map.0) z in
    subst P (sym c.new.ensures)
    (no_mappings (sheet_of c.args.lanes.now) c.args.map.0
    (no_place_of_first c.args.lanes.now c.requires.have c.cascade.result.now.sheet first c.args.map.0 (sym c.in-None.ensures.value)))
