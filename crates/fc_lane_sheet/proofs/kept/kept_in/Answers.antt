use Rattle.std.proofs.Common.{ap, sym, ◌∙◌}
use Rattle.fc_base.specs.SheetView.{held_of, count_true}
use Rattle.fc_lane_sheet.specs.HeldRanges.{held_by}
use Rattle.fc_lane_sheet.specs.LaneSheet.{sheet_of}
use Rattle.fc_lane_sheet.proofs.HeldRanges.{there_of, same_held, kept_answer, kept_none}
use Rattle.fc_lane_sheet.proofs.LaneSheets.{first_is}
use Rattle.fc_lane_sheet.proofs.Readers.{place_of_first, no_place_of_first}
use Rattle.fc_lane_sheet.proofs.kept.kept_in.Goals as goal

pub kept_by-requires-clause-there : goal.kept_by-requires-clause-there
kept_by-requires-clause-there g c =
    let first = first_is c.args.lanes.now c.requires c.index-lanes-0.result c.cascade.result.now c.index-lanes-0.is c.cascade.ensures in
    there_of (sheet_of c.args.lanes.now) c.in-Some.slot c.args.map.0
    (place_of_first c.args.lanes.now c.requires c.cascade.result.now.sheet first c.in-Some.slot c.args.map.0 (sym c.in-Some.ensures.value) c.in-Some.ensures.there)

pub kept_by-requires-clause-counted : goal.kept_by-requires-clause-counted
kept_by-requires-clause-counted g c =
    let first = first_is c.args.lanes.now c.requires c.index-lanes-0.result c.cascade.result.now c.index-lanes-0.is c.cascade.ensures in
    let place = place_of_first c.args.lanes.now c.requires c.cascade.result.now.sheet first c.in-Some.slot c.args.map.0 (sym c.in-Some.ensures.value) c.in-Some.ensures.there in
    c.held_in.ensures ∙ ap count_true (sym (same_held c.args.lanes.now c.in-Some.slot c.args.map.0 place))

pub returns-in-Some : goal.returns-in-Some
returns-in-Some g c =
    let first = first_is c.args.lanes.now c.requires c.index-lanes-0.result c.cascade.result.now c.index-lanes-0.is c.cascade.ensures in
    let place = place_of_first c.args.lanes.now c.requires c.cascade.result.now.sheet first c.in-Some.slot c.args.map.0 (sym c.in-Some.ensures.value) c.in-Some.ensures.there in
    kept_answer (held_by c.args.lanes.now c.in-Some.slot) (held_of (sheet_of c.args.lanes.now).slots c.args.map.0) (same_held c.args.lanes.now c.in-Some.slot c.args.map.0 place) c.kept_by.result c.kept_by.ensures

pub returns-in-None : goal.returns-in-None
returns-in-None g c =
    let first = first_is c.args.lanes.now c.requires c.index-lanes-0.result c.cascade.result.now c.index-lanes-0.is c.cascade.ensures in
    kept_none (sheet_of c.args.lanes.now).slots c.args.map.0
    (no_place_of_first c.args.lanes.now c.requires c.cascade.result.now.sheet first c.args.map.0 (sym c.in-None.ensures.value)) c.new.result c.new.ensures
