use Rattle.fc_lane_sheet.proofs.Dependents.{dependents_answer}
use Rattle.fc_lane_sheet.proofs.sheet.dependents_in.Goals as goal

pub returns-in-Ok : goal.returns-in-Ok
returns-in-Ok g c =
    dependents_answer c.args.lanes.now c.requires.have c.args.mappings.now c.requires.listed c.args.map c.in-Ok.reached c.as_slice.result.now c.as_slice.ensures c.in-Ok.ensures
    c.listed_among.result c.listed_among.ensures
