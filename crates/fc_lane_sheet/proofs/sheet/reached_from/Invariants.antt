use Rattle.fc_lane_sheet.specs.LaneSheet.{sheet_of, Reached}
use Rattle.fc_lane_sheet.proofs.sheet.reached_from.Given as goal

abbrev pub invariant-loop-turn : goal.invariant-loop-turn
invariant-loop-turn g l = Reached (sheet_of l.lanes) l.map l.turn l.reached
