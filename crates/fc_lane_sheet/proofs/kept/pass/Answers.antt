use Rattle.fc_lane_sheet.proofs.HeldRanges.{passed_held}
use Rattle.fc_lane_sheet.proofs.kept.pass.Goals as goal

pub returns-in-Ok : goal.returns-in-Ok
returns-in-Ok c = passed_held c.args.ended.now c.args.last c.args.grain c.args.held c.add_grain.new.ended c.in-Ok.range c.if-not-held.false c.in-Ok.ensures
