use Rattle.std.proofs.Common.{◌∙◌, sym}
use Rattle.fc_lane_sheet.specs.HeldRanges.{held_by}
use Rattle.fc_lane_sheet.proofs.HeldRanges.{answered}
use Rattle.fc_lane_sheet.proofs.kept.kept_by.Goals as goal

pub returns-then-left-eq0 : goal.returns-then-left-eq0
returns-then-left-eq0 g c =
    answered (held_by c.args.lanes.now c.args.slot) c.loop-grain.grain c.loop-grain.ended c.loop-grain.last c.loop-grain.invariant.0 (sym c.loop-grain.invariant.1 ∙ c.if-left-eq0.true) c.closed.result
    c.closed.ensures
