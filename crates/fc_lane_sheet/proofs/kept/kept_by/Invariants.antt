use Rattle.std.proofs.Common.{◌≡◌}
use Rattle.fc_lane_sheet.specs.HeldRanges.{held_by, held_from, AreFound}
use Rattle.fc_lane_sheet.proofs.kept.kept_by.Given as goal

abbrev pub invariant-loop-grain : goal.invariant-loop-grain
invariant-loop-grain g l = AreFound (held_by l.lanes l.slot) l.grain l.ended l.last × (l.left ≡ held_from (held_by l.lanes l.slot) l.grain)
