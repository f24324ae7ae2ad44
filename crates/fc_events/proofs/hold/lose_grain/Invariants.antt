use Rattle.fc_base.specs.SheetStep.{grain_lost}
use Rattle.fc_events.proofs.Volumes.{AreTurned}
use Rattle.fc_events.proofs.hold.lose_grain.Given as goal

-- the slots so far are changed, the others as they were
abbrev pub invariant-loop-entry : goal.invariant-loop-entry
invariant-loop-entry l = AreTurned (grain_lost l.volume l.grain) l.entries l.initial.slots l.entry-index l.slots
