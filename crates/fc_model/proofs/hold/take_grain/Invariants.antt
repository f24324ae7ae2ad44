use Rattle.std.proofs.Common.{◌≡◌, ◌++◌, map, take, drop}
use Rattle.fc_base.specs.SheetStep.{grain_taken}
use Rattle.fc_model.proofs.hold.take_grain.Given as goal

-- the slots so far are changed, the others as they were
abbrev pub invariant-loop-slot : goal.invariant-loop-slot
invariant-loop-slot l = l.slots ≡ map (grain_taken l.volume l.grain) (take l.slot-index l.initial.slots) ++ drop l.slot-index l.initial.slots
