use Rattle.std.proofs.Common.{◌≡◌, ◌++◌, map, take, drop}
use Rattle.fc_base.specs.SheetStep.{split_from}
use Rattle.fc_model.proofs.hold.join_chain.Given as goal

-- the slots so far are changed, the others as they were
abbrev pub invariant-loop-slot : goal.invariant-loop-slot
invariant-loop-slot l = l.slots ≡ map (split_from l.chain l.other) (take l.slot-index l.initial.slots) ++ drop l.slot-index l.initial.slots
