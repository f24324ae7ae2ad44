use Rattle.std.proofs.Common.{◌≡◌, ◌<◌, ◌-◌, ◌++◌, take, drop, length}
use Rattle.fc_base.specs.SheetStep.{split_from, relabelled}
use Rattle.fc_slots.proofs.split.split_chain.Given as goal

-- the slots so far are divided, the others as they were
abbrev pub invariant-loop-behind : goal.invariant-loop-behind
invariant-loop-behind l = record {
  behind : l.place < l.behind;
  so_far : l.slots ≡ relabelled (split_from l.from l.to) l.place (take l.behind l.fn.slots) ++ drop l.behind l.fn.slots;
}

abbrev pub decreases-loop-behind : goal.decreases-loop-behind
decreases-loop-behind l = length l.slots - l.behind
