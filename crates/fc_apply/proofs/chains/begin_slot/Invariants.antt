use Rattle.std.proofs.Common.{◌-◌, length}
use Rattle.fc_apply.proofs.Beginning.{HasFirst}
use Rattle.fc_apply.proofs.chains.begin_slot.Given as goal

-- the slot holds the grains of the set before this one
abbrev pub invariant-loop-place : goal.invariant-loop-place
invariant-loop-place l = HasFirst l.initial.cascade l.pair.map.0 l.same l.from l.cascade

abbrev pub decreases-loop-place : goal.decreases-loop-place
decreases-loop-place l = length l.same - l.from
