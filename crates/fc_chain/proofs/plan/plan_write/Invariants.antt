use Rattle.std.proofs.Common.{◌≡◌, length}
use Rattle.fc_places.specs.Olds.{old_after}
use Rattle.fc_chain.proofs.Whole.{WrittenSoFar}
use Rattle.fc_chain.proofs.plan.plan_write.Given as goal

-- what the old slots so far ask for is listed
abbrev pub invariant-loop-old : goal.invariant-loop-old
invariant-loop-old l = record {
  room : l.plan.room ≡ l.fn.plan.room;
  written : WrittenSoFar l.slots l.grain.place l.grain.number l.place l.plan.moves l.fn.plan.room l.volume l.after;
}

abbrev pub decreases-loop-old : goal.decreases-loop-old
decreases-loop-old l = length (old_after l.slots l.volume l.after)
