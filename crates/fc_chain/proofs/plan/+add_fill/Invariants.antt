use Rattle.std.proofs.Common.{◌≡◌, length}
use Rattle.fc_places.specs.Olds.{old_after}
use Rattle.fc_chain.proofs.Plans.{AddedSoFar}
use Rattle.fc_chain.proofs.plan.+add_fill.Given as goal

abbrev pub decreases-add_fill : goal.decreases-add_fill
decreases-add_fill l = l.depth

-- what the old slots so far ask for is listed
abbrev pub invariant-loop-old : goal.invariant-loop-old
invariant-loop-old l = record {
  room : l.plan.room ≡ l.fn.plan.room;
  added : AddedSoFar l.slots l.grain.place l.grain.number l.depth l.place l.fn.plan.moves l.plan.moves l.fn.plan.room l.volume l.after;
}

abbrev pub decreases-loop-old : goal.decreases-loop-old
decreases-loop-old l = length (old_after l.slots l.volume l.after)
