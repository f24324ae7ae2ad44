-- Pushed behind the others, the range leaves them rising; refused, they are as they were.
use Rattle.fc_base.proofs.RangeLemmas.{IsRising-pushed}
use Rattle.fc_base.proofs.ranges.Ranges.push.Goals as goal

pub invariant_of-self : goal.invariant_of-self
invariant_of-self c =
    rw c.push.ensures.items (IsRising-pushed _ _ _ c.self.invariant (rw (← c.self.view_is) at c.requires))
