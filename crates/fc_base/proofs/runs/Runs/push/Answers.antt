-- Pushed behind the others, the run leaves them canonical; refused, they are as they were.
use Rattle.fc_base.proofs.RunLemmas.{IsCanonical-pushed}
use Rattle.fc_base.proofs.runs.Runs.push.Goals as goal

pub invariant_of-self : goal.invariant_of-self
invariant_of-self c =
    rw c.push.ensures.items
    (IsCanonical-pushed _ _ _ c.self.invariant (rw (← c.self.view_is) at c.requires.behind) c.requires.counts)
