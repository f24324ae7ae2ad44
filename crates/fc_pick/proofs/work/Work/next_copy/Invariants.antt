use Rattle.std.proofs.Common.{◌≡◌, ℕ, ◌<◌, false, get_or}
use Rattle.fc_pick.specs.declared.work.WorkFlags.{WorkFlags}
use Rattle.fc_pick.specs.Next.{can_work}
use Rattle.fc_pick.proofs.work.Work.next_copy.Given as goal

-- none so far has the flag and a possible grain
abbrev pub invariant-loop-copier : goal.invariant-loop-copier
invariant-loop-copier g l = (k : ℕ) (d : WorkFlags) → k < l.copier-index → can_work (λ row. row.copies) (g.G.Grid.least_lacking l.grid) (get_or l.copier-items k d) ≡ false
