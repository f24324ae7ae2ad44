use Rattle.std.proofs.Common.{◌≡◌, ℕ, ◌<◌, false, get_or}
use Rattle.fc_pick.specs.declared.work.WorkFlags.{WorkFlags}
use Rattle.fc_pick.specs.Next.{can_work}
use Rattle.fc_pick.proofs.work.Work.next_clean.Given as goal

-- none so far has the flag and a possible grain
abbrev pub invariant-loop-cleaner : goal.invariant-loop-cleaner
invariant-loop-cleaner g l = (k : ℕ) (d : WorkFlags) → k < l.cleaner-index → can_work (λ row. row.cleans) (g.G.Grid.least_needed l.grid) (get_or l.cleaner-items k d) ≡ false
