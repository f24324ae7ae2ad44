use Rattle.std.proofs.Common.{◌≡◌, ℕ, ◌<◌, false, get_or}
use Rattle.fc_base.specs.declared.ids.MapId.{MapId}
use Rattle.fc_pick.specs.Next.{can_work}
use Rattle.fc_pick.specs.declared.work.WorkFlags.{WorkFlags}
use Rattle.fc_check_lane.specs.Turns.{has_work, least_in}
use Rattle.fc_check_lane.proofs.known.Known.next_work.Given as goal

-- no mapping so far has such work
abbrev pub invariant-loop-row : goal.invariant-loop-row
invariant-loop-row l = (j : ℕ) (d : WorkFlags) → j < l.row-index → can_work (has_work l.work) (λ (m : MapId). least_in l.work l.self l.lane m.0) (get_or l.row-items j d) ≡ false
