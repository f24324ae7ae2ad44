use Rattle.std.proofs.Common.{◌≡◌, ℕ, ◌<◌, false, is_some}
use Rattle.fc_rules.specs.LaneTold.{number_at}
use Rattle.fc_check_lane.specs.Turns.{filled_in}
use Rattle.fc_check_lane.proofs.Turning.{lane_with}
use Rattle.fc_check_lane.proofs.known.Known.least_of.Given as goal

-- none of the grains so far can be filled
abbrev pub invariant-loop-place : goal.invariant-loop-place
invariant-loop-place l = (j : ℕ) → j < l.place → is_some (filled_in l.work l.self l.map.0 (number_at (lane_with l.lane l.lanes l.self.grain) j)) ≡ false
