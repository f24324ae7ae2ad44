-- Grains of a lane.
use Rattle.std.specs.Prelude.{ℕ, ◌+◌, ◌-◌, ◌/◌}

-- How many of a volume's grains a lane has: those whose number leaves the lane's by division by the number of lanes.
abbrev pub grains_in_lane : ℕ → ℕ → ℕ → ℕ
grains_in_lane lane lanes grains = (grains + lanes - 1 - lane) / lanes
