-- The grains of one lane.
use Rattle.std.specs.Prelude.{ℕ, ◌+◌, ◌-◌, ◌*◌, ◌/◌, ◌^◌, ◌<◌}

-- How many of a volume's grains the lane has.
abbrev pub lane_grains : ℕ → ℕ → ℕ → ℕ
lane_grains lane lanes grains = (grains + lanes - 1 - lane) / lanes

-- The numbers of so many grains of a lane are numbers of 32 bits.
abbrev pub AreNumbered : ℕ → ℕ → ℕ → Type 0
AreNumbered lane lanes count = (p : ℕ) → p < count → p * lanes + lane < 2 ^ 32
