-- Room for the moves of an entry.
use Rattle.std.specs.Prelude.{ℕ, Option, Some, None}
use Rattle.fc_base.specs.MovePlan.{PlannedMoves}

-- For how many moves there is room in a plan that may be there.
abbrev pub room_of : Option PlannedMoves → ℕ
room_of None = 0
room_of (Some plan) = plan.room
