-- A list of moves with a fixed room.
use Rattle.std.specs.Prelude.{ℕ, List}
use Rattle.fc_base.specs.declared.request.Move.{Move}

-- The moves so far, and how many there may be.
pub record PlannedMoves : Type 0 where
  pub moves : List Move
  pub room : ℕ
