-- Which grain a worker's turn takes, and what it is asked.
use Rattle.std.specs.Prelude.{◌≡◌, ℕ, ◌%◌, Option, IsSome}
use Rattle.fc_base.specs.declared.request.Pick.{Pick}
use Rattle.fc_base.specs.declared.request.Pick.TheVariants.{Any, Grain}
use Rattle.fc_base.specs.declared.request.Request.{Request}
use Rattle.fc_base.specs.declared.request.Request.TheVariants.{Copy, Clean, CopyTurn, CleanTurn}
use Rattle.fc_rules.specs.LaneTold.{LaneOf, place_of}

-- A grain that is named is one of the lane, and one that can be filled.
abbrev pub CanPick : LaneOf → (ℕ → ℕ → Option ℕ) → Pick → Type 0
CanPick l filled Any = Unit {0}
CanPick l filled (Grain m g) = (g.0 % l.lanes ≡ l.lane) × IsSome (filled m.0 (place_of l g.0))

-- What is asked: the lane's turn, or the grain that is named.
abbrev pub copy_of : ℕ → Pick → Request
copy_of lane Any = CopyTurn lane
copy_of lane (Grain m g) = Copy m g

abbrev pub clean_of : ℕ → Pick → Request
clean_of lane Any = CleanTurn lane
clean_of lane (Grain m g) = Clean m g
