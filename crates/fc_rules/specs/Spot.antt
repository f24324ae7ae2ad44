-- All that matters at one grain before an entry.
use Rattle.std.specs.Prelude.{ℕ, Bool}
use Rattle.fc_base.specs.Column.{Column}
use Rattle.fc_base.specs.Moves.{is_in_place}
use Rattle.fc_base.specs.declared.request.Move.{Move}
use Rattle.fc_entry.specs.Picture.{Content}

-- The chains at the grain, its number in its volumes, what each volume shows there, and which volumes are thin. Volumes are
-- named by their ids, slots by their places.
pub record Spot : Type 0 where
  pub column : Column
  pub number : ℕ
  pub now : ℕ → Content
  pub is_thin : ℕ → Bool

-- The move of a slot, as entries tell it.
abbrev pub move_in : Spot → ℕ → Move
move_in spot k =
    record {
      slot = record { 0 = spot.column.birth k };
      volume = record { 0 = spot.column.volume k };
      grain = record { 0 = spot.number };
      in_place = is_in_place spot.column k;
    }
