-- The moves of a fill or a write made one after the other, each step judged on the column as it is then.
use Rattle.std.specs.Prelude.{ℕ, zero, suc, Bool, true, false, cond, Option, Some, None, List, [], ◌∷◌, fold}
use Rattle.fc_base.specs.Column.{Column, first_reader, old_slots}
use Rattle.fc_base.specs.Moves.{is_in_place, next_behind, moved}

-- How far the moves have come: the column now, and the moves made with their marks, the latest first.
pub record Progress : Type 0 where
  pub column : Column
  pub made : List (ℕ × Bool)

abbrev pub begin_at : Column → Progress
begin_at c = record { column = c; made = [] }

abbrev pub make_move : Progress → ℕ → Bool → Progress
make_move p m in_place = record { column = moved p.column m in_place; made = (m, in_place) ∷ p.made }

-- The slot, if there is one, is filled.
abbrev pub fill_found : (ℕ → Progress → Progress) → Progress → Option ℕ → Progress
fill_found fill p None = p
fill_found fill p (Some a) = fill a p

-- An older slot is taken, if it holds the grain: the first live slot other than `but` that has it as holder is filled.
abbrev pub serve : (ℕ → Progress → Progress) → ℕ → Progress → ℕ → Progress
serve fill but p o = cond (p.column.held o) (fill_found fill p (first_reader p.column but o)) p

-- A fill of slot `m`: in place it is one move; otherwise each older slot of its volume is taken, least birth first, and
-- then the slot is filled. The depth bounds how often one fill waits for another.
unfoldable pub fill_now : ℕ → ℕ → Progress → Progress
fill_now zero m p = p
fill_now (suc depth) m p =
    elim (is_in_place p.column m) [
      | true ↦ make_move p m true
      | false ↦ make_move (fold (λ q o. serve (λ a r. fill_now depth a r) m q o) p (old_slots p.column.shape (p.column.volume m))) m false
    ]

-- The moves of a write to the volume whose live slot is `t`: each older slot of the volume is taken, least birth first, and
-- then the slot behind `t` is filled, if one waits there.
unfoldable pub write_now : ℕ → ℕ → Progress → Progress
write_now depth t p =
    let q = fold (λ q o. serve (fill_now depth) t q o) p (old_slots p.column.shape (p.column.volume t)) in
    fill_found (fill_now depth) q (next_behind q.column t)
