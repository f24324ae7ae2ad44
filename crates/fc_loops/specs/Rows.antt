-- Slots by what joins volumes alone, and what a trigger does to them.
use Rattle.std.specs.Prelude.{ℕ, ◌+◌, Bool, true, false, cond, ◌&&◌, eqb, ltb, Option, Some, None, List, length, map, fold, slice_index_or, slice_set, remove, insert, is_some}
use Rattle.fc_base.specs.declared.request.Pair.{Pair}
use Rattle.fc_base.specs.Column.{Shape, first_below, last_below}
use Rattle.fc_base.specs.Sheet.{Slot}
use Rattle.fc_loops.specs.declared.rows.Row.{Row}

abbrev pub no_row : Row
no_row = record { chain = 0; volume = 0; is_live = false }

abbrev pub row_of : Slot → Row
row_of t = record { chain = t.chain; volume = t.volume; is_live = t.is_live }

abbrev pub rows_of : List Slot → List Row
rows_of slots = map row_of slots

abbrev pub row_at : List Row → ℕ → Row
row_at rows k = slice_index_or rows k no_row

-- The place of the live row of a volume.
abbrev pub is_live_row : List Row → ℕ → ℕ → Bool
is_live_row rows v k = (row_at rows k).is_live && eqb (row_at rows k).volume v

unfoldable pub live_row : List Row → ℕ → Option ℕ
live_row rows v = first_below (is_live_row rows v) (length rows)

-- Whether rows stand behind a place in its chain.
abbrev pub is_row_behind : List Row → ℕ → ℕ → Bool
is_row_behind rows k j = ltb k j && eqb (row_at rows j).chain (row_at rows k).chain

unfoldable pub has_row_behind : List Row → ℕ → Bool
has_row_behind rows k = is_some (last_below (is_row_behind rows k) (length rows))

-- ---- a trigger

-- A target leaves its place: its live row becomes old if rows stand behind it, and is taken out otherwise.
abbrev pub row_left : ℕ → List Row → List Row
row_left k rows = cond (has_row_behind rows k) (slice_set rows k (record (row_at rows k) { is_live = false })) (remove rows k)

-- A new live row of a target, directly behind the row of its source.
abbrev pub row_placed : ℕ → ℕ → List Row → List Row
row_placed target k rows = insert rows (k + 1) (record { chain = (row_at rows k).chain; volume = target; is_live = true })

-- What is done at a place, where there is one.
abbrev pub at_row : (ℕ → List Row → List Row) → Option ℕ → List Row → List Row
at_row f None rows = rows
at_row f (Some k) rows = f k rows

abbrev pub rows_started : List Row → Pair → List Row
rows_started rows p =
    let left = at_row row_left (live_row rows p.target.0) rows in
    at_row (row_placed p.target.0) (live_row left p.source.0) left

abbrev pub rows_triggered : List Pair → List Row → List Row
rows_triggered pairs rows = fold rows_started rows pairs

-- ---- the restore graph of rows

abbrev pub row_shape : List Row → Shape
row_shape rows =
    record {
      count = length rows;
      birth = λ k. 0;
      chain = λ k. (row_at rows k).chain;
      volume = λ k. (row_at rows k).volume;
      is_live = λ k. (row_at rows k).is_live;
    }
