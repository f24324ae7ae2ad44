-- How a report is laid out: rows of fields under their headings, or one object column by column. Text is a list of bytes.
use Rattle.std.specs.Prelude.{ℕ, ◌-◌, max, List, [], ◌∷◌, ◌++◌, length, map, fold, replicate, slice_index_or, Option, Some, None}
use Rattle.std.specs.List.{join_with_byte, range_with_len}
use Rattle.std.specs.Option.{unwrap_or}

-- A column has a heading, and a field for each object.
pub record ReportColumn (X : Type 0) : Type 0 where
  pub heading : List ℕ
  pub field : X → List ℕ

abbrev pub report_column : {X : Type 0} → List ℕ → (X → List ℕ) → ReportColumn X
report_column heading field = record { heading = heading; field = field }

-- ---- a table

-- The headings, and then a row for each object.
abbrev pub headings : {X : Type 0} → List (ReportColumn X) → List (List ℕ)
headings columns = map (λ c. c.heading) columns

abbrev pub fields : {X : Type 0} → List (ReportColumn X) → X → List (List ℕ)
fields columns x = map (λ c. c.field x) columns

abbrev pub table : {X : Type 0} → List (ReportColumn X) → List X → List (List (List ℕ))
table columns xs = headings columns ∷ map (fields columns) xs

-- ---- its text

-- A column is as wide as its longest field, headings included. The last column has no width.
abbrev pub width_at : List (List (List ℕ)) → ℕ → ℕ
width_at rows k = fold (λ width row. max width (length (slice_index_or row k []))) 0 rows

abbrev pub widths : List (List (List ℕ)) → List ℕ
widths [] = []
widths (row ∷ rows) = map (width_at (row ∷ rows)) (range_with_len 0 (length row - 1))

-- A text is filled with spaces at its right, up to a width; and so are the fields of a row, each up to its column's.
abbrev pub fill : ℕ → List ℕ → List ℕ
fill width text = text ++ replicate (width - length text) 32

abbrev pub filled : List ℕ → List (List ℕ) → List (List ℕ)
filled [] texts = texts
filled (width ∷ widths) [] = []
filled (width ∷ widths) (text ∷ texts) = fill width text ∷ filled widths texts

-- With a delimiter the fields of a row stand as they are, with it between each two. Without one they stand below those of
-- the row above, with a space between each two.
abbrev pub laid_out : Option ℕ → List (List (List ℕ)) → List (List ℕ)
laid_out (Some delim) rows = map (join_with_byte delim) rows
laid_out None rows = map (λ row. join_with_byte 32 (filled (widths rows) row)) rows

-- ---- one object

-- A row for each column: its heading, the delimiter, by default a space, and the object's field.
abbrev pub view : {X : Type 0} → Option ℕ → List (ReportColumn X) → X → List (List ℕ)
view delim columns x = map (λ c. join_with_byte (unwrap_or delim 32) (c.heading ∷ c.field x ∷ [])) columns
