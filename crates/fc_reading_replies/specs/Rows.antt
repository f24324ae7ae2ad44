-- The rows of a report, read from the left, each up to its newline. None begins with `+`, as a line of what an
-- entry did does.
use Rattle.std.specs.Prelude.{◌≡◌, ◌≢◌, ℕ, zero, suc, ◌==◌, false, if◌then◌else◌, List, [], ◌∷◌, ◌++◌, length, Result, Ok, Err, codes}
use Rattle.std.specs.List.{flat_map}
use Rattle.fc_reading.specs.Readers.{◌>>=◌, map_read, then_read}
use Rattle.fc_reading_notes.specs.Lists.{starts_with}
use Rattle.fc_reading_notes.specs.Told.{Each}

-- bytes without a newline, of which the first isn't `+`
abbrev pub IsRow : List ℕ → Type 0
IsRow row = Each (λ byte. byte ≢ 10) row × (starts_with 43 row ≡ false)

-- so many rows
abbrev pub AreRows : ℕ → List (List ℕ) → Type 0
AreRows count rows = (length rows ≡ count) × Each IsRow rows

abbrev pub row_line : List ℕ → List ℕ
row_line row = row ++ codes "\n"

abbrev pub rows_lines : List (List ℕ) → List ℕ
rows_lines rows = flat_map row_line rows

-- the bytes up to a newline
abbrev pub line_from : List ℕ → Result (List ℕ × List ℕ) ℕ
line_from [] = Err 0
line_from (byte ∷ bytes) = if byte == 10 then Ok ([], bytes) else line_from bytes >>= (λ x. Ok (byte ∷ x.0, x.1))

abbrev pub row_at : List ℕ → Result (List ℕ × List ℕ) ℕ
row_at bytes = if starts_with 43 bytes then Err (length bytes) else line_from bytes

-- a row and those behind it
abbrev pub and_rows : List ℕ × List (List ℕ) → List (List ℕ)
and_rows x = x.0 ∷ x.1

abbrev pub rows_at : ℕ → List ℕ → Result (List (List ℕ) × List ℕ) ℕ
rows_at zero bytes = Ok ([], bytes)
rows_at (suc count) bytes = map_read and_rows (then_read row_at (λ row. rows_at count)) bytes
