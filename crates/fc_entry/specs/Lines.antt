-- The lines of a session's bytes.
use Rattle.std.specs.Prelude.{ℕ, ◌-◌, ◌==◌, cond, List, [], ◌∷◌, ◌++◌, fold, length, take, slice_index_or}

-- the lines that have ended, and the bytes of the one that hasn't
pub record Lined : Type 0 where
  pub ended : List (List ℕ)
  pub unended : List ℕ

-- a line without the carriage return at its end, if it has one
abbrev pub without_return : List ℕ → List ℕ
without_return line = cond (slice_index_or line (length line - 1) 0 == 13) (take (length line - 1) line) line

-- one more byte: a newline ends the open line, with a carriage return before it; any other byte joins it
abbrev pub line_step : Lined → ℕ → Lined
line_step lined byte =
    cond (byte == 10)
    record { ended = lined.ended ++ without_return lined.unended ∷ []; unended = [] }
    record { ended = lined.ended; unended = lined.unended ++ byte ∷ [] }

abbrev pub lined : List ℕ → Lined
lined bytes = fold line_step record { ended = []; unended = [] } bytes

-- the lines that ended in these bytes
abbrev pub ended_lines : List ℕ → List (List ℕ)
ended_lines bytes = (lined bytes).ended

-- the line that the end of input ends, if any byte of it is there
abbrev pub last_line : List ℕ → List (List ℕ)
last_line [] = []
last_line (byte ∷ bytes) = (byte ∷ bytes) ∷ []

-- all lines of these bytes, the end of input after them
abbrev pub all_lines : List ℕ → List (List ℕ)
all_lines bytes = ended_lines bytes ++ last_line (lined bytes).unended
