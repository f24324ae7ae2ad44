-- What stands behind the words that begin a line.
use Rattle.std.specs.Prelude.{ℕ, List, Result, Ok, codes}
use Rattle.fc_reading.specs.Readers.{map_read, one_of_at, then_read}
use Rattle.fc_reading_notes.specs.Lines.{id_at}

-- nothing: the words said it all
abbrev pub said : {V : Type 0} → V → List ℕ → Result (V × List ℕ) ℕ
said value bytes = Ok (value, bytes)

-- a number, and the end of the line
abbrev pub numbered : {V : Type 0} → (ℕ → V) → List ℕ → Result (V × List ℕ) ℕ
numbered value = map_read value (id_at (codes "\n"))

-- two numbers, and the end of the line
abbrev pub two_at : List ℕ → Result ((ℕ × ℕ) × List ℕ) ℕ
two_at = then_read (id_at (codes " ")) (λ first. id_at (codes "\n"))

abbrev pub twice_numbered : {V : Type 0} → (ℕ × ℕ → V) → List ℕ → Result (V × List ℕ) ℕ
twice_numbered value = map_read value two_at

-- one of some words, and what may stand behind it, by its number
abbrev pub begun_at : {V : Type 0} → List (List ℕ) → (ℕ → List ℕ → Result (V × List ℕ) ℕ) → List ℕ → Result (V × List ℕ) ℕ
begun_at words behind = map_read (λ x. x.1) (then_read (one_of_at words) behind)
