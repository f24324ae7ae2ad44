-- What was taken of a session's bytes, and which lines they are.
use Rattle.std.specs.Prelude.{◌≡◌, ◌⊎◌, ℕ, List, [], ◌++◌, IfSome}
use Rattle.std.specs.Option.{option_map}
use Rattle.fc_entry.specs.Lines.{ended_lines, all_lines}
use Rattle.fc_io.specs.Source.{SourceState}

-- the greatest input
abbrev pub input_limit : ℕ
input_limit = 67108864

-- the source gave these bytes, where it says what it has left
abbrev pub Gave : SourceState → List ℕ → SourceState → Type 0
Gave before bytes after = before.left ≡ option_map (λ rest. bytes ++ rest) after.left

-- the source is at its end, where it says what it has left
abbrev pub IsAtEnd : SourceState → Type 0
IsAtEnd source = IfSome source.left (λ rest. rest ≡ [])

-- the lines of the bytes that were taken: those that ended, and a last one without a newline only where the source is at
-- its end
abbrev pub AreLines : SourceState → List ℕ → List (List ℕ) → Type 0
AreLines source bytes lines = (lines ≡ ended_lines bytes) ⊎ (IsAtEnd source × (lines ≡ all_lines bytes))

-- this holds of some first ones of these lines
pub record OfFirst (lines : List (List ℕ)) (Holds : List (List ℕ) → Type 0) : Type 0 where
  pub first : List (List ℕ)
  pub rest : List (List ℕ)
  pub split : lines ≡ first ++ rest
  pub holds : Holds first

-- this holds of some first lines of the bytes that were taken
pub record OfFirstTaken (source : SourceState) (bytes : List ℕ) (Holds : List (List ℕ) → Type 0) : Type 0 where
  pub lines : List (List ℕ)
  pub are : AreLines source bytes lines
  pub of : OfFirst lines Holds
