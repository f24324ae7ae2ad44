-- The definitions of the main theorem on small examples.
use Rattle.std.proofs.Common.{◌≡◌, ℕ, List, [], ◌∷◌, refl, arith, codes}
use Rattle.fc_base.specs.declared.runs.Run.{Run}
use Rattle.fc_entry.specs.Lines.{all_lines, ended_lines}
use Rattle.fc_entry.specs.Picture.{Content, Bytes, Lost, written}
use Rattle.fc_entry.specs.Reads.{IsRightIn}

-- a right read: the last two of three bytes
right_read : IsRightIn 1 2 (Bytes (1 ∷ 1 ∷ 2 ∷ [])) (record { count = 1; byte = 1 } ∷ record { count = 1; byte = 2 } ∷ [])
right_read = ((omega arith, (λ same. omega arith), (omega arith, tt, tt)), refl)

-- a wrong read: another byte
wrong_read : IsRightIn 1 2 (Bytes (1 ∷ 1 ∷ 2 ∷ [])) (record { count = 2; byte = 1 } ∷ []) → ⊥
wrong_read read = cc read.1

-- a read that isn't canonical: two runs of one byte
split_read : IsRightIn 0 2 (Bytes (1 ∷ 1 ∷ [])) (record { count = 1; byte = 1 } ∷ record { count = 1; byte = 1 } ∷ []) → ⊥
split_read read = read.0.1 refl

-- nothing is right of a lost grain
lost_read : (runs : List Run) → IsRightIn 0 1 Lost runs → ⊥
lost_read runs read = read

-- a write of a part keeps the rest, and one of a lost grain covers it whole
part_written : written 1 1 9 (Bytes (1 ∷ 2 ∷ 3 ∷ [])) ≡ Bytes (1 ∷ 9 ∷ 3 ∷ [])
part_written = refl

lost_written : written 0 3 7 Lost ≡ Bytes (7 ∷ 7 ∷ 7 ∷ [])
lost_written = refl

-- a line ends with a newline, with a carriage return and a newline, or with the input
lines_end : all_lines (97 ∷ 13 ∷ 10 ∷ 10 ∷ 98 ∷ []) ≡ (97 ∷ []) ∷ [] ∷ (98 ∷ []) ∷ []
lines_end = refl

-- a carriage return that no newline follows is part of its line
return_kept : all_lines (97 ∷ 13 ∷ []) ≡ (97 ∷ 13 ∷ []) ∷ []
return_kept = refl

-- a line that hasn't ended isn't among those that have
unended : ended_lines (97 ∷ 10 ∷ 98 ∷ []) ≡ (97 ∷ []) ∷ []
unended = refl

no_line : all_lines [] ≡ []
no_line = refl
