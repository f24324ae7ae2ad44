-- Blocks worked by hand.
use Rattle.std.proofs.Common.{◌≡◌, ℕ, List, [], ◌∷◌, Some, None, refl, map}
use Rattle.fc_base.specs.Runs.{expanded}
use Rattle.fc_base.specs.declared.runs.Run.{Run}
use Rattle.fc_entry.specs.Picture.{Lost}
use Rattle.fc_check_picture.specs.Blocks.{filled, content_of, widened}

-- two blocks of three bytes each
two_blocks : filled 3 (7 ∷ 9 ∷ []) ≡ 7 ∷ 7 ∷ 7 ∷ 9 ∷ 9 ∷ 9 ∷ []
two_blocks = refl

-- without blocks a grain is lost
lost : content_of None ≡ Lost
lost = refl

-- a run of two blocks is one of six bytes
abbrev two_sevens : Run
two_sevens = record { count = 2; byte = 7 }

six_sevens : expanded (map (widened 3) (two_sevens ∷ [])) ≡ 7 ∷ 7 ∷ 7 ∷ 7 ∷ 7 ∷ 7 ∷ []
six_sevens = refl
