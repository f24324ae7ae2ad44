-- Origins worked by hand.
use Rattle.std.proofs.Common.{◌≡◌, ℕ, List, [], ◌∷◌, Some, None, refl, map}
use Rattle.fc_check_picture.specs.Blocks.{filled}
use Rattle.fc_origins.specs.Blocks.{number_of}
use Rattle.fc_origins.specs.declared.origin.Origin.{Origin}

-- one block that no write made and one of entry 4, three bytes each
abbrev never : Origin
never = record { write = None }

abbrev by_four : Origin
by_four = record { write = Some 4 }

two_blocks : filled 3 (map number_of (never ∷ by_four ∷ [])) ≡ 0 ∷ 0 ∷ 0 ∷ 5 ∷ 5 ∷ 5 ∷ []
two_blocks = refl

-- the entry with number 0 isn't none
by_first : number_of (record { write = Some 0 }) ≡ 1
by_first = refl
