-- Parts in their slots, and the words of a new yard.
use Rattle.std.specs.Prelude.{ℕ, ◌+◌, ◌*◌, List, [], ◌∷◌, map, replicate, slice_set}
use Rattle.fc_yard.specs.declared.rule.Stall.{Stall}
use Rattle.fc_yard.specs.declared.rule.Stall.TheVariants.{Home}

module _ {P E : Type 0} where
  abbrev pub at_home : List P → List (Stall P E)
  at_home parts = map (λ (x : P). Home x) parts

  -- the parts that are at home
  abbrev pub homes_of : List (Stall P E) → List P
  homes_of [] = []
  homes_of (Home x ∷ ss) = x ∷ homes_of ss
  homes_of (_ ∷ ss) = homes_of ss

  -- each slot has its part
  abbrev pub AllHome : List (Stall P E) → Type 0
  AllHome [] = Unit {0}
  AllHome (Home x ∷ ss) = AllHome ss
  AllHome (_ ∷ ss) = ⊥

-- the words of a new yard of n parts
abbrev pub new_words : ℕ → ℕ → List ℕ
new_words n first = slice_set (slice_set (replicate (16 * n + 32) 0) (16 * n) first) (16 * n + 16) first
