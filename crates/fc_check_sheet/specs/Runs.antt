-- Marked grains that stand together.
use Rattle.std.specs.Prelude.{◌≡◌, ℕ, ◌<◌, ◌≤◌, Bool, true, false, Option, Some, None, List, length, slice_index_or}

-- The first marked grain from one on, or none.
pub record IsNextMarked (marks : List Bool) (from k : ℕ) : Type 0 where
  pub after : from ≤ k
  pub marked : slice_index_or marks k false ≡ true
  pub first : (j : ℕ) → from ≤ j → j < k → slice_index_or marks j false ≡ false

abbrev pub NextMarked : List Bool → ℕ → Option ℕ → Type 0
NextMarked marks from None = (j : ℕ) → from ≤ j → slice_index_or marks j false ≡ false
NextMarked marks from (Some k) = IsNextMarked marks from k

-- All grains from the first one on are marked, up to the end.
pub record IsRunEnd (marks : List Bool) (first end : ℕ) : Type 0 where
  pub after : first < end
  pub there : end ≤ length marks
  pub marked : (j : ℕ) → first ≤ j → j < end → slice_index_or marks j false ≡ true
  pub ends : slice_index_or marks end false ≡ false
