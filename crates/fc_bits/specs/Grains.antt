-- A set of grains is the list of its truth values: the value at place g says whether grain g is in the set.
use Rattle.std.specs.Prelude.{ℕ, ◌-◌, Bool, false, not, ◌&&◌, ◌||◌, List, Option, length, slice_index_or, find, count_by}
use Rattle.std.specs.List.{range_with_len}
use Rattle.std.specs.Simd.Lanes.{zip2}

-- the grain is in the set; none past the last is
abbrev pub has : List Bool → ℕ → Bool
has grains g = slice_index_or grains g false

-- how many grains are in the set
abbrev pub count_set : List Bool → ℕ
count_set grains = count_by (λ x. x) grains

-- the grains that are in the first set and not in the second
abbrev pub difference : List Bool → List Bool → List Bool
difference xs ys = zip2 (λ x y. x && not y) xs ys

-- the grains that are in both sets
abbrev pub common : List Bool → List Bool → List Bool
common xs ys = zip2 (λ x y. x && y) xs ys

-- the grains that are in either set
abbrev pub union : List Bool → List Bool → List Bool
union xs ys = zip2 (λ x y. x || y) xs ys

-- the least of the numbers from, from + 1, .. below `end` that passes the test
unfoldable pub least_from : (ℕ → Bool) → ℕ → ℕ → Option ℕ
least_from passes from end = find passes (range_with_len from (end - from))

-- the least grain from `from` on that is in the set
abbrev pub least_set : List Bool → ℕ → Option ℕ
least_set grains from = least_from (has grains) from (length grains)

-- the least grain from `from` on that is not in the set
abbrev pub least_clear : List Bool → ℕ → Option ℕ
least_clear grains from = least_from (λ g. not (has grains g)) from (length grains)
