-- Ranges of grains, rising and never touching.
use Rattle.std.specs.Prelude.{ℕ, ◌+◌, ◌<◌, ◌≤◌, Bool, ◌&&◌, nat_le, List, [], ◌∷◌}
use Rattle.std.specs.List.{list_any}
use Rattle.fc_base.specs.declared.ranges.Range.{Range}

-- the range isn't empty, and between it and the last grain of the ranges before stands a grain of neither
abbrev pub StandsBehind : List Range → Range → Type 0
StandsBehind [] range = range.first ≤ range.last
StandsBehind (before ∷ []) range = (before.last + 1 < range.first) × (range.first ≤ range.last)
StandsBehind (_ ∷ before ∷ ranges) range = StandsBehind (before ∷ ranges) range

-- each range begins past a gap behind the one before
abbrev pub IsRisingFrom : Range → List Range → Type 0
IsRisingFrom before [] = Unit {0}
IsRisingFrom before (range ∷ ranges) =
    (before.last + 1 < range.first) × (range.first ≤ range.last) × IsRisingFrom range ranges

-- no range is empty, and each begins past a gap behind the one before
abbrev pub IsRising : List Range → Type 0
IsRising [] = Unit {0}
IsRising (range ∷ ranges) = (range.first ≤ range.last) × IsRisingFrom range ranges

-- whether a grain is in these ranges
abbrev pub is_kept : List Range → ℕ → Bool
is_kept kept g = list_any (λ range. nat_le range.first g && nat_le g range.last) kept
