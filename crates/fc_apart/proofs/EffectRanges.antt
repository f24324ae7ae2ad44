-- Ranges that are copied one by one.
use Rattle.std.proofs.Common.{◌≡◌, ℕ, ◌<◌, List, [], ◌∷◌, length, take, slice_index_or, sym, subst, arith}
use Rattle.fc_base.specs.Ranges.{IsRising, IsRisingFrom, StandsBehind}
use Rattle.fc_base.specs.declared.ranges.Range.{Range}

behind_from : (before : Range) (ranges : List Range) (i : ℕ) (d : Range) → IsRisingFrom before ranges → i < length ranges → StandsBehind (before ∷ take i ranges) (slice_index_or ranges i d)
behind_from before [] i d rising lt = absurd (omega (arith, lt))
behind_from before (range ∷ ranges) ℕ.zero d rising lt = (rising.0, rising.1)
behind_from before (range ∷ ranges) (ℕ.suc i) d rising lt = behind_from range ranges i d rising.2 (omega (arith, lt))

behind_first : (ranges : List Range) (i : ℕ) (d : Range) → IsRising ranges → i < length ranges → StandsBehind (take i ranges) (slice_index_or ranges i d)
behind_first [] i d rising lt = absurd (omega (arith, lt))
behind_first (range ∷ ranges) ℕ.zero d rising lt = rising.0
behind_first (range ∷ ranges) (ℕ.suc i) d rising lt = behind_from range ranges i d rising.1 (omega (arith, lt))

-- The next range stands behind those that were copied.
pub next_behind : (copy items ranges : List Range) (i : ℕ) (d : Range) → copy ≡ take i items → items ≡ ranges → IsRising ranges → i < length items → StandsBehind copy (slice_index_or items i d)
next_behind copy items ranges i d is same rising lt =
    subst (λ (before : List Range). StandsBehind before (slice_index_or items i d)) (sym is) (behind_first items i d (subst IsRising (sym same) rising) lt)
