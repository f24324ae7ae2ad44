-- Places that pass a test.
use Rattle.std.specs.Prelude.{ℕ, zero, suc, Bool, cond, List, [], ◌∷◌, ◌++◌}

-- The places below a bound that pass, in order.
unfoldable pub places_below : (ℕ → Bool) → ℕ → List ℕ
places_below test zero = []
places_below test (suc n) = cond (test n) (places_below test n ++ n ∷ []) (places_below test n)
