-- What counters have to do with the whole.
use Rattle.std.specs.Prelude.{◌≡◌, ℕ, ◌+◌, ◌%◌, ◌^◌, ◌<◌, length, map, slice_index, slice_set}
use Rattle.yard_tests.specs.declared.counter.Counts.{Counts}
use Rattle.yard_tests.specs.declared.counter.Counter.{Counter}
use Rattle.yard_tests.specs.declared.counter.Tally.{Tally}
use Rattle.yard_tests.specs.declared.counter.Tally.TheVariants.{One, All}

-- one more, over 64 bits
abbrev pub after : ℕ → ℕ
after n = (n + 1) % 2 ^ 64

-- the counter at p has its share of the whole
abbrev pub HasShare : Counts → ℕ → Counter → Type 0
HasShare w p x = (p < length w.counters) × (slice_index w.counters p ≡ x.count)

-- the counter at p went up by one, or all did
abbrev pub Counted : Counts → Tally → Counts → Type 0
Counted w (One p) next = (next.counters ≡ slice_set w.counters p (after (slice_index w.counters p))) × (next.told ≡ w.told + 1)
Counted w All next = (next.counters ≡ map after w.counters) × (next.told ≡ w.told + 1)
