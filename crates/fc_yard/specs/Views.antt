-- What a pass holds, and what becomes of its view in each step.
use Rattle.std.specs.Prelude.{◌≡◌, ◌≢◌, ℕ, ◌+◌, ◌-◌, ◌<◌, List, [], ◌∷◌, ◌++◌, map, max, Option, Some, None, slice_index_or}
use Rattle.fc_yard.specs.declared.rule.View.{View}
use Rattle.fc_yard.specs.Lists.{write}

module _ {P E : Type 0} where
  -- the part at this place, where the pass has its turn
  abbrev pub held_of : View P E → ℕ → Option P
  held_of v p = slice_index_or v.held p None

  -- the pass holds no part
  abbrev pub HoldsNone : View P E → Type 0
  HoldsNone v = (p : ℕ) → held_of v p ≡ None

  -- the pass holds this part
  abbrev pub Holds : View P E → ℕ → Type 0
  Holds v p = (x : P) × (held_of v p ≡ Some x)

  -- the pass holds each of the first n parts
  abbrev pub HoldsAll : View P E → ℕ → Type 0
  HoldsAll v n = (p : ℕ) → p < n → Holds v p

  -- the pass holds this part, and no other
  abbrev pub HoldsOnly : View P E → ℕ → P → Type 0
  HoldsOnly v p x = (held_of v p ≡ Some x) × ((q : ℕ) → q ≢ p → held_of v q ≡ None)

  -- the view of a pass that has taken the part x at p
  abbrev pub took : View P E → ℕ → P → View P E
  took v p x = record v { held = write None v.held p (Some x); hand = 0 }

  -- that has put it back
  abbrev pub put_back : View P E → ℕ → View P E
  put_back v p = record v { held = write None v.held p None; hand = 0 }

  -- that was given the ticket after n others
  abbrev pub ticketed : View P E → ℕ → View P E
  ticketed v n = record v { tickets = v.tickets + 1; low = n + 1 }

  -- that has seen n tickets given
  abbrev pub looked : View P E → ℕ → View P E
  looked v n = record v { low = n }

  -- that drew the number n for an entry, which left the part at p as x
  abbrev pub drew : View P E → ℕ → P → ℕ → E → View P E
  drew v p x n e = record v { tickets = v.tickets - 1; held = write None v.held p (Some x); hand = 0; made = v.made ++ (n, e) ∷ [] }

  -- that drew the number n for an entry, which left the parts as these
  abbrev pub drew_all : View P E → List P → ℕ → E → View P E
  drew_all v xs n e = record v { tickets = v.tickets - 1; held = map (λ x. Some x) xs; hand = 0; made = v.made ++ (n, e) ∷ [] }

  -- a pass that was split off this one
  abbrev pub split_off : View P E → View P E
  split_off v = record v { held = []; hand = 0; shares = 1; tickets = 0; made = [] }

  -- what the other is left with
  abbrev pub split_from : View P E → View P E
  split_from v = record v { shares = v.shares - 1 }

  -- the first, which has taken in the second
  abbrev pub joined : View P E → View P E → View P E
  joined v w = record v { shares = v.shares + w.shares; tickets = v.tickets + w.tickets; low = max v.low w.low; made = v.made ++ w.made }

  -- a pass that is no more
  abbrev pub spent : View P E
  spent = record { held = []; hand = 0; openings = []; first = 0; limit = 0; passes = 0; shares = 0; tickets = 0; low = 0; made = [] }

  -- the first pass of a yard
  abbrev pub opening_view : List P → ℕ → ℕ → ℕ → View P E
  opening_view parts first limit passes = record { held = []; hand = 0; openings = parts; first = first; limit = limit; passes = passes; shares = passes; tickets = 0; low = first; made = [] }
