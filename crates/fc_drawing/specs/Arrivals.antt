-- How slots got grains.
use Rattle.std.specs.Prelude.{◌≡◌, ℕ, Bool, false, ◌&&◌, eqb, Option, Some, None, List, length, slice_get}
use Rattle.fc_base.specs.Column.{last_below}
use Rattle.fc_drawing.specs.declared.arrivals.Arrival.{Arrival}

-- Whether an arrival brought this grain to the slot with this birth.
abbrev pub is_brought : ℕ → ℕ → Option Arrival → Bool
is_brought birth grain None = false
is_brought birth grain (Some arrival) = eqb arrival.to.slot.0 birth && eqb arrival.grain grain

-- The number of the last that did, among the first so many.
abbrev pub last_arrival : List Arrival → ℕ → ℕ → ℕ → Option ℕ
last_arrival arrivals birth grain count = last_below (λ n. is_brought birth grain (slice_get arrivals n)) count

-- ---- how they are kept

-- Whether two are one slot, by its birth, and one grain.
abbrev pub same_place : ℕ × ℕ → ℕ × ℕ → Bool
same_place one other = eqb one.0 other.0 && eqb one.1 other.1

-- What is known of each slot and grain: the number of the last arrival there.
pub record AreLatest (arrivals : List Arrival) (latest : ℕ × ℕ → Option ℕ) : Type 0 where
  pub known : (birth grain : ℕ) → latest (birth, grain) ≡ last_arrival arrivals birth grain (length arrivals)
