-- Chains of copies seen at one grain: who holds the grain for whom.
use Rattle.std.specs.Prelude.{ℕ, zero, suc, ◌+◌, Bool, false, cond, not, ◌&&◌, eqb, ltb, Option, Some, None, List, [], ◌∷◌}
use Rattle.std.specs.List.{filter}

-- The chains without what they hold. Every slot of every chain has a place, counted from 0; the slots of one chain
-- have one label and stand in the order of their places. A slot is a state of a volume: the live slot is the
-- volume as hosts see it, an old one is what the volume was before a later trigger or stop.
pub record Shape : Type 0 where
  pub count : ℕ
  pub birth : ℕ → ℕ
  pub chain : ℕ → ℕ
  pub volume : ℕ → ℕ
  pub is_live : ℕ → Bool

-- The chains at one grain: the shape, and which slots hold the grain. Where a slot holds it, the physical grain of
-- the slot's volume is the slot's content.
pub record Column : Type 0 where
  pub shape : Shape
  pub open shape use *
  pub held : ℕ → Bool

-- The greatest number below a bound that passes a test.
unfoldable pub last_below : (ℕ → Bool) → ℕ → Option ℕ
last_below test zero = None
last_below test (suc n) = cond (test n) (Some n) (last_below test n)

-- The least number below a bound that passes a test.
unfoldable pub first_below : (ℕ → Bool) → ℕ → Option ℕ
first_below test zero = None
first_below test (suc n) = elim (first_below test n) [ Some k ↦ Some k | None ↦ cond (test n) (Some n) None ]

-- Whether the answer is this slot.
abbrev pub is_at : Option ℕ → ℕ → Bool
is_at None k = false
is_at (Some h) k = eqb h k

-- The holder of a slot: the nearest slot at or before it in its chain that holds the grain. A read of a volume goes
-- to the holder of its live slot.
unfoldable pub holder : Column → ℕ → Option ℕ
holder c k = last_below (λ j. eqb (c.chain j) (c.chain k) && c.held j) (k + 1)

-- The first live slot other than `but` that has `h` as holder.
unfoldable pub first_reader : Column → ℕ → ℕ → Option ℕ
first_reader c but h = first_below (λ k. c.is_live k && (not (eqb k but) && is_at (holder c k) h)) c.count

-- The needer of a slot: the first live slot other than it that has it as holder.
abbrev pub needer : Column → ℕ → Option ℕ
needer c h = first_reader c h h

-- Whether a place is an old slot of the volume.
abbrev pub is_old_of : Shape → ℕ → ℕ → Bool
is_old_of s v k = not (s.is_live k) && eqb (s.volume k) v

-- A place put among places that stand by birth, least first.
abbrev pub put_by_birth : (ℕ → ℕ) → ℕ → List ℕ → List ℕ
put_by_birth birth k [] = k ∷ []
put_by_birth birth k (j ∷ js) = cond (ltb (birth k) (birth j)) (k ∷ j ∷ js) (j ∷ put_by_birth birth k js)

-- The places below a bound that pass a test, least birth first.
unfoldable pub places_by_birth : (ℕ → ℕ) → (ℕ → Bool) → ℕ → List ℕ
places_by_birth birth test zero = []
places_by_birth birth test (suc n) =
    cond (test n) (put_by_birth birth n (places_by_birth birth test n)) (places_by_birth birth test n)

-- The old slots of a volume, in whatever chains they stand, least birth first.
unfoldable pub old_slots : Shape → ℕ → List ℕ
old_slots s v = places_by_birth s.birth (is_old_of s v) s.count

-- Those of them that hold the grain.
abbrev pub old_holders : Column → ℕ → List ℕ
old_holders c v = filter c.held (old_slots c.shape v)
