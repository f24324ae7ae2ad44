-- Ranges that rise, never touch and keep the same grains are the same.
use Rattle.std.proofs.Common.{◌≡◌, ◌∙◌, sym, ap, ℕ, suc, ◌+◌, ◌-◌, ◌<◌, ◌≤◌, Bool, true, false, cond, ◌&&◌, ◌||◌, ◌==◌, nat_le, List, [], ◌∷◌, inl, inr, refl, arith}
use Rattle.std.specs.List.{slice_index_or}
use Rattle.std.proofs.lemmas.Bool.{cases_eq, eq-eqb, le-leb, lt-leb}
use Rattle.fc_base.specs.Ranges.{IsRising, IsRisingFrom, is_kept}
use Rattle.fc_base.specs.declared.ranges.Range.{Range}
use Rattle.fc_books.specs.Copies.{ranges_from, put_before}

-- no range begins below a grain
abbrev IsFrom : ℕ → List Range → Type 0
IsFrom lo [] = Unit {0}
IsFrom lo (range ∷ ranges) = lo ≤ range.first

abbrev has : Range → ℕ → Bool
has range g = nat_le range.first g && nat_le g range.last

tail_rises : (range : Range) (ranges : List Range) → IsRisingFrom range ranges → IsRising ranges
tail_rises range [] h = tt
tail_rises range (next ∷ ranges) h = (h.1, h.2)

tail_from : (range : Range) (ranges : List Range) (lo : ℕ) → IsRisingFrom range ranges → lo ≤ range.last + 2 → IsFrom lo ranges
tail_from range [] lo h le = tt
tail_from range (next ∷ ranges) lo h le = omega (arith, h.0, le)

rises_by_last : (range other : Range) (ranges : List Range) → range.last ≡ other.last → IsRisingFrom range ranges → IsRisingFrom other ranges
rises_by_last range other [] e h = tt
rises_by_last range other (next ∷ ranges) e h = (omega (arith, h.0, e), h.1, h.2)

-- what a range has
has_not_below : (range : Range) (g : ℕ) → g < range.first → has range g ≡ false
has_not_below range g lt = ap (λ b. b && nat_le g range.last) (lt-leb range.first g lt)

has_not_above : (range : Range) (g : ℕ) → range.last < g → has range g ≡ false
has_not_above range g lt = ap (λ b. nat_le range.first g && b) (lt-leb g range.last lt) ∙ never (nat_le range.first g)
  where
    never : (b : Bool) → (b && false) ≡ false
    never true = refl
    never false = refl

has_within : (range : Range) (g : ℕ) → range.first ≤ g → g ≤ range.last → has range g ≡ true
has_within range g low high = both (nat_le range.first g) (nat_le g range.last) (le-leb range.first g low) (le-leb g range.last high)
  where
    both : (a b : Bool) → a ≡ true → b ≡ true → (a && b) ≡ true
    both a b p q = rw p q

either_false : (a b : Bool) → a ≡ false → b ≡ false → (a || b) ≡ false
either_false a b p q = rw p q

not_below : (ranges : List Range) (lo g : ℕ) → IsRising ranges → IsFrom lo ranges → g < lo → is_kept ranges g ≡ false
not_below [] lo g rises from lt = refl
not_below (range ∷ ranges) lo g rises from lt =
    either_false (has range g) (is_kept ranges g) (has_not_below range g (omega (arith, from, lt)))
    (not_below ranges lo g (tail_rises range ranges rises.1) (tail_from range ranges lo rises.1 (omega (arith, from, rises.0))) lt)

-- ---- the two lists

-- what is kept from grain `g` on is these truth values
abbrev Keeps : List Range → ℕ → List Bool → Type 0
Keeps ranges g bits = (h j : ℕ) → h ≡ g + j → is_kept ranges h ≡ slice_index_or bits j false

later : (ranges : List Range) (g : ℕ) (b : Bool) (bits : List Bool) → Keeps ranges g (b ∷ bits) → Keeps ranges (g + 1) bits
later ranges g b bits keeps h j e = keeps h (suc j) (omega (arith, e))

-- the first range begins at a grain that is kept, and behind one that isn't
begins_behind : (ranges : List Range) (g : ℕ) → IsRising ranges → IsFrom g ranges → is_kept ranges g ≡ false → IsFrom (g + 1) ranges
begins_behind [] g rises from none = tt
begins_behind (range ∷ ranges) g rises from none =
    elim (cases_eq range.first g) [
      | inl same ↦ grind (arith, none, has_within range g (omega (arith, same)) (omega (arith, same, rises.0)))
      | inr other ↦ omega (arith, from, other)
    ]

begins_at : (range : Range) (ranges : List Range) (g : ℕ) → IsRising (range ∷ ranges) → g ≤ range.first → is_kept (range ∷ ranges) g ≡ true → range.first ≡ g
begins_at range ranges g rises from kept =
    elim (cases_eq range.first g) [
      | inl same ↦ same
      | inr other ↦ grind (arith, kept, not_below (range ∷ ranges) (g + 1) g rises (omega (arith, from, other)) (omega arith))
    ]

-- none is kept
empty_keeps : (range : Range) (ranges : List Range) (g : ℕ) → IsRising (range ∷ ranges) → g ≤ range.first → Keeps (range ∷ ranges) g [] → ⊥
empty_keeps range ranges g rises from keeps =
    let kept = has_within range range.first (omega arith) rises.0 in
    let none = keeps range.first (range.first - g) (omega (arith, from)) in
    grind (arith, kept, none)

-- the rest behind a range that ends at its first grain
rest_keeps : (range : Range) (ranges : List Range) (g : ℕ) (bits : List Bool) → range.last ≡ g → Keeps (range ∷ ranges) (g + 1) bits → Keeps ranges (g + 1) bits
rest_keeps range ranges g bits ends keeps h j e =
    ap (λ b. b || is_kept ranges h) (sym (has_not_above range h (omega (arith, ends, e)))) ∙ keeps h j e

-- the rest of a range that goes on
shorter_keeps : (range : Range) (ranges : List Range) (g : ℕ) (bits : List Bool) → range.first ≡ g → g < range.last → Keeps (range ∷ ranges) (g + 1) bits → Keeps (record { first = g + 1; last = range.last } ∷ ranges) (g + 1) bits
shorter_keeps range ranges g bits begins goes_on keeps h j e =
    ap (λ b. (b && nat_le h range.last) || is_kept ranges h)
    (le-leb (g + 1) h (omega (arith, e)) ∙ sym (le-leb range.first h (omega (arith, e, begins))))
    ∙ keeps h j e

ends_are : (first last a b : ℕ) → first ≡ a → last ≡ b → (let r : Range = record { first = first; last = last } in let s : Range = record { first = a; last = b } in r ≡ s)
ends_are first last a b p q = cc

range_is : (range : Range) (a b : ℕ) → range.first ≡ a → range.last ≡ b → range ≡ record { first = a; last = b }
range_is range a b p q = ends_are range.first range.last a b p q

apart_eqb : (a b : ℕ) → b < a → (a == b) ≡ false
apart_eqb a b lt = grind (arith, lt)

put_alone : (range : Range) (ranges : List Range) (g : ℕ) → range.first ≡ g → range.last ≡ g → IsRisingFrom range ranges → (range ∷ ranges) ≡ put_before g ranges
put_alone range [] g p q rises = ap (λ r. r ∷ []) (range_is range g g p q)
put_alone range (next ∷ ranges) g p q rises =
    ap (λ r. r ∷ next ∷ ranges) (range_is range g g p q)
    ∙ sym (ap (λ b. cond b (record { first = g; last = next.last } ∷ ranges) (record { first = g; last = g } ∷ next ∷ ranges)) (apart_eqb next.first (g + 1) (omega (arith, rises.0, q))))

put_longer : (range : Range) (ranges : List Range) (g : ℕ) → range.first ≡ g → (range ∷ ranges) ≡ put_before g (record { first = g + 1; last = range.last } ∷ ranges)
put_longer range ranges g p =
    ap (λ r. r ∷ ranges) (range_is range g range.last p refl)
    ∙ sym (ap (λ b. cond b (record { first = g; last = range.last } ∷ ranges) (record { first = g; last = g } ∷ record { first = g + 1; last = range.last } ∷ ranges)) (eq-eqb (g + 1) (g + 1) refl))

pub ranges_from-same : (bits : List Bool) (g : ℕ) (ranges : List Range) → IsRising ranges → IsFrom g ranges → Keeps ranges g bits → ranges ≡ ranges_from g bits
ranges_from-same [] g [] rises from keeps = refl
ranges_from-same [] g (range ∷ ranges) rises from keeps = absurd (empty_keeps range ranges g rises from keeps)
ranges_from-same (false ∷ bits) g ranges rises from keeps =
    ranges_from-same bits (g + 1) ranges rises (begins_behind ranges g rises from (keeps g 0 (omega arith))) (later ranges g false bits keeps)
ranges_from-same (true ∷ bits) g [] rises from keeps = grind (arith, keeps g 0 (omega arith))
ranges_from-same (true ∷ bits) g (range ∷ ranges) rises from keeps =
    let begins = begins_at range ranges g rises from (keeps g 0 (omega arith)) in
    elim (cases_eq range.last g) [
      | inl ends ↦
          put_alone range ranges g begins ends rises.1
          ∙ ap (put_before g)
          (ranges_from-same bits (g + 1) ranges (tail_rises range ranges rises.1) (tail_from range ranges (g + 1) rises.1 (omega (arith, ends)))
          (rest_keeps range ranges g bits ends (later (range ∷ ranges) g true bits keeps)))
      | inr other ↦
          put_longer range ranges g begins
          ∙ ap (put_before g)
          (ranges_from-same bits (g + 1) (record { first = g + 1; last = range.last } ∷ ranges) (omega (arith, begins, rises.0, other), rises_by_last range (record { first = g + 1; last = range.last }) ranges refl rises.1) (omega arith)
          (shorter_keeps range ranges g bits begins (omega (arith, begins, rises.0, other)) (later (range ∷ ranges) g true bits keeps)))
    ]

-- rising ranges that keep what the bits tell are the ranges of these bits
pub kept_is : (bits : List Bool) (ranges : List Range) → IsRising ranges → ((h : ℕ) → is_kept ranges h ≡ slice_index_or bits h false) → ranges ≡ ranges_from 0 bits
kept_is bits ranges rises keeps = ranges_from-same bits 0 ranges rises (from_zero ranges) (λ h j e. keeps h ∙ ap (λ k. slice_index_or bits k false) (omega (arith, e)))
  where
    from_zero : (rs : List Range) → IsFrom 0 rs
    from_zero [] = tt
    from_zero (r ∷ rs) = omega arith
