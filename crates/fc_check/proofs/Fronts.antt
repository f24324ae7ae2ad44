-- Fronts of lists, and the places where texts stop.
use Rattle.std.proofs.Common.{◌≡◌, ◌⊎◌, ℕ, ◌+◌, ◌<◌, List, [], ◌∷◌, ◌++◌, length, take, drop, inl, inr, refl, sym, ap, subst, ◌∙◌, append_assoc}
use Rattle.std.proofs.lemmas.List.{take-append-drop, take_at}
use Rattle.fc_reading.specs.Stops.{StopsAt}

-- of two lists that go on to the same bytes, one begins the other
abbrev pub Fronts : List ℕ → List ℕ → Type 0
Fronts one other = ((more : List ℕ) × (one ≡ other ++ more)) ⊎ ((more : List ℕ) × (other ≡ one ++ more))

both_longer : (letter : ℕ) (one other : List ℕ) → Fronts one other → Fronts (letter ∷ one) (letter ∷ other)
both_longer letter one other (inl w) = inl (w.0, ap (λ (t : List ℕ). letter ∷ t) w.1)
both_longer letter one other (inr w) = inr (w.0, ap (λ (t : List ℕ). letter ∷ t) w.1)

heads : (x y : ℕ) (xs ys : List ℕ) → x ∷ xs ≡ y ∷ ys → (x ≡ y) × (xs ≡ ys)
heads x y xs ys e = (cc, cc)

pub fronts : (one other a b : List ℕ) → one ++ a ≡ other ++ b → Fronts one other
fronts one [] a b e = inl (one, refl)
fronts [] (y ∷ other) a b e = inr (y ∷ other, refl)
fronts (x ∷ one) (y ∷ other) a b e =
    let parts = heads x y (one ++ a) (other ++ b) e in
    subst (λ (letter : ℕ). Fronts (x ∷ one) (letter ∷ other)) parts.0 (both_longer x one other (fronts one other a b parts.1))

-- no text begins the bytes
pub none_begins : (IsText : List ℕ → Type 0) (bytes : List ℕ) (place : ℕ) → StopsAt IsText bytes place → (text more : List ℕ) → IsText text → bytes ≡ text ++ more → ⊥
none_begins IsText bytes place stops text more is e =
    stops.none (length text) (subst IsText (sym (ap (take (length text)) e ∙ take_at text more (length text) refl)) is)

-- none goes on with the byte at which they stop
pub none_goes_on :
    (IsText : List ℕ → Type 0) (bytes : List ℕ) (place : ℕ) → StopsAt IsText bytes place → place < length bytes →
    (text more rest : List ℕ) → IsText text → take (place + 1) bytes ++ rest ≡ text ++ more → ⊥
none_goes_on IsText bytes place stops inside text more rest is e = go (fronts text (take (place + 1) bytes) more rest (sym e))
  where
    go : Fronts text (take (place + 1) bytes) → ⊥
    go (inl w) = stops.stops inside w.0 (subst IsText w.1 is)
    go (inr w) =
        none_begins IsText bytes place stops text (w.0 ++ drop (place + 1) bytes) is
        (sym (take-append-drop (place + 1) bytes) ∙ ap (λ (t : List ℕ). t ++ drop (place + 1) bytes) w.1 ∙ append_assoc text w.0 (drop (place + 1) bytes))
