-- Where an exact reader stops, no text of a value goes on.
use Rattle.std.proofs.Common.{◌≡◌, ℕ, ◌+◌, ◌-◌, ◌<◌, List, [], ◌∷◌, ◌++◌, length, take, drop, Result, Ok, Err, refl, sym, ap, ◌∙◌, append_assoc, length-append, arith}
use Rattle.std.proofs.lemmas.List.{append-nil, take-append-drop}
use Rattle.std.proofs.Math.Seq.{take-append-add, take-append_seam}
use Rattle.fc_reading.specs.Stops.{StopsAt}
use Rattle.fc_reading.proofs.Exact.{Exact, SameStart, Stops, ok_no_err}
use Rattle.fc_reading.proofs.Words.{Ends-nothing, nothing}

-- the texts of the values that fit
abbrev pub IsTextOf : {V : Type 0} → (V → Type 0) → (V → List ℕ) → List ℕ → Type 0
IsTextOf {V} Fits text bytes = (value : V) × Fits value × (bytes ≡ text value)

pub take-front : (front rest : List ℕ) (place : ℕ) → place ≡ length front → take place (front ++ rest) ≡ front
take-front front rest place is = ap (λ n. take n (front ++ rest)) is ∙ take-append_seam front rest

take-one_more : (front : List ℕ) (b : ℕ) (rest : List ℕ) (place : ℕ) → place ≡ length front → take (place + 1) (front ++ b ∷ rest) ≡ front ++ b ∷ []
take-one_more front b rest place is = ap (λ n. take (n + 1) (front ++ b ∷ rest)) is ∙ take-append-add front (b ∷ rest) 1

-- a whole text is read, whatever stands behind it
text_read :
    {V : Type 0} (Fits : V → Type 0) (text : V → List ℕ) (read : List ℕ → Result (V × List ℕ) ℕ) →
    Exact Fits text nothing read →
    (value : V) (rest bytes : List ℕ) → Fits value → bytes ≡ text value ++ rest → read bytes ≡ Ok (value, rest)
text_read Fits text read exact value rest bytes fits is = ap read is ∙ exact.again value rest fits (Ends-nothing rest)

pub Exact-stops_at :
    {V : Type 0} (Fits : V → Type 0) (text : V → List ℕ) (read : List ℕ → Result (V × List ℕ) ℕ) →
    Exact Fits text nothing read →
    (bytes : List ℕ) (left : ℕ) → read bytes ≡ Err left → StopsAt (IsTextOf Fits text) bytes (length bytes - left)
Exact-stops_at {V} Fits text read exact bytes left e = record {
  within = omega arith;
  begins = (s.more, (s.value, s.fits, ap (λ t. t ++ s.more) front_is ∙ sym s.begins));
  stops = stops s.rest s.split s.left_is s.again;
  none =
      λ count is.
      ok_no_err _ left (sym (text_read Fits text read exact is.0 (drop count bytes) bytes is.1 (sym (take-append-drop count bytes) ∙ ap (λ t. t ++ drop count bytes) is.2)) ∙ e);
}
  where
    s : Stops Fits text read bytes left
    s = exact.stops bytes left e

    place_is : length bytes - left ≡ length s.front
    place_is = omega (arith, s.left_is, ap length s.split, length-append s.front s.rest)

    front_is : take (length bytes - left) bytes ≡ s.front
    front_is = ap (take (length bytes - left)) s.split ∙ take-front s.front s.rest (length bytes - left) place_is

    stops :
        (rest : List ℕ) → bytes ≡ s.front ++ rest → left ≡ length rest → ((u : List ℕ) → SameStart rest u → read (s.front ++ u) ≡ Err (length u)) →
        length bytes - left < length bytes → (more : List ℕ) → IsTextOf Fits text (take (length bytes - left + 1) bytes ++ more) → ⊥
    stops [] split left_is again inside more is = absurd (omega (arith, inside, left_is))
    stops (b ∷ rest) split left_is again inside more is =
        let next : take (length bytes - left + 1) bytes ≡ s.front ++ b ∷ [] =
        ap (take (length bytes - left + 1)) split ∙ take-one_more s.front b rest (length bytes - left) place_is in
        let whole : s.front ++ b ∷ more ≡ text is.0 ++ [] =
        sym (append_assoc s.front (b ∷ []) more) ∙ ap (λ t. t ++ more) (sym next) ∙ is.2 ∙ sym (append-nil (text is.0)) in
        ok_no_err _ _ (sym (text_read Fits text read exact is.0 [] (s.front ++ b ∷ more) is.1 whole) ∙ again (b ∷ more) refl)
