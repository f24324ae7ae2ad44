-- Lists with a comma between each two items, or one word where there is none, are read exactly.
use Rattle.std.proofs.Common.{◌≡◌, ℕ, ◌≤◌, Bool, true, false, List, [], ◌∷◌, ◌++◌, length, map, codes, Result, refl, sym, ap, ◌∙◌, append_assoc, length-append, arith, inl, inr}
use Rattle.std.specs.List.{join_with_byte}
use Rattle.fc_reading.specs.Readers.{map_read, the_word}
use Rattle.fc_reading_notes.specs.Lists.{by_first, starts_with}
use Rattle.fc_reading.proofs.Exact.{Exact, Exact-map}
use Rattle.fc_reading.proofs.Fields.{AnyUnit, Exact-word}
use Rattle.fc_reading.proofs.Words.{nothing}
use Rattle.fc_reading_notes.proofs.Choices.{Either, Exact-alike, Exact-by_first}
use Rattle.fc_reading_notes.proofs.Lists.{all_text}

-- ---- items

-- what stands behind an item, where one more follows and where none does
abbrev pub sep : Bool → List ℕ
sep true = codes ","
sep false = codes "\n"

abbrev pub item_line : {V : Type 0} → (V → List ℕ) → V × Bool → List ℕ
item_line text x = text x.0 ++ sep x.1

pub line_some : {V : Type 0} (text : V → List ℕ) (v : V) (more : Bool) → 1 ≤ length (item_line text (v, more))
line_some text v more = omega (arith, sep_some more, length-append (text v) (sep more))
  where
    sep_some : (more : Bool) → 1 ≤ length (sep more)
    sep_some true = omega arith
    sep_some false = omega arith

pub items_joined :
    {V : Type 0} (text : V → List ℕ) (v : V) (vs : List V) →
    join_with_byte 44 (map text (v ∷ vs)) ++ codes "\n" ≡ all_text (item_line text) (v ∷ vs)
items_joined text v [] = refl
items_joined text v (w ∷ vs) =
    append_assoc (text v) (44 ∷ join_with_byte 44 (map text (w ∷ vs))) (codes "\n")
    ∙ ap (λ t. text v ++ 44 ∷ t) (items_joined text w vs)
    ∙ sym (append_assoc (text v) (codes ",") (all_text (item_line text) (w ∷ vs)))

-- ---- items, or none

-- such lists, but not the one without an item
abbrev pub NonEmpty : {V : Type 0} → (List V → Type 0) → List V → Type 0
NonEmpty Fits [] = ⊥
NonEmpty Fits (v ∷ vs) = Fits (v ∷ vs)

abbrev IsEmpty : {V : Type 0} → List V → Type 0
IsEmpty vs = vs ≡ []

-- where items are read exactly, and never begin as the word does, so are they or none
pub Exact-or_none :
    {V : Type 0} (first : ℕ) (word : List ℕ) (Fits : List V → Type 0) (text : List V → List ℕ) (items : List ℕ → Result (List V × List ℕ) ℕ) →
    Fits [] → text [] ≡ word → ((rest : List ℕ) → starts_with first (word ++ rest) ≡ true) →
    Exact (NonEmpty Fits) text nothing items →
    ((vs : List V) (rest : List ℕ) → NonEmpty Fits vs → starts_with first (text vs ++ rest) ≡ false) →
    Exact Fits text nothing (by_first first (map_read (λ u. []) (the_word word)) items)
Exact-or_none {V} first word Fits text items none says begins exact others =
    Exact-alike (Either IsEmpty (NonEmpty Fits)) text (by_first first (map_read (λ u. []) (the_word word)) items) Fits text
    (Exact-by_first first IsEmpty (NonEmpty Fits) text (map_read (λ u. []) (the_word word)) items without exact begins_word others)
    to from
  where
    without : Exact IsEmpty text nothing (map_read (λ u. []) (the_word word))
    without =
        Exact-map {V = Unit {0}} {W = List V} AnyUnit (λ u. word) nothing (the_word word) IsEmpty text (λ u. [])
        (Exact-word word) (λ u any. (refl, says)) (λ vs is. (tt, tt, sym is))

    begins_word : (vs : List V) (rest : List ℕ) → IsEmpty vs → starts_with first (text vs ++ rest) ≡ true
    begins_word vs rest is = ap (λ t. starts_with first (t ++ rest)) (ap text is ∙ says) ∙ begins rest

    no_cons : (v : V) (vs : List V) → v ∷ vs ≡ [] → ⊥
    no_cons v vs e = absurd cc

    to : (vs : List V) → Either IsEmpty (NonEmpty Fits) vs → Fits vs × (text vs ≡ text vs)
    to [] fits = (none, refl)
    to (v ∷ vs) (inl is) = absurd (no_cons v vs is)
    to (v ∷ vs) (inr fits) = (fits, refl)

    from : (vs : List V) → Fits vs → Either IsEmpty (NonEmpty Fits) vs
    from [] fits = inl refl
    from (v ∷ vs) fits = inr fits
