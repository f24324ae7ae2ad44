-- Nothing read, other words for what is read, a choice by the first byte, and a number with one of some words
-- behind it are read exactly.
use Rattle.std.proofs.Common.{◌≡◌, ℕ, zero, suc, ◌^◌, ◌<◌, ◌==◌, Bool, true, false, List, [], ◌∷◌, ◌++◌, length, get_or, decimal, Result, Ok, Err, refl, sym, ap, subst, ◌∙◌, arith, lit<, inl, inr}
use Rattle.std.specs.Prelude.{◌⊎◌, not}
use Rattle.std.specs.List.{list_all}
use Rattle.std.proofs.lemmas.Bool.{false≢true}
use Rattle.fc_reading.specs.Readers.{is_decimal, number_at, one_of_at}
use Rattle.fc_reading_notes.specs.Lines.{ending_at}
use Rattle.fc_reading_notes.specs.Lists.{first_byte_is, by_first, choice, starts_with}
use Rattle.fc_reading.proofs.Exact.{Ends, Exact, Exact-then, SameStart, Stops, Takes, ok_is, ok_no_err}
use Rattle.fc_reading.proofs.Numbers.{Exact-number, IsUpTo, cases}
use Rattle.fc_reading.proofs.Words.{Ends-nothing, Exact-one_of, IsIndexOf, at_false, at_true, both, is_code, nothing}

-- ---- nothing read

abbrev pub Is : {V : Type 0} → V → V → Type 0
Is value other = other ≡ value

pub Exact-none : {V : Type 0} (value : V) → Exact (Is value) (λ v. []) nothing (λ (bytes : List ℕ). Ok (value, bytes))
Exact-none {V} value = record {
  takes =
      λ bytes v rest e.
      let P : V × List ℕ → Type 0 = λ z. Takes (Is value) (λ v. []) nothing bytes z.0 z.1 in
      let at : P (value, bytes) = record { fits = refl; split = refl; ends = Ends-nothing bytes } in
      subst P (ok_is _ _ e) at;
  again = λ v rest fits ends. ap (λ w. Ok (w, rest)) (sym fits);
  stops = λ bytes left e. absurd (ok_no_err _ _ e);
}

-- ---- other words for what fits, and for its text

-- the same values, with the same texts
pub Exact-recast :
    {V : Type 0} (Fits Fits2 : V → Type 0) (text text2 : V → List ℕ) (joins : ℕ → Bool) (read : List ℕ → Result (V × List ℕ) ℕ) →
    Exact Fits text joins read →
    ((v : V) → Fits v → Fits2 v × (text v ≡ text2 v)) →
    ((v : V) → Fits2 v → Fits v) →
    Exact Fits2 text2 joins read
Exact-recast Fits Fits2 text text2 joins read exact to from = record {
  takes =
      λ bytes v rest e.
      let t = exact.takes bytes v rest e in
      let c = to v t.fits in
      record { fits = c.0; split = t.split ∙ ap (λ x. x ++ rest) c.1; ends = t.ends };
  again =
      λ v rest fits ends.
      ap (λ x. read (x ++ rest)) (sym (to v (from v fits)).1) ∙ exact.again v rest (from v fits) ends;
  stops =
      λ bytes left e.
      let s = exact.stops bytes left e in
      let c = to s.value s.fits in
      record {
        front = s.front;
        rest = s.rest;
        split = s.split;
        left_is = s.left_is;
        value = s.value;
        fits = c.0;
        more = s.more;
        begins = sym c.1 ∙ s.begins;
        again = s.again;
      };
}

pub Exact-alike :
    {V : Type 0} (Fits : V → Type 0) (text : V → List ℕ) (read : List ℕ → Result (V × List ℕ) ℕ) (Other : V → Type 0) (other : V → List ℕ) →
    Exact Fits text nothing read →
    ((v : V) → Fits v → Other v × (other v ≡ text v)) →
    ((v : V) → Other v → Fits v) →
    Exact Other other nothing read
Exact-alike Fits text read Other other exact to from =
    Exact-recast Fits Other text other nothing read exact (λ v fits. ((to v fits).0, sym (to v fits).1)) from

-- ---- no first byte that goes on

pub stops_first :
    {V : Type 0} (Fits : V → Type 0) (text : V → List ℕ) (read : List ℕ → Result (V × List ℕ) ℕ) (bytes : List ℕ) (left : ℕ) (value : V) →
    Fits value → left ≡ length bytes → ((u : List ℕ) → SameStart bytes u → read u ≡ Err (length u)) →
    Stops Fits text read bytes left
stops_first Fits text read bytes left value fits all again = record {
  front = [];
  rest = bytes;
  split = refl;
  left_is = all;
  value = value;
  fits = fits;
  more = text value;
  begins = refl;
  again = again;
}

-- ---- a choice by the first byte

pub begins-same : (test : ℕ → Bool) (front rest u : List ℕ) (t : Bool) → SameStart rest u → first_byte_is test (front ++ rest) ≡ t → first_byte_is test (front ++ u) ≡ t
begins-same test (b ∷ front) rest u t same e = e
begins-same test [] [] [] t same e = e
begins-same test [] [] (b ∷ u) t same e = absurd same
begins-same test [] (a ∷ rest) [] t same e = absurd same
begins-same test [] (a ∷ rest) (b ∷ u) t same e = ap test (sym same) ∙ e

abbrev pub Either : {V : Type 0} → (V → Type 0) → (V → Type 0) → V → Type 0
Either Fits Others v = Fits v ⊎ Others v

pub Exact-choice :
    {V : Type 0} (test : ℕ → Bool) (Here Other : V → Type 0) (text : V → List ℕ) (joins : ℕ → Bool) (here other : List ℕ → Result (V × List ℕ) ℕ) →
    Exact Here text joins here → Exact Other text joins other →
    ((v : V) (rest : List ℕ) → Here v → first_byte_is test (text v ++ rest) ≡ true) →
    ((v : V) (rest : List ℕ) → Other v → first_byte_is test (text v ++ rest) ≡ false) →
    Exact (Either Here Other) text joins (choice test here other)
Exact-choice {V} test Here Other text joins here other exact1 exact2 begin apart = record {
  takes = takes;
  again = again;
  stops = stops;
}
  where
    on : (bytes : List ℕ) (r : Result (V × List ℕ) ℕ) → first_byte_is test bytes ≡ true → choice test here other bytes ≡ r → here bytes ≡ r
    on bytes r t e = sym (at_true (first_byte_is test bytes) (here bytes) (other bytes) t) ∙ e

    off : (bytes : List ℕ) (r : Result (V × List ℕ) ℕ) → first_byte_is test bytes ≡ false → choice test here other bytes ≡ r → other bytes ≡ r
    off bytes r t e = sym (at_false (first_byte_is test bytes) (here bytes) (other bytes) t) ∙ e

    takes : (bytes : List ℕ) (v : V) (rest : List ℕ) → choice test here other bytes ≡ Ok (v, rest) → Takes (Either Here Other) text joins bytes v rest
    takes bytes v rest e =
        elim (cases (first_byte_is test bytes)) [
          | inl t ↦
              let s = exact1.takes bytes v rest (on bytes (Ok (v, rest)) t e) in
              record { fits = inl s.fits; split = s.split; ends = s.ends }
          | inr t ↦
              let s = exact2.takes bytes v rest (off bytes (Ok (v, rest)) t e) in
              record { fits = inr s.fits; split = s.split; ends = s.ends }
        ]

    again : (v : V) (rest : List ℕ) → Either Here Other v → Ends joins rest → choice test here other (text v ++ rest) ≡ Ok (v, rest)
    again v rest (inl fits) ends =
        at_true (first_byte_is test (text v ++ rest)) (here (text v ++ rest)) (other (text v ++ rest)) (begin v rest fits) ∙ exact1.again v rest fits ends
    again v rest (inr fits) ends =
        at_false (first_byte_is test (text v ++ rest)) (here (text v ++ rest)) (other (text v ++ rest)) (apart v rest fits) ∙ exact2.again v rest fits ends

    stops : (bytes : List ℕ) (left : ℕ) → choice test here other bytes ≡ Err left → Stops (Either Here Other) text (choice test here other) bytes left
    stops bytes left e =
        elim (cases (first_byte_is test bytes)) [
          | inl t ↦
              let s = exact1.stops bytes left (on bytes (Err left) t e) in
              record {
                front = s.front;
                rest = s.rest;
                split = s.split;
                left_is = s.left_is;
                value = s.value;
                fits = inl s.fits;
                more = s.more;
                begins = s.begins;
                again =
                    λ u same.
                    at_true (first_byte_is test (s.front ++ u)) (here (s.front ++ u)) (other (s.front ++ u))
                    (begins-same test s.front s.rest u true same (ap (first_byte_is test) (sym s.split) ∙ t))
                    ∙ s.again u same;
              }
          | inr t ↦
              let s = exact2.stops bytes left (off bytes (Err left) t e) in
              record {
                front = s.front;
                rest = s.rest;
                split = s.split;
                left_is = s.left_is;
                value = s.value;
                fits = inr s.fits;
                more = s.more;
                begins = s.begins;
                again =
                    λ u same.
                    at_false (first_byte_is test (s.front ++ u)) (here (s.front ++ u)) (other (s.front ++ u))
                    (begins-same test s.front s.rest u false same (ap (first_byte_is test) (sym s.split) ∙ t))
                    ∙ s.again u same;
              }
        ]

pub Exact-by_first :
    {V : Type 0} (first : ℕ) (Here Other : V → Type 0) (text : V → List ℕ) (here other : List ℕ → Result (V × List ℕ) ℕ) →
    Exact Here text nothing here → Exact Other text nothing other →
    ((v : V) (rest : List ℕ) → Here v → starts_with first (text v ++ rest) ≡ true) →
    ((v : V) (rest : List ℕ) → Other v → starts_with first (text v ++ rest) ≡ false) →
    Exact (Either Here Other) text nothing (by_first first here other)
Exact-by_first {V} first Here Other text here other = Exact-choice {V = V} (λ byte. byte == first) Here Other text nothing here other

-- ---- a number with one of some words behind it

-- no digit begins the word, which isn't empty
abbrev pub no_digit : List ℕ → Bool
no_digit [] = false
no_digit (byte ∷ word) = not (is_decimal byte)

not_true : (b : Bool) → not b ≡ true → b ≡ false
not_true true h = absurd (false≢true h)
not_true false h = refl

word_ends : (word rest : List ℕ) → no_digit word ≡ true → Ends is_decimal (word ++ rest)
word_ends [] rest h = absurd (false≢true h)
word_ends (byte ∷ word) rest h = not_true (is_decimal byte) h

pub words_end : (words : List (List ℕ)) (i : ℕ) (rest : List ℕ) → list_all no_digit words ≡ true → i < length words → Ends is_decimal (get_or words i [] ++ rest)
words_end [] i rest h inside = absurd (omega (arith, inside))
words_end (word ∷ words) zero rest h inside = word_ends word rest (both (no_digit word) (list_all no_digit words) h).0
words_end (word ∷ words) (suc i) rest h inside =
    words_end words i rest (both (no_digit word) (list_all no_digit words) h).1 (omega (arith, inside))

abbrev pub IsEnding : List (List ℕ) → ℕ × ℕ → Type 0
IsEnding words x = IsUpTo 4294967295 x.0 × IsIndexOf words x.1

abbrev pub ending_text : List (List ℕ) → ℕ × ℕ → List ℕ
ending_text words x = decimal x.0 ++ get_or words x.1 []

pub small : 4294967295 < 2 ^ 64
small = lit< tt

pub Exact-ending :
    (word : List ℕ) (words : List (List ℕ)) → is_code (word ∷ words) ≡ true → list_all no_digit (word ∷ words) ≡ true →
    Exact (IsEnding (word ∷ words)) (ending_text (word ∷ words)) nothing (ending_at (word ∷ words))
Exact-ending word words code apart =
    Exact-then (IsUpTo 4294967295) decimal is_decimal (number_at 4294967295) (λ n. IsIndexOf (word ∷ words)) (λ n i. get_or (word ∷ words) i []) nothing
    (λ n. one_of_at (word ∷ words)) (Exact-number 4294967295 small) (λ n fits. Exact-one_of word words code) (λ n fits. (0, omega arith))
    (λ n i rest fits inside ends. words_end (word ∷ words) i rest apart inside)
