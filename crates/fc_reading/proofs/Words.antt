-- Words that must stand, and one of some words.
use Rattle.std.proofs.Common.{◌≡◌, ℕ, zero, suc, ◌+◌, ◌-◌, ◌<◌, ◌≤◌, Bool, true, false, ◌&&◌, cond, eqb, List, [], ◌∷◌, ◌++◌, length, get_or, min, Result, Ok, Err, refl, sym, ap, subst, ◌∙◌, length-append, arith, inl, inr}
use Rattle.std.specs.Prelude.{◌⊎◌}
use Rattle.std.specs.List.{list_all}
use Rattle.std.proofs.lemmas.Bool.{cases_lt, eq-eqb, eqb-true, false≢true}
use Rattle.fc_reading.specs.Readers.{either, one_of_at, word_at}
use Rattle.fc_reading.proofs.Exact.{Ends, Exact, SameStart, Stops, err_is, ok_is, ok_no_err, outcome, refused_at}

-- no byte can join
abbrev pub nothing : ℕ → Bool
nothing byte = false

pub Ends-nothing : (rest : List ℕ) → Ends nothing rest
Ends-nothing [] = tt
Ends-nothing (b ∷ rest) = refl

-- ---- a test and what follows from it

pub cond_ok : {A : Type 0} (t : Bool) (r : Result A ℕ) (n : ℕ) (x : A) → cond t r (Err n) ≡ Ok x → (t ≡ true) × (r ≡ Ok x)
cond_ok true r n x e = (refl, e)
cond_ok false r n x e = absurd (ok_no_err x n (sym e))

pub cond_err : {A : Type 0} (t : Bool) (r : Result A ℕ) (n left : ℕ) → cond t r (Err n) ≡ Err left → ((t ≡ true) × (r ≡ Err left)) ⊎ ((t ≡ false) × (n ≡ left))
cond_err true r n left e = inl (refl, e)
cond_err false r n left e = inr (refl, err_is _ _ e)

pub at_true : {A : Type 0} (t : Bool) (r s : A) → t ≡ true → cond t r s ≡ r
at_true t r s e = rw e refl

pub at_false : {A : Type 0} (t : Bool) (r s : A) → t ≡ false → cond t r s ≡ s
at_false t r s e = rw e refl

-- ---- one word

pub word_at-takes : (word bytes rest : List ℕ) → word_at word bytes ≡ Ok rest → bytes ≡ word ++ rest
word_at-takes [] bytes rest e = ok_is _ _ e
word_at-takes (letter ∷ word) [] rest e = absurd (ok_no_err rest 0 (sym e))
word_at-takes (letter ∷ word) (byte ∷ bytes) rest e =
    let parts = cond_ok (eqb letter byte) (word_at word bytes) (suc (length bytes)) rest e in
    ap (λ b. b ∷ bytes) (sym (eqb-true letter byte parts.0)) ∙ ap (λ bs. letter ∷ bs) (word_at-takes word bytes rest parts.1)

pub word_at-again : (word rest : List ℕ) → word_at word (word ++ rest) ≡ Ok rest
word_at-again [] rest = refl
word_at-again (letter ∷ word) rest =
    at_true (eqb letter letter) (word_at word (word ++ rest)) (Err (suc (length (word ++ rest)))) (eq-eqb letter letter refl)
    ∙ word_at-again word rest

-- no more is left than there was
pub word_at-within : (word bytes : List ℕ) (left : ℕ) → word_at word bytes ≡ Err left → left ≤ length bytes
word_at-within [] bytes left e = absurd (ok_no_err bytes left e)
word_at-within (letter ∷ word) [] left e = omega (arith, err_is 0 left e)
word_at-within (letter ∷ word) (byte ∷ bytes) left e =
    elim (cond_err (eqb letter byte) (word_at word bytes) (suc (length bytes)) left e) [
      | inl same ↦ omega (arith, word_at-within word bytes left same.1)
      | inr other ↦ omega (arith, other.1)
    ]

-- Where it stops, at the bytes' rest or before: so it does whatever comes, if it begins with the same byte.
pub word_at-shift :
    (word front rest u : List ℕ) (left : ℕ) →
    word_at word (front ++ rest) ≡ Err left →
    length rest ≤ left →
    SameStart rest u →
    word_at word (front ++ u) ≡ Err (length u + (left - length rest))
word_at-shift [] front rest u left e within same = absurd (ok_no_err _ left e)
word_at-shift (letter ∷ word) [] [] [] left e within same = refused_at 0 (0 + (left - 0)) (omega (arith, err_is 0 left e))
word_at-shift (letter ∷ word) [] [] (b ∷ u) left e within same = absurd same
word_at-shift (letter ∷ word) [] (a ∷ rest) [] left e within same = absurd same
word_at-shift (letter ∷ word) [] (a ∷ rest) (b ∷ u) left e within same =
    elim (cond_err (eqb letter a) (word_at word rest) (suc (length rest)) left e) [
      | inl more ↦ absurd (omega (arith, word_at-within word rest left more.1, within))
      | inr other ↦
          at_false (eqb letter b) (word_at word u) (Err (suc (length u))) (ap (eqb letter) (sym same) ∙ other.0)
          ∙ refused_at (suc (length u)) (suc (length u) + (left - suc (length rest))) (omega (arith, other.1))
    ]
word_at-shift (letter ∷ word) (f ∷ front) rest u left e within same =
    elim (cond_err (eqb letter f) (word_at word (front ++ rest)) (suc (length (front ++ rest))) left e) [
      | inl more ↦
          at_true (eqb letter f) (word_at word (front ++ u)) (Err (suc (length (front ++ u)))) more.0
          ∙ word_at-shift word front rest u left more.1 within same
      | inr other ↦
          at_false (eqb letter f) (word_at word (front ++ u)) (Err (suc (length (front ++ u)))) other.0
          ∙ refused_at (suc (length (front ++ u))) (length u + (left - length rest)) (omega (arith, other.1, length-append front u, length-append front rest))
    ]

-- where it stops, its front is a front of the word
pub record WordStops (word bytes : List ℕ) (left : ℕ) : Type 0 where
  pub front : List ℕ
  pub rest : List ℕ
  pub split : bytes ≡ front ++ rest
  pub left_is : left ≡ length rest
  pub more : List ℕ
  pub begins : word ≡ front ++ more

WordStops-more : (letter byte : ℕ) (word bytes : List ℕ) (left : ℕ) → letter ≡ byte → WordStops word bytes left → WordStops (letter ∷ word) (byte ∷ bytes) left
WordStops-more letter byte word bytes left same s = record {
  front = byte ∷ s.front;
  rest = s.rest;
  split = ap (λ t. byte ∷ t) s.split;
  left_is = s.left_is;
  more = s.more;
  begins = ap (λ b. b ∷ word) same ∙ ap (λ t. byte ∷ t) s.begins;
}

pub word_at-stops : (word bytes : List ℕ) (left : ℕ) → word_at word bytes ≡ Err left → WordStops word bytes left
word_at-stops [] bytes left e = absurd (ok_no_err bytes left e)
word_at-stops (letter ∷ word) [] left e = record {
  front = [];
  rest = [];
  split = refl;
  left_is = sym (err_is 0 left e);
  more = letter ∷ word;
  begins = refl;
}
word_at-stops (letter ∷ word) (byte ∷ bytes) left e =
    elim (cond_err (eqb letter byte) (word_at word bytes) (suc (length bytes)) left e) [
      | inl same ↦ WordStops-more letter byte word bytes left (eqb-true letter byte same.0) (word_at-stops word bytes left same.1)
      | inr other ↦ record {
        front = [];
        rest = byte ∷ bytes;
        split = refl;
        left_is = sym other.1;
        more = letter ∷ word;
        begins = refl;
      }
    ]

-- ---- one of some words

-- two words that differ at a place of both
abbrev pub apart : List ℕ → List ℕ → Bool
apart [] word = false
apart (a ∷ xs) [] = false
apart (a ∷ xs) (b ∷ bs) = cond (eqb a b) (apart xs bs) true

-- words of which each two are apart: none begins another
abbrev pub is_code : List (List ℕ) → Bool
is_code [] = true
is_code (word ∷ words) = list_all (apart word) words && is_code words

pub both : (a b : Bool) → a && b ≡ true → (a ≡ true) × (b ≡ true)
both true b h = (refl, h)
both false b h = absurd (false≢true h)

list_all-at : {X : Type 0} (p : X → Bool) (xs : List X) (i : ℕ) (d : X) → list_all p xs ≡ true → i < length xs → p (get_or xs i d) ≡ true
list_all-at p [] i d all inside = absurd (omega arith)
list_all-at p (x ∷ xs) zero d all inside = (both (p x) (list_all p xs) all).0
list_all-at p (x ∷ xs) (suc i) d all inside = list_all-at p xs i d (both (p x) (list_all p xs) all).1 (omega arith)

-- a word isn't read where another stands that is apart from it
apart-err : (word other rest : List ℕ) → apart word other ≡ true → (n : ℕ) × (word_at word (other ++ rest) ≡ Err n)
apart-err [] other rest e = absurd (false≢true e)
apart-err (a ∷ xs) [] rest e = absurd (false≢true e)
apart-err (a ∷ xs) (b ∷ bs) rest e =
    elim (cases (eqb a b)) [
      | inl same ↦
          let more = apart-err xs bs rest (sym (at_true (eqb a b) (apart xs bs) true same) ∙ e) in
          (more.0, at_true (eqb a b) (word_at xs (bs ++ rest)) (Err (suc (length (bs ++ rest)))) same ∙ more.1)
      | inr differ ↦
          (suc (length (bs ++ rest)), at_false (eqb a b) (word_at xs (bs ++ rest)) (Err (suc (length (bs ++ rest)))) differ)
    ]
  where
    cases : (t : Bool) → (t ≡ true) ⊎ (t ≡ false)
    cases true = inl refl
    cases false = inr refl

either_later : (r : Result (List ℕ) ℕ) (others : Result (ℕ × List ℕ) ℕ) (n i : ℕ) (rest : List ℕ) → r ≡ Err n → others ≡ Ok (i, rest) → either r others ≡ Ok (suc i, rest)
either_later r others n i rest e1 e2 = rw (e1, e2) refl

either_none : (r : Result (List ℕ) ℕ) (others : Result (ℕ × List ℕ) ℕ) (m n : ℕ) → r ≡ Err m → others ≡ Err n → either r others ≡ Err (min m n)
either_none r others m n e1 e2 = rw (e1, e2) refl

pub one_of-again : (words : List (List ℕ)) (i : ℕ) (rest : List ℕ) → is_code words ≡ true → i < length words → one_of_at words (get_or words i [] ++ rest) ≡ Ok (i, rest)
one_of-again [] i rest code inside = absurd (omega arith)
one_of-again (word ∷ words) zero rest code inside = ap (λ r. either r (one_of_at words (word ++ rest))) (word_at-again word rest)
one_of-again (word ∷ words) (suc i) rest code inside =
    let parts = both (list_all (apart word) words) (is_code words) code in
    let none = apart-err word (get_or words i []) rest (list_all-at (apart word) words i [] parts.0 (omega arith)) in
    either_later (word_at word (get_or words i [] ++ rest)) (one_of_at words (get_or words i [] ++ rest)) none.0 i rest none.1
    (one_of-again words i rest parts.1 (omega arith))

-- what was read is one of the words
pub record FoundAt (words : List (List ℕ)) (bytes : List ℕ) (i : ℕ) (rest : List ℕ) : Type 0 where
  pub inside : i < length words
  pub split : bytes ≡ get_or words i [] ++ rest

FoundAt-later : (word : List ℕ) (words : List (List ℕ)) (bytes : List ℕ) (i : ℕ) (rest : List ℕ) → FoundAt words bytes i rest → FoundAt (word ∷ words) bytes (suc i) rest
FoundAt-later word words bytes i rest found = record { inside = omega (arith, found.inside); split = found.split }

found_here : (word : List ℕ) (words : List (List ℕ)) (bytes : List ℕ) (i : ℕ) (rest after : List ℕ) → word_at word bytes ≡ Ok after → ◌≡◌ {A = ℕ × List ℕ} (0, after) (i, rest) → FoundAt (word ∷ words) bytes i rest
found_here word words bytes i rest after is same =
    let P : ℕ × List ℕ → Type 0 = λ z. FoundAt (word ∷ words) bytes z.0 z.1 in
    let at : P (0, after) = record { inside = omega arith; split = word_at-takes word bytes after is } in
    subst P same at

found_later : (word : List ℕ) (words : List (List ℕ)) (bytes : List ℕ) (i : ℕ) (rest : List ℕ) (x : ℕ × List ℕ) → FoundAt words bytes x.0 x.1 → ◌≡◌ {A = ℕ × List ℕ} (suc x.0, x.1) (i, rest) → FoundAt (word ∷ words) bytes i rest
found_later word words bytes i rest x found same =
    let P : ℕ × List ℕ → Type 0 = λ z. FoundAt (word ∷ words) bytes z.0 z.1 in
    let at : P (suc x.0, x.1) = FoundAt-later word words bytes x.0 x.1 found in
    subst P same at

pub one_of-takes : (words : List (List ℕ)) (bytes : List ℕ) (i : ℕ) (rest : List ℕ) → one_of_at words bytes ≡ Ok (i, rest) → FoundAt words bytes i rest
one_of-takes [] bytes i rest e = absurd (ok_no_err _ _ (sym e))
one_of-takes (word ∷ words) bytes i rest e =
    elim (outcome (word_at word bytes)) [
      | inl here ↦ found_here word words bytes i rest here.0 here.1 (ok_is _ _ (sym (ap (λ r. either r (one_of_at words bytes)) here.1) ∙ e))
      | inr not ↦
          elim (outcome (one_of_at words bytes)) [
            | inl later ↦
                found_later word words bytes i rest later.0 (one_of-takes words bytes later.0.0 later.0.1 later.1)
                (ok_is _ _ (sym (either_later (word_at word bytes) (one_of_at words bytes) not.0 later.0.0 later.0.1 not.1 later.1) ∙ e))
            | inr none ↦
                absurd (ok_no_err _ _ (sym e ∙ either_none (word_at word bytes) (one_of_at words bytes) not.0 none.0 not.1 none.1))
          ]
    ]

-- where none stands, some word goes furthest
pub record Furthest (words : List (List ℕ)) (bytes : List ℕ) (left : ℕ) : Type 0 where
  pub i : ℕ
  pub inside : i < length words
  pub is : word_at (get_or words i []) bytes ≡ Err left

-- neither the first word stands, nor another
none_of : (word : List ℕ) (words : List (List ℕ)) (bytes : List ℕ) (left : ℕ) → one_of_at (word ∷ words) bytes ≡ Err left → (m n : ℕ) × (word_at word bytes ≡ Err m) × (one_of_at words bytes ≡ Err n) × (min m n ≡ left)
none_of word words bytes left e =
    elim (outcome (word_at word bytes)) [
      | inl here ↦ absurd (ok_no_err _ _ (sym (ap (λ r. either r (one_of_at words bytes)) here.1) ∙ e))
      | inr not ↦
          elim (outcome (one_of_at words bytes)) [
            | inl later ↦
                absurd (ok_no_err _ _ (sym (either_later (word_at word bytes) (one_of_at words bytes) not.0 later.0.0 later.0.1 not.1 later.1) ∙ e))
            | inr none ↦
                (not.0, none.0, not.1, none.1, err_is _ _ (sym (either_none (word_at word bytes) (one_of_at words bytes) not.0 none.0 not.1 none.1) ∙ e))
          ]
    ]

pub one_of-furthest : (word : List ℕ) (words : List (List ℕ)) (bytes : List ℕ) (left : ℕ) → one_of_at (word ∷ words) bytes ≡ Err left → Furthest (word ∷ words) bytes left
one_of-furthest word [] bytes left e =
    let parts = none_of word [] bytes left e in
    record {
      i = 0;
      inside = omega arith;
      is = parts.2 ∙ refused_at parts.0 left (omega (arith, word_at-within word bytes parts.0 parts.2, err_is (length bytes) parts.1 parts.3, parts.4));
    }
one_of-furthest word (next ∷ words) bytes left e =
    let parts = none_of word (next ∷ words) bytes left e in
    elim (lesser parts.0 parts.1 left parts.4) [
      | inl first ↦ record { i = 0; inside = omega arith; is = parts.2 ∙ ap Err first }
      | inr later ↦
          let more = one_of-furthest next words bytes left (parts.3 ∙ ap Err later) in
          record { i = suc more.i; inside = omega (arith, more.inside); is = more.is }
    ]
  where
    lesser : (m n k : ℕ) → min m n ≡ k → (m ≡ k) ⊎ (n ≡ k)
    lesser m n k e = elim (cases_lt m n) [ inl lt ↦ inl (omega (arith, e, lt)) | inr le ↦ inr (omega (arith, e, le)) ]

-- no more is left than there was
pub one_of-within : (words : List (List ℕ)) (bytes : List ℕ) (left : ℕ) → one_of_at words bytes ≡ Err left → left ≤ length bytes
one_of-within [] bytes left e = omega (arith, err_is (length bytes) left e)
one_of-within (word ∷ words) bytes left e =
    let parts = none_of word words bytes left e in
    omega (arith, word_at-within word bytes parts.0 parts.2, parts.4)

-- it stops in the same way, whatever comes
pub one_of-shift :
    (words : List (List ℕ)) (front rest u : List ℕ) (left : ℕ) →
    one_of_at words (front ++ rest) ≡ Err left →
    length rest ≤ left →
    SameStart rest u →
    one_of_at words (front ++ u) ≡ Err (length u + (left - length rest))
one_of-shift [] front rest u left e within same =
    refused_at (length (front ++ u)) (length u + (left - length rest)) (omega (arith, err_is (length (front ++ rest)) left e, length-append front u, length-append front rest))
one_of-shift (word ∷ words) front rest u left e within same =
    let parts = none_of word words (front ++ rest) left e in
    either_none (word_at word (front ++ u)) (one_of_at words (front ++ u)) (length u + (parts.0 - length rest)) (length u + (parts.1 - length rest))
    (word_at-shift word front rest u parts.0 parts.2 (omega (arith, within, parts.4)) same)
    (one_of-shift words front rest u parts.1 parts.3 (omega (arith, within, parts.4)) same)
    ∙ refused_at (min (length u + (parts.0 - length rest)) (length u + (parts.1 - length rest))) (length u + (left - length rest)) (omega (arith, parts.4, within))

abbrev pub IsIndexOf : List (List ℕ) → ℕ → Type 0
IsIndexOf words i = i < length words

-- one of some words, of which none begins another, is read exactly
pub Exact-one_of : (word : List ℕ) (words : List (List ℕ)) → is_code (word ∷ words) ≡ true → Exact (IsIndexOf (word ∷ words)) (λ i. get_or (word ∷ words) i []) nothing (one_of_at (word ∷ words))
Exact-one_of word words code = record {
  takes =
      λ bytes i rest e.
      let found = one_of-takes (word ∷ words) bytes i rest e in
      record { fits = found.inside; split = found.split; ends = Ends-nothing rest };
  again = λ i rest fits ends. one_of-again (word ∷ words) i rest code fits;
  stops = stops;
}
  where
    stops : (bytes : List ℕ) (left : ℕ) → one_of_at (word ∷ words) bytes ≡ Err left → Stops (IsIndexOf (word ∷ words)) (λ i. get_or (word ∷ words) i []) (one_of_at (word ∷ words)) bytes left
    stops bytes left e =
        let far = one_of-furthest word words bytes left e in
        let s = word_at-stops (get_or (word ∷ words) far.i []) bytes left far.is in
        record {
          front = s.front;
          rest = s.rest;
          split = s.split;
          left_is = s.left_is;
          value = far.i;
          fits = far.inside;
          more = s.more;
          begins = s.begins;
          again =
              λ u same.
              one_of-shift (word ∷ words) s.front s.rest u left (ap (one_of_at (word ∷ words)) (sym s.split) ∙ e) (omega (arith, s.left_is)) same
              ∙ refused_at (length u + (left - length s.rest)) (length u) (omega (arith, s.left_is));
        }
