-- Items that are read as long as a byte comes first are read exactly.
use Rattle.std.proofs.Common.{◌≡◌, ℕ, zero, suc, ◌≤◌, ◌==◌, Bool, true, false, List, [], ◌∷◌, ◌++◌, length, Result, Ok, Err, refl, sym, ap, subst, ◌∙◌, append_assoc, length-append, arith, inl, inr}
use Rattle.std.specs.Prelude.{◌⊎◌}
use Rattle.std.specs.List.{flat_map}
use Rattle.std.proofs.lemmas.Bool.{false≢true}
use Rattle.fc_reading.specs.Readers.{◌>>=◌}
use Rattle.fc_reading_notes.specs.Lists.{and_more, starts_with, while_at, while_first}
use Rattle.fc_reading.proofs.Exact.{Ends, Exact, SameStart, Stops, Takes, bind_at_err, bind_at_ok, err_is, ok_is, ok_no_err, outcome}
use Rattle.fc_reading.proofs.Words.{Ends-nothing, at_false, at_true, nothing}

-- each item fits, by the state that those before it left
abbrev pub InTurn : {S V : Type 0} → (S → V → Type 0) → (S → V → S) → S → List V → Type 0
InTurn Fits next state [] = Unit {0}
InTurn Fits next state (v ∷ vs) = Fits state v × InTurn Fits next (next state v) vs

-- the byte alone can join
abbrev pub first_joins : ℕ → ℕ → Bool
first_joins first byte = byte == first

-- items that are read exactly in every state, each of which this byte begins
pub record WhileOf {S V : Type 0} (first : ℕ) (Fits : S → V → Type 0) (text : V → List ℕ) (item : S → List ℕ → Result (V × List ℕ) ℕ) (next : S → V → S) : Type 0 where
  pub exact : (s : S) → Exact (Fits s) text nothing (item s)
  pub begins : (s : S) (v : V) → Fits s v → starts_with first (text v) ≡ true

cases : (t : Bool) → (t ≡ true) ⊎ (t ≡ false)
cases true = inl refl
cases false = inr refl

begins_still : (first : ℕ) (bytes more : List ℕ) → starts_with first bytes ≡ true → starts_with first (bytes ++ more) ≡ true
begins_still first [] more e = absurd (false≢true e)
begins_still first (byte ∷ bytes) more e = e

begins_some : (first : ℕ) (bytes : List ℕ) → starts_with first bytes ≡ true → 1 ≤ length bytes
begins_some first [] e = absurd (false≢true e)
begins_some first (byte ∷ bytes) e = omega arith

begins_same : (first : ℕ) (front rest u : List ℕ) → SameStart rest u → starts_with first (front ++ rest) ≡ true → starts_with first (front ++ u) ≡ true
begins_same first (b ∷ front) rest u same e = e
begins_same first [] [] u same e = absurd (false≢true e)
begins_same first [] (a ∷ rest) [] same e = absurd same
begins_same first [] (a ∷ rest) (b ∷ u) same e = ap (λ x. x == first) (sym same) ∙ e

other_ends : (first : ℕ) (rest : List ℕ) → starts_with first rest ≡ false → Ends (first_joins first) rest
other_ends first [] e = tt
other_ends first (b ∷ rest) e = e

ends_other : (first : ℕ) (rest : List ℕ) → Ends (first_joins first) rest → starts_with first rest ≡ false
ends_other first [] e = refl
ends_other first (b ∷ rest) e = e

-- ---- one step

step_on :
    {S V : Type 0} (first : ℕ) (item : S → List ℕ → Result (V × List ℕ) ℕ) (next : S → V → S) (most : ℕ) (s : S) (bytes : List ℕ) →
    starts_with first bytes ≡ true →
    while_at first item next (suc most) s bytes ≡ (item s bytes >>= (λ x. and_more x.0 true (while_at first item next most (next s x.0)) x.1))
step_on first item next most s bytes e =
    at_true (starts_with first bytes) (item s bytes >>= (λ x. and_more x.0 true (while_at first item next most (next s x.0)) x.1)) (Ok ([], bytes)) e

step_end :
    {S V : Type 0} (first : ℕ) (item : S → List ℕ → Result (V × List ℕ) ℕ) (next : S → V → S) (most : ℕ) (s : S) (bytes : List ℕ) →
    starts_with first bytes ≡ false →
    while_at first item next most s bytes ≡ Ok ([], bytes)
step_end first item next zero s bytes e = at_false (starts_with first bytes) (Err (length bytes)) (Ok ([], bytes)) e
step_end first item next (suc most) s bytes e =
    at_false (starts_with first bytes) (item s bytes >>= (λ x. and_more x.0 true (while_at first item next most (next s x.0)) x.1)) (Ok ([], bytes)) e

step_full :
    {S V : Type 0} (first : ℕ) (item : S → List ℕ → Result (V × List ℕ) ℕ) (next : S → V → S) (s : S) (bytes : List ℕ) →
    starts_with first bytes ≡ true →
    while_at first item next zero s bytes ≡ Err (length bytes)
step_full first item next s bytes e = at_true (starts_with first bytes) (Err (length bytes)) (Ok ([], bytes)) e

-- an item, and what the others answer
step_item :
    {S V : Type 0} (first : ℕ) (item : S → List ℕ → Result (V × List ℕ) ℕ) (next : S → V → S) (most : ℕ) (s : S) (bytes mid : List ℕ) (v : V)
    (r : Result (List V × List ℕ) ℕ) →
    starts_with first bytes ≡ true → item s bytes ≡ Ok (v, mid) → while_at first item next most (next s v) mid ≡ r →
    while_at first item next (suc most) s bytes ≡ (r >>= (λ y. Ok (v ∷ y.0, y.1)))
step_item first item next most s bytes mid v r e e1 e2 =
    step_on first item next most s bytes e
    ∙ bind_at_ok (item s bytes) (λ x. and_more x.0 true (while_at first item next most (next s x.0)) x.1) (v, mid) e1
    ∙ ap (λ z. z >>= (λ y. Ok (v ∷ y.0, y.1))) e2

-- no item
step_stop :
    {S V : Type 0} (first : ℕ) (item : S → List ℕ → Result (V × List ℕ) ℕ) (next : S → V → S) (most : ℕ) (s : S) (bytes : List ℕ) (n : ℕ) →
    starts_with first bytes ≡ true → item s bytes ≡ Err n → while_at first item next (suc most) s bytes ≡ Err n
step_stop first item next most s bytes n e e1 =
    step_on first item next most s bytes e
    ∙ bind_at_err (item s bytes) (λ x. and_more x.0 true (while_at first item next most (next s x.0)) x.1) n e1

-- ---- what is taken

ends_there :
    {S V : Type 0} (first : ℕ) (Fits : S → V → Type 0) (text : V → List ℕ) (item : S → List ℕ → Result (V × List ℕ) ℕ) (next : S → V → S) →
    (most : ℕ) (s : S) (bytes : List ℕ) (vs : List V) (rest : List ℕ) → starts_with first bytes ≡ false →
    while_at first item next most s bytes ≡ Ok (vs, rest) → Takes (InTurn Fits next s) (flat_map text) (first_joins first) bytes vs rest
ends_there {S} {V} first Fits text item next most s bytes vs rest ends e =
    let P : List V × List ℕ → Type 0 = λ z. Takes (InTurn Fits next s) (flat_map text) (first_joins first) bytes z.0 z.1 in
    let at : P ([], bytes) = record { fits = tt; split = refl; ends = other_ends first bytes ends } in
    subst P (ok_is _ _ (sym (step_end first item next most s bytes ends) ∙ e)) at

one_more :
    {S V : Type 0} (first : ℕ) (Fits : S → V → Type 0) (text : V → List ℕ) (next : S → V → S) →
    (s : S) (bytes mid : List ℕ) (v : V) (ws : List V) (after : List ℕ) →
    Takes (Fits s) text nothing bytes v mid → Takes (InTurn Fits next (next s v)) (flat_map text) (first_joins first) mid ws after →
    Takes (InTurn Fits next s) (flat_map text) (first_joins first) bytes (v ∷ ws) after
one_more first Fits text next s bytes mid v ws after t b = record {
  fits = (t.fits, b.fits);
  split = t.split ∙ ap (λ r. text v ++ r) b.split ∙ sym (append_assoc (text v) (flat_map text ws) after);
  ends = b.ends;
}

while-takes :
    {S V : Type 0} (first : ℕ) (Fits : S → V → Type 0) (text : V → List ℕ) (item : S → List ℕ → Result (V × List ℕ) ℕ) (next : S → V → S) →
    WhileOf first Fits text item next →
    (most : ℕ) (s : S) (bytes : List ℕ) (vs : List V) (rest : List ℕ) → while_at first item next most s bytes ≡ Ok (vs, rest) →
    Takes (InTurn Fits next s) (flat_map text) (first_joins first) bytes vs rest
while-takes first Fits text item next of zero s bytes vs rest e =
    elim (cases (starts_with first bytes)) [
      | inl goes ↦ absurd (ok_no_err _ _ (sym e ∙ step_full first item next s bytes goes))
      | inr ends ↦ ends_there first Fits text item next zero s bytes vs rest ends e
    ]
while-takes {S} {V} first Fits text item next of (suc most) s bytes vs rest e =
    elim (cases (starts_with first bytes)) [
      | inl goes ↦
          elim (outcome (item s bytes)) [
            | inl one ↦
                elim (outcome (while_at first item next most (next s one.0.0) one.0.1)) [
                  | inl two ↦
                      let P : List V × List ℕ → Type 0 = λ z. Takes (InTurn Fits next s) (flat_map text) (first_joins first) bytes z.0 z.1 in
                      let at : P (one.0.0 ∷ two.0.0, two.0.1) =
                      one_more first Fits text next s bytes one.0.1 one.0.0 two.0.0 two.0.1 ((of.exact s).takes bytes one.0.0 one.0.1 one.1)
                      (while-takes first Fits text item next of most (next s one.0.0) one.0.1 two.0.0 two.0.1 two.1) in
                      subst P
                      (ok_is _ _ (sym (step_item first item next most s bytes one.0.1 one.0.0 (Ok two.0) goes one.1 two.1) ∙ e))
                      at
                  | inr two ↦
                      absurd (ok_no_err _ _ (sym e ∙ step_item first item next most s bytes one.0.1 one.0.0 (Err two.0) goes one.1 two.1))
                ]
            | inr one ↦ absurd (ok_no_err _ _ (sym e ∙ step_stop first item next most s bytes one.0 goes one.1))
          ]
      | inr ends ↦ ends_there first Fits text item next (suc most) s bytes vs rest ends e
    ]

-- ---- what is taken again

text_some :
    {S V : Type 0} (first : ℕ) (Fits : S → V → Type 0) (text : V → List ℕ) (item : S → List ℕ → Result (V × List ℕ) ℕ) (next : S → V → S) →
    WhileOf first Fits text item next → (s : S) (v : V) → Fits s v → 1 ≤ length (text v)
text_some first Fits text item next of s v fits = begins_some first (text v) (of.begins s v fits)

while-again :
    {S V : Type 0} (first : ℕ) (Fits : S → V → Type 0) (text : V → List ℕ) (item : S → List ℕ → Result (V × List ℕ) ℕ) (next : S → V → S) →
    WhileOf first Fits text item next →
    (vs : List V) (most : ℕ) (s : S) (rest : List ℕ) → InTurn Fits next s vs → Ends (first_joins first) rest → length (flat_map text vs) ≤ most →
    while_at first item next most s (flat_map text vs ++ rest) ≡ Ok (vs, rest)
while-again first Fits text item next of [] most s rest fits ends few = step_end first item next most s rest (ends_other first rest ends)
while-again first Fits text item next of (v ∷ vs) zero s rest fits ends few =
    absurd (omega (arith, few, text_some first Fits text item next of s v fits.0, length-append (text v) (flat_map text vs)))
while-again first Fits text item next of (v ∷ vs) (suc most) s rest fits ends few =
    step_item first item next most s ((text v ++ flat_map text vs) ++ rest) (flat_map text vs ++ rest) v (Ok (vs, rest))
    (begins_still first (text v ++ flat_map text vs) rest (begins_still first (text v) (flat_map text vs) (of.begins s v fits.0)))
    (
    ap (item s) (append_assoc (text v) (flat_map text vs) rest)
    ∙ (of.exact s).again v (flat_map text vs ++ rest) fits.0 (Ends-nothing (flat_map text vs ++ rest))
    )
    (
    while-again first Fits text item next of vs most (next s v) rest fits.1 ends
    (omega (arith, few, text_some first Fits text item next of s v fits.0, length-append (text v) (flat_map text vs)))
    )

-- ---- where it stops

pub record WhileStops {S V : Type 0} (first : ℕ) (Fits : S → V → Type 0) (text : V → List ℕ) (item : S → List ℕ → Result (V × List ℕ) ℕ) (next : S → V → S) (s : S) (bytes : List ℕ) (left : ℕ) : Type 0 where
  pub front : List ℕ
  pub rest : List ℕ
  pub split : bytes ≡ front ++ rest
  pub left_is : left ≡ length rest
  pub values : List V
  pub fits : InTurn Fits next s values
  pub more : List ℕ
  pub begins : flat_map text values ≡ front ++ more
  pub again : (most : ℕ) (u : List ℕ) → length (front ++ u) ≤ most → SameStart rest u → while_at first item next most s (front ++ u) ≡ Err (length u)

-- the item itself stops
stops_here :
    {S V : Type 0} (first : ℕ) (Fits : S → V → Type 0) (text : V → List ℕ) (item : S → List ℕ → Result (V × List ℕ) ℕ) (next : S → V → S) →
    WhileOf first Fits text item next →
    (s : S) (bytes : List ℕ) (left n : ℕ) → starts_with first bytes ≡ true → item s bytes ≡ Err n → n ≡ left →
    WhileStops first Fits text item next s bytes left
stops_here {S} {V} first Fits text item next of s bytes left n goes e is =
    let h = (of.exact s).stops bytes n e in
    record {
      front = h.front;
      rest = h.rest;
      split = h.split;
      left_is = sym is ∙ h.left_is;
      values = h.value ∷ [];
      fits = (h.fits, tt);
      more = h.more ++ [];
      begins = ap (λ t. t ++ []) h.begins ∙ append_assoc h.front h.more [];
      again = λ most u room same. at_most most (h.front ++ u) (length u) room
          (begins_same first h.front h.rest u same (ap (starts_with first) (sym h.split) ∙ goes)) (h.again u same);
    }
  where
    at_most : (most : ℕ) (b : List ℕ) (k : ℕ) → length b ≤ most → starts_with first b ≡ true → item s b ≡ Err k → while_at first item next most s b ≡ Err k
    at_most zero b k room on err = absurd (omega (arith, room, begins_some first b on))
    at_most (suc most) b k room on err = step_stop first item next most s b k on err

-- a later item stops
stops_later :
    {S V : Type 0} (first : ℕ) (Fits : S → V → Type 0) (text : V → List ℕ) (item : S → List ℕ → Result (V × List ℕ) ℕ) (next : S → V → S) →
    WhileOf first Fits text item next →
    (s : S) (bytes : List ℕ) (left : ℕ) (v : V) (mid : List ℕ) → Takes (Fits s) text nothing bytes v mid →
    WhileStops first Fits text item next (next s v) mid left → WhileStops first Fits text item next s bytes left
stops_later {S} {V} first Fits text item next of s bytes left v mid t h = record {
  front = text v ++ h.front;
  rest = h.rest;
  split = t.split ∙ ap (λ r. text v ++ r) h.split ∙ sym (append_assoc (text v) h.front h.rest);
  left_is = h.left_is;
  values = v ∷ h.values;
  fits = (t.fits, h.fits);
  more = h.more;
  begins = ap (λ r. text v ++ r) h.begins ∙ sym (append_assoc (text v) h.front h.more);
  again = again;
}
  where
    again : (most : ℕ) (u : List ℕ) → length ((text v ++ h.front) ++ u) ≤ most → SameStart h.rest u → while_at first item next most s ((text v ++ h.front) ++ u) ≡ Err (length u)
    again zero u room same =
        absurd (omega (arith, room, text_some first Fits text item next of s v t.fits, length-append (text v ++ h.front) u, length-append (text v) h.front))
    again (suc most) u room same =
        step_item first item next most s ((text v ++ h.front) ++ u) (h.front ++ u) v (Err (length u))
        (begins_still first (text v ++ h.front) u (begins_still first (text v) h.front (of.begins s v t.fits)))
        (ap (item s) (append_assoc (text v) h.front u) ∙ (of.exact s).again v (h.front ++ u) t.fits (Ends-nothing (h.front ++ u)))
        (
        h.again most u
        (omega (arith, room, text_some first Fits text item next of s v t.fits, length-append (text v ++ h.front) u, length-append (text v) h.front, length-append h.front u))
        same
        )

while-stops :
    {S V : Type 0} (first : ℕ) (Fits : S → V → Type 0) (text : V → List ℕ) (item : S → List ℕ → Result (V × List ℕ) ℕ) (next : S → V → S) →
    WhileOf first Fits text item next →
    (most : ℕ) (s : S) (bytes : List ℕ) (left : ℕ) → length bytes ≤ most → while_at first item next most s bytes ≡ Err left →
    WhileStops first Fits text item next s bytes left
while-stops first Fits text item next of zero s bytes left room e =
    elim (cases (starts_with first bytes)) [
      | inl goes ↦ absurd (omega (arith, room, begins_some first bytes goes))
      | inr ends ↦ absurd (ok_no_err _ _ (sym (step_end first item next zero s bytes ends) ∙ e))
    ]
while-stops first Fits text item next of (suc most) s bytes left room e =
    elim (cases (starts_with first bytes)) [
      | inl goes ↦
          elim (outcome (item s bytes)) [
            | inl one ↦
                let t = (of.exact s).takes bytes one.0.0 one.0.1 one.1 in
                elim (outcome (while_at first item next most (next s one.0.0) one.0.1)) [
                  | inl two ↦
                      absurd (ok_no_err _ _ (sym (step_item first item next most s bytes one.0.1 one.0.0 (Ok two.0) goes one.1 two.1) ∙ e))
                  | inr two ↦
                      stops_later first Fits text item next of s bytes left one.0.0 one.0.1 t
                      (
                      while-stops first Fits text item next of most (next s one.0.0) one.0.1 left
                      (omega (arith, room, text_some first Fits text item next of s one.0.0 t.fits, ap length t.split, length-append (text one.0.0) one.0.1))
                      (two.1 ∙ ap Err (err_is _ _ (sym (step_item first item next most s bytes one.0.1 one.0.0 (Err two.0) goes one.1 two.1) ∙ e)))
                      )
                ]
            | inr one ↦
                stops_here first Fits text item next of s bytes left one.0 goes one.1
                (err_is _ _ (sym (step_stop first item next most s bytes one.0 goes one.1) ∙ e))
          ]
      | inr ends ↦ absurd (ok_no_err _ _ (sym (step_end first item next (suc most) s bytes ends) ∙ e))
    ]

pub Exact-while :
    {S V : Type 0} (first : ℕ) (Fits : S → V → Type 0) (text : V → List ℕ) (item : S → List ℕ → Result (V × List ℕ) ℕ) (next : S → V → S) →
    WhileOf first Fits text item next →
    (s : S) → Exact (InTurn Fits next s) (flat_map text) (first_joins first) (while_first first item next s)
Exact-while {S} {V} first Fits text item next of s = record {
  takes = λ bytes vs rest e. while-takes first Fits text item next of (length bytes) s bytes vs rest e;
  again =
      λ vs rest fits ends.
      while-again first Fits text item next of vs (length (flat_map text vs ++ rest)) s rest fits ends
      (omega (arith, length-append (flat_map text vs) rest));
  stops = stops;
}
  where
    stops : (bytes : List ℕ) (left : ℕ) → while_first first item next s bytes ≡ Err left → Stops (InTurn Fits next s) (flat_map text) (while_first first item next s) bytes left
    stops bytes left e =
        let h = while-stops first Fits text item next of (length bytes) s bytes left (omega arith) e in
        record {
          front = h.front;
          rest = h.rest;
          split = h.split;
          left_is = h.left_is;
          value = h.values;
          fits = h.fits;
          more = h.more;
          begins = h.begins;
          again = λ u same. h.again (length (h.front ++ u)) u (omega arith) same;
        }
