-- Lists of which each item says whether one more follows are read exactly.
use Rattle.std.proofs.Common.{◌≡◌, ℕ, zero, suc, ◌≤◌, Bool, true, false, List, [], ◌∷◌, ◌++◌, length, Result, Ok, Err, refl, sym, ap, subst, ◌∙◌, append_assoc, length-append, arith, inl, inr}
use Rattle.std.proofs.lemmas.List.{append-nil}
use Rattle.fc_reading_notes.specs.Lists.{and_more, chain, chain_at}
use Rattle.fc_reading.proofs.Exact.{Exact, SameStart, Stops, Takes, bind_at_err, bind_at_ok, err_is, ok_is, ok_no_err, outcome, refused_at}
use Rattle.fc_reading.proofs.Words.{Ends-nothing, nothing}

-- each item fits, by the state that those before it left; all but the last say that one more follows
abbrev pub AllFit : {S V : Type 0} → (S → V × Bool → Type 0) → (S → V → S) → S → List V → Type 0
AllFit Fits next state [] = ⊥
AllFit Fits next state (v ∷ []) = Fits state (v, false)
AllFit Fits next state (v ∷ w ∷ vs) = Fits state (v, true) × AllFit Fits next (next state v) (w ∷ vs)

-- the texts of all items, one behind the other
abbrev pub all_text : {V : Type 0} → (V × Bool → List ℕ) → List V → List ℕ
all_text text [] = []
all_text text (v ∷ []) = text (v, false)
all_text text (v ∷ w ∷ vs) = text (v, true) ++ all_text text (w ∷ vs)

-- items that are read exactly in every good state, of which each has a byte, and which can end there
pub record ChainOf {S V : Type 0} (Good : S → Type 0) (Fits : S → V × Bool → Type 0) (text : V × Bool → List ℕ) (item : S → List ℕ → Result ((V × Bool) × List ℕ) ℕ) (next : S → V → S) : Type 0 where
  pub exact : (s : S) → Good s → Exact (Fits s) text nothing (item s)
  pub some : (s : S) (x : V × Bool) → Fits s x → 1 ≤ length (text x)
  pub next_good : (s : S) (v : V) → Good s → Fits s (v, true) → Good (next s v)
  pub ends : (s : S) → Good s → (w : V) × Fits s (w, false)

fit_more :
    {S V : Type 0} (Fits : S → V × Bool → Type 0) (next : S → V → S) (s : S) (v : V) (vs : List V) →
    Fits s (v, true) → AllFit Fits next (next s v) vs → AllFit Fits next s (v ∷ vs)
fit_more Fits next s v [] one others = absurd others
fit_more Fits next s v (w ∷ vs) one others = (one, others)

text_more :
    {S V : Type 0} (Fits : S → V × Bool → Type 0) (next : S → V → S) (text : V × Bool → List ℕ) (s : S) (v : V) (vs : List V) →
    AllFit Fits next s vs → all_text text (v ∷ vs) ≡ text (v, true) ++ all_text text vs
text_more Fits next text s v [] others = absurd others
text_more Fits next text s v (w ∷ vs) others = refl

-- ---- what is taken

takes_more :
    {S V : Type 0} (Good : S → Type 0) (Fits : S → V × Bool → Type 0) (text : V × Bool → List ℕ)
    (item : S → List ℕ → Result ((V × Bool) × List ℕ) ℕ) (next : S → V → S) (s : S) (bytes : List ℕ) (v : V) (more : Bool) (mid : List ℕ)
    (others : List ℕ → Result (List V × List ℕ) ℕ) (vs : List V) (rest : List ℕ) →
    Takes (Fits s) text nothing bytes (v, more) mid →
    and_more v more others mid ≡ Ok (vs, rest) →
    ((ws : List V) (after : List ℕ) → Fits s (v, true) → others mid ≡ Ok (ws, after) → Takes (AllFit Fits next (next s v)) (all_text text) nothing mid ws after) →
    Takes (AllFit Fits next s) (all_text text) nothing bytes vs rest
takes_more {S} {V} Good Fits text item next s bytes v false mid others vs rest t e before =
    let P : List V × List ℕ → Type 0 = λ z. Takes (AllFit Fits next s) (all_text text) nothing bytes z.0 z.1 in
    let at : P (v ∷ [], mid) = record { fits = t.fits; split = t.split; ends = Ends-nothing mid } in
    subst P (ok_is _ _ e) at
takes_more {S} {V} Good Fits text item next s bytes v true mid others vs rest t e before =
    elim (outcome (others mid)) [
      | inl two ↦
          let b = before two.0.0 two.0.1 t.fits two.1 in
          let P : List V × List ℕ → Type 0 = λ z. Takes (AllFit Fits next s) (all_text text) nothing bytes z.0 z.1 in
          let at : P (v ∷ two.0.0, two.0.1) = record {
            fits = fit_more Fits next s v two.0.0 t.fits b.fits;
            split =
                t.split ∙ ap (λ r. text (v, true) ++ r) b.split ∙ sym (append_assoc (text (v, true)) (all_text text two.0.0) two.0.1)
                ∙ ap (λ r. r ++ two.0.1) (sym (text_more Fits next text (next s v) v two.0.0 b.fits));
            ends = Ends-nothing two.0.1;
          } in
          subst P (ok_is _ _ (sym (bind_at_ok (others mid) (λ y. Ok (v ∷ y.0, y.1)) two.0 two.1) ∙ e)) at
      | inr two ↦ absurd (ok_no_err _ _ (sym e ∙ bind_at_err (others mid) (λ y. Ok (v ∷ y.0, y.1)) two.0 two.1))
    ]

chain-takes :
    {S V : Type 0} (Good : S → Type 0) (Fits : S → V × Bool → Type 0) (text : V × Bool → List ℕ)
    (item : S → List ℕ → Result ((V × Bool) × List ℕ) ℕ) (next : S → V → S) → ChainOf Good Fits text item next →
    (most : ℕ) (s : S) (bytes : List ℕ) (vs : List V) (rest : List ℕ) → Good s → chain_at item next most s bytes ≡ Ok (vs, rest) →
    Takes (AllFit Fits next s) (all_text text) nothing bytes vs rest
chain-takes Good Fits text item next of zero s bytes vs rest good e = absurd (ok_no_err _ _ (sym e))
chain-takes Good Fits text item next of (suc most) s bytes vs rest good e =
    elim (outcome (item s bytes)) [
      | inl one ↦
          takes_more Good Fits text item next s bytes one.0.0.0 one.0.0.1 one.0.1 (chain_at item next most (next s one.0.0.0)) vs rest
          ((of.exact s good).takes bytes one.0.0 one.0.1 one.1)
          (sym (bind_at_ok (item s bytes) (λ x. and_more x.0.0 x.0.1 (chain_at item next most (next s x.0.0)) x.1) one.0 one.1) ∙ e)
          (λ ws after fits is. chain-takes Good Fits text item next of most (next s one.0.0.0) one.0.1 ws after (of.next_good s one.0.0.0 good fits) is)
      | inr one ↦ absurd (ok_no_err _ _ (sym e ∙ bind_at_err (item s bytes) _ one.0 one.1))
    ]

-- ---- what is taken again

item_again :
    {S V : Type 0} (item : S → List ℕ → Result ((V × Bool) × List ℕ) ℕ) (next : S → V → S) (most : ℕ) (s : S) (bytes mid : List ℕ) (x : V × Bool)
    (r : Result (List V × List ℕ) ℕ) →
    item s bytes ≡ Ok (x, mid) → and_more x.0 x.1 (chain_at item next most (next s x.0)) mid ≡ r → chain_at item next (suc most) s bytes ≡ r
item_again item next most s bytes mid x r e1 e2 =
    bind_at_ok (item s bytes) (λ z. and_more z.0.0 z.0.1 (chain_at item next most (next s z.0.0)) z.1) (x, mid) e1 ∙ e2

chain-again :
    {S V : Type 0} (Good : S → Type 0) (Fits : S → V × Bool → Type 0) (text : V × Bool → List ℕ)
    (item : S → List ℕ → Result ((V × Bool) × List ℕ) ℕ) (next : S → V → S) → ChainOf Good Fits text item next →
    (vs : List V) (most : ℕ) (s : S) (rest : List ℕ) → Good s → AllFit Fits next s vs → length (all_text text vs) ≤ most →
    chain_at item next most s (all_text text vs ++ rest) ≡ Ok (vs, rest)
chain-again Good Fits text item next of [] most s rest good fits few = absurd fits
chain-again Good Fits text item next of (v ∷ []) zero s rest good fits few = absurd (omega (arith, of.some s (v, false) fits, few))
chain-again Good Fits text item next of (v ∷ []) (suc most) s rest good fits few =
    item_again item next most s (text (v, false) ++ rest) rest (v, false) (Ok (v ∷ [], rest))
    ((of.exact s good).again (v, false) rest fits (Ends-nothing rest)) refl
chain-again Good Fits text item next of (v ∷ w ∷ vs) zero s rest good fits few =
    absurd (omega (arith, of.some s (v, true) fits.0, few, length-append (text (v, true)) (all_text text (w ∷ vs))))
chain-again Good Fits text item next of (v ∷ w ∷ vs) (suc most) s rest good fits few =
    item_again item next most s ((text (v, true) ++ all_text text (w ∷ vs)) ++ rest) (all_text text (w ∷ vs) ++ rest) (v, true) (Ok (v ∷ w ∷ vs, rest))
    (
    ap (item s) (append_assoc (text (v, true)) (all_text text (w ∷ vs)) rest)
    ∙ (of.exact s good).again (v, true) (all_text text (w ∷ vs) ++ rest) fits.0 (Ends-nothing (all_text text (w ∷ vs) ++ rest))
    )
    (
    bind_at_ok (chain_at item next most (next s v) (all_text text (w ∷ vs) ++ rest)) (λ y. Ok (v ∷ y.0, y.1)) (w ∷ vs, rest)
    (chain-again Good Fits text item next of (w ∷ vs) most (next s v) rest (of.next_good s v good fits.0) fits.1
    (omega (arith, of.some s (v, true) fits.0, few, length-append (text (v, true)) (all_text text (w ∷ vs)))))
    )

-- ---- where it stops

pub record ChainStops {S V : Type 0} (Fits : S → V × Bool → Type 0) (text : V × Bool → List ℕ) (item : S → List ℕ → Result ((V × Bool) × List ℕ) ℕ) (next : S → V → S) (s : S) (bytes : List ℕ) (left : ℕ) : Type 0 where
  pub front : List ℕ
  pub rest : List ℕ
  pub split : bytes ≡ front ++ rest
  pub left_is : left ≡ length rest
  pub values : List V
  pub fits : AllFit Fits next s values
  pub more : List ℕ
  pub begins : all_text text values ≡ front ++ more
  pub again : (most : ℕ) (u : List ℕ) → length (front ++ u) ≤ most → SameStart rest u → chain_at item next most s (front ++ u) ≡ Err (length u)

-- the item itself stops
stops_here :
    {S V : Type 0} (Good : S → Type 0) (Fits : S → V × Bool → Type 0) (text : V × Bool → List ℕ)
    (item : S → List ℕ → Result ((V × Bool) × List ℕ) ℕ) (next : S → V → S) → ChainOf Good Fits text item next →
    (s : S) (bytes : List ℕ) (left n : ℕ) → Good s → item s bytes ≡ Err n → n ≡ left → ChainStops Fits text item next s bytes left
stops_here {S} {V} Good Fits text item next of s bytes left n good e is =
    let h = (of.exact s good).stops bytes n e in
    let w = whole h.value.0 h.value.1 h.fits in
    record {
      front = h.front;
      rest = h.rest;
      split = h.split;
      left_is = sym is ∙ h.left_is;
      values = w.0;
      fits = w.1;
      more = h.more ++ w.2.0;
      begins = w.2.1 ∙ ap (λ t. t ++ w.2.0) h.begins ∙ append_assoc h.front h.more w.2.0;
      again = λ most u room same. at_most most (h.front ++ u) (length u) room (h.again u same) (omega (arith, length-append h.front u));
    }
  where
    whole : (v : V) (more : Bool) → Fits s (v, more) → (vs : List V) × AllFit Fits next s vs × ((t : List ℕ) × (all_text text vs ≡ text (v, more) ++ t))
    whole v false fits = (v ∷ [], fits, ([], sym (append-nil (text (v, false)))))
    whole v true fits =
        let w = of.ends (next s v) (of.next_good s v good fits) in
        (v ∷ w.0 ∷ [], (fits, w.1), (text (w.0, false), refl))

    at_most : (most : ℕ) (b : List ℕ) (k : ℕ) → length b ≤ most → item s b ≡ Err k → k ≤ length b → chain_at item next most s b ≡ Err k
    at_most zero b k room err low = refused_at (length b) k (omega arith)
    at_most (suc most) b k room err low = bind_at_err (item s b) _ k err

-- a later item stops
stops_later :
    {S V : Type 0} (Good : S → Type 0) (Fits : S → V × Bool → Type 0) (text : V × Bool → List ℕ)
    (item : S → List ℕ → Result ((V × Bool) × List ℕ) ℕ) (next : S → V → S) → ChainOf Good Fits text item next →
    (s : S) (bytes : List ℕ) (left : ℕ) (v : V) (mid : List ℕ) → Good s → Takes (Fits s) text nothing bytes (v, true) mid →
    ChainStops Fits text item next (next s v) mid left → ChainStops Fits text item next s bytes left
stops_later {S} {V} Good Fits text item next of s bytes left v mid good t h = record {
  front = text (v, true) ++ h.front;
  rest = h.rest;
  split = t.split ∙ ap (λ r. text (v, true) ++ r) h.split ∙ sym (append_assoc (text (v, true)) h.front h.rest);
  left_is = h.left_is;
  values = v ∷ h.values;
  fits = fit_more Fits next s v h.values t.fits h.fits;
  more = h.more;
  begins =
      text_more Fits next text (next s v) v h.values h.fits ∙ ap (λ r. text (v, true) ++ r) h.begins
      ∙ sym (append_assoc (text (v, true)) h.front h.more);
  again = again;
}
  where
    again : (most : ℕ) (u : List ℕ) → length ((text (v, true) ++ h.front) ++ u) ≤ most → SameStart h.rest u → chain_at item next most s ((text (v, true) ++ h.front) ++ u) ≡ Err (length u)
    again zero u room same =
        absurd (omega (arith, room, of.some s (v, true) t.fits, length-append (text (v, true) ++ h.front) u, length-append (text (v, true)) h.front))
    again (suc most) u room same =
        item_again item next most s ((text (v, true) ++ h.front) ++ u) (h.front ++ u) (v, true) (Err (length u))
        (
        ap (item s) (append_assoc (text (v, true)) h.front u)
        ∙ (of.exact s good).again (v, true) (h.front ++ u) t.fits (Ends-nothing (h.front ++ u))
        )
        (
        bind_at_err (chain_at item next most (next s v) (h.front ++ u)) (λ y. Ok (v ∷ y.0, y.1)) (length u)
        (
        h.again most u
        (omega (arith, room, of.some s (v, true) t.fits, length-append (text (v, true) ++ h.front) u, length-append (text (v, true)) h.front, length-append h.front u))
        same
        )
        )

stops_more :
    {S V : Type 0} (Good : S → Type 0) (Fits : S → V × Bool → Type 0) (text : V × Bool → List ℕ)
    (item : S → List ℕ → Result ((V × Bool) × List ℕ) ℕ) (next : S → V → S) → ChainOf Good Fits text item next →
    (s : S) (bytes : List ℕ) (left : ℕ) (v : V) (more : Bool) (mid : List ℕ) (others : List ℕ → Result (List V × List ℕ) ℕ) → Good s →
    Takes (Fits s) text nothing bytes (v, more) mid →
    and_more v more others mid ≡ Err left →
    (Fits s (v, true) → others mid ≡ Err left → ChainStops Fits text item next (next s v) mid left) →
    ChainStops Fits text item next s bytes left
stops_more Good Fits text item next of s bytes left v false mid others good t e before = absurd (ok_no_err _ _ e)
stops_more Good Fits text item next of s bytes left v true mid others good t e before =
    elim (outcome (others mid)) [
      | inl two ↦ absurd (ok_no_err _ _ (sym (bind_at_ok (others mid) (λ y. Ok (v ∷ y.0, y.1)) two.0 two.1) ∙ e))
      | inr two ↦
          stops_later Good Fits text item next of s bytes left v mid good t
          (before t.fits (two.1 ∙ ap Err (err_is _ _ (sym (bind_at_err (others mid) (λ y. Ok (v ∷ y.0, y.1)) two.0 two.1) ∙ e))))
    ]

-- with no bytes, no item is read
none_read :
    {S V : Type 0} (Good : S → Type 0) (Fits : S → V × Bool → Type 0) (text : V × Bool → List ℕ)
    (item : S → List ℕ → Result ((V × Bool) × List ℕ) ℕ) (next : S → V → S) → ChainOf Good Fits text item next →
    (s : S) (bytes : List ℕ) → Good s → length bytes ≤ 0 → item s bytes ≡ Err (length bytes)
none_read Good Fits text item next of s bytes good none =
    elim (outcome (item s bytes)) [
      | inl one ↦
          let t = (of.exact s good).takes bytes one.0.0 one.0.1 one.1 in
          absurd (omega (arith, none, of.some s one.0.0 t.fits, ap length t.split, length-append (text one.0.0) one.0.1))
      | inr one ↦
          let h = (of.exact s good).stops bytes one.0 one.1 in
          one.1 ∙ refused_at one.0 (length bytes) (omega (arith, none, h.left_is, ap length h.split, length-append h.front h.rest))
    ]

chain-stops :
    {S V : Type 0} (Good : S → Type 0) (Fits : S → V × Bool → Type 0) (text : V × Bool → List ℕ)
    (item : S → List ℕ → Result ((V × Bool) × List ℕ) ℕ) (next : S → V → S) → ChainOf Good Fits text item next →
    (most : ℕ) (s : S) (bytes : List ℕ) (left : ℕ) → Good s → length bytes ≤ most → chain_at item next most s bytes ≡ Err left →
    ChainStops Fits text item next s bytes left
chain-stops Good Fits text item next of zero s bytes left good room e =
    stops_here Good Fits text item next of s bytes left (length bytes) good (none_read Good Fits text item next of s bytes good room) (err_is _ _ e)
chain-stops Good Fits text item next of (suc most) s bytes left good room e =
    elim (outcome (item s bytes)) [
      | inl one ↦
          let t = (of.exact s good).takes bytes one.0.0 one.0.1 one.1 in
          stops_more Good Fits text item next of s bytes left one.0.0.0 one.0.0.1 one.0.1 (chain_at item next most (next s one.0.0.0)) good t
          (sym (bind_at_ok (item s bytes) (λ x. and_more x.0.0 x.0.1 (chain_at item next most (next s x.0.0)) x.1) one.0 one.1) ∙ e)
          (
          λ fits is.
          chain-stops Good Fits text item next of most (next s one.0.0.0) one.0.1 left (of.next_good s one.0.0.0 good fits)
          (omega (arith, room, of.some s one.0.0 t.fits, ap length t.split, length-append (text one.0.0) one.0.1)) is
          )
      | inr one ↦
          stops_here Good Fits text item next of s bytes left one.0 good one.1
          (err_is _ _ (sym (bind_at_err (item s bytes) (λ x. and_more x.0.0 x.0.1 (chain_at item next most (next s x.0.0)) x.1) one.0 one.1) ∙ e))
    ]

pub Exact-chain :
    {S V : Type 0} (Good : S → Type 0) (Fits : S → V × Bool → Type 0) (text : V × Bool → List ℕ)
    (item : S → List ℕ → Result ((V × Bool) × List ℕ) ℕ) (next : S → V → S) → ChainOf Good Fits text item next →
    (s : S) → Good s → Exact (AllFit Fits next s) (all_text text) nothing (chain item next s)
Exact-chain {S} {V} Good Fits text item next of s good = record {
  takes = λ bytes vs rest e. chain-takes Good Fits text item next of (length bytes) s bytes vs rest good e;
  again =
      λ vs rest fits ends.
      chain-again Good Fits text item next of vs (length (all_text text vs ++ rest)) s rest good fits
      (omega (arith, length-append (all_text text vs) rest));
  stops = stops;
}
  where
    stops : (bytes : List ℕ) (left : ℕ) → chain item next s bytes ≡ Err left → Stops (AllFit Fits next s) (all_text text) (chain item next s) bytes left
    stops bytes left e =
        let h = chain-stops Good Fits text item next of (length bytes) s bytes left good (omega arith) e in
        record {
          front = h.front;
          rest = h.rest;
          split = h.split;
          left_is = h.left_is;
          value = h.values;
          fits = h.fits;
          more = h.more;
          begins = h.begins;
          again = λ u same. h.again (length (h.front ++ u)) u (omega arith) same;
        }
