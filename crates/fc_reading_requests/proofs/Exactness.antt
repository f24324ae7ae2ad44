-- Readers that are made of others are exact: by the first byte, closed, ended by a word.
use Rattle.std.proofs.Common.{◌≡◌, ℕ, suc, Bool, true, false, List, [], ◌∷◌, ◌++◌, length, Result, Ok, Err, refl, sym, ap, subst, ◌∙◌, inl, inr}
use Rattle.std.proofs.lemmas.Bool.{false≢true}
use Rattle.std.proofs.lemmas.List.{append-nil}
use Rattle.fc_reading.specs.Readers.{the_word, then_read}
use Rattle.fc_reading_notes.specs.Lists.{first_byte_is}
use Rattle.fc_reading_requests.specs.Parts.{byte_of_kind, closed, ended_by, if_closed, said}
use Rattle.fc_reading.proofs.Exact.{Ends, Exact, Exact-map, Exact-then, SameStart, Stops, Takes, bind_at_err, bind_at_ok, err_is, ok_is, ok_no_err, outcome}
use Rattle.fc_reading.proofs.Fields.{AnyUnit, Exact-word}
use Rattle.fc_reading.proofs.Numbers.{cases}
use Rattle.fc_reading.proofs.Words.{Ends-nothing, at_false, at_true, nothing}
use Rattle.fc_reading_notes.proofs.Choices.{begins-same, stops_first}

-- ---- closed

pub ends-begins : (joins : ℕ → Bool) (rest : List ℕ) → Ends joins rest → first_byte_is joins rest ≡ false
ends-begins joins [] ends = refl
ends-begins joins (byte ∷ rest) ends = ends

pub begins-ends : (joins : ℕ → Bool) (rest : List ℕ) → first_byte_is joins rest ≡ false → Ends joins rest
begins-ends joins [] e = tt
begins-ends joins (byte ∷ rest) e = e

fewer_join : (joins more : ℕ → Bool) → ((b : ℕ) → joins b ≡ true → more b ≡ true) → (rest : List ℕ) → Ends more rest → Ends joins rest
fewer_join joins more fewer [] ends = tt
fewer_join joins more fewer (b ∷ rest) ends =
    elim (cases (joins b)) [ inl t ↦ absurd (false≢true (sym ends ∙ fewer b t)) | inr f ↦ f ]

same_ends : (joins : ℕ → Bool) (rest u : List ℕ) → SameStart rest u → Ends joins rest → Ends joins u
same_ends joins rest u same ends = begins-ends joins u (begins-same joins [] rest u false same (ends-begins joins rest ends))

pub Exact-closed :
    {V : Type 0} (Fits : V → Type 0) (text : V → List ℕ) (joins more : ℕ → Bool) (read : List ℕ → Result (V × List ℕ) ℕ) →
    Exact Fits text joins read →
    ((b : ℕ) → joins b ≡ true → more b ≡ true) →
    Exact Fits text more (closed more read)
Exact-closed {V} Fits text joins more read exact fewer = record { takes = takes; again = again; stops = stops }
  where
    found : (bytes rest : List ℕ) (v : V) → read bytes ≡ Ok (v, rest) → closed more read bytes ≡ if_closed more v rest
    found bytes rest v e = bind_at_ok (read bytes) (λ x. if_closed more x.0 x.1) (v, rest) e

    is_open : (v : V) (rest : List ℕ) → first_byte_is more rest ≡ true → if_closed more v rest ≡ Err (length rest)
    is_open v rest t = at_true (first_byte_is more rest) (Err (length rest)) (Ok (v, rest)) t

    is_closed : (v : V) (rest : List ℕ) → first_byte_is more rest ≡ false → if_closed more v rest ≡ Ok (v, rest)
    is_closed v rest f = at_false (first_byte_is more rest) (Err (length rest)) (Ok (v, rest)) f

    takes_from : (bytes : List ℕ) (v : V) (rest : List ℕ) (x : V × List ℕ) → read bytes ≡ Ok x → closed more read bytes ≡ Ok (v, rest) → Takes Fits text more bytes v rest
    takes_from bytes v rest x e1 e =
        elim (cases (first_byte_is more x.1)) [
          | inl t ↦ absurd (ok_no_err _ _ (sym e ∙ found bytes x.1 x.0 e1 ∙ is_open x.0 x.1 t))
          | inr f ↦
              let s = exact.takes bytes x.0 x.1 e1 in
              let P : V × List ℕ → Type 0 = λ z. Takes Fits text more bytes z.0 z.1 in
              let at : P (x.0, x.1) = record { fits = s.fits; split = s.split; ends = begins-ends more x.1 f } in
              subst P (ok_is _ _ (sym (found bytes x.1 x.0 e1 ∙ is_closed x.0 x.1 f) ∙ e)) at
        ]

    takes : (bytes : List ℕ) (v : V) (rest : List ℕ) → closed more read bytes ≡ Ok (v, rest) → Takes Fits text more bytes v rest
    takes bytes v rest e =
        elim (outcome (read bytes)) [
          | inl one ↦ takes_from bytes v rest one.0 one.1 e
          | inr none ↦ absurd (ok_no_err _ _ (sym e ∙ bind_at_err (read bytes) (λ x. if_closed more x.0 x.1) none.0 none.1))
        ]

    again : (v : V) (rest : List ℕ) → Fits v → Ends more rest → closed more read (text v ++ rest) ≡ Ok (v, rest)
    again v rest fits ends =
        found (text v ++ rest) rest v (exact.again v rest fits (fewer_join joins more fewer rest ends))
        ∙ is_closed v rest (ends-begins more rest ends)

    stops_open : (bytes : List ℕ) (left : ℕ) (x : V × List ℕ) → read bytes ≡ Ok x → first_byte_is more x.1 ≡ true → length x.1 ≡ left → Stops Fits text (closed more read) bytes left
    stops_open bytes left x e1 t is =
        let s = exact.takes bytes x.0 x.1 e1 in
        record {
          front = text x.0;
          rest = x.1;
          split = s.split;
          left_is = sym is;
          value = x.0;
          fits = s.fits;
          more = [];
          begins = sym (append-nil (text x.0));
          again =
              λ u same.
              found (text x.0 ++ u) u x.0 (exact.again x.0 u s.fits (same_ends joins x.1 u same s.ends))
              ∙ is_open x.0 u (begins-same more [] x.1 u true same t);
        }

    stops : (bytes : List ℕ) (left : ℕ) → closed more read bytes ≡ Err left → Stops Fits text (closed more read) bytes left
    stops bytes left e =
        elim (outcome (read bytes)) [
          | inl one ↦
              elim (cases (first_byte_is more one.0.1)) [
                | inl t ↦ stops_open bytes left one.0 one.1 t (err_is _ _ (sym (found bytes one.0.1 one.0.0 one.1 ∙ is_open one.0.0 one.0.1 t) ∙ e))
                | inr f ↦ absurd (ok_no_err _ _ (sym (found bytes one.0.1 one.0.0 one.1 ∙ is_closed one.0.0 one.0.1 f) ∙ e))
              ]
          | inr none ↦
              let s = exact.stops bytes none.0 none.1 in
              record {
                front = s.front;
                rest = s.rest;
                split = s.split;
                left_is = sym (err_is _ _ (sym (bind_at_err (read bytes) (λ x. if_closed more x.0 x.1) none.0 none.1) ∙ e)) ∙ s.left_is;
                value = s.value;
                fits = s.fits;
                more = s.more;
                begins = s.begins;
                again = λ u same. bind_at_err (read (s.front ++ u)) (λ x. if_closed more x.0 x.1) (length u) (s.again u same);
              }
        ]

-- ---- a byte of a kind

abbrev pub IsOfKind : (ℕ → Bool) → ℕ → Type 0
IsOfKind test byte = test byte ≡ true

abbrev pub alone : ℕ → List ℕ
alone byte = byte ∷ []

pub Exact-byte_of_kind : (test : ℕ → Bool) (some : ℕ) → test some ≡ true → Exact (IsOfKind test) alone nothing (byte_of_kind test)
Exact-byte_of_kind test some is = record { takes = takes; again = again; stops = stops }
  where
    taken : (byte : ℕ) (bytes : List ℕ) → test byte ≡ true → byte_of_kind test (byte ∷ bytes) ≡ Ok (byte, bytes)
    taken byte bytes t = at_true (test byte) (Ok (byte, bytes)) (Err (suc (length bytes))) t

    refused : (byte : ℕ) (bytes : List ℕ) → test byte ≡ false → byte_of_kind test (byte ∷ bytes) ≡ Err (suc (length bytes))
    refused byte bytes f = at_false (test byte) (Ok (byte, bytes)) (Err (suc (length bytes))) f

    takes : (bytes : List ℕ) (v : ℕ) (rest : List ℕ) → byte_of_kind test bytes ≡ Ok (v, rest) → Takes (IsOfKind test) alone nothing bytes v rest
    takes [] v rest e = absurd (ok_no_err _ _ (sym e))
    takes (byte ∷ bytes) v rest e =
        elim (cases (test byte)) [
          | inl t ↦
              let P : ℕ × List ℕ → Type 0 = λ z. Takes (IsOfKind test) alone nothing (byte ∷ bytes) z.0 z.1 in
              let at : P (byte, bytes) = record { fits = t; split = refl; ends = Ends-nothing bytes } in
              subst P (ok_is _ _ (sym (taken byte bytes t) ∙ e)) at
          | inr f ↦ absurd (ok_no_err _ _ (sym e ∙ refused byte bytes f))
        ]

    again : (v : ℕ) (rest : List ℕ) → IsOfKind test v → Ends nothing rest → byte_of_kind test (alone v ++ rest) ≡ Ok (v, rest)
    again v rest fits ends = taken v rest fits

    none_again : (u : List ℕ) → SameStart [] u → byte_of_kind test u ≡ Err (length u)
    none_again [] same = refl
    none_again (b ∷ u) same = absurd same

    other_again : (byte : ℕ) (bytes u : List ℕ) → test byte ≡ false → SameStart (byte ∷ bytes) u → byte_of_kind test u ≡ Err (length u)
    other_again byte bytes [] f same = absurd same
    other_again byte bytes (b ∷ u) f same = refused b u (ap test (sym same) ∙ f)

    stops : (bytes : List ℕ) (left : ℕ) → byte_of_kind test bytes ≡ Err left → Stops (IsOfKind test) alone (byte_of_kind test) bytes left
    stops [] left e = stops_first (IsOfKind test) alone (byte_of_kind test) [] left some is (sym (err_is _ _ e)) none_again
    stops (byte ∷ bytes) left e =
        elim (cases (test byte)) [
          | inl t ↦ absurd (ok_no_err _ _ (sym (taken byte bytes t) ∙ e))
          | inr f ↦
              stops_first (IsOfKind test) alone (byte_of_kind test) (byte ∷ bytes) left some is (sym (err_is _ _ (sym (refused byte bytes f) ∙ e)))
              (λ u same. other_again byte bytes u f same)
        ]

-- ---- a word behind

pub Exact-ended :
    {V : Type 0} (Fits : V → Type 0) (text : V → List ℕ) (joins : ℕ → Bool) (read : List ℕ → Result (V × List ℕ) ℕ) (word : List ℕ) →
    Exact Fits text joins read →
    ((rest : List ℕ) → Ends joins (word ++ rest)) →
    Exact Fits (λ v. text v ++ word) nothing (ended_by read word)
Exact-ended {V} Fits text joins read word exact apart =
    Exact-map {V = V × Unit {0}} {W = V} (λ x. Fits x.0 × AnyUnit x.1) (λ x. text x.0 ++ word) nothing (then_read read (λ v. the_word word))
    Fits (λ v. text v ++ word) (λ x. x.0)
    (
    Exact-then Fits text joins read (λ v. AnyUnit) (λ v u. word) nothing (λ v. the_word word) exact (λ v fits. Exact-word word) (λ v fits. (tt, tt))
    (λ v u rest fits any ends. apart rest)
    )
    (λ x fits. (fits.0, refl))
    (λ v fits. ((v, tt), (fits, tt), refl))

-- ---- nothing read

pub Exact-said : {V : Type 0} (value : V) (Fits : V → Type 0) (text : V → List ℕ) → Fits value → text value ≡ [] → ((v : V) → Fits v → v ≡ value) → Exact Fits text nothing (said value)
Exact-said {V} value Fits text fits empty only = record {
  takes =
      λ bytes v rest e.
      let P : V × List ℕ → Type 0 = λ z. Takes Fits text nothing bytes z.0 z.1 in
      let at : P (value, bytes) = record { fits = fits; split = ap (λ t. t ++ bytes) (sym empty); ends = Ends-nothing bytes } in
      subst P (ok_is _ _ e) at;
  again =
      λ v rest of ends.
      let P : V → Type 0 = λ w. ◌≡◌ {A = Result (V × List ℕ) ℕ} (Ok (value, text w ++ rest)) (Ok (w, rest)) in
      let at : P value = ap (λ t. Ok (value, t ++ rest)) empty in
      subst P (sym (only v of)) at;
  stops = λ bytes left e. absurd (ok_no_err _ _ e);
}
