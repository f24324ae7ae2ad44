-- The rows of a report are read exactly.
use Rattle.std.proofs.Common.{◌≡◌, ◌≢◌, ℕ, zero, suc, ◌==◌, true, false, List, [], ◌∷◌, ◌++◌, length, codes, Result, Ok, Err, refl, sym, ap, subst, ◌∙◌, arith, inl, inr}
use Rattle.std.proofs.lemmas.Bool.{eqb-true, false≢true}
use Rattle.std.proofs.lemmas.Bool.Decides.{nat_tests}
use Rattle.std.proofs.lemmas.List.{append-nil}
use Rattle.fc_reading.specs.Readers.{◌>>=◌, then_read}
use Rattle.fc_reading_notes.specs.Lists.{starts_with}
use Rattle.fc_reading_notes.specs.Told.{Each}
use Rattle.fc_reading_replies.specs.Rows.{AreRows, IsRow, and_rows, line_from, row_at, row_line, rows_at, rows_lines}
use Rattle.fc_reading.proofs.Exact.{Ends, Exact, Exact-map, SameStart, Stops, Takes, bind_at_err, bind_at_ok, err_is, ok_is, ok_no_err, outcome}
use Rattle.fc_reading.proofs.Fields.{Exact-and}
use Rattle.fc_reading.proofs.Numbers.{cases}
use Rattle.fc_reading.proofs.Words.{Ends-nothing, at_false, at_true, nothing}
use Rattle.fc_reading_notes.proofs.Choices.{Exact-alike, Exact-none, Is}

-- ---- the bytes up to a newline

abbrev IsLine : List ℕ → Type 0
IsLine line = Each (λ byte. byte ≢ 10) line

no_newline : (byte : ℕ) → (byte == 10) ≡ false → byte ≢ 10
no_newline byte other = λ same. grind (arith, nat_tests)

other_byte : (byte : ℕ) → byte ≢ 10 → (byte == 10) ≡ false
other_byte byte other = grind (arith, nat_tests)

-- how a byte goes on
pub at_newline : (byte : ℕ) (bytes : List ℕ) → (byte == 10) ≡ true → line_from (byte ∷ bytes) ≡ Ok ([], bytes)
at_newline byte bytes e = at_true (byte == 10) (Ok ([], bytes)) (line_from bytes >>= (λ x. Ok (byte ∷ x.0, x.1))) e

pub at_other : (byte : ℕ) (bytes : List ℕ) → (byte == 10) ≡ false → line_from (byte ∷ bytes) ≡ (line_from bytes >>= (λ x. Ok (byte ∷ x.0, x.1)))
at_other byte bytes e = at_false (byte == 10) (Ok ([], bytes)) (line_from bytes >>= (λ x. Ok (byte ∷ x.0, x.1))) e

pub record LineTakes (bytes line rest : List ℕ) : Type 0 where
  pub is : IsLine line
  pub split : bytes ≡ row_line line ++ rest

line_takes : (bytes line rest : List ℕ) → line_from bytes ≡ Ok (line, rest) → LineTakes bytes line rest
line_takes [] line rest e = absurd (ok_no_err _ _ (sym e))
line_takes (byte ∷ bytes) line rest e =
    elim (cases (byte == 10)) [
      | inl newline ↦
          let P : List ℕ × List ℕ → Type 0 = λ z. LineTakes (byte ∷ bytes) z.0 z.1 in
          let at : P ([], bytes) = record { is = tt; split = ap (λ b. b ∷ bytes) (eqb-true byte 10 newline) } in
          subst P (ok_is _ _ (sym (at_newline byte bytes newline) ∙ e)) at
      | inr other ↦
          elim (outcome (line_from bytes)) [
            | inl more ↦
                let t = line_takes bytes more.0.0 more.0.1 more.1 in
                let P : List ℕ × List ℕ → Type 0 = λ z. LineTakes (byte ∷ bytes) z.0 z.1 in
                let at : P (byte ∷ more.0.0, more.0.1) = record { is = (no_newline byte other, t.is); split = ap (λ bs. byte ∷ bs) t.split } in
                subst P
                (ok_is _ _ (sym (at_other byte bytes other ∙ bind_at_ok (line_from bytes) (λ x. Ok (byte ∷ x.0, x.1)) more.0 more.1) ∙ e)) at
            | inr none ↦
                absurd (ok_no_err _ _ (sym e ∙ at_other byte bytes other ∙ bind_at_err (line_from bytes) (λ x. Ok (byte ∷ x.0, x.1)) none.0 none.1))
          ]
    ]

line_again : (line rest : List ℕ) → IsLine line → line_from (row_line line ++ rest) ≡ Ok (line, rest)
line_again [] rest is = refl
line_again (byte ∷ line) rest is =
    at_other byte (row_line line ++ rest) (other_byte byte is.0)
    ∙ bind_at_ok (line_from (row_line line ++ rest)) (λ x. Ok (byte ∷ x.0, x.1)) (line, rest) (line_again line rest is.1)

-- it stops at the end alone: no newline is there
line_stops : (bytes : List ℕ) (left : ℕ) → line_from bytes ≡ Err left → IsLine bytes × (left ≡ 0)
line_stops [] left e = (tt, sym (err_is _ _ e))
line_stops (byte ∷ bytes) left e =
    elim (cases (byte == 10)) [
      | inl newline ↦ absurd (ok_no_err _ _ (sym (at_newline byte bytes newline) ∙ e))
      | inr other ↦
          elim (outcome (line_from bytes)) [
            | inl more ↦
                absurd (ok_no_err _ _ (sym (at_other byte bytes other ∙ bind_at_ok (line_from bytes) (λ x. Ok (byte ∷ x.0, x.1)) more.0 more.1) ∙ e))
            | inr none ↦
                let s = line_stops bytes none.0 none.1 in (
                  (no_newline byte other, s.0),
                  sym (err_is _ _ (sym (at_other byte bytes other ∙ bind_at_err (line_from bytes) (λ x. Ok (byte ∷ x.0, x.1)) none.0 none.1) ∙ e)) ∙ s.1,
                )
          ]
    ]

line_open : (bytes : List ℕ) → IsLine bytes → line_from bytes ≡ Err 0
line_open [] is = refl
line_open (byte ∷ bytes) is =
    at_other byte bytes (other_byte byte is.0) ∙ bind_at_err (line_from bytes) (λ x. Ok (byte ∷ x.0, x.1)) 0 (line_open bytes is.1)

-- ---- a row

pub row_starts : (row rest : List ℕ) → starts_with 43 (row_line row ++ rest) ≡ starts_with 43 row
row_starts [] rest = refl
row_starts (byte ∷ row) rest = refl

pub Exact-row : Exact IsRow row_line nothing row_at
Exact-row = record { takes = takes; again = again; stops = stops }
  where
    off : (bytes : List ℕ) (r : Result (List ℕ × List ℕ) ℕ) → starts_with 43 bytes ≡ false → row_at bytes ≡ r → line_from bytes ≡ r
    off bytes r t e = sym (at_false (starts_with 43 bytes) (Err (length bytes)) (line_from bytes) t) ∙ e

    takes : (bytes row rest : List ℕ) → row_at bytes ≡ Ok (row, rest) → Takes IsRow row_line nothing bytes row rest
    takes bytes row rest e =
        elim (cases (starts_with 43 bytes)) [
          | inl plus ↦ absurd (ok_no_err _ _ (sym e ∙ at_true (starts_with 43 bytes) (Err (length bytes)) (line_from bytes) plus))
          | inr other ↦
              let t = line_takes bytes row rest (off bytes (Ok (row, rest)) other e) in
              record {
                fits = (t.is, sym (row_starts row rest) ∙ ap (starts_with 43) (sym t.split) ∙ other);
                split = t.split;
                ends = Ends-nothing rest;
              }
        ]

    again : (row rest : List ℕ) → IsRow row → Ends nothing rest → row_at (row_line row ++ rest) ≡ Ok (row, rest)
    again row rest is ends =
        at_false (starts_with 43 (row_line row ++ rest)) (Err (length (row_line row ++ rest))) (line_from (row_line row ++ rest)) (row_starts row rest ∙ is.1)
        ∙ line_again row rest is.0

    again_plus : (bytes u : List ℕ) → starts_with 43 bytes ≡ true → SameStart bytes u → row_at u ≡ Err (length u)
    again_plus [] u plus same = absurd (false≢true plus)
    again_plus (byte ∷ bytes) [] plus same = absurd same
    again_plus (byte ∷ bytes) (b ∷ u) plus same =
        at_true (b == 43) (Err (length (b ∷ u))) (line_from (b ∷ u)) (ap (λ x. x == 43) (sym same) ∙ plus)

    again_open : (bytes u : List ℕ) → starts_with 43 bytes ≡ false → IsLine bytes → SameStart [] u → row_at (bytes ++ u) ≡ Err (length u)
    again_open bytes [] other is same =
        ap row_at (append-nil bytes) ∙ at_false (starts_with 43 bytes) (Err (length bytes)) (line_from bytes) other ∙ line_open bytes is
    again_open bytes (b ∷ u) other is same = absurd same

    stops : (bytes : List ℕ) (left : ℕ) → row_at bytes ≡ Err left → Stops IsRow row_line row_at bytes left
    stops bytes left e =
        elim (cases (starts_with 43 bytes)) [
          | inl plus ↦ record {
            front = [];
            rest = bytes;
            split = refl;
            left_is = sym (err_is _ _ (sym (at_true (starts_with 43 bytes) (Err (length bytes)) (line_from bytes) plus) ∙ e));
            value = [];
            fits = (tt, refl);
            more = row_line [];
            begins = refl;
            again = λ u same. again_plus bytes u plus same;
          }
          | inr other ↦
              let s = line_stops bytes left (off bytes (Err left) other e) in
              record {
                front = bytes;
                rest = [];
                split = sym (append-nil bytes);
                left_is = s.1;
                value = bytes;
                fits = (s.0, other);
                more = codes "\n";
                begins = refl;
                again = λ u same. again_open bytes u other s.0 same;
              }
        ]

-- ---- rows

pub some_rows : (count : ℕ) → (rows : List (List ℕ)) × AreRows count rows
some_rows zero = ([], (refl, tt))
some_rows (suc count) =
    let more = some_rows count in
    ([] ∷ more.0, (ap suc more.1.0, ((tt, refl), more.1.1)))

abbrev RowAnd : ℕ → List ℕ × List (List ℕ) → Type 0
RowAnd count x = IsRow x.0 × AreRows count x.1

rows_from : (count : ℕ) (rows : List (List ℕ)) → AreRows (suc count) rows → (x : List ℕ × List (List ℕ)) × RowAnd count x × (and_rows x ≡ rows)
rows_from count [] are = absurd (omega (arith, are.0))
rows_from count (row ∷ rows) are = ((row, rows), (are.1.0, (omega (arith, are.0), are.1.1)), refl)

Exact-no_rows : Exact (AreRows 0) rows_lines nothing (rows_at 0)
Exact-no_rows = Exact-alike (Is []) (λ rows. []) (rows_at 0) (AreRows 0) rows_lines (Exact-none []) to from
  where
    to : (rows : List (List ℕ)) → Is [] rows → AreRows 0 rows × (rows_lines rows ≡ [])
    to rows is =
        let P : List (List ℕ) → Type 0 = λ r. AreRows 0 r × (rows_lines r ≡ []) in
        let at : P [] = ((refl, tt), refl) in
        subst P (sym is) at

    from : (rows : List (List ℕ)) → AreRows 0 rows → Is [] rows
    from [] are = refl
    from (row ∷ rows) are = absurd (omega (arith, are.0))

pub Exact-rows : (count : ℕ) → Exact (AreRows count) rows_lines nothing (rows_at count)
Exact-rows zero = Exact-no_rows
Exact-rows (suc count) =
    let more = some_rows count in
    Exact-map {V = List ℕ × List (List ℕ)} {W = List (List ℕ)} (RowAnd count) (λ x. row_line x.0 ++ rows_lines x.1) nothing
    (then_read row_at (λ row. rows_at count)) (AreRows (suc count)) rows_lines and_rows
    (
    Exact-and {V = List ℕ} {W = List (List ℕ)} IsRow row_line row_at (AreRows count) rows_lines (rows_at count)
    Exact-row (Exact-rows count) more.0 more.1
    )
    (λ x fits. ((ap suc fits.1.0, (fits.0, fits.1.1)), refl))
    (λ rows are. rows_from count rows are)
