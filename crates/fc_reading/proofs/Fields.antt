-- A word alone, and numbers with a word behind them.
use Rattle.std.proofs.Common.{◌≡◌, ℕ, ◌+◌, ◌-◌, ◌^◌, ◌<◌, List, ◌++◌, length, decimal, Result, Ok, Err, refl, sym, ap, ◌∙◌, inl, inr, arith}
use Rattle.fc_reading.specs.Readers.{field_at, is_decimal, number_at, the_word, then_read, word_at}
use Rattle.fc_reading.proofs.Exact.{Ends, Exact, Exact-map, Exact-then, Stops, Takes, bind_at_err, bind_at_ok, err_is, ok_is, ok_no_err, outcome, refused_at}
use Rattle.fc_reading.proofs.Numbers.{Exact-number, IsUpTo}
use Rattle.fc_reading.proofs.Words.{Ends-nothing, nothing, word_at-again, word_at-shift, word_at-stops, word_at-takes}

-- nothing is to be known of it
abbrev pub AnyUnit : Unit {0} → Type 0
AnyUnit u = Unit {0}

pub Exact-word : (word : List ℕ) → Exact AnyUnit (λ u. word) nothing (the_word word)
Exact-word word = record { takes = takes; again = again; stops = stops }
  where
    takes : (bytes : List ℕ) (value : Unit {0}) (rest : List ℕ) → the_word word bytes ≡ Ok (value, rest) → Takes AnyUnit (λ u. word) nothing bytes value rest
    takes bytes value rest e =
        elim (outcome (word_at word bytes)) [
          | inl found ↦
              let after : found.0 ≡ rest =
              ap (λ (x : Unit {0} × List ℕ). x.1) (ok_is _ _ (sym (bind_at_ok (word_at word bytes) (λ r. Ok (tt, r)) found.0 found.1) ∙ e)) in
              record {
                fits = tt;
                split = word_at-takes word bytes found.0 found.1 ∙ ap (λ r. word ++ r) after;
                ends = Ends-nothing rest;
              }
          | inr none ↦ absurd (ok_no_err _ _ (sym e ∙ bind_at_err (word_at word bytes) (λ r. Ok (tt, r)) none.0 none.1))
        ]

    again : (value : Unit {0}) (rest : List ℕ) → AnyUnit value → Ends nothing rest → the_word word (word ++ rest) ≡ Ok (value, rest)
    again value rest fits ends = bind_at_ok (word_at word (word ++ rest)) (λ r. Ok (tt, r)) rest (word_at-again word rest)

    stops_at : (bytes : List ℕ) (left n : ℕ) → word_at word bytes ≡ Err n → n ≡ left → Stops AnyUnit (λ u. word) (the_word word) bytes left
    stops_at bytes left n none is =
        let s = word_at-stops word bytes n none in
        record {
          front = s.front;
          rest = s.rest;
          split = s.split;
          left_is = sym is ∙ s.left_is;
          value = tt;
          fits = tt;
          more = s.more;
          begins = s.begins;
          again =
              λ u same.
              bind_at_err (word_at word (s.front ++ u)) (λ r. Ok (tt, r)) (length u)
              (
              word_at-shift word s.front s.rest u n (ap (word_at word) (sym s.split) ∙ none) (omega (arith, s.left_is)) same
              ∙ refused_at (length u + (n - length s.rest)) (length u) (omega (arith, s.left_is))
              );
        }

    stops : (bytes : List ℕ) (left : ℕ) → the_word word bytes ≡ Err left → Stops AnyUnit (λ u. word) (the_word word) bytes left
    stops bytes left e =
        elim (outcome (word_at word bytes)) [
          | inl found ↦ absurd (ok_no_err _ _ (sym (bind_at_ok (word_at word bytes) (λ r. Ok (tt, r)) found.0 found.1) ∙ e))
          | inr none ↦ stops_at bytes left none.0 none.1 (err_is _ _ (sym (bind_at_err (word_at word bytes) (λ r. Ok (tt, r)) none.0 none.1) ∙ e))
        ]

-- two readers one behind the other, of which the second doesn't go by what the first found
pub Exact-and :
    {V W : Type 0} (Fits1 : V → Type 0) (text1 : V → List ℕ) (first : List ℕ → Result (V × List ℕ) ℕ)
    (Fits2 : W → Type 0) (text2 : W → List ℕ) (second : List ℕ → Result (W × List ℕ) ℕ) →
    Exact Fits1 text1 nothing first →
    Exact Fits2 text2 nothing second →
    (w : W) → Fits2 w →
    Exact {V = V × W} (λ x. Fits1 x.0 × Fits2 x.1) (λ x. text1 x.0 ++ text2 x.1) nothing (then_read first (λ v. second))
Exact-and {V} {W} Fits1 text1 first Fits2 text2 second exact1 exact2 w some =
    Exact-then Fits1 text1 nothing first (λ v. Fits2) (λ v. text2) nothing (λ v. second) exact1 (λ v fits. exact2) (λ v fits. (w, some))
    (λ v w rest fits1 fits2 ends. Ends-nothing (text2 w ++ rest))

-- a number with a word behind it that no digit begins
pub Exact-field :
    (most : ℕ) → most < 2 ^ 64 → (word : List ℕ) → ((rest : List ℕ) → Ends is_decimal (word ++ rest)) →
    Exact (IsUpTo most) (λ n. decimal n ++ word) nothing (field_at most word)
Exact-field most small word apart =
    Exact-map {V = ℕ × Unit {0}} {W = ℕ} (λ x. IsUpTo most x.0 × AnyUnit x.1) (λ x. decimal x.0 ++ word) nothing
    (then_read (number_at most) (λ n. the_word word)) (IsUpTo most) (λ n. decimal n ++ word) (λ x. x.0)
    (
    Exact-then (IsUpTo most) decimal is_decimal (number_at most) (λ n. AnyUnit) (λ n u. word) nothing (λ n. the_word word)
    (Exact-number most small) (λ n fits. Exact-word word) (λ n fits. (tt, tt)) (λ n u rest fits any ends. apart rest)
    )
    (λ x fits. (fits.0, refl))
    (λ n fits. ((n, tt), (fits, tt), refl))
