-- The bytes of a read are read exactly.
use Rattle.std.proofs.Common.{◌≡◌, ◌≢◌, ℕ, zero, suc, ◌+◌, ◌*◌, ◌/◌, ◌%◌, ◌<◌, ◌≤◌, ◌==◌, Bool, true, false, ◌&&◌, cond, List, [], ◌∷◌, ◌++◌, length, map, get_or, codes, decimal, Option, Some, None, Result, Ok, Err, refl, sym, ap, subst, ◌∙◌, append_assoc, arith, inl, inr}
use Rattle.std.specs.Prelude.{not}
use Rattle.std.specs.Fmt.{digit_glyph}
use Rattle.std.specs.List.{join_with_byte}
use Rattle.std.proofs.lemmas.Bool.Decides.{nat_tests}
use Rattle.fc_base.specs.CommandText.{byte_word}
use Rattle.fc_base.specs.Runs.{IsCanonical}
use Rattle.fc_base.specs.declared.runs.Run.{Run}
use Rattle.fc_entry.specs.Text.{run_text}
use Rattle.fc_reading.specs.Readers.{is_decimal, one_of_at, the_word, then_read}
use Rattle.fc_reading_notes.specs.Between.{between_at}
use Rattle.fc_reading_notes.specs.Lists.{starts_with}
use Rattle.fc_reading_notes.specs.Told.{Each}
use Rattle.fc_reading_replies.specs.Data.{AreRuns, IsRunOfBytes, byte_at, byte_of, data_at, digit_at, excluded_low, hex_value, is_hex, is_other, run_at, run_ends, run_next, run_of, runs_at}
use Rattle.fc_reading.proofs.Exact.{Ends, Exact, Exact-map, Exact-then, SameStart, Stops, Takes, err_is, ok_is, ok_no_err}
use Rattle.fc_reading.proofs.Fields.{AnyUnit, Exact-and, Exact-word}
use Rattle.fc_reading.proofs.Words.{Ends-nothing, Exact-one_of, IsIndexOf, at_false, at_true, both, cond_err, cond_ok, nothing}
use Rattle.fc_reading_notes.proofs.BetweenLemmas.{Exact-between, IsBetween}
use Rattle.fc_reading_notes.proofs.Choices.{Exact-alike, small, stops_first}
use Rattle.fc_reading_notes.proofs.Commas.{Exact-or_none, NonEmpty, item_line, items_joined, line_some}
use Rattle.fc_reading_notes.proofs.Lists.{AllFit, ChainOf, Exact-chain, all_text}
use Rattle.fc_reading_notes.proofs.Ranges.{begins_digit}

-- ---- a digit

glyph_is_hex : (d : ℕ) → d < 16 → is_hex (digit_glyph false d) ≡ true
glyph_is_hex d low = grind (arith, nat_tests)

glyph_value : (d : ℕ) → d < 16 → hex_value (digit_glyph false d) ≡ d
glyph_value d low = grind (arith, nat_tests)

hex_small : (byte : ℕ) → is_hex byte ≡ true → hex_value byte < 16
hex_small byte hex = grind (arith, nat_tests)

hex_glyph : (byte : ℕ) → is_hex byte ≡ true → byte ≡ digit_glyph false (hex_value byte)
hex_glyph byte hex = grind (arith, nat_tests)

and_true : (a b : Bool) → a ≡ true → b ≡ true → a && b ≡ true
and_true a b x y = rw (x, y) refl

abbrev FitsDigit : Option ℕ → ℕ → Type 0
FitsDigit excluded d = (d < 16) × (is_other excluded d ≡ true)

abbrev digit_text : ℕ → List ℕ
digit_text d = digit_glyph false d ∷ []

-- whether the byte is such a digit
abbrev stands : Option ℕ → ℕ → Bool
stands excluded byte = is_hex byte && is_other excluded (hex_value byte)

zero_other : (n : ℕ) → not (0 == suc n) ≡ true
zero_other n = grind (arith, nat_tests)

some_digit : (excluded : Option ℕ) → (d : ℕ) × FitsDigit excluded d
some_digit None = (0, (omega arith, refl))
some_digit (Some zero) = (1, (omega arith, refl))
some_digit (Some (suc n)) = (0, (omega arith, zero_other n))

Exact-digit : (excluded : Option ℕ) → Exact (FitsDigit excluded) digit_text nothing (digit_at excluded)
Exact-digit excluded = record { takes = takes; again = again; stops = stops }
  where
    takes : (bytes : List ℕ) (d : ℕ) (rest : List ℕ) → digit_at excluded bytes ≡ Ok (d, rest) → Takes (FitsDigit excluded) digit_text nothing bytes d rest
    takes [] d rest e = absurd (ok_no_err _ _ (sym e))
    takes (byte ∷ bytes) d rest e =
        let parts = cond_ok {A = ℕ × List ℕ} (stands excluded byte) (Ok (hex_value byte, bytes)) (suc (length bytes)) (d, rest) e in
        let tests = both (is_hex byte) (is_other excluded (hex_value byte)) parts.0 in
        let P : ℕ × List ℕ → Type 0 = λ z. Takes (FitsDigit excluded) digit_text nothing (byte ∷ bytes) z.0 z.1 in
        let at : P (hex_value byte, bytes) = record {
          fits = (hex_small byte tests.0, tests.1);
          split = ap (λ b. b ∷ bytes) (hex_glyph byte tests.0);
          ends = Ends-nothing bytes;
        } in
        subst P (ok_is _ _ parts.1) at

    again : (d : ℕ) (rest : List ℕ) → FitsDigit excluded d → Ends nothing rest → digit_at excluded (digit_text d ++ rest) ≡ Ok (d, rest)
    again d rest fits ends =
        at_true (stands excluded (digit_glyph false d)) (Ok (hex_value (digit_glyph false d), rest)) (Err (suc (length rest)))
        (
        and_true (is_hex (digit_glyph false d)) (is_other excluded (hex_value (digit_glyph false d))) (glyph_is_hex d fits.0)
        (ap (is_other excluded) (glyph_value d fits.0) ∙ fits.1)
        )
        ∙ ap (λ v. Ok (v, rest)) (glyph_value d fits.0)

    again_here : (byte : ℕ) (bytes u : List ℕ) → stands excluded byte ≡ false → SameStart (byte ∷ bytes) u → digit_at excluded u ≡ Err (length u)
    again_here byte bytes [] other same = absurd same
    again_here byte bytes (b ∷ u) other same =
        at_false (stands excluded b) (Ok (hex_value b, u)) (Err (suc (length u))) (ap (stands excluded) (sym same) ∙ other)

    again_end : (u : List ℕ) → SameStart [] u → digit_at excluded u ≡ Err (length u)
    again_end [] same = refl
    again_end (b ∷ u) same = absurd same

    stops_none : (left : ℕ) (bytes : List ℕ) → left ≡ length bytes → ((u : List ℕ) → SameStart bytes u → digit_at excluded u ≡ Err (length u)) → Stops (FitsDigit excluded) digit_text (digit_at excluded) bytes left
    stops_none left bytes all again = stops_first (FitsDigit excluded) digit_text (digit_at excluded) bytes left (some_digit excluded).0 (some_digit excluded).1 all again

    stops : (bytes : List ℕ) (left : ℕ) → digit_at excluded bytes ≡ Err left → Stops (FitsDigit excluded) digit_text (digit_at excluded) bytes left
    stops [] left e = stops_none left [] (sym (err_is _ _ e)) again_end
    stops (byte ∷ bytes) left e =
        elim (cond_err {A = ℕ × List ℕ} (stands excluded byte) (Ok (hex_value byte, bytes)) (suc (length bytes)) left e) [
          | inl here ↦ absurd (ok_no_err _ _ here.1)
          | inr other ↦ stops_none left (byte ∷ bytes) (sym other.1) (λ u same. again_here byte bytes u other.0 same)
        ]

-- ---- a byte

abbrev FitsByte : Option ℕ → ℕ → Type 0
FitsByte before byte = (byte < 256) × (is_other before byte ≡ true)

abbrev Digits : Option ℕ → ℕ × ℕ → Type 0
Digits before x = FitsDigit None x.0 × FitsDigit (excluded_low before x.0) x.1

abbrev digits_text : ℕ × ℕ → List ℕ
digits_text x = digit_text x.0 ++ digit_text x.1

-- another low digit makes another byte
other_byte : (before high low : ℕ) → low < 16 → (t : Bool) → (before / 16 == high) ≡ t → is_other (cond t (Some (before % 16)) None) low ≡ true → not (16 * high + low == before) ≡ true
other_byte before high low below true same other = grind (arith, nat_tests)
other_byte before high low below false same other = grind (arith, nat_tests)

other_low : (before byte : ℕ) → not (byte == before) ≡ true → (t : Bool) → (before / 16 == byte / 16) ≡ t → is_other (cond t (Some (before % 16)) None) (byte % 16) ≡ true
other_low before byte other true same = grind (arith, nat_tests)
other_low before byte other false same = refl

byte_other : (before : Option ℕ) (high low : ℕ) → low < 16 → is_other (excluded_low before high) low ≡ true → is_other before (16 * high + low) ≡ true
byte_other None high low below other = refl
byte_other (Some before) high low below other = other_byte before high low below (before / 16 == high) refl other

low_other : (before : Option ℕ) (byte : ℕ) → is_other before byte ≡ true → is_other (excluded_low before (byte / 16)) (byte % 16) ≡ true
low_other None byte other = refl
low_other (Some before) byte other = other_low before byte other (before / 16 == byte / 16) refl

high_of : (high low : ℕ) → low < 16 → (16 * high + low) / 16 ≡ high
high_of high low below = omega arith

low_of : (high low : ℕ) → low < 16 → (16 * high + low) % 16 ≡ low
low_of high low below = omega arith

byte_to : (before : Option ℕ) (x : ℕ × ℕ) → Digits before x → FitsByte before (byte_of x) × (byte_word (byte_of x) ≡ digits_text x)
byte_to before (high, low) fits = (
  (omega (arith, fits.0.0, fits.1.0), byte_other before high low fits.1.0 fits.1.1),
  ap (λ d. digit_glyph false d ∷ digit_glyph false ((16 * high + low) % 16) ∷ []) (high_of high low fits.1.0)
      ∙ ap (λ d. digit_glyph false high ∷ digit_glyph false d ∷ []) (low_of high low fits.1.0),
)

byte_from : (before : Option ℕ) (byte : ℕ) → FitsByte before byte → (x : ℕ × ℕ) × Digits before x × (byte_of x ≡ byte)
byte_from before byte fits = (
  (byte / 16, byte % 16),
  ((omega (arith, fits.0), refl), (omega arith, low_other before byte fits.1)),
  omega arith,
)

Exact-byte : (before : Option ℕ) → Exact (FitsByte before) byte_word nothing (byte_at before)
Exact-byte before =
    Exact-map {V = ℕ × ℕ} {W = ℕ} (Digits before) digits_text nothing (then_read (digit_at None) (λ high. digit_at (excluded_low before high)))
    (FitsByte before) byte_word byte_of
    (
    Exact-then (FitsDigit None) digit_text nothing (digit_at None) (λ high. FitsDigit (excluded_low before high)) (λ high. digit_text) nothing
    (λ high. digit_at (excluded_low before high)) (Exact-digit None) (λ high fits. Exact-digit (excluded_low before high))
    (λ high fits. some_digit (excluded_low before high)) (λ high low rest fits inside ends. Ends-nothing (digit_text low ++ rest))
    )
    (byte_to before) (byte_from before)

some_byte : (before : Option ℕ) → (byte : ℕ) × FitsByte before byte
some_byte None = (0, (omega arith, refl))
some_byte (Some zero) = (1, (omega arith, refl))
some_byte (Some (suc n)) = (0, (omega arith, zero_other n))

-- ---- a run

abbrev Ending : Type 0
Ending = Unit {0} × (ℕ × ℕ)

abbrev IsEnd : Option ℕ → Ending → Type 0
IsEnd before x = AnyUnit x.0 × (FitsByte before x.1.0 × IsIndexOf run_ends x.1.1)

abbrev end_text : Ending → List ℕ
end_text x = codes "*" ++ (byte_word x.1.0 ++ get_or run_ends x.1.1 [])

abbrev end_at : Option ℕ → List ℕ → Result (Ending × List ℕ) ℕ
end_at before = then_read (the_word (codes "*")) (λ u. then_read (byte_at before) (λ byte. one_of_at run_ends))

some_end : (before : Option ℕ) → (x : Ending) × IsEnd before x
some_end before = ((tt, ((some_byte before).0, 0)), (tt, ((some_byte before).1, omega arith)))

Exact-end : (before : Option ℕ) → Exact (IsEnd before) end_text nothing (end_at before)
Exact-end before =
    let byte = Exact-and {V = ℕ} {W = ℕ} (FitsByte before) byte_word (byte_at before) (IsIndexOf run_ends) (λ i. get_or run_ends i []) (one_of_at run_ends)
    (Exact-byte before) (Exact-one_of (codes "\n") (codes "," ∷ []) refl) 0 (omega arith) in
    Exact-and {V = Unit {0}} {W = ℕ × ℕ} AnyUnit (λ u. codes "*") (the_word (codes "*")) (λ x. FitsByte before x.0 × IsIndexOf run_ends x.1)
    (λ x. byte_word x.0 ++ get_or run_ends x.1 []) (then_read (byte_at before) (λ byte. one_of_at run_ends))
    (Exact-word (codes "*")) byte ((some_byte before).0, 0) ((some_byte before).1, omega arith)

abbrev Reading : Type 0
Reading = ℕ × Ending

abbrev IsReading : Option ℕ → Reading → Type 0
IsReading before x = IsBetween 1 4294967295 x.0 × IsEnd before x.1

abbrev reading_text : Reading → List ℕ
reading_text x = decimal x.0 ++ end_text x.1

abbrev FitsRun : Option ℕ → Run × Bool → Type 0
FitsRun before x = IsBetween 1 4294967295 x.0.count × FitsByte before x.0.byte

abbrev run_line : Run × Bool → List ℕ
run_line = item_line run_text

run_joined : (c s b n : List ℕ) → c ++ s ++ b ++ n ≡ c ++ (s ++ (b ++ n))
run_joined c s b n = simp (append_assoc)

run_to : (before : Option ℕ) (x : Reading) → IsReading before x → FitsRun before (run_of x) × (run_line (run_of x) ≡ reading_text x)
run_to before (count, (u, (byte, zero))) fits =
    ((fits.0, fits.1.1.0), run_joined (decimal count) (codes "*") (byte_word byte) (codes "\n"))
run_to before (count, (u, (byte, suc zero))) fits =
    ((fits.0, fits.1.1.0), run_joined (decimal count) (codes "*") (byte_word byte) (codes ","))
run_to before (count, (u, (byte, suc (suc n)))) fits = absurd (omega (arith, fits.1.1.1))

run_from : (before : Option ℕ) (count byte : ℕ) (more : Bool) → IsBetween 1 4294967295 count → FitsByte before byte → (x : Reading) × IsReading before x × (run_of x ≡ (record { count = count; byte = byte }, more))
run_from before count byte false between fits = ((count, (tt, (byte, 0))), (between, (tt, (fits, omega arith))), refl)
run_from before count byte true between fits = ((count, (tt, (byte, 1))), (between, (tt, (fits, omega arith))), refl)

Exact-run : (before : Option ℕ) → Exact (FitsRun before) run_line nothing (run_at before)
Exact-run before =
    Exact-map {V = Reading} {W = Run × Bool} (IsReading before) reading_text nothing (then_read (between_at 1 4294967295) (λ count. end_at before))
    (FitsRun before) run_line run_of
    (
    Exact-then {V = ℕ} {W = Ending} (IsBetween 1 4294967295) decimal is_decimal (between_at 1 4294967295) (λ count. IsEnd before) (λ count. end_text) nothing (λ count. end_at before)
    (Exact-between 1 4294967295 small (omega arith)) (λ count fits. Exact-end before) (λ count fits. some_end before)
    (λ count x rest fits is ends. refl)
    )
    (run_to before)
    (λ x fits. run_from before x.0.count x.0.byte x.1 fits.0 fits.1)

-- what is read is a run
pub run-found :
    (before : Option ℕ) (bytes : List ℕ) (run : Run) (more : Bool) (rest : List ℕ) →
    run_at before bytes ≡ Ok ((run, more), rest) → (0 < run.count) × (is_other before run.byte ≡ true)
run-found before bytes run more rest e =
    let fits = ((Exact-run before).takes bytes (run, more) rest e).fits in
    (omega (arith, fits.0.0), fits.1.1)

-- ---- runs

abbrev Anywhere : Option ℕ → Type 0
Anywhere before = Unit {0}

run_chain : ChainOf Anywhere FitsRun run_line run_at run_next
run_chain = record {
  exact = λ before any. Exact-run before;
  some = λ before x fits. line_some run_text x.0 x.1;
  next_good = λ before run any fits. tt;
  ends = λ before any. (record { count = 1; byte = (some_byte before).0 }, ((omega arith, omega arith), (some_byte before).1));
}

Exact-runs : Exact (AllFit FitsRun run_next None) (all_text run_line) nothing runs_at
Exact-runs = Exact-chain Anywhere FitsRun run_line run_at run_next run_chain None tt

pub other_not : (a b : ℕ) → not (a == b) ≡ true → a ≢ b
other_not a b other = λ same. grind (arith, nat_tests)

not_other : (a b : ℕ) → a ≢ b → not (a == b) ≡ true
not_other a b differ = grind (arith, nat_tests)

-- each run's byte is other than the one before
canonical_after : (before : Option ℕ) (run : Run) (runs : List Run) → AllFit FitsRun run_next before (run ∷ runs) → IsCanonical (run ∷ runs)
canonical_after before run [] fits = (omega (arith, fits.0.0), tt, tt)
canonical_after before run (next ∷ runs) fits = (
  omega (arith, fits.0.0.0),
  other_not next.byte run.byte (first_other run.byte next runs fits.1),
  canonical_after (Some run.byte) next runs fits.1,
)
  where
    first_other : (byte : ℕ) (run : Run) (runs : List Run) → AllFit FitsRun run_next (Some byte) (run ∷ runs) → not (run.byte == byte) ≡ true
    first_other byte run [] fits = fits.1.1
    first_other byte run (next ∷ runs) fits = fits.0.1.1

each_run : (before : Option ℕ) (runs : List Run) → AllFit FitsRun run_next before runs → Each IsRunOfBytes runs
each_run before [] fits = absurd fits
each_run before (run ∷ []) fits = ((fits.0.1, fits.1.0), tt)
each_run before (run ∷ next ∷ runs) fits = ((fits.0.0.1, fits.0.1.0), each_run (Some run.byte) (next ∷ runs) fits.1)

runs_fit : (before : Option ℕ) (run : Run) (runs : List Run) → is_other before run.byte ≡ true → IsCanonical (run ∷ runs) → Each IsRunOfBytes (run ∷ runs) → AllFit FitsRun run_next before (run ∷ runs)
runs_fit before run [] other canonical each = ((omega (arith, canonical.0), each.0.0), (each.0.1, other))
runs_fit before run (next ∷ runs) other canonical each = (
  ((omega (arith, canonical.0), each.0.0), (each.0.1, other)),
  runs_fit (Some run.byte) next runs (not_other next.byte run.byte canonical.1) canonical.2 each.1,
)

-- ---- all the bytes

abbrev pub data_line : List Run → List ℕ
data_line runs = join_with_byte 44 (map run_text runs) ++ codes "\n"

abbrev AreSome : List Run → Type 0
AreSome = NonEmpty AreRuns

some_to : (runs : List Run) → AllFit FitsRun run_next None runs → AreSome runs × (data_line runs ≡ all_text run_line runs)
some_to [] fits = absurd fits
some_to (run ∷ runs) fits = ((canonical_after None run runs fits, each_run None (run ∷ runs) fits), items_joined run_text run runs)

some_from : (runs : List Run) → AreSome runs → AllFit FitsRun run_next None runs
some_from [] some = absurd some
some_from (run ∷ runs) some = runs_fit None run runs refl some.0 some.1

Exact-some : Exact AreSome data_line nothing runs_at
Exact-some = Exact-alike (AllFit FitsRun run_next None) (all_text run_line) runs_at AreSome data_line Exact-runs some_to some_from

-- a run begins with a digit
run_begins : (run : Run) (more rest : List ℕ) → run.count ≤ 4294967295 → starts_with 10 ((run_text run ++ more) ++ rest) ≡ false
run_begins run more rest within =
    ap (starts_with 10) (digits_first (decimal run.count) (codes "*") (byte_word run.byte) more rest)
    ∙ begins_digit 10 refl run.count (codes "*" ++ (byte_word run.byte ++ (more ++ rest))) within
  where
    digits_first : (d s t m r : List ℕ) → d ++ s ++ t ++ m ++ r ≡ d ++ (s ++ (t ++ (m ++ r)))
    digits_first d s t m r = simp (append_assoc)

begins_run : (runs : List Run) (rest : List ℕ) → AreSome runs → starts_with 10 (data_line runs ++ rest) ≡ false
begins_run [] rest some = absurd some
begins_run (run ∷ []) rest some = run_begins run (codes "\n") rest some.1.0.0
begins_run (run ∷ next ∷ runs) rest some =
    let others : List ℕ = 44 ∷ join_with_byte 44 (map run_text (next ∷ runs)) in
    ap (λ t. starts_with 10 (t ++ rest)) (append_assoc (run_text run) others (codes "\n"))
    ∙ run_begins run (others ++ codes "\n") rest some.1.0.0

pub Exact-data : Exact AreRuns data_line nothing data_at
Exact-data = Exact-or_none 10 (codes "\n") AreRuns data_line runs_at (tt, tt) refl (λ rest. refl) Exact-some begins_run
