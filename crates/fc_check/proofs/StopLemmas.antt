-- Where bytes stop being an input, and where a trace has all entries that fit.
use Rattle.std.proofs.Common.{◌≡◌, ◌⊎◌, ℕ, zero, suc, ◌+◌, ◌-◌, ◌<◌, ◌≤◌, List, [], ◌∷◌, ◌++◌, length, take, drop, get_or, Option, Some, None, inl, inr, refl, sym, ap, subst, ◌∙◌, append_assoc, length-append, arith}
use Rattle.std.specs.List.{concat}
use Rattle.std.proofs.lemmas.Bool.{cases_lt}
use Rattle.std.proofs.lemmas.List.{append-nil, get_or-drop, length-drop, length-take-le, take-append-drop, take_all}
use Rattle.std.proofs.Math.Seq.{take-append-add}
use Rattle.fc_base.specs.declared.size.GrainSize.{GrainSize}
use Rattle.fc_entry.specs.HistoryState.{HistoryState}
use Rattle.fc_reading.specs.Header.{IsHeader}
use Rattle.fc_reading.specs.Stops.{StopsAt}
use Rattle.fc_reading_entries.specs.Entries.{ReadNext}
use Rattle.fc_trace.specs.Trace.{header_text}
use Rattle.fc_trace.specs.declared.header.Header.{Header}
use Rattle.fc_check.specs.Traces.{AreNextTexts, BeginsInput, IsFull, IsInput, IsInputOf, IsTraceOf, behind_trace, nothing_told, session_line}
use Rattle.fc_check.specs.Verdict.{IsInputWith, IsMalformedAt}
use Rattle.fc_check.proofs.Fronts.{none_begins, none_goes_on}
use Rattle.fc_check.proofs.InputTraces.{BeginsText, IsPart, begins_part, goes_on_with, input_alone, input_with}
use Rattle.fc_check.proofs.TraceLemmas.{GoesOn, counted, goes_on, next_alone, next_of_text, nothing_before, text_of_next, text_some, trace_more, trace_opened}

-- ---- fronts

-- so many bytes, and then more of them
take_on : (bytes : List ℕ) (place more : ℕ) → place ≤ length bytes → take (place + more) bytes ≡ take place bytes ++ take more (drop place bytes)
take_on bytes place more within =
    let front : length (take place bytes) ≡ place = length-take-le place bytes within in
    ap (take (place + more)) (sym (take-append-drop place bytes))
    ∙ ap (λ (n : ℕ). take (n + more) (take place bytes ++ drop place bytes)) (sym front)
    ∙ take-append-add (take place bytes) (drop place bytes) more

left_there : (bytes : List ℕ) (place : ℕ) → place < length bytes → drop place bytes ≡ [] → ⊥
left_there bytes place inside e = absurd (omega (arith, length-drop place bytes, ap length e))

one_taken : (bytes : List ℕ) (place : ℕ) (more : List ℕ) → place < length bytes → take (place + 1) bytes ++ more ≡ [] → ⊥
one_taken bytes place more inside e =
    omega (arith, ap length e, length-append (take (place + 1) bytes) more, length-take-le (place + 1) bytes (omega arith))

-- ---- one entry read

pub read_some : (size : GrainSize) (old new : HistoryState) (bytes : List ℕ) (count : ℕ) → ReadNext size old bytes count new → 0 < count
read_some size old new bytes zero r = absurd (text_some size old new [] (next_alone size old new bytes 0 r) refl)
read_some size old new bytes (suc count) r = omega arith

pub trace_read : (header : Header) (old new : HistoryState) (bytes : List ℕ) (place count : ℕ) → place ≤ length bytes → IsTraceOf header old (take place bytes) →
    ReadNext header.grain old (drop place bytes) count new → IsTraceOf header new (take (place + count) bytes)
trace_read header old new bytes place count within trace r =
    subst (IsTraceOf header new) (sym (take_on bytes place count within))
    (trace_more header old new (take place bytes) (take count (drop place bytes)) trace (next_alone header.grain old new (drop place bytes) count r))

-- the line of a session read
pub input_read : (header : Header) (history : HistoryState) (bytes : List ℕ) (place : ℕ) (session : List ℕ) → IsTraceOf header history (take place bytes) →
    drop place bytes ≡ session_line ++ session → IsInputOf header history (Some session) bytes
input_read header history bytes place session trace line =
    record { text = take place bytes; trace = trace; all = sym (take-append-drop place bytes) ∙ ap (λ (t : List ℕ). take place bytes ++ t) line }

-- ---- behind some entries

module _ (header : Header) (history : HistoryState) (bytes : List ℕ) (place : ℕ) (within : place ≤ length bytes) (trace : IsTraceOf header history (take place bytes)) where
  -- an input that goes on behind the place does so by an entry, or by the line of a session
  goes_on_there : (rest : List ℕ) → IsInput (take place bytes ++ rest) → (rest ≡ [] → ⊥) → BeginsText (IsPart header.grain (length history.entries)) rest
  goes_on_there rest is some =
      begins_part header.grain history is.1 is.2 rest (goes_on_with header is.0 history is.1 is.2 (take place bytes) rest trace is.3).1 some

  -- and it does with each of both
  with_part : (text : List ℕ) → IsPart header.grain (length history.entries) text → IsInput (take place bytes ++ text)
  with_part text (inl entry) =
      let next = next_of_text header.grain history text entry in
      (header, next.0, None, input_alone header next.0 (take place bytes ++ text) (trace_more header history next.0 (take place bytes) text trace next.1))
  with_part text (inr line) =
      let same : take place bytes ++ (session_line ++ []) ≡ take place bytes ++ text = ap (λ (t : List ℕ). take place bytes ++ t) (append-nil session_line ∙ sym line) in
      (header, history, Some [], subst (IsInputOf header history (Some [])) same (input_with header history (take place bytes) [] trace))

  -- where neither goes on, no input does
  pub malformed-behind : (stopped : ℕ) → place < length bytes → StopsAt (IsPart header.grain (length history.entries)) (drop place bytes) stopped → IsMalformedAt (place + stopped) bytes
  malformed-behind stopped inside stops = record {
    within = omega (arith, stops.within, length-drop place bytes);
    begins = begins;
    stops = goes;
    none = none;
  }
    where
      begins : (more : List ℕ) × IsInput (take (place + stopped) bytes ++ more)
      begins =
          let text : List ℕ = take stopped (drop place bytes) ++ stops.begins.0 in
          let same : take place bytes ++ text ≡ take (place + stopped) bytes ++ stops.begins.0 =
          sym (append_assoc (take place bytes) (take stopped (drop place bytes)) stops.begins.0)
          ∙ ap (λ (t : List ℕ). t ++ stops.begins.0) (sym (take_on bytes place stopped within)) in
          (stops.begins.0, subst IsInput same (with_part text stops.begins.1))

      goes : place + stopped < length bytes → (more : List ℕ) → IsInput (take (place + stopped + 1) bytes ++ more) → ⊥
      goes on more is =
          let rest : List ℕ = take (stopped + 1) (drop place bytes) ++ more in
          let there : stopped < length (drop place bytes) = omega (arith, length-drop place bytes) in
          let same : take (place + stopped + 1) bytes ++ more ≡ take place bytes ++ rest =
          ap (λ (n : ℕ). take n bytes ++ more) (omega arith)
          ∙ ap (λ (t : List ℕ). t ++ more) (take_on bytes place (stopped + 1) within)
          ∙ append_assoc (take place bytes) (take (stopped + 1) (drop place bytes)) more in
          let text = goes_on_there rest (subst IsInput same is) (one_taken (drop place bytes) stopped more there) in
          none_goes_on (IsPart header.grain (length history.entries)) (drop place bytes) stopped stops there text.text text.more more text.is text.split

      none : IsInput bytes → ⊥
      none is =
          let text = goes_on_there (drop place bytes) (subst IsInput (sym (take-append-drop place bytes)) is) (left_there bytes place inside) in
          none_begins (IsPart header.grain (length history.entries)) (drop place bytes) stopped stops text.text text.more text.is text.split

-- ---- a trace with all entries that fit

goes_between :
    (h k : Header) (old new : HistoryState) (bytes : List ℕ) (p q : ℕ) → p ≤ q → q ≤ length bytes → IsTraceOf h old (take p bytes) → IsTraceOf k new (take q bytes) →
    GoesOn h.grain old (take (q - p) (drop p bytes)) new
goes_between h k old new bytes p q rises within ours theirs =
    let same : take q bytes ≡ take p bytes ++ take (q - p) (drop p bytes) =
    ap (λ (n : ℕ). take n bytes) (omega arith) ∙ take_on bytes p (q - p) (omega arith) in
    (goes_on h k old new (take p bytes) (take (q - p) (drop p bytes)) ours (subst (IsTraceOf k new) same theirs)).1

between_some : (bytes : List ℕ) (p q : ℕ) → p < q → q ≤ length bytes → take (q - p) (drop p bytes) ≡ [] → ⊥
between_some bytes p q less within e =
    omega (arith, ap length e, length-drop p bytes, length-take-le (q - p) (drop p bytes) (omega (arith, length-drop p bytes)))

-- texts of entries that aren't empty are some
some_more : (size : GrainSize) (old new : HistoryState) (bytes : List ℕ) → GoesOn size old bytes new → (bytes ≡ [] → ⊥) →
    (length old.entries < length new.entries) × BeginsText (IsPart size (length old.entries)) bytes
some_more size old new bytes on some = go on.texts on.told on.text
  where
    go : (texts : List (List ℕ)) → AreNextTexts size old texts new → bytes ≡ concat texts → (length old.entries < length new.entries) × BeginsText (IsPart size (length old.entries)) bytes
    go [] told e = absurd (some e)
    go (text ∷ texts) told e = (
      omega (arith, counted size old new (text ∷ texts) told),
      record { text = text; more = concat texts; is = inl (text_of_next size old told.0 text told.1); split = e },
    )

-- where texts of entries are none, no more are there
none_more : (size : GrainSize) (old new : HistoryState) (bytes : List ℕ) → GoesOn size old bytes new → bytes ≡ [] → new ≡ old
none_more size old new bytes on none = go on.texts on.told on.text
  where
    go : (texts : List (List ℕ)) → AreNextTexts size old texts new → bytes ≡ concat texts → new ≡ old
    go [] told e = told
    go (text ∷ texts) told e = absurd (text_some size old told.0 text told.1 (nothing_before text (concat texts) (sym e ∙ none)))

-- where bytes stop behind some entries that fit, and behind all that fit at an `s`, nothing else stands behind entry 262,144
pub not_full-behind :
    (header : Header) (history : HistoryState) (bytes : List ℕ) (place stopped : ℕ) → place ≤ length bytes → IsTraceOf header history (take place bytes) →
    length history.entries ≤ 262144 → (length history.entries ≡ 262144 → get_or bytes place 0 ≡ 115) →
    StopsAt (IsPart header.grain (length history.entries)) (drop place bytes) stopped → IsFull bytes → ⊥
not_full-behind header history bytes place stopped within trace few letter stops full = go (cases_lt full.place place)
  where
    above : (place < full.place) ⊎ (full.place ≤ place) → place ≤ full.place → ⊥
    above (inl less) before =
        let on : GoesOn header.grain history (take (full.place - place) (drop place bytes)) full.history =
        goes_between header full.header history full.history bytes place full.place before (omega (arith, full.more)) trace full.trace in
        let text = (some_more header.grain history full.history (take (full.place - place) (drop place bytes)) on (between_some bytes place full.place less (omega (arith, full.more)))).1 in
        none_begins (IsPart header.grain (length history.entries)) (drop place bytes) stopped stops text.text
        (text.more ++ drop (full.place - place) (drop place bytes)) text.is
        (
        sym (take-append-drop (full.place - place) (drop place bytes))
        ∙ ap (λ (t : List ℕ). t ++ drop (full.place - place) (drop place bytes)) text.split
        ∙ append_assoc text.text text.more (drop (full.place - place) (drop place bytes))
        )
    above (inr least) before =
        let same : full.place ≡ place = omega arith in
        let on : GoesOn header.grain history [] full.history =
        (goes_on header full.header history full.history (take place bytes) [] trace
        (subst (IsTraceOf full.header full.history) (ap (λ (n : ℕ). take n bytes) same ∙ sym (append-nil (take place bytes))) full.trace)).1 in
        let count : length history.entries ≡ 262144 =
        ap (λ (h : HistoryState). length h.entries) (sym (none_more header.grain history full.history [] on refl)) ∙ full.full in
        full.other (ap (λ (n : ℕ). get_or bytes n 0) same ∙ letter count)

    go : (full.place < place) ⊎ (place ≤ full.place) → ⊥
    go (inr before) = above (cases_lt place full.place) before
    go (inl behind) =
        let on : GoesOn full.header.grain full.history (take (place - full.place) (drop full.place bytes)) history =
        goes_between full.header header full.history history bytes full.place place (omega arith) within full.trace trace in
        let more = (some_more full.header.grain full.history history (take (place - full.place) (drop full.place bytes)) on (between_some bytes full.place place behind within)).0 in
        absurd (omega (arith, full.full, more))

letter_there : (bytes rest : List ℕ) (place : ℕ) → drop place bytes ≡ session_line ++ rest → get_or bytes place 0 ≡ 115
letter_there bytes rest place e =
    let here : place ≡ place + 0 = omega arith in
    ap (λ (n : ℕ). get_or bytes n 0) here ∙ sym (get_or-drop place bytes 0 0) ∙ ap (λ (l : List ℕ). get_or l 0 0) e

-- an input whose entries fit has nothing else behind them
pub not_full-whole : (header : Header) (history : HistoryState) (session : Option (List ℕ)) (bytes : List ℕ) → IsInputOf header history session bytes → length history.entries ≤ 262144 → IsFull bytes → ⊥
not_full-whole header history session bytes input few full =
    let on = (goes_on_with full.header header full.history history session (take full.place bytes) (drop full.place bytes) full.trace
    (subst (IsInputOf header history session) (sym (take-append-drop full.place bytes)) input)).1 in
    go on.on.texts (counted full.header.grain full.history history on.on.texts on.on.told) (on.all ∙ ap (λ (t : List ℕ). t ++ behind_trace session) on.on.text)
  where
    line : (behind : Option (List ℕ)) → drop full.place bytes ≡ behind_trace behind → ⊥
    line None e = left_there bytes full.place full.more e
    line (Some rest) e = full.other (letter_there bytes rest full.place e)

    go : (texts : List (List ℕ)) → length history.entries ≡ length full.history.entries + length texts → drop full.place bytes ≡ concat texts ++ behind_trace session → ⊥
    go [] more e = line session e
    go (text ∷ texts) more e = absurd (omega (arith, more, full.full, few))

-- ---- the first line

input_of_line : (bytes : List ℕ) → IsHeader bytes → IsInput bytes
input_of_line bytes is = (is.0, nothing_told, None, subst (IsInputOf is.0 nothing_told None) (sym is.2) (input_alone is.0 nothing_told (header_text is.0.grain is.0.lanes) (trace_opened is.0 is.1)))

line_of_trace : (header : Header) (history : HistoryState) (bytes : List ℕ) → IsTraceOf header history bytes → BeginsText IsHeader bytes
line_of_trace header history bytes trace =
    record { text = header_text header.grain header.lanes; more = concat trace.texts; is = (header, trace.lanes, refl); split = trace.text }

line_of_input : (bytes : List ℕ) → IsInput bytes → BeginsText IsHeader bytes
line_of_input bytes is =
    let line = line_of_trace is.0 is.1 is.3.text is.3.trace in
    record {
      text = line.text;
      more = line.more ++ behind_trace is.2;
      is = line.is;
      split = is.3.all ∙ ap (λ (t : List ℕ). t ++ behind_trace is.2) line.split ∙ append_assoc line.text line.more (behind_trace is.2);
    }

pub malformed-line : (bytes : List ℕ) (place : ℕ) → StopsAt IsHeader bytes place → IsMalformedAt place bytes
malformed-line bytes place stops = record {
  within = stops.within;
  begins = (stops.begins.0, input_of_line (take place bytes ++ stops.begins.0) stops.begins.1);
  stops =
      λ inside more is.
      let line = line_of_input (take (place + 1) bytes ++ more) is in
      none_goes_on IsHeader bytes place stops inside line.text line.more more line.is line.split;
  none =
      λ is.
      let line = line_of_input bytes is in
      none_begins IsHeader bytes place stops line.text line.more line.is line.split;
}

pub not_full-line : (bytes : List ℕ) (place : ℕ) → StopsAt IsHeader bytes place → IsFull bytes → ⊥
not_full-line bytes place stops full =
    let line = line_of_trace full.header full.history (take full.place bytes) full.trace in
    none_begins IsHeader bytes place stops line.text (line.more ++ drop full.place bytes) line.is
    (
    sym (take-append-drop full.place bytes)
    ∙ ap (λ (t : List ℕ). t ++ drop full.place bytes) line.split
    ∙ append_assoc line.text line.more (drop full.place bytes)
    )

-- ---- bytes with which an input begins

pub begins-whole : (IsSo : Header → HistoryState → Option (List ℕ) → Type 0) (bytes : List ℕ) → IsInputWith IsSo bytes → BeginsInput bytes
begins-whole IsSo bytes is = record {
  more = [];
  input = (is.header, is.history, is.session, subst (IsInputOf is.header is.history is.session) (sym (append-nil bytes)) is.input);
  room = not_full-whole is.header is.history is.session bytes is.input is.room;
}

pub begins-cut : (bytes : List ℕ) (place : ℕ) → length bytes ≤ place → IsMalformedAt place bytes → (IsFull bytes → ⊥) → BeginsInput bytes
begins-cut bytes place cut is room = record {
  more = is.begins.0;
  input = subst (λ (t : List ℕ). IsInput (t ++ is.begins.0)) (take_all place bytes cut) is.begins.1;
  room = room;
}
