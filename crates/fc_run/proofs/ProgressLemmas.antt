-- How a session goes on.
use Rattle.std.proofs.Common.{◌≡◌, ℕ, false, ◌==◌, cond, List, [], ◌∷◌, ◌++◌, length, take, drop, get_or, ◌+◌, ◌<◌, append_assoc, refl, sym, ◌∙◌, ap, subst, Result, Ok, Err, IsOk, inl, inr}
use Rattle.std.proofs.lemmas.List.{append-nil, drop_more, take_more, take-append-drop}
use Rattle.fc_entry.specs.HistoryState.{HistoryState}
use Rattle.fc_entry.specs.Lines.{Lined, lined, ended_lines, without_return}
use Rattle.fc_entry.proofs.LineLemmas.{lined-append, Grows, ended_lines-grow}
use Rattle.fc_entry.specs.declared.stop.Stop.{Stop}
use Rattle.fc_entry.specs.declared.stop.Stop.TheVariants.{LogFull, NoMemory}
use Rattle.fc_run.specs.Input.{OfFirst}
use Rattle.fc_run.specs.Progress.{Progress, StopsIn, LinesEnd, Fed}
use Rattle.fc_run.specs.Runs.{Runs, LineLeaves}

-- A byte that is no newline joins the line at hand.
Progress-byte :
    (runs : Runs) (bytes line : List ℕ) (history : HistoryState) (byte : ℕ) →
    (byte == 10) ≡ false →
    Progress runs bytes line history →
    Progress runs (bytes ++ byte ∷ []) (line ++ byte ∷ []) history
Progress-byte runs bytes line history byte other before =
    let e : lined (bytes ++ byte ∷ []) ≡ record { ended = (lined bytes).ended; unended = (lined bytes).unended ++ byte ∷ [] } =
    lined-append bytes (byte ∷ [])
    ∙ ap (λ b. cond {A = Lined} b
    record { ended = (lined bytes).ended ++ without_return (lined bytes).unended ∷ []; unended = [] }
    record { ended = (lined bytes).ended; unended = (lined bytes).unended ++ byte ∷ [] }) other in
    let P : Lined → Type 0 = λ l. runs.Whole l.ended history in
    record {
      whole = subst P (sym e) before.whole;
      unended = ap (λ l. l ++ byte ∷ []) before.unended ∙ sym (ap (λ (l : Lined). l.unended) e);
    }

-- The line that a newline ends.
ended-newline :
    (bytes : List ℕ) →
    lined (bytes ++ 10 ∷ []) ≡ record { ended = ended_lines bytes ++ without_return (lined bytes).unended ∷ []; unended = [] }
ended-newline bytes = lined-append bytes (10 ∷ [])

-- The last of these lines was answered.
pub LinesEnd-answer :
    {A : Type 0} (answer : Result A Stop) (runs : Runs) (lines : List (List ℕ)) (history : HistoryState) →
    LineLeaves answer runs lines history →
    LinesEnd answer runs lines history
LinesEnd-answer (Ok done) runs lines history leaves = leaves
LinesEnd-answer (Err LogFull) runs lines history leaves = (
  record { first = lines; rest = []; split = sym (append-nil lines); holds = leaves.0 },
  leaves.1,
)
LinesEnd-answer (Err NoMemory) runs lines history leaves =
    record { first = lines; rest = []; split = sym (append-nil lines); holds = inr leaves }

-- A newline ends the line at hand.
Fed-ended :
    {A : Type 0} (answer : Result A Stop) (runs : Runs) (bytes rest : List ℕ) (history : HistoryState) →
    LinesEnd answer runs (ended_lines bytes ++ without_return (lined bytes).unended ∷ []) history →
    (IsOk answer → rest ≡ []) →
    Fed answer runs (bytes ++ 10 ∷ []) rest history
Fed-ended (Ok done) runs bytes rest history ends empty =
    let P : Lined → Type 0 = λ l. runs.Whole l.ended history in
    record {
      whole = subst P (sym (ended-newline bytes)) ends;
      unended = empty refl ∙ sym (ap (λ (l : Lined). l.unended) (ended-newline bytes));
    }
Fed-ended (Err stop) runs bytes rest history ends empty =
    let P : Lined → Type 0 = λ l. StopsIn stop runs l.ended history in
    subst P (sym (ended-newline bytes)) ends

pub Fed-newline :
    {A : Type 0} (answer : Result A Stop) (runs : Runs) (bytes line asked rest : List ℕ) (history : HistoryState) (byte : ℕ) →
    byte ≡ 10 →
    asked ≡ without_return line →
    line ≡ (lined bytes).unended →
    LineLeaves answer runs (ended_lines bytes ++ asked ∷ []) history →
    (IsOk answer → rest ≡ []) →
    Fed answer runs (bytes ++ byte ∷ []) rest history
Fed-newline answer runs bytes line asked rest history byte is asks unended leaves empty =
    let P : List ℕ → Type 0 = λ l. LineLeaves answer runs (ended_lines bytes ++ l ∷ []) history in
    let Q : ℕ → Type 0 = λ b. Fed answer runs (bytes ++ b ∷ []) rest history in
    subst Q (sym is)
    (Fed-ended answer runs bytes rest history
    (LinesEnd-answer answer runs (ended_lines bytes ++ without_return (lined bytes).unended ∷ []) history
    (subst P (asks ∙ ap without_return unended) leaves))
    empty)

-- Where no memory was had for a byte, the lines that ended were answered.
pub Fed-starved :
    (runs : Runs) (bytes line : List ℕ) (history : HistoryState) (byte : ℕ) →
    (byte == 10) ≡ false →
    Progress runs bytes line history →
    StopsIn NoMemory runs (ended_lines (bytes ++ byte ∷ [])) history
Fed-starved runs bytes line history byte other before =
    let after : Progress runs (bytes ++ byte ∷ []) (line ++ byte ∷ []) history = Progress-byte runs bytes line history byte other before in
    record {
      first = ended_lines (bytes ++ byte ∷ []);
      rest = [];
      split = sym (append-nil (ended_lines (bytes ++ byte ∷ [])));
      holds = inl after.whole;
    }

-- What holds of the first of some lines holds of the first of more lines.
OfFirst-more : (lines all : List (List ℕ)) (Holds : List (List ℕ) → Type 0) → Grows lines all → OfFirst lines Holds → OfFirst all Holds
OfFirst-more lines all Holds grows of = record {
  first = of.first;
  rest = of.rest ++ grows.more;
  split = grows.is ∙ ap (λ l. l ++ grows.more) of.split ∙ append_assoc of.first of.rest grows.more;
  holds = of.holds;
}

StopsIn-more :
    (stop : Stop) (runs : Runs) (lines all : List (List ℕ)) (history : HistoryState) →
    Grows lines all →
    StopsIn stop runs lines history →
    StopsIn stop runs all history
StopsIn-more LogFull runs lines all history grows stops = (OfFirst-more lines all _ grows stops.0, stops.1)
StopsIn-more NoMemory runs lines all history grows stops = OfFirst-more lines all _ grows stops

-- A piece is what stands before one of its bytes, the byte and what stands behind it.
whole :
    (bytes piece : List ℕ) (i byte : ℕ) →
    i < length piece →
    byte ≡ get_or piece i 0 →
    ((bytes ++ take i piece) ++ byte ∷ []) ++ drop (i + 1) piece ≡ bytes ++ piece
whole bytes piece i byte inside is =
    append_assoc (bytes ++ take i piece) (byte ∷ []) (drop (i + 1) piece)
    ∙ append_assoc bytes (take i piece) (byte ∷ drop (i + 1) piece)
    ∙ ap (λ b. bytes ++ (take i piece ++ b ∷ drop (i + 1) piece)) is
    ∙ ap (λ rest. bytes ++ (take i piece ++ rest)) (sym (drop_more piece i 0 inside))
    ∙ ap (λ p. bytes ++ p) (take-append-drop i piece)

-- A stop in the midst of a piece is one of the whole piece.
pub Fed-within :
    (stop : Stop) (runs : Runs) (bytes piece : List ℕ) (i byte : ℕ) (history : HistoryState) →
    i < length piece →
    byte ≡ get_or piece i 0 →
    StopsIn stop runs (ended_lines ((bytes ++ take i piece) ++ byte ∷ [])) history →
    StopsIn stop runs (ended_lines (bytes ++ piece)) history
Fed-within stop runs bytes piece i byte history inside is stops =
    let P : List ℕ → Type 0 = λ all. StopsIn stop runs (ended_lines all) history in
    subst P (whole bytes piece i byte inside is)
    (StopsIn-more stop runs (ended_lines ((bytes ++ take i piece) ++ byte ∷ []))
    (ended_lines (((bytes ++ take i piece) ++ byte ∷ []) ++ drop (i + 1) piece)) history
    (ended_lines-grow ((bytes ++ take i piece) ++ byte ∷ []) (drop (i + 1) piece)) stops)

-- A byte more of a piece was fed.
pub Fed-next :
    (runs : Runs) (bytes piece : List ℕ) (i byte : ℕ) (line : List ℕ) (history : HistoryState) →
    i < length piece →
    byte ≡ get_or piece i 0 →
    Progress runs ((bytes ++ take i piece) ++ byte ∷ []) line history →
    Progress runs (bytes ++ take (i + 1) piece) line history
Fed-next runs bytes piece i byte line history inside is =
    let P : List ℕ → Type 0 = λ all. Progress runs all line history in
    let one : (bytes ++ take i piece) ++ byte ∷ [] ≡ bytes ++ take (i + 1) piece =
    append_assoc bytes (take i piece) (byte ∷ [])
    ∙ ap (λ b. bytes ++ (take i piece ++ b ∷ [])) is
    ∙ ap (λ p. bytes ++ p) (sym (take_more piece i 0 inside)) in
    subst P one
