-- Of two verdicts both are right only where they are one.
use Rattle.std.proofs.Common.{◌≡◌, ◌⊎◌, ℕ, ◌+◌, ◌<◌, ◌≤◌, List, [], ◌∷◌, ◌++◌, length, take, drop, Option, Some, None, inl, inr, sym, ap, subst, ◌∙◌, append_assoc, arith}
use Rattle.std.proofs.lemmas.Bool.{cases_lt}
use Rattle.std.proofs.lemmas.List.{append-nil, take-append-drop, take-take}
use Rattle.fc_base.specs.declared.size.GrainSize.{GrainSize}
use Rattle.fc_check_follow.specs.Ways.{pools_told}
use Rattle.fc_entry.specs.HistoryState.{HistoryState}
use Rattle.fc_entry.specs.declared.entry.Entry.{Entry}
use Rattle.fc_legal.specs.Legal.{IsLegal}
use Rattle.fc_legal.specs.Whole.{Whole, opened}
use Rattle.fc_trace.specs.declared.header.Header.{Header}
use Rattle.fc_check.specs.Laws.{VerdictLaw}
use Rattle.fc_check.specs.Traces.{IsFull, IsInput}
use Rattle.fc_check.specs.Verdict.{AllStand, AreAllRight, AreLegal, IsFirstWrong, IsInputWith, IsMalformedAt, IsSaid, IsWrongAt, StandFirst}
use Rattle.fc_check.specs.declared.verdict.Verdict.{Verdict}
use Rattle.fc_check.specs.declared.verdict.Verdict.TheVariants.{Yes, No, Malformed}
use Rattle.fc_check.proofs.InputTraces.{one_input}
use Rattle.fc_check.proofs.SessionLemmas.{first_of_whole, first_taken, legal_of_first}
use Rattle.fc_check.proofs.StopLemmas.{not_full-whole}

-- ---- the first entries of a legal history

first_legal : (grain : GrainSize) (start last : Whole) (entries more : List Entry) → IsLegal grain start (entries ++ more) last → (mid : Whole) × IsLegal grain start entries mid
first_legal grain start last [] more legal = (start, record { more = []; named = ap (λ (names : List (List ℕ)). record start { actors = names }) (sym (append-nil start.actors)) })
first_legal grain start last (entry ∷ entries) more legal =
    let rest = first_legal grain legal.0 last entries more legal.2 in
    (rest.0, (legal.0, legal.1, rest.1))

first : (header : Header) (entries : List Entry) (count : ℕ) → AreLegal header entries → AreLegal header (take count entries)
first header entries count legal =
    let start : Whole = opened (pools_told header.lanes) in
    first_legal header.grain start legal.0 (take count entries) (drop count entries)
    (subst (λ (l : List Entry). IsLegal header.grain start l legal.0) (sym (take-append-drop count entries)) legal.1)

-- ---- with a session or without one

-- when the first entries are right
abbrev FirstRight : Header → HistoryState → Option (List ℕ) → List Entry → Type 0
FirstRight header history None entries = AreLegal header entries
FirstRight header history (Some session) entries = StandFirst header history.actors session entries

first_right : (header : Header) (history : HistoryState) (session : Option (List ℕ)) (entries : List Entry) (count : ℕ) → FirstRight header history session entries → FirstRight header history session (take count entries)
first_right header history None entries count right = first header entries count right
first_right header history (Some session) entries count right = first_taken header history.actors session entries count right

all_first : (header : Header) (history : HistoryState) (session : Option (List ℕ)) → AllStand header history session → FirstRight header history session history.entries
all_first header history None all = all
all_first header history (Some session) all = first_of_whole header history.actors session history.entries all

-- an entry is the first that isn't right, or all are the first and no more
record EndsEarly (number : ℕ) (header : Header) (history : HistoryState) (session : Option (List ℕ)) : Type 0 where
  count : length history.entries ≡ number
  right : FirstRight header history session history.entries
  early : AllStand header history session → ⊥

abbrev IsWrong : ℕ → Header → HistoryState → Option (List ℕ) → Type 0
IsWrong number header history session = IsFirstWrong (FirstRight header history session) number history.entries ⊎ EndsEarly number header history session

wrong_at : (number : ℕ) (header : Header) (history : HistoryState) (session : Option (List ℕ)) → IsWrongAt number header history session → IsWrong number header history session
wrong_at number header history None wrong = inl (record { there = wrong.there; before = wrong.before; wrong = wrong.wrong })
wrong_at number header history (Some session) (inl wrong) = inl (record { there = wrong.there; before = wrong.before; wrong = wrong.wrong })
wrong_at number header history (Some session) (inr remains) = inr (record { count = remains.all; right = remains.first; early = remains.more })

-- ---- one of two

same_number : (m n : ℕ) → (m < n → ⊥) → (n < m → ⊥) → m ≡ n
same_number m n below above = elim (cases_lt m n) [
  | inl less ↦ absurd (below less)
  | inr more ↦
      elim (cases_lt n m) [
        | inl less ↦ absurd (above less)
        | inr least ↦ omega arith
      ]
]

-- what is said of the one history and session of an input
together : (One Two : Header → HistoryState → Option (List ℕ) → Type 0) (bytes : List ℕ) (one : IsInputWith One bytes) → IsInputWith Two bytes → Two one.header one.history one.session
together One Two bytes one two =
    let same = one_input one.header two.header one.history two.history one.session two.session bytes one.input two.input in
    subst (λ (x : Header). Two x one.history one.session) (sym same.0)
    (
    subst (λ (h : HistoryState). Two two.header h one.session) (sym same.1)
    (subst (λ (s : Option (List ℕ)). Two two.header two.history s) (sym same.2) two.is_so)
    )

module _ (header : Header) (history : HistoryState) (session : Option (List ℕ)) where
  right_and_wrong_by : (number : ℕ) → AllStand header history session → IsWrong number header history session → ⊥
  right_and_wrong_by number all (inl wrong) = wrong.wrong (first_right header history session history.entries (number + 1) (all_first header history session all))
  right_and_wrong_by number all (inr early) = early.early all

  right_and_wrong : (count number : ℕ) → AreAllRight count header history session → IsWrongAt number header history session → ⊥
  right_and_wrong count number right wrong = right_and_wrong_by number right.stand (wrong_at number header history session wrong)

  before_all : (number : ℕ) → IsWrong number header history session → FirstRight header history session (take number history.entries)
  before_all number (inl wrong) = wrong.before
  before_all number (inr early) = first_right header history session history.entries number early.right

  within_all : (number : ℕ) → IsWrong number header history session → number ≤ length history.entries
  within_all number (inl wrong) = omega (arith, wrong.there)
  within_all number (inr early) = omega (arith, early.count)

  wrong_earlier_by : (number other : ℕ) → IsWrong number header history session → IsWrong other header history session → number < other → ⊥
  wrong_earlier_by number other (inl wrong) later less =
      wrong.wrong
      (
      subst (FirstRight header history session) (take-take (number + 1) other history.entries (omega arith))
      (first_right header history session (take other history.entries) (number + 1) (before_all other later))
      )
  wrong_earlier_by number other (inr early) later less = absurd (omega (arith, early.count, within_all other later))

  wrong_earlier : (number other : ℕ) → IsWrongAt number header history session → IsWrongAt other header history session → number < other → ⊥
  wrong_earlier number other wrong later less = wrong_earlier_by number other (wrong_at number header history session wrong) (wrong_at other header history session later) less

malformed_earlier : (bytes : List ℕ) (place other : ℕ) → IsMalformedAt place bytes → IsMalformedAt other bytes → place < other → ⊥
malformed_earlier bytes place other one two less =
    let front : take (place + 1) (take other bytes) ≡ take (place + 1) bytes = take-take (place + 1) other bytes (omega arith) in
    let rest : List ℕ = drop (place + 1) (take other bytes) in
    let split : take other bytes ≡ take (place + 1) bytes ++ rest =
    sym (take-append-drop (place + 1) (take other bytes)) ∙ ap (λ (t : List ℕ). t ++ rest) front in
    one.stops (omega (arith, two.within)) (rest ++ two.begins.0)
    (
    subst IsInput
    (ap (λ (t : List ℕ). t ++ two.begins.0) split ∙ append_assoc (take (place + 1) bytes) rest two.begins.0)
    two.begins.1
    )

is_input : (IsSo : Header → HistoryState → Option (List ℕ) → Type 0) (bytes : List ℕ) → IsInputWith IsSo bytes → IsInput bytes
is_input IsSo bytes is = (is.header, is.history, is.session, is.input)

one_verdict : (one two : Verdict) (bytes : List ℕ) → IsSaid one bytes → IsSaid two bytes → one ≡ two
one_verdict (Yes m) (Yes n) bytes one two =
    ap Yes (sym one.is_so.all ∙ (together (AreAllRight m) (AreAllRight n) bytes one two).all)
one_verdict (Yes m) (No n) bytes one two =
    absurd (right_and_wrong one.header one.history one.session m n one.is_so (together (AreAllRight m) (IsWrongAt n) bytes one two))
one_verdict (Yes m) (Malformed place) bytes one two = absurd (two.0.none (is_input (AreAllRight m) bytes one))
one_verdict (No m) (Yes n) bytes one two =
    absurd (right_and_wrong two.header two.history two.session n m two.is_so (together (AreAllRight n) (IsWrongAt m) bytes two one))
one_verdict (No m) (No n) bytes one two =
    let also : IsWrongAt n one.header one.history one.session = together (IsWrongAt m) (IsWrongAt n) bytes one two in
    ap No
    (
    same_number m n (wrong_earlier one.header one.history one.session m n one.is_so also)
    (wrong_earlier one.header one.history one.session n m also one.is_so)
    )
one_verdict (No m) (Malformed place) bytes one two = absurd (two.0.none (is_input (IsWrongAt m) bytes one))
one_verdict (Malformed place) (Yes n) bytes one two = absurd (one.0.none (is_input (AreAllRight n) bytes two))
one_verdict (Malformed place) (No n) bytes one two = absurd (one.0.none (is_input (IsWrongAt n) bytes two))
one_verdict (Malformed place) (Malformed other) bytes one two =
    ap Malformed (same_number place other (malformed_earlier bytes place other one.0 two.0) (malformed_earlier bytes other place two.0 one.0))

not_full : (verdict : Verdict) (bytes : List ℕ) → IsSaid verdict bytes → IsFull bytes → ⊥
not_full (Yes n) bytes said full = not_full-whole said.header said.history said.session bytes said.input said.room full
not_full (No n) bytes said full = not_full-whole said.header said.history said.session bytes said.input said.room full
not_full (Malformed place) bytes said full = said.1 full

pub verdict_law_holds : VerdictLaw
verdict_law_holds = record {
  one_input = one_input;
  first = first;
  first_of = first_taken;
  whole = first_of_whole;
  legal = legal_of_first;
  one_verdict = one_verdict;
  not_full = not_full;
}
