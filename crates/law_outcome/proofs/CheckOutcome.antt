-- Two checks of the same bytes that end in one way write the same.
use Rattle.std.proofs.Common.{◌≡◌, ◌⊎◌, ◌∙◌, ℕ, ◌+◌, ◌<◌, ◌≤◌, Bool, true, false, List, [], ◌++◌, length, take, drop, Option, Some, None, Result, Ok, Err, refl, sym, ap, subst, arith, inl, inr, append_assoc, append-nil, length-append}
use Rattle.std.proofs.lemmas.Bool.{cases_lt, false≢true}
use Rattle.std.proofs.lemmas.List.{get_or_append_left, take-append-drop, take-append-le, take-take}
use Rattle.fc_call.specs.Call.{Call}
use Rattle.fc_call.specs.declared.status.Status.{Status}
use Rattle.fc_call.specs.declared.status.Status.TheVariants as status
use Rattle.fc_check.proofs.InputTraces.{input_alone}
use Rattle.fc_check.proofs.LawLemmas.{verdict_law_holds}
use Rattle.fc_check.specs.Checked.{Answers, IsAll}
use Rattle.fc_check.specs.Traces.{IsFull, IsInput}
use Rattle.fc_check.specs.Verdict.{IsMalformedAt, IsSaid}
use Rattle.fc_check.specs.declared.verdict.CheckStop.{CheckStop}
use Rattle.fc_check.specs.declared.verdict.CheckStop.TheVariants as stop
use Rattle.fc_check.specs.declared.verdict.Verdict.{Verdict}
use Rattle.fc_check.specs.declared.verdict.Verdict.TheVariants.{Yes, No, Malformed}
use Rattle.fc_entry.specs.HistoryState.{HistoryState}
use Rattle.fc_determined.specs.Smooth.{told_by}
use Rattle.fc_io.specs.Sink.{SinkState, held_with}
use Rattle.fc_io.specs.Source.{SourceState}
use Rattle.fc_run.specs.Summary.{form_text}
use Rattle.fc_run.specs.declared.form.Form.TheVariants.{Text}
use Rattle.fc_verdict.specs.CheckEnds.{CheckEnds, IsTold, status_said, status_stopped, verdict_line}
use Rattle.law_outcome.specs.OneOutcome.{HaveOneOutcome, IsByBytes, TookOf}

-- ---- what is said of the first bytes of a text that stop being an input of a check is said of all of them

-- no bytes that begin as these do are one
none_begins : (place : ℕ) (taken bytes : List ℕ) → place < length taken → IsMalformedAt place taken → take (place + 1) bytes ≡ take (place + 1) taken → IsInput bytes → ⊥
none_begins place taken bytes within said same input =
    let rest : List ℕ = drop (place + 1) bytes in
    said.stops within rest
    (subst IsInput (sym (take-append-drop (place + 1) bytes) ∙ ap (λ (front : List ℕ). front ++ rest) same) input)

malformed_more : (place : ℕ) (taken more : List ℕ) → place < length taken → IsMalformedAt place taken → IsMalformedAt place (taken ++ more)
malformed_more place taken more within said =
    let front : take place (taken ++ more) ≡ take place taken = take-append-le place taken more (omega arith) in
    let longer : take (place + 1) (taken ++ more) ≡ take (place + 1) taken = take-append-le (place + 1) taken more (omega arith) in
    record {
      within = omega (arith, within, length-append taken more);
      begins = (said.begins.0, subst (λ (front : List ℕ). IsInput (front ++ said.begins.0)) (sym front) said.begins.1);
      stops = λ inside rest input. said.stops within rest (subst (λ (front : List ℕ). IsInput (front ++ rest)) longer input);
      none = none_begins place taken (taken ++ more) within said longer;
    }

not_full_more : (place : ℕ) (taken more : List ℕ) → place < length taken → IsMalformedAt place taken → (IsFull taken → ⊥) → IsFull (taken ++ more) → ⊥
not_full_more place taken more within said not_full full = go (cases_lt full.place (length taken))
  where
    go : (full.place < length taken) ⊎ (length taken ≤ full.place) → ⊥
    go (inl less) =
        not_full
        record {
          place = full.place;
          more = less;
          header = full.header;
          history = full.history;
          trace = rw (← take-append-le full.place taken more (omega (arith, less))) full.trace;
          full = full.full;
          other = λ e. full.other (get_or_append_left taken more 0 full.place less ∙ e);
        }
    go (inr past) =
        none_begins place taken (take full.place (taken ++ more)) within said
        (
        take-take (place + 1) full.place (taken ++ more) (omega (arith, within, past))
        ∙ take-append-le (place + 1) taken more (omega (arith, within))
        )
        (full.header, full.history, None, input_alone full.header full.history (take full.place (taken ++ more)) full.trace)

said_more : (place : ℕ) (taken more : List ℕ) → place < length taken → IsSaid (Malformed place) taken → IsSaid (Malformed place) (taken ++ more)
said_more place taken more within said =
    (malformed_more place taken more within said.0, not_full_more place taken more within said.0 said.1)

-- ---- a verdict on what was taken is one on all bytes of the source

all_taken : (bytes taken past : List ℕ) (after : SourceState) → TookOf bytes (taken ++ past) after → IsAll past after → bytes ≡ taken
all_taken bytes taken past after took all =
    took.split
    ∙ (
    ap (λ (rest : List ℕ). (taken ++ past) ++ rest) (took.end all.0)
    ∙ (append-nil (taken ++ past) ∙ (ap (λ (last : List ℕ). taken ++ last) all.1 ∙ append-nil taken))
    )

said_of : (verdict : Verdict) (bytes taken past : List ℕ) (before after : SourceState) → TookOf bytes (taken ++ past) after → Answers (Ok verdict) before taken past after → IsSaid verdict bytes
said_of (Yes count) bytes taken past before after took answers =
    subst (IsSaid (Yes count)) (sym (all_taken bytes taken past after took answers.1)) answers.0
said_of (No number) bytes taken past before after took answers =
    subst (IsSaid (No number)) (sym (all_taken bytes taken past after took answers.1)) answers.0
said_of (Malformed place) bytes taken past before after took answers = go answers.1
  where
    go : (place < length taken) ⊎ IsAll past after → IsSaid (Malformed place) bytes
    go (inl within) =
        subst (IsSaid (Malformed place)) (sym (took.split ∙ append_assoc taken past took.rest))
        (said_more place taken (past ++ took.rest) within answers.0)
    go (inr all) = subst (IsSaid (Malformed place)) (sym (all_taken bytes taken past after took all)) answers.0

-- ---- what is written, by the answer

abbrev line_of : Result Verdict CheckStop → List ℕ
line_of (Ok verdict) = verdict_line verdict
line_of (Err of) = []

abbrev status_by : Result Verdict CheckStop → Status
status_by (Ok verdict) = status_said verdict
status_by (Err of) = status_stopped of

with_nothing : (held : Option (List ℕ)) → held ≡ held_with held []
with_nothing None = refl
with_nothing (Some bytes) = ap Some (sym (append-nil bytes))

-- the status and what the sink got, where the bytes alone decide the status
record Wrote (answer : Result Verdict CheckStop) (is : Status) (before after : SinkState) : Type 0 where
  status : is ≡ status_by answer
  held : after.held ≡ held_with before.held (line_of answer)

wrote : (answer : Result Verdict CheckStop) (is : Status) (before after : SinkState) → IsByBytes is → IsTold answer is before after → Wrote answer is before after
wrote (Ok verdict) is before after by_bytes (inl said) = record { status = said.0; held = said.1.0 }
wrote (Ok verdict) is before after by_bytes (inr failed) = absurd (subst IsByBytes failed.0 by_bytes)
wrote (Err of) is before after by_bytes told =
    record { status = told.0; held = ap (λ (sink : SinkState). sink.held) told.1 ∙ with_nothing before.held }

-- ---- two answers

abbrev says : Status → Bool
says status.Done = true
says status.Refuted = true
says _ = false

says_said : (verdict : Verdict) → says (status_said verdict) ≡ true
says_said (Yes count) = refl
says_said (No number) = refl
says_said (Malformed place) = refl

says_stopped : (of : CheckStop) → says (status_stopped of) ≡ false
says_stopped stop.ReadFault = refl
says_stopped stop.NoMemory = refl
says_stopped stop.LogFull = refl
says_stopped stop.TooLong = refl

said_or_stopped : (verdict : Verdict) (of : CheckStop) → status_said verdict ≡ status_stopped of → ⊥
said_or_stopped verdict of same = false≢true (sym (says_stopped of) ∙ (ap says (sym same) ∙ says_said verdict))

same_line : (one two : Result Verdict CheckStop) (bytes : List ℕ) →
    ((verdict : Verdict) → one ≡ Ok verdict → IsSaid verdict bytes) →
    ((verdict : Verdict) → two ≡ Ok verdict → IsSaid verdict bytes) →
    status_by two ≡ status_by one → line_of two ≡ line_of one
same_line (Ok one) (Ok two) bytes said said_other same =
    ap verdict_line (verdict_law_holds.one_verdict two one bytes (said_other two refl) (said one refl))
same_line (Ok one) (Err two) bytes said said_other same = absurd (said_or_stopped one two (sym same))
same_line (Err one) (Ok two) bytes said said_other same = absurd (said_or_stopped two one same)
same_line (Err one) (Err two) bytes said said_other same = refl

said_by : (answer : Result Verdict CheckStop) (bytes taken past : List ℕ) (before after : SourceState) → TookOf bytes (taken ++ past) after →
    Answers answer before taken past after → (verdict : Verdict) → answer ≡ Ok verdict → IsSaid verdict bytes
said_by answer bytes taken past before after took answers verdict is =
    let P : Result Verdict CheckStop → Type 0 = λ a. Answers a before taken past after in
    said_of verdict bytes taken past before after took (subst P is answers)

-- ---- two checks

pub checks :
    (bytes : List ℕ) (call other : Call) →
    other.status ≡ call.status →
    IsByBytes call.status →
    (a : CheckEnds call) (b : CheckEnds other) →
    TookOf bytes (a.checked.bytes ++ a.checked.past) call.source' →
    TookOf bytes (b.checked.bytes ++ b.checked.past) other.source' →
    HaveOneOutcome Text call other
checks bytes call other same by_bytes a b took took_other =
    let one = wrote a.answer call.status call.sink call.sink' by_bytes a.told in
    let two = wrote b.answer other.status other.sink other.sink' (subst IsByBytes (sym same) by_bytes) b.told in
    let line : line_of b.answer ≡ line_of a.answer =
    same_line a.answer b.answer bytes
    (said_by a.answer bytes a.checked.bytes a.checked.past call.source call.source' took a.checked.answers)
    (said_by b.answer bytes b.checked.bytes b.checked.past other.source other.source' took_other b.checked.answers)
    (sym two.status ∙ (same ∙ one.status)) in
    let told : other.history ≡ call.history = b.history ∙ sym a.history in
    record {
      entries = ap (λ (h : HistoryState). told_by h.entries) told;
      text = ap (form_text Text) told;
      written = λ before.
          two.held
          ∙ (
          ap (held_with other.sink.held) line
          ∙ (ap (λ (held : Option (List ℕ)). held_with held (line_of a.answer)) before ∙ sym one.held)
          );
    }
