-- An input is of one history and one session, and of its bytes one verdict is right.
use Rattle.std.specs.Prelude.{◌≡◌, ℕ, List, Option, take}
use Rattle.fc_entry.specs.HistoryState.{HistoryState}
use Rattle.fc_entry.specs.declared.entry.Entry.{Entry}
use Rattle.fc_trace.specs.declared.header.Header.{Header}
use Rattle.fc_check.specs.Traces.{IsFull, IsInputOf}
use Rattle.fc_check.specs.Verdict.{AreLegal, IsSaid, StandFirst, StandWhole}
use Rattle.fc_check.specs.declared.verdict.Verdict.{Verdict}

pub record VerdictLaw : Type 0 where
  -- the first line, the history and the session of an input are determined by its bytes
  pub one_input : (header other : Header) (history next : HistoryState) (session also : Option (List ℕ)) (bytes : List ℕ) →
      IsInputOf header history session bytes → IsInputOf other next also bytes → (header ≡ other) × (history ≡ next) × (session ≡ also)
  -- where entries are legal, so are the first of them
  pub first : (header : Header) (entries : List Entry) (count : ℕ) → AreLegal header entries → AreLegal header (take count entries)
  -- where entries are the first of a run, so are the first of them; and all of a run are the first of it
  pub first_of : (header : Header) (own : List (List ℕ)) (session : List ℕ) (entries : List Entry) (count : ℕ) →
      StandFirst header own session entries → StandFirst header own session (take count entries)
  pub whole : (header : Header) (own : List (List ℕ)) (session : List ℕ) (entries : List Entry) →
      StandWhole header own session entries → StandFirst header own session entries
  -- and they are legal
  pub legal : (header : Header) (own : List (List ℕ)) (session : List ℕ) (entries : List Entry) →
      StandFirst header own session entries → AreLegal header entries
  -- of two verdicts both are right only where they are one
  pub one_verdict : (one two : Verdict) (bytes : List ℕ) → IsSaid one bytes → IsSaid two bytes → one ≡ two
  -- and none is right where something other than a session stands behind the last entry that fits
  pub not_full : (verdict : Verdict) (bytes : List ℕ) → IsSaid verdict bytes → IsFull bytes → ⊥
