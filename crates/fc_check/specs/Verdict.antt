-- What a judge says of the bytes of a trace, and of a session that stands behind it.
use Rattle.std.specs.Prelude.{◌≡◌, ◌⊎◌, ℕ, ◌+◌, ◌<◌, ◌≤◌, List, ◌++◌, length, take, Option, Some, None}
use Rattle.fc_check_answers.specs.Places.{AreAs}
use Rattle.fc_check_follow.specs.Ways.{pools_told}
use Rattle.fc_check_lines.specs.Bytes.{by_grammar, segments_in}
use Rattle.fc_check.specs.Traces.{IsFull, IsInput, IsInputOf}
use Rattle.fc_check.specs.declared.verdict.Verdict.{Verdict}
use Rattle.fc_check.specs.declared.verdict.Verdict.TheVariants.{Yes, No, Malformed}
use Rattle.fc_entry.specs.HistoryState.{HistoryState}
use Rattle.fc_entry.specs.declared.entry.Entry.{Entry}
use Rattle.fc_legal.specs.Legal.{IsLegal}
use Rattle.fc_legal.specs.Run.{IsPartialRun, IsRun}
use Rattle.fc_legal.specs.Whole.{Whole, opened}
use Rattle.fc_trace.specs.declared.header.Header.{Header}

-- The bytes before the place begin an input. No input goes on with the byte at it; or it is their end, and they are no input.
pub record IsMalformedAt (place : ℕ) (bytes : List ℕ) : Type 0 where
  pub within : place ≤ length bytes
  pub begins : (more : List ℕ) × IsInput (take place bytes ++ more)
  pub stops : place < length bytes → (more : List ℕ) → IsInput (take (place + 1) bytes ++ more) → ⊥
  pub none : IsInput bytes → ⊥

-- ---- without a session

-- each entry is right after those before it, from a new store over these disks on
abbrev pub AreLegal : Header → List Entry → Type 0
AreLegal header entries = (last : Whole) × IsLegal header.grain (opened (pools_told header.lanes)) entries last

-- ---- with a session

-- Entries of a history whose actors have these names are the first of a run of the session's lines and blocks, from a new store over
-- these disks on. The session numbers actors in its own way.
pub record StandFirst (header : Header) (own : List (List ℕ)) (session : List ℕ) (told : List Entry) : Type 0 where
  pub entries : List Entry
  pub last : Whole
  pub same : AreAs own last.actors told entries
  pub run : IsPartialRun header.grain by_grammar (opened (pools_told header.lanes)) (segments_in session) entries last

-- They are a whole run of them.
pub record StandWhole (header : Header) (own : List (List ℕ)) (session : List ℕ) (told : List Entry) : Type 0 where
  pub entries : List Entry
  pub last : Whole
  pub same : AreAs own last.actors told entries
  pub run : IsRun header.grain by_grammar (opened (pools_told header.lanes)) (segments_in session) entries last

-- ---- all are right, or one isn't

abbrev pub AllStand : Header → HistoryState → Option (List ℕ) → Type 0
AllStand header history None = AreLegal header history.entries
AllStand header history (Some session) = StandWhole header history.actors session history.entries

-- so many entries, all right
pub record AreAllRight (count : ℕ) (header : Header) (history : HistoryState) (session : Option (List ℕ)) : Type 0 where
  pub all : length history.entries ≡ count
  pub stand : AllStand header history session

-- the entry with this number is the first that isn't right, where right is said of the first entries
pub record IsFirstWrong (FirstRight : List Entry → Type 0) (number : ℕ) (entries : List Entry) : Type 0 where
  pub there : number < length entries
  pub before : FirstRight (take number entries)
  pub wrong : FirstRight (take (number + 1) entries) → ⊥

-- the entries, so many, are the first of a run, and no whole one: a line remains
pub record LineRemains (number : ℕ) (header : Header) (history : HistoryState) (session : List ℕ) : Type 0 where
  pub all : length history.entries ≡ number
  pub first : StandFirst header history.actors session history.entries
  pub more : StandWhole header history.actors session history.entries → ⊥

abbrev pub IsWrongAt : ℕ → Header → HistoryState → Option (List ℕ) → Type 0
IsWrongAt number header history None = IsFirstWrong (AreLegal header) number history.entries
IsWrongAt number header history (Some session) =
    IsFirstWrong (StandFirst header history.actors session) number history.entries ⊎ LineRemains number header history session

-- ---- the verdict

-- the bytes are a trace of at most 262,144 entries and a session behind it, if there is one; and so are these
pub record IsInputWith (IsSo : Header → HistoryState → Option (List ℕ) → Type 0) (bytes : List ℕ) : Type 0 where
  pub header : Header
  pub history : HistoryState
  pub session : Option (List ℕ)
  pub input : IsInputOf header history session bytes
  pub room : length history.entries ≤ 262144
  pub is_so : IsSo header history session

abbrev pub IsSaid : Verdict → List ℕ → Type 0
IsSaid (Yes count) bytes = IsInputWith (AreAllRight count) bytes
IsSaid (No number) bytes = IsInputWith (IsWrongAt number) bytes
IsSaid (Malformed place) bytes = IsMalformedAt place bytes × (IsFull bytes → ⊥)
