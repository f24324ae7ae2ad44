-- What a view says of the bytes of a trace, and what was drawn of it.
use Rattle.std.specs.Prelude.{◌≡◌, ◌⊎◌, ℕ, ◌+◌, ◌≤◌, Option, List, [], ◌++◌, drop, length, option_map, take, Result, Ok, Err}
use Rattle.fc_base.specs.Count.{HasRisen}
use Rattle.fc_check.specs.Checked.{IsAll}
use Rattle.fc_check.specs.Input.{WereTaken}
use Rattle.fc_check.specs.Progress.{IsSessionLine}
use Rattle.fc_check.specs.Traces.{IsFull, IsTraceOf, behind_trace}
use Rattle.fc_check.specs.Verdict.{AreLegal, IsFirstWrong}
use Rattle.fc_drawing.specs.Drawn.{Drawn}
use Rattle.fc_drawing.specs.declared.drawing.Seen.{Seen}
use Rattle.fc_drawing.specs.declared.drawing.Seen.TheVariants.{Right, Wrong, Malformed}
use Rattle.fc_entry.specs.HistoryState.{HistoryState}
use Rattle.fc_io.specs.Source.{SourceState}
use Rattle.fc_reading.specs.Header.{IsHeader}
use Rattle.fc_reading.specs.Stops.{StopsAt}
use Rattle.fc_reading_entries.specs.Entries.{IsEntryText, ReadNext}
use Rattle.fc_trace.specs.declared.header.Header.{Header}
use Rattle.fc_view.specs.Drawings.{AreDrawings}
use Rattle.fc_view.specs.declared.stop.ViewStop.{ViewStop}
use Rattle.fc_view.specs.declared.stop.ViewStop.TheVariants.{LogFull, ReadFault, TooLong}

-- The next entry is there, and is the first that isn't right.
pub record NextIsWrong (number : ℕ) (header : Header) (history : HistoryState) (rest : List ℕ) : Type 0 where
  pub number_is : number ≡ length history.entries
  pub count : ℕ
  pub new : HistoryState
  pub within : count ≤ length rest
  pub read : ReadNext header.grain history rest count new
  pub wrong : IsFirstWrong (AreLegal header) number new.entries

-- No entry goes on there, and no line of a session.
pub record NoneGoesOn (stopped : ℕ) (header : Header) (history : HistoryState) (place : ℕ) (rest : List ℕ) : Type 0 where
  pub count : ℕ
  pub stopped_is : stopped ≡ place + count
  pub stops : StopsAt (IsEntryText header.grain (length history.entries)) rest count ⊎ StopsAt IsSessionLine rest count

-- What follows behind the entries that were drawn, up to a place: nothing, or the line of a session and the session; the first wrong
-- entry; or bytes with which no trace goes on.
abbrev pub EndsAs : Seen → Header → HistoryState → ℕ → List ℕ → Type 0
EndsAs (Right count) header history place rest = (count ≡ length history.entries) × (session : Option (List ℕ)) × (rest ≡ behind_trace session)
EndsAs (Wrong number) header history place rest = NextIsWrong number header history rest
EndsAs (Malformed stopped) header history place rest = NoneGoesOn stopped header history place rest

-- The bytes up to a place are a trace, all of whose entries are right, and these were drawn.
pub record AreViewed (bytes : List ℕ) (at : Option ℕ) (seen : Seen) (drawn : List Drawn) : Type 0 where
  pub header : Header
  pub history : HistoryState
  pub place : ℕ
  pub within : place ≤ length bytes
  pub trace : IsTraceOf header history (take place bytes)
  pub right : AreLegal header history.entries
  pub drawings : AreDrawings header at history.entries drawn
  pub ends : EndsAs seen header history place (drop place bytes)

-- They don't even begin with the first line of a trace, and nothing was drawn.
abbrev pub HaveNoFirstLine : List ℕ → Seen → List Drawn → Type 0
HaveNoFirstLine bytes (Malformed place) drawn = StopsAt IsHeader bytes place × (drawn ≡ [])
HaveNoFirstLine bytes seen drawn = ⊥

-- These were drawn behind those of before, where a canvas tells what it drew.
abbrev pub behind_those : Option (List Drawn) → List Drawn → Option (List Drawn)
behind_those old drawn = option_map (λ (all : List Drawn). all ++ drawn) old

-- What is said of the bytes, and what was drawn.
abbrev pub IsView : Result Seen ViewStop → Option ℕ → List ℕ → Option (List Drawn) → Option (List Drawn) → Type 0
IsView (Ok seen) at bytes old new = (drawn : List Drawn) × (new ≡ behind_those old drawn) × (AreViewed bytes at seen drawn ⊎ HaveNoFirstLine bytes seen drawn)
-- a byte that begins no session stands behind the last entry that fits
IsView (Err LogFull) at bytes old new = IsFull bytes
-- a canvas refused a part, or memory was wanted; nothing else is answered of bytes
IsView (Err ReadFault) at bytes old new = ⊥
IsView (Err TooLong) at bytes old new = ⊥
IsView (Err stop) at bytes old new = Unit {0}

-- ---- of a source

-- All bytes were taken before the first was looked at; or a call failed, or the byte past the greatest input came, and nothing was drawn.
abbrev pub Views : Result Seen ViewStop → Option ℕ → SourceState → List ℕ → List ℕ → SourceState → Option (List Drawn) → Option (List Drawn) → Type 0
Views (Err ReadFault) at before bytes past after old new = HasRisen before.faults after.faults × (past ≡ []) × (new ≡ old)
Views (Err TooLong) at before bytes past after old new = (length past ≡ 1) × (new ≡ old)
Views (Err LogFull) at before bytes past after old new = IsFull bytes × IsAll past after
Views (Err stop) at before bytes past after old new = Unit {0}
Views (Ok seen) at before bytes past after old new = IsView (Ok seen) at bytes old new × IsAll past after

-- Some bytes were taken, and the answer goes by them.
pub record IsViewOf (answer : Result Seen ViewStop) (at : Option ℕ) (before after : SourceState) (old new : Option (List Drawn)) : Type 0 where
  pub bytes : List ℕ
  pub past : List ℕ
  pub taken : WereTaken before bytes past after
  pub views : Views answer at before bytes past after old new
