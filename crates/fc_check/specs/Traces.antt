-- When bytes are a trace, and of which history; and what may stand behind it.
use Rattle.std.specs.Prelude.{◌≡◌, ◌≢◌, ℕ, ◌<◌, List, [], ◌∷◌, ◌++◌, length, take, codes, slice_index, Option, Some, None}
use Rattle.std.specs.List.{concat}
use Rattle.fc_base.specs.declared.size.GrainSize.{GrainSize}
use Rattle.fc_entry.specs.HistoryState.{HistoryState}
use Rattle.fc_reading.specs.Header.{AreFour}
use Rattle.fc_reading_entries.specs.Entries.{ReadNext}
use Rattle.fc_trace.specs.Trace.{header_text}
use Rattle.fc_trace.specs.declared.header.Header.{Header}

-- the text of the entry that comes next, and the history with it
abbrev pub IsNextText : GrainSize → HistoryState → List ℕ → HistoryState → Type 0
IsNextText size old text new = ReadNext size old text (length text) new

-- texts of entries, one behind the other, and the history with them
abbrev pub AreNextTexts : GrainSize → HistoryState → List (List ℕ) → HistoryState → Type 0
AreNextTexts size old [] new = new ≡ old
AreNextTexts size old (text ∷ texts) new = (then : HistoryState) × IsNextText size old text then × AreNextTexts size then texts new

-- no names of actors, no entries
abbrev pub nothing_told : HistoryState
nothing_told = record { actors = []; entries = [] }

-- the first line of a trace of a store of four lanes, and the texts of all entries of this history, numbered from 0
pub record IsTraceOf (header : Header) (history : HistoryState) (bytes : List ℕ) : Type 0 where
  pub lanes : AreFour header.lanes
  pub texts : List (List ℕ)
  pub told : AreNextTexts header.grain nothing_told texts history
  pub text : bytes ≡ header_text header.grain header.lanes ++ concat texts

-- ---- with a session

-- the line that stands between a trace and a session
abbrev pub session_line : List ℕ
session_line = codes "session\n"

-- what stands behind a trace: nothing, or that line and the bytes of a session, whatever they are
abbrev pub behind_trace : Option (List ℕ) → List ℕ
behind_trace None = []
behind_trace (Some session) = session_line ++ session

-- a trace of this history, and this session behind it, if there is one
pub record IsInputOf (header : Header) (history : HistoryState) (session : Option (List ℕ)) (bytes : List ℕ) : Type 0 where
  pub text : List ℕ
  pub trace : IsTraceOf header history text
  pub all : bytes ≡ text ++ behind_trace session

abbrev pub IsInput : List ℕ → Type 0
IsInput bytes = (header : Header) × (history : HistoryState) × (session : Option (List ℕ)) × IsInputOf header history session bytes

-- a trace of 262,144 entries, and a byte behind it that doesn't begin the line of a session, `s`
pub record IsFull (bytes : List ℕ) : Type 0 where
  pub place : ℕ
  pub more : place < length bytes
  pub header : Header
  pub history : HistoryState
  pub trace : IsTraceOf header history (take place bytes)
  pub full : length history.entries ≡ 262144
  pub other : slice_index bytes place ≢ 115

-- bytes with which an input may begin, of which no more than 262,144 entries are there
pub record BeginsInput (bytes : List ℕ) : Type 0 where
  pub more : List ℕ
  pub input : IsInput (bytes ++ more)
  pub room : IsFull bytes → ⊥
