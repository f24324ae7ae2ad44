-- An entry of a trace, read from the left: its line, what it did, the rows of its report, and its end.
use Rattle.std.specs.Prelude.{◌≡◌, ℕ, ◌/◌, ◌%◌, Bool, true, false, List, [], ◌∷◌, ◌++◌, length, take, Option, Some, None, Result, codes, decimal}
use Rattle.fc_base.specs.Grain.{grain_blocks}
use Rattle.fc_base.specs.declared.command.Command.TheVariants.{Read as ReadLine, Write as WriteLine, Mkpreset}
use Rattle.fc_base.specs.declared.request.Place.{Place}
use Rattle.fc_base.specs.declared.request.Place.TheVariants as place
use Rattle.fc_base.specs.declared.request.Reply.{Reply}
use Rattle.fc_base.specs.declared.request.Reply.TheVariants.{Listed}
use Rattle.fc_base.specs.declared.request.Request.{Request}
use Rattle.fc_base.specs.declared.request.Request.TheVariants as request
use Rattle.fc_base.specs.declared.size.GrainSize.{GrainSize}
use Rattle.fc_entry.specs.HistoryState.{HistoryState, number_of_actor, with_actor}
use Rattle.fc_entry.specs.declared.entry.Entry.{Entry}
use Rattle.fc_reading.specs.Readers.{map_read, the_word, then_read}
use Rattle.fc_trace.specs.Trace.{traced_by}
use Rattle.fc_words.specs.Canonical.{IsName}
use Rattle.fc_reading_notes.specs.Notes.{notes_at}
use Rattle.fc_reading_notes.specs.Told.{AreNotes, Each, IsCalls, head_at}
use Rattle.fc_reading_notes.specs.declared.lines.LaneCalls.{LaneCalls}
use Rattle.fc_reading_notes.specs.declared.notes.Notes.{Notes}
use Rattle.fc_reading_replies.specs.Begun.{said}
use Rattle.fc_reading_replies.specs.Rows.{IsRow, rows_at}
use Rattle.fc_reading_replies.specs.declared.replies.ReplyLine.{ReplyLine}
use Rattle.fc_reading_replies.specs.declared.replies.ReplyLine.TheVariants.{Whole, Rows}
use Rattle.fc_reading_requests.specs.Parts.{ended_by, name_at}
use Rattle.fc_reading_requests.specs.Requests.{asked_at}
use Rattle.fc_reading_requests.specs.declared.asked.Asked.{Asked}
use Rattle.fc_reading_entries.specs.Exchanges.{IsExchange, line_at, request_by}
use Rattle.fc_reading_entries.specs.declared.parts.Parts.{Parts}

-- ---- under whose turns an entry is made

-- the turn of the lane that has this grain
abbrev pub lane_of : ℕ → Place
lane_of grain = place.Lane (grain % 4)

-- that of its grain's lane, or of the worker's; all turns for a command; that of the control part for a refused
-- access or preset, and for a line that couldn't be read
abbrev pub turn_of : GrainSize → Request → Place
turn_of size (request.Command (ReadLine volume block count)) = place.Control
turn_of size (request.Command (WriteLine volume block count byte)) = place.Control
turn_of size (request.Command (Mkpreset source preset name)) = place.Control
turn_of size (request.Command command) = place.Every
turn_of size (request.Unread fault) = place.Control
turn_of size (request.Read part) = lane_of (part.block / grain_blocks size)
turn_of size (request.Write part) = lane_of (part.block / grain_blocks size)
turn_of size (request.Copy map grain) = lane_of grain.0
turn_of size (request.Clean map grain) = lane_of grain.0
turn_of size (request.CopyTurn lane) = place.Lane lane
turn_of size (request.CleanTurn lane) = place.Lane lane

abbrev pub is_lane : Place → Bool
is_lane (place.Lane lane) = true
is_lane place.Every = false
is_lane place.Control = false

-- ---- what an entry may be

-- its calls and faults: none where it isn't a lane's
abbrev pub AreCalls : Bool → LaneCalls → Type 0
AreCalls true calls = IsCalls calls
AreCalls false calls = calls ≡ record { calls = 0; faults_before = 0; faults_after = 0 }

abbrev pub entry_calls : Entry → LaneCalls
entry_calls entry = record { calls = entry.calls; faults_before = entry.faults_before; faults_after = entry.faults_after }

abbrev pub notes_of : Entry → Notes
notes_of entry = record { moves = entry.moves; torn = entry.torn; effects = entry.effects }

-- the rows of a report
abbrev pub AreRowsOf : Reply → Type 0
AreRowsOf (Listed rows) = Each IsRow rows
AreRowsOf reply = Unit {0}

-- an entry with this number, of a store of this size of grains
pub record IsEntry (size : GrainSize) (number : ℕ) (entry : Entry) : Type 0 where
  pub number_is : entry.number ≡ number
  pub place_is : entry.place ≡ turn_of size entry.request
  pub exchange : IsExchange entry.request entry.reply
  pub rows : AreRowsOf entry.reply
  pub calls : AreCalls (is_lane (turn_of size entry.request)) (entry_calls entry)
  pub notes : AreNotes (notes_of entry)

-- the text of an entry with this number, of an actor with some name
abbrev pub IsEntryText : GrainSize → ℕ → List ℕ → Type 0
IsEntryText size number bytes = (name : List ℕ) × (entry : Entry) × IsName name × IsEntry size number entry × (bytes ≡ traced_by name entry)

-- the first bytes, so many, were read as the next entry of a history: an actor that had no number yet has the
-- next one
pub record ReadNext (size : GrainSize) (old : HistoryState) (bytes : List ℕ) (count : ℕ) (new : HistoryState) : Type 0 where
  pub name : List ℕ
  pub entry : Entry
  pub is_name : IsName name
  pub actor : entry.actor ≡ number_of_actor old.actors name
  pub is : IsEntry size (length old.entries) entry
  pub text : take count bytes ≡ traced_by name entry
  pub after : new ≡ record { actors = with_actor old.actors name; entries = old.entries ++ entry ∷ [] }

-- ---- read from the left

-- the number and the actor's name
abbrev pub number_at : ℕ → List ℕ → Result (Unit {0} × List ℕ) ℕ
number_at number = ended_by (the_word (decimal number)) (codes " ")

-- the reply of a line: the rows of a report are those behind it
abbrev pub reply_behind : ReplyLine → List ℕ → Result (Reply × List ℕ) ℕ
reply_behind (Whole reply) = said reply
reply_behind (Rows count) = map_read Listed (rows_at count)

-- what stands behind an entry's own line
abbrev pub Behind : Type 0
Behind = Option LaneCalls × (Notes × (Reply × Unit {0}))

-- the reply, and the line that ends it
abbrev pub ended_line : ReplyLine → List ℕ → Result ((Reply × Unit {0}) × List ℕ) ℕ
ended_line line = then_read (reply_behind line) (λ reply. the_word (codes ".\n"))

-- what it moved, spoiled and changed, and what stands behind
abbrev pub noted_line : ReplyLine → List ℕ → Result ((Notes × (Reply × Unit {0})) × List ℕ) ℕ
noted_line line = then_read notes_at (λ notes. ended_line line)

abbrev pub behind_line : GrainSize → Asked → ReplyLine → List ℕ → Result (Behind × List ℕ) ℕ
behind_line size asked line =
    then_read (head_at (is_lane (turn_of size (request_by asked line)))) (λ calls. noted_line line)

-- all of an entry
abbrev pub Raw : Type 0
Raw = Unit {0} × (List ℕ × (Asked × (ReplyLine × Behind)))

abbrev pub raw_at : GrainSize → ℕ → List ℕ → Result (Raw × List ℕ) ℕ
raw_at size number =
    then_read (number_at number)
    (λ u. then_read (ended_by name_at (codes " ")) (λ name. then_read asked_at (λ asked. then_read (line_at asked) (behind_line size asked))))

abbrev pub parts_of : Raw → Parts
parts_of x = record {
  name = x.1.0;
  request = request_by x.1.1.0 x.1.1.1.0;
  reply = x.1.1.1.1.1.1.0;
  calls = x.1.1.1.1.0;
  notes = x.1.1.1.1.1.0;
}

-- what is told behind the name, and behind what was asked
abbrev pub asked_parts : GrainSize → List ℕ → List ℕ → Result (Parts × List ℕ) ℕ
asked_parts size name = map_read (λ x. parts_of (tt, (name, x))) (then_read asked_at (λ asked. then_read (line_at asked) (behind_line size asked)))

abbrev pub lined_parts : GrainSize → List ℕ → Asked → List ℕ → Result (Parts × List ℕ) ℕ
lined_parts size name asked = map_read (λ x. parts_of (tt, (name, (asked, x)))) (then_read (line_at asked) (behind_line size asked))

abbrev pub parts_at : GrainSize → ℕ → List ℕ → Result (Parts × List ℕ) ℕ
parts_at size number = map_read parts_of (raw_at size number)

-- the numbers of a lane's calls and faults, or zeros
abbrev pub calls_or_none : Option LaneCalls → LaneCalls
calls_or_none (Some calls) = calls
calls_or_none None = record { calls = 0; faults_before = 0; faults_after = 0 }

-- the entry of these parts, of the actor with this number
abbrev pub entry_of : GrainSize → ℕ → ℕ → Parts → Entry
entry_of size number actor parts = record {
  number = number;
  actor = actor;
  place = turn_of size parts.request;
  request = parts.request;
  reply = parts.reply;
  moves = parts.notes.moves;
  effects = parts.notes.effects;
  torn = parts.notes.torn;
  faults_before = (calls_or_none parts.calls).faults_before;
  faults_after = (calls_or_none parts.calls).faults_after;
  calls = (calls_or_none parts.calls).calls;
}

-- the history with the entry of these parts behind the others
abbrev pub with_entry : GrainSize → Parts → HistoryState → HistoryState
with_entry size parts history = record {
  actors = with_actor history.actors parts.name;
  entries = history.entries ++ entry_of size (length history.entries) (number_of_actor history.actors parts.name) parts ∷ [];
}
