-- What is still to be asked in a session: its lines and blocks, the requests of the line at hand, the seconds that it lets pass, and
-- what the actors of a block ask beside each other.
use Rattle.std.specs.Prelude.{◌≡◌, ℕ, Bool, true, false, cond, List, [], ◌∷◌, Option, Some, None, Result, Ok}
use Rattle.std.specs.Option.{option_map}
use Rattle.fc_agenda.specs.Rules.{Rules}
use Rattle.fc_base.specs.declared.command.Command.{Command}
use Rattle.fc_base.specs.Tables.{volume_named}
use Rattle.fc_base.specs.declared.behind.Behind.{Behind}
use Rattle.fc_base.specs.declared.behind.Behind.TheVariants.{Passing as PassingSeconds}
use Rattle.fc_base.specs.declared.command.Command.TheVariants.{Advance, Mkpreset}
use Rattle.fc_base.specs.declared.command.Line.{Line}
use Rattle.fc_base.specs.declared.command.Line.TheVariants.{Command as CommandLine}
use Rattle.fc_base.specs.declared.fault.WordFault.{WordFault}
use Rattle.fc_base.specs.declared.ids.GrainNo.{GrainNo}
use Rattle.fc_base.specs.declared.request.Reply.{Reply}
use Rattle.fc_base.specs.declared.request.Reply.TheVariants.{Done}
use Rattle.fc_base.specs.declared.request.Request.{Request}
use Rattle.fc_base.specs.declared.size.GrainSize.{GrainSize}
use Rattle.fc_blocks.specs.Segments.{Segment, single, together}
use Rattle.fc_blocks.specs.declared.block.ActorRead.{ActorRead}
use Rattle.fc_books.specs.Books.{Books}
use Rattle.fc_entry.specs.declared.entry.Entry.{Entry}
use Rattle.fc_legal.specs.Asked.{asked}
use Rattle.fc_legal.specs.Presets.{asked_behind, behind_preset}
use Rattle.fc_legal.specs.Scripts.{Script, are_done, behind_next, faults_asked, names_with, next_by, scripts_of}
use Rattle.fc_legal.specs.Seconds.{Passing, Work, after_fill, all_work, seconds_begun, fill_of, goes_on, next_fill}
use Rattle.fc_legal.specs.Steps.{Step}
use Rattle.fc_legal.specs.Whole.{Whole, lanes}

-- How a line of bytes is read, by the books before it.
abbrev pub Reading : Type 0
Reading = Books → List ℕ → Result Line WordFault

pub data Agenda : Type 0 where
  -- these lines and blocks, one after the other
  Session : List Segment → Agenda
  -- these requests of the line at hand; then what is asked behind the last of them; and then the segments behind the line
  Own : List Request → Behind → List Segment → Agenda
  -- seconds that pass, and then the segments behind them
  Seconds : Passing → List Segment → Agenda
  -- the faults of a block that `main` is still told of; then these actors; and then the segments behind the block
  Faults : List Request → List ActorRead → List Segment → Agenda
  -- what the actors of a block still ask, in any order among them; and then the segments behind the block
  Actors : List Script → List Segment → Agenda

-- What a line asks behind its last request: the seconds of `advance`, or the other lines of a preset.
abbrev pub behind_command : Books → Command → Behind
behind_command b (Advance seconds) = PassingSeconds seconds
behind_command b (Mkpreset source preset name) = behind_preset source preset name (volume_named b.tables source)
behind_command b command = PassingSeconds 0

abbrev pub behind_line : Books → Result Line WordFault → Behind
behind_line b (Ok (CommandLine command)) = behind_command b command
behind_line b line = PassingSeconds 0

abbrev pub is_done : Reply → Bool
is_done Done = true
is_done reply = false

-- ---- what is asked next

-- Outside of blocks all is asked by `main`, which is actor 0: the next request of the line, or the next fill of a second. And
-- `main` is told of the next fault of a block.
abbrev pub next_asked : GrainSize → Agenda → Whole → Option (ℕ × Request)
next_asked grain (Session segs) w = None
next_asked grain (Own [] behind segs) w = None
next_asked grain (Own (request ∷ rest) behind segs) w = Some (0, request)
next_asked grain (Seconds p segs) w = option_map (λ (next : Work × GrainNo). (0, fill_of next.0 next.1)) (next_fill grain w p)
next_asked grain (Faults [] actors segs) w = None
next_asked grain (Faults (request ∷ rest) actors segs) w = Some (0, request)
next_asked grain (Actors scripts segs) w = None

-- In a block any actor may be next, with the next request of its script.
abbrev pub Asks : GrainSize → Agenda → Whole → ℕ × Request → Type 0
Asks grain (Actors scripts segs) w asked = next_by scripts asked.0 ≡ Some asked.1
Asks grain a w asked = next_asked grain a w ≡ Some asked

-- ---- what is left behind an entry

-- Of a second, the fill is done.
abbrev pub behind_fill : GrainSize → Whole → Passing → Option Work → Entry → Passing
behind_fill grain next p None entry = p
behind_fill grain next p (Some work) entry = after_fill grain next p work entry

-- Behind the last request of a line its seconds begin, if it is done, with the background work as it is then; or more is asked.
abbrev pub behind_last : Whole → Reply → Behind → List Segment → Agenda
behind_last next reply (PassingSeconds n) segs = cond (is_done reply) (Seconds (seconds_begun n (all_work next.books)) segs) (Session segs)
behind_last next reply behind segs = Own (asked_behind behind reply).0 (asked_behind behind reply).1 segs

abbrev pub behind_own : Whole → Reply → List Request → Behind → List Segment → Agenda
behind_own next reply [] behind segs = behind_last next reply behind segs
behind_own next reply rest behind segs = Own rest behind segs

abbrev pub behind_entry : GrainSize → Agenda → Whole → Entry → Agenda
behind_entry grain (Session segs) next entry = Session segs
behind_entry grain (Own [] behind segs) next entry = Session segs
behind_entry grain (Own (request ∷ rest) behind segs) next entry = behind_own next entry.reply rest behind segs
behind_entry grain (Seconds p segs) next entry = Seconds (behind_fill grain next p p.at_hand entry) segs
behind_entry grain (Faults [] actors segs) next entry = Faults [] actors segs
behind_entry grain (Faults (request ∷ rest) actors segs) next entry = Faults rest actors segs
behind_entry grain (Actors scripts segs) next entry = Actors (behind_next scripts entry.actor) segs

-- ---- how it goes on without an entry

-- With no fill next the seconds go on, or are over.
abbrev pub next_of_second : Option Passing → List Segment → Agenda
next_of_second None segs = Session segs
next_of_second (Some p) segs = Seconds p segs

abbrev pub without_fill : GrainSize → Whole → Passing → Option (Work × GrainNo) → List Segment → Option Agenda
without_fill grain w p None segs = Some (next_of_second (goes_on grain w p) segs)
without_fill grain w p (Some next) segs = None

-- The next line is read.
abbrev pub line_read : GrainSize → Whole → Result Line WordFault → List Segment → Agenda
line_read grain w line segs = Own (asked grain w.books line) (behind_line w.books line) segs

-- The next segment: a line, or a block.
abbrev pub segment_read : GrainSize → Reading → Whole → Segment → List Segment → Agenda
segment_read grain read w (single line) segs = line_read grain w (read w.books line) segs
segment_read grain read w (together block) segs = Faults (faults_asked block.faults) block.actors segs

-- A block ends where no actor has anything left to ask.
abbrev pub without_entry : GrainSize → Reading → Agenda → Whole → Option Agenda
without_entry grain read (Session []) w = None
without_entry grain read (Session (segment ∷ segs)) w = Some (segment_read grain read w segment segs)
without_entry grain read (Own [] behind segs) w = Some (Session segs)
without_entry grain read (Own (request ∷ rest) behind segs) w = None
without_entry grain read (Seconds p segs) w = without_fill grain w p (next_fill grain w p) segs
without_entry grain read (Faults requests actors segs) w = None
without_entry grain read (Actors scripts segs) w = cond (are_done scripts) (Some (Session segs)) None

-- ---- how the actors of a block begin

-- Their names stand among those of the history.
abbrev pub with_names : Whole → List ActorRead → Whole
with_names w actors = record w { actors = names_with w.actors actors }

-- Their scripts go by the books as they are then.
abbrev pub actors_begun : GrainSize → Whole → List ActorRead → List Segment → Agenda
actors_begun grain w actors segs = Actors (scripts_of grain (lanes w) w.books w.actors actors) segs

-- They begin when `main` was told of the last fault.
abbrev pub Begins : GrainSize → Agenda → Whole → Agenda → Whole → Type 0
Begins grain (Faults [] actors segs) w b v = (v ≡ with_names w actors) × (b ≡ actors_begun grain v actors segs)
Begins grain a w b v = ⊥

-- ---- the rules

abbrev pub session_rules : GrainSize → Reading → Rules Whole Agenda
session_rules grain read = record {
  Asks = λ a w asked. Asks grain a w asked;
  Right = λ w entry next. Step grain w entry next;
  after = λ a next entry. behind_entry grain a next entry;
  Passes = λ a w b. without_entry grain read a w ≡ Some b;
  Begins = λ a w b v. Begins grain a w b v;
  Over = λ a w. a ≡ Session [];
}
