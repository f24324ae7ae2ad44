-- What is left of a session: what was begun of it, and the lines and blocks behind that.
use Rattle.std.specs.Prelude.{◌≡◌, ◌↔◌, ℕ, Bool, IsTrue, List, [], Option, Some, None}
use Rattle.fc_agenda.specs.Goes.{Goes}
use Rattle.fc_base.specs.declared.behind.Behind.{Behind}
use Rattle.fc_base.specs.declared.request.Reply.{Reply}
use Rattle.fc_base.specs.declared.request.Request.{Request}
use Rattle.fc_base.specs.declared.size.GrainSize.{GrainSize}
use Rattle.fc_blocks.specs.Segments.{Segment}
use Rattle.fc_check_lines.specs.Bytes.{IsSegment, by_grammar}
use Rattle.fc_check_lines.specs.Leading.{Waits}
use Rattle.fc_check_lines.specs.declared.lines.Asking.{Asking}
use Rattle.fc_check_lines.specs.declared.lines.Asking.TheVariants.{Nothing, Own as OwnAsked, Seconds as SecondsAsked, Faults as FaultsAsked, Actors as ActorsAsked}
use Rattle.fc_check_lines.specs.declared.segment.SegmentRead.{SegmentRead}
use Rattle.fc_entry.specs.declared.entry.Entry.{Entry}
use Rattle.fc_legal.specs.Agenda.{Agenda, Session, Own, Seconds, Faults, Actors, Asks, Reading, behind_entry, behind_last, segment_read, session_rules}
use Rattle.fc_legal.specs.Whole.{Whole}
use Rattle.law_stands.specs.Names.{named}

-- The names of the actors that the session has so far, by number, and what is left to be asked.
pub record Standing : Type 0 where
  pub names : List (List ℕ)
  pub agenda : Agenda

-- What was begun, with these segments behind it.
abbrev pub agenda_of : Asking → List Segment → Agenda
agenda_of Nothing segs = Session segs
agenda_of (OwnAsked requests behind) segs = Own requests behind segs
agenda_of (SecondsAsked passing) segs = Seconds passing segs
agenda_of (FaultsAsked requests actors) segs = Faults requests actors segs
agenda_of (ActorsAsked scripts) segs = Actors scripts.items segs

-- Where nothing was begun, nothing is left.
abbrev pub IsOverWith : Asking → List Segment → Type 0
IsOverWith Nothing segs = segs ≡ []
IsOverWith asking segs = Unit {0}

-- What is left of what was begun: nothing, or this.
abbrev pub left_of : Option Asking → List Segment → Agenda
left_of None segs = Session segs
left_of (Some asking) segs = agenda_of asking segs

-- It goes on without an entry, whatever stands behind it; and what is left waits.
pub record GoesOnTo (grain : GrainSize) (read : Reading) (asking : Asking) (w : Whole) (left : Option Asking) (v : Whole) : Type 0 where
  pub goes : (segs : List Segment) → Goes (session_rules grain read) (agenda_of asking segs) w [] (left_of left segs) v
  pub waits : (found : Asking) (segs : List Segment) → left ≡ Some found → Waits grain read (agenda_of found segs) v

-- A line or a block that was read begins so, whatever stands behind it and whoever has a name.
abbrev pub BeginsAs : GrainSize → Whole → SegmentRead → Asking → Type 0
BeginsAs grain w read asking = (s : Segment) (segs : List Segment) (names : List (List ℕ)) → IsSegment read s →
    agenda_of asking segs ≡ segment_read grain by_grammar (named names w) s segs

-- It is `main` who asks this next.
abbrev pub MainAsks : ℕ → Request → Option Request → Type 0
MainAsks actor request next = (actor ≡ 0) × (next ≡ Some request)

-- Whether the actor with this number asks this next, whatever stands behind it.
abbrev pub TellsNext : Bool → GrainSize → Whole → Asking → ℕ → Request → Type 0
TellsNext tells grain w asking actor request = (segs : List Segment) (names : List (List ℕ)) →
    IsTrue tells ↔ Asks grain (agenda_of asking segs) (named names w) (actor, request)

-- This is left of a line behind its last request, which was answered so, whatever stands behind the line and whoever has a name.
abbrev pub IsLeftOfLine : Whole → Reply → Behind → Asking → Type 0
IsLeftOfLine w reply behind left = (segs : List Segment) (names : List (List ℕ)) → agenda_of left segs ≡ behind_last (named names w) reply behind segs

-- This is left behind an entry of the actor with this number that answered so.
abbrev pub IsLeftBehind : GrainSize → Whole → Asking → ℕ → Reply → Asking → Type 0
IsLeftBehind grain w asking actor reply left = (entry : Entry) (segs : List Segment) (names : List (List ℕ)) → entry.actor ≡ actor → entry.reply ≡ reply →
    agenda_of left segs ≡ behind_entry grain (agenda_of asking segs) (named names w) entry
