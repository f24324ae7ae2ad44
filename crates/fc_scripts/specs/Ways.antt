-- Ways through a block: how a history goes on from the scripts of its actors.
use Rattle.std.specs.Prelude.{◌≢◌, ℕ, List, map, AllPairs}
use Rattle.fc_agenda.specs.Goes.{Goes}
use Rattle.fc_base.specs.declared.request.Request.{Request}
use Rattle.fc_base.specs.declared.size.GrainSize.{GrainSize}
use Rattle.fc_blocks.specs.Segments.{Segment}
use Rattle.fc_entry.specs.declared.entry.Entry.{Entry}
use Rattle.fc_legal.specs.Agenda.{Actors, Asks, Reading, Session, session_rules}
use Rattle.fc_legal.specs.Scripts.{Script}
use Rattle.fc_legal.specs.Whole.{Whole}

-- The actors' numbers.
abbrev pub numbers_of : List Script → List ℕ
numbers_of scripts = map (λ (s : Script). s.actor) scripts

-- No two scripts are of one actor.
abbrev pub AreOfDifferent : List Script → Type 0
AreOfDifferent scripts = AllPairs (λ one other. one ≢ other) (numbers_of scripts)

-- From the scripts of a block, with these segments behind it, to its end.
abbrev pub IsThrough : GrainSize → Reading → List Script → List Segment → Whole → List Entry → Whole → Type 0
IsThrough grain read scripts segs w entries last =
    Goes (session_rules grain read) (Actors scripts segs) w entries (Session segs) last

-- To where so much of them is left.
pub record IsInto (grain : GrainSize) (read : Reading) (scripts : List Script) (segs : List Segment) (w : Whole) (entries : List Entry) (last : Whole) : Type 0 where
  pub left : List Script
  pub goes : Goes (session_rules grain read) (Actors scripts segs) w entries (Actors left segs) last

-- To where one more request is next.
pub record IsAsking (grain : GrainSize) (read : Reading) (scripts : List Script) (segs : List Segment) (w : Whole) (entries : List Entry) (last : Whole) : Type 0 where
  pub left : List Script
  pub goes : Goes (session_rules grain read) (Actors scripts segs) w entries (Actors left segs) last
  pub wanted : ℕ × Request
  pub asks : Asks grain (Actors left segs) last wanted
