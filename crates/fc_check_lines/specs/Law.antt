-- The law of lines: which entry may come next, and where it leads, answers whether entries are a run of a session.
use Rattle.std.specs.Prelude.{◌≡◌, ℕ, List, [], ◌∷◌, ◌++◌, codes}
use Rattle.fc_agenda.specs.Goes.{Goes, GoesSome, GoesToEnd}
use Rattle.fc_base.specs.declared.request.Request.{Request}
use Rattle.fc_base.specs.declared.size.GrainSize.{GrainSize}
use Rattle.fc_blocks.specs.Segments.{Segment}
use Rattle.fc_check_lines.specs.Asked.{IsAskedBy}
use Rattle.fc_check_lines.specs.Leading.{LeadTo, Waits}
use Rattle.fc_entry.specs.declared.entry.Entry.{Entry}
use Rattle.fc_legal.specs.Agenda.{Agenda, Asks, Reading, Session, behind_entry, session_rules}
use Rattle.fc_legal.specs.Steps.{Step}
use Rattle.fc_legal.specs.Whole.{Whole}
use Rattle.law_stands.specs.Names.{named}

-- Entries lead to where the actor and the request of one more are asked next, and it is right there. What is left behind it goes on
-- to this without an entry.
pub record IsOneMore (grain : GrainSize) (read : Reading) (a : Agenda) (w : Whole) (entries : List Entry) (entry : Entry) (c : Agenda) (u : Whole) : Type 0 where
  pub at : Agenda
  pub told : Whole
  pub next : Whole
  pub leads : LeadTo grain read a w entries at told
  pub asks : Asks grain at told (entry.actor, entry.request)
  pub right : Step grain told entry next
  pub behind : Goes (session_rules grain read) (behind_entry grain at next entry) next [] c u

-- Whatever is to be asked, and whatever is told first:
pub record LinesLaw : Type 0 where
  -- without an entry it leads to one place alone, and nothing but names is told on the way
  pub one : (grain : GrainSize) (read : Reading) (a b c : Agenda) (w v u : Whole) → LeadTo grain read a w [] b v → LeadTo grain read a w [] c u →
      (b ≡ c) × (v ≡ u)
  pub names : (grain : GrainSize) (read : Reading) (a b : Agenda) (w v : Whole) → LeadTo grain read a w [] b v → v ≡ named v.actors w
  -- where something is asked, it waits
  pub waits : (grain : GrainSize) (read : Reading) (a : Agenda) (w : Whole) (wanted : ℕ × Request) → Asks grain a w wanted → Waits grain read a w
  -- one entry more goes on exactly where it is asked next and right
  pub more : (grain : GrainSize) (read : Reading) (a c : Agenda) (w u : Whole) (entries : List Entry) (entry : Entry) →
      IsOneMore grain read a w entries entry c u → Goes (session_rules grain read) a w (entries ++ entry ∷ []) c u
  pub only : (grain : GrainSize) (read : Reading) (a c : Agenda) (w u : Whole) (entries : List Entry) (entry : Entry) →
      Goes (session_rules grain read) a w (entries ++ entry ∷ []) c u → IsOneMore grain read a w entries entry c u
  -- where entries lead, they are the first of a run; and they are a whole run exactly where they lead to its end
  pub some : (grain : GrainSize) (read : Reading) (a b : Agenda) (w v : Whole) (entries : List Entry) → LeadTo grain read a w entries b v →
      GoesSome (session_rules grain read) a w entries v
  pub whole : (grain : GrainSize) (read : Reading) (a : Agenda) (w last : Whole) (entries : List Entry) → GoesToEnd (session_rules grain read) a w entries last →
      LeadTo grain read a w entries (Session []) last
  pub to_end : (grain : GrainSize) (read : Reading) (a : Agenda) (w last : Whole) (entries : List Entry) → LeadTo grain read a w entries (Session []) last →
      GoesToEnd (session_rules grain read) a w entries last
  -- a session of which `main` alone has a name at first asks nobody without one: whatever may be asked next is asked by a name
  pub by_name : (grain : GrainSize) (read : Reading) (segs : List Segment) (b : Agenda) (w v : Whole) (names : List (List ℕ)) (entries : List Entry)
      (number : ℕ) (request : Request) → w.actors ≡ codes "main" ∷ names → Goes (session_rules grain read) (Session segs) w entries b v →
      Asks grain b v (number, request) → (name : List ℕ) × IsAskedBy grain b v name request
