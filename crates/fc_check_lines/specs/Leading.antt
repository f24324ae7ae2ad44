-- Where the entries of a history lead in what is asked: to where nothing goes on without one more.
use Rattle.std.specs.Prelude.{◌≡◌, List, None}
use Rattle.fc_agenda.specs.Goes.{Goes}
use Rattle.fc_base.specs.declared.size.GrainSize.{GrainSize}
use Rattle.fc_entry.specs.declared.entry.Entry.{Entry}
use Rattle.fc_legal.specs.Agenda.{Agenda, Begins, Reading, session_rules, without_entry}
use Rattle.fc_legal.specs.Whole.{Whole}

-- It waits for an entry, or is over: nothing goes on without one.
pub record Waits (grain : GrainSize) (read : Reading) (a : Agenda) (w : Whole) : Type 0 where
  pub none_passes : without_entry grain read a w ≡ None
  pub none_begins : (b : Agenda) (v : Whole) → Begins grain a w b v → ⊥

-- These entries lead from the one agenda to the other, which waits, and this is told then.
pub record LeadTo (grain : GrainSize) (read : Reading) (a : Agenda) (w : Whole) (entries : List Entry) (b : Agenda) (v : Whole) : Type 0 where
  pub goes : Goes (session_rules grain read) a w entries b v
  pub waits : Waits grain read b v
