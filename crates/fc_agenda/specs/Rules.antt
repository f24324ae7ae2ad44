-- An agenda: all that is still to be asked. The lines and blocks of a session, the requests of one line, the seconds that pass and
-- the scripts of a block's actors are agendas.
use Rattle.std.specs.Prelude.{ℕ}
use Rattle.fc_base.specs.declared.request.Request.{Request}
use Rattle.fc_entry.specs.declared.entry.Entry.{Entry}

-- The rules by which a history goes on.
pub record Rules (Told Agenda : Type 0) : Type 1 where
  -- what may be asked next, and by which actor
  pub Asks : Agenda → Told → ℕ × Request → Type 0
  -- when an entry is right after what was told, and what is told after it
  pub Right : Told → Entry → Told → Type 0
  -- the agenda behind an entry, after which this is told
  pub after : Agenda → Told → Entry → Agenda
  -- when the agenda goes on without an entry, and to which
  pub Passes : Agenda → Told → Agenda → Type 0
  -- when it goes on without an entry and something more is told: to which agenda, and what is told then
  pub Begins : Agenda → Told → Agenda → Told → Type 0
  -- when nothing is left
  pub Over : Agenda → Told → Type 0
