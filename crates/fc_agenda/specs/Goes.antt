-- How entries bring an agenda, and what is told, from the one to the other.
use Rattle.std.specs.Prelude.{ℕ, List, [], ◌∷◌}
use Rattle.fc_base.specs.declared.request.Request.{Request}
use Rattle.fc_entry.specs.declared.entry.Entry.{Entry}
use Rattle.fc_agenda.specs.Rules.{Rules}

-- Each entry answers what may be asked next, and is right.
pub data Goes {Told Agenda : Type 0} (rules : Rules Told Agenda) : Agenda → Told → List Entry → Agenda → Told → Type 0 where
  stays : {a : Agenda} {w : Told} → Goes rules a w [] a w
  passes : {a b c : Agenda} {w last : Told} {entries : List Entry} →
      rules.Passes a w b → Goes rules b w entries c last → Goes rules a w entries c last
  begins : {a b c : Agenda} {w v last : Told} {entries : List Entry} →
      rules.Begins a w b v → Goes rules b v entries c last → Goes rules a w entries c last
  answers : {a c : Agenda} {w next last : Told} {entry : Entry} {entries : List Entry} →
      rules.Asks a w (entry.actor, entry.request) → rules.Right w entry next →
      Goes rules (rules.after a next entry) next entries c last → Goes rules a w (entry ∷ entries) c last

-- The whole agenda was answered.
pub record GoesToEnd {Told Agenda : Type 0} (rules : Rules Told Agenda) (a : Agenda) (w : Told) (entries : List Entry) (last : Told) : Type 0 where
  pub end : Agenda
  pub goes : Goes rules a w entries end last
  pub over : rules.Over end last

-- The first of it was answered.
pub record GoesSome {Told Agenda : Type 0} (rules : Rules Told Agenda) (a : Agenda) (w : Told) (entries : List Entry) (last : Told) : Type 0 where
  pub end : Agenda
  pub goes : Goes rules a w entries end last

-- The first of it was answered, and one more request is next.
pub record GoesAsking {Told Agenda : Type 0} (rules : Rules Told Agenda) (a : Agenda) (w : Told) (entries : List Entry) (last : Told) : Type 0 where
  pub end : Agenda
  pub goes : Goes rules a w entries end last
  pub wanted : ℕ × Request
  pub asks : rules.Asks end last wanted
