-- What an answer leaves of the history, and of whoever answers. How he stands for what is told is a parameter.
use Rattle.std.specs.Prelude.{◌≡◌, List, ◌++◌, length, Result, Ok, Err}
use Rattle.fc_agenda.specs.Goes.{GoesToEnd, GoesSome, GoesAsking}
use Rattle.fc_agenda.specs.Rules.{Rules}
use Rattle.fc_entry.specs.HistoryState.{HistoryState}
use Rattle.fc_entry.specs.declared.entry.Entry.{Entry}
use Rattle.fc_entry.specs.declared.stop.Stop.{Stop}
use Rattle.fc_entry.specs.declared.stop.Stop.TheVariants.{LogFull, NoMemory}
use Rattle.fc_legal.specs.Agenda.{Agenda}
use Rattle.fc_legal.specs.Whole.{Whole}

-- This is told of a history with these actors and so many entries.
pub record IsOf (w : Whole) (history : HistoryState) : Type 0 where
  pub actors : w.actors ≡ history.actors
  pub entries : w.entries ≡ length history.entries

-- It is told of the history, and somebody stands for it.
abbrev pub IsTold : (Whole → Type 0) → HistoryState → Whole → Type 0
IsTold Stands history last = Stands last × IsOf last history

-- He does so for something of which this holds.
abbrev pub Reached : (Whole → Type 0) → HistoryState → (Whole → Type 0) → Type 0
Reached Stands history Holds = (last : Whole) × IsTold Stands history last × Holds last

-- Entries at the history's end.
pub record Adds (old new : HistoryState) (Are : List Entry → Type 0) : Type 0 where
  pub more : List Entry
  pub entries : new.entries ≡ old.entries ++ more
  pub are : Are more

-- An agenda is answered to its end; or the first of it, up to 262,144 entries; or the first of it, for want of memory. But for
-- want of memory he goes on to stand for what is told.
abbrev pub Answered : {A : Type 0} → Result A Stop → (Whole → Type 0) → Rules Whole Agenda → Agenda → Whole → HistoryState → HistoryState → Type 0
Answered (Ok _) Stands rules a w old new =
    Reached Stands new (λ last. Adds old new (λ more. GoesToEnd rules a w more last))
Answered (Err LogFull) Stands rules a w old new =
    (length new.entries ≡ 262144) × Reached Stands new (λ last. Adds old new (λ more. GoesAsking rules a w more last))
Answered (Err NoMemory) Stands rules a w old new =
    (last : Whole) × IsOf last new × Adds old new (λ more. GoesSome rules a w more last)

-- Something is told, and he stands for it.
abbrev pub TellsSome : (Whole → Type 0) → HistoryState → Type 0
TellsSome Stands history = (last : Whole) × IsTold Stands history last

-- But for want of memory, this goes on to hold.
abbrev pub StaysUp : {A : Type 0} → Result A Stop → Type 0 → Type 0
StaysUp (Ok _) stands = stands
StaysUp (Err LogFull) stands = stands
StaysUp (Err NoMemory) stands = Unit {0}
