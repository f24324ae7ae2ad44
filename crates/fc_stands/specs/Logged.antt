-- One entry at the history's end, and agendas that entries bring on. How a store stands for what is told is a parameter.
use Rattle.std.specs.Prelude.{◌≡◌, Bool, [], ◌∷◌, ◌++◌, length, Result, Ok, Err}
use Rattle.fc_agenda.specs.Goes.{Goes, GoesAsking, GoesSome}
use Rattle.fc_agenda.specs.Rules.{Rules}
use Rattle.fc_base.specs.declared.request.Reply.{Reply}
use Rattle.fc_base.specs.declared.request.Request.{Request}
use Rattle.fc_base.specs.declared.size.GrainSize.{GrainSize}
use Rattle.fc_entry.specs.HistoryState.{HistoryState}
use Rattle.fc_entry.specs.declared.entry.Entry.{Entry}
use Rattle.fc_entry.specs.declared.stop.Stop.{Stop}
use Rattle.fc_entry.specs.declared.stop.Stop.TheVariants.{LogFull, NoMemory}
use Rattle.fc_legal.specs.Added.{Adds, IsOf, IsTold, Reached}
use Rattle.fc_legal.specs.Agenda.{Agenda, is_done}
use Rattle.fc_legal.specs.Seconds.{has_moved}
use Rattle.fc_legal.specs.Steps.{Step}
use Rattle.fc_legal.specs.Whole.{Whole}

-- ---- one entry

-- It was logged: by `main`, to this request, right, with a reply of which this holds; and the store stands for what it leaves.
pub record IsLogged (Says : Reply → Type 0) (Stands : Whole → Type 0) (grain : GrainSize) (w : Whole) (request : Request) (old new : HistoryState) : Type 0 where
  pub entry : Entry
  pub next : Whole
  pub by_main : entry.actor ≡ 0
  pub asked : entry.request ≡ request
  pub right : Step grain w entry next
  pub says : Says entry.reply
  pub pushed : new ≡ record old { entries = old.entries ++ entry ∷ [] }
  pub told : IsTold Stands new next

-- The history is full, and stays.
pub record IsFull (Stands : Whole → Type 0) (w : Whole) (old new : HistoryState) : Type 0 where
  pub same : new ≡ old
  pub full : length new.entries ≡ 262144
  pub told : IsTold Stands new w

-- It was logged; or the history is full; or it stays for want of memory.
abbrev pub Logged : {A : Type 0} → Result A Stop → (A → Reply → Type 0) → (Whole → Type 0) → GrainSize → Whole → Request → HistoryState → HistoryState → Type 0
Logged (Ok a) Says Stands grain w request old new = IsLogged (Says a) Stands grain w request old new
Logged (Err LogFull) Says Stands grain w request old new = IsFull Stands w old new
Logged (Err NoMemory) Says Stands grain w request old new = new ≡ old

-- What a call says of the entry's reply: nothing; whether it is done; whether a grain was copied or cleaned.
abbrev pub anything : Unit {0} → Reply → Type 0
anything none reply = Unit {0}

abbrev pub whether_done : Bool → Reply → Type 0
whether_done done reply = done ≡ is_done reply

abbrev pub whether_moved : Bool → Reply → Type 0
whether_moved moved reply = moved ≡ has_moved reply

-- ---- agendas

-- Entries bring one agenda to another; or its first ones, up to 262,144 entries; or its first ones, for want of memory. But for
-- want of memory the store goes on to stand for what is told.
abbrev pub Brought : {A : Type 0} → Result A Stop → (Whole → Type 0) → Rules Whole Agenda → Agenda → Agenda → Whole → HistoryState → HistoryState → Type 0
Brought (Ok _) Stands rules a b w old new =
    Reached Stands new (λ last. Adds old new (λ more. Goes rules a w more b last))
Brought (Err LogFull) Stands rules a b w old new =
    (length new.entries ≡ 262144) × Reached Stands new (λ last. Adds old new (λ more. GoesAsking rules a w more last))
Brought (Err NoMemory) Stands rules a b w old new =
    (last : Whole) × IsOf last new × Adds old new (λ more. GoesSome rules a w more last)
