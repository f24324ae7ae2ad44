-- What actors were answered, told: why they stopped, and their entries at the history's end.
use Rattle.std.specs.Prelude.{◌≡◌, Bool, true, false, cond, List, ◌++◌, map, Option, Some, None, Result, Ok, Err}
use Rattle.std.specs.List.{list_any}
use Rattle.fc_entry.specs.HistoryState.{HistoryState}
use Rattle.fc_entry.specs.declared.entry.Entry.{Entry}
use Rattle.fc_entry.specs.declared.stop.Stop.{Stop}
use Rattle.fc_entry.specs.declared.stop.Stop.TheVariants.{LogFull, NoMemory}
use Rattle.fc_tasks.specs.declared.actor.Answered.{Answered}
use Rattle.fc_actors.specs.declared.script.ActorScript.{ActorScript}
use Rattle.law_running.specs.Law.{MergesTo, with_entries}
use Rattle.law_together.specs.Making.{Making}

-- ---- why actors stopped

-- It stopped for this reason.
abbrev pub stops_for : Stop → Option Stop → Bool
stops_for LogFull (Some LogFull) = true
stops_for NoMemory (Some NoMemory) = true
stops_for stop other = false

-- One of them did.
abbrev pub one_stops : {E S : Type 0} → Stop → List (Answered E S) → Bool
one_stops {E} {S} stop answers = list_any (λ (a : Answered E S). stops_for stop a.stop) answers

-- Before the ends of their scripts they stopped for want of memory, if one did; else at the limit, if one did.
abbrev pub why_stopped : {E S : Type 0} → List (Answered E S) → Option Stop
why_stopped answers = cond (one_stops NoMemory answers) (Some NoMemory) (cond (one_stops LogFull answers) (Some LogFull) None)

-- ---- what they made

-- By its answer, what an actor made.
abbrev pub making_of : {D : Type 0} → Answered Entry (ActorScript D) → Making
making_of a = record { actor = a.left.actor; made = a.made.items }

abbrev pub makings_of : {D : Type 0} → List (Answered Entry (ActorScript D)) → List Making
makings_of answers = map making_of answers

-- All of it stands at the history's end, by number.
pub record AllTold (makings : List Making) (old new : HistoryState) : Type 0 where
  pub merged : List Entry
  pub merges : MergesTo old makings merged
  pub new_is : new ≡ with_entries old merged

-- The first of it does.
pub record FirstTold (makings : List Making) (old new : HistoryState) : Type 0 where
  pub merged : List Entry
  pub merges : MergesTo old makings merged
  pub front : List Entry
  pub rest : List Entry
  pub split : merged ≡ front ++ rest
  pub new_is : new ≡ with_entries old front

-- All is told, and this is why they stopped; or the first of it is, where memory was wanted.
abbrev pub AnswersTold : {A D : Type 0} → Result A Stop → List (Answered Entry (ActorScript D)) → HistoryState → HistoryState → Type 0
AnswersTold (Ok _) answers old new = (why_stopped answers ≡ None) × AllTold (makings_of answers) old new
AnswersTold (Err LogFull) answers old new = (why_stopped answers ≡ Some LogFull) × AllTold (makings_of answers) old new
AnswersTold (Err NoMemory) answers old new = FirstTold (makings_of answers) old new
