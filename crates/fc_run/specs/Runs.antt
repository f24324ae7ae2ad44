-- Who answers the lines of a session, as the loop over lines knows it: by three predicates on the lines so far and the
-- history, and by which lines end inside something that they opened.
use Rattle.std.specs.Prelude.{◌≡◌, ℕ, Bool, List, ◌++◌, length, Result, Ok, Err}
use Rattle.fc_entry.specs.declared.entry.Entry.{Entry}
use Rattle.fc_entry.specs.declared.stop.Stop.{Stop}
use Rattle.fc_entry.specs.declared.stop.Stop.TheVariants.{LogFull, NoMemory}
use Rattle.fc_entry.specs.HistoryState.{HistoryState}

pub record Runs : Type 1 where
  -- the history answers every one of these lines, and can go on
  pub Whole : List (List ℕ) → HistoryState → Type 0
  -- 262,144 entries answer these lines, and the last line asks for one more
  pub Full : List (List ℕ) → HistoryState → Type 0
  -- the history has the first entries of these lines, for want of memory
  pub Front : List (List ℕ) → HistoryState → Type 0
  -- these lines have opened something that none of them ends
  pub is_open : List (List ℕ) → Bool

-- what the answer to the last of these lines leaves
abbrev pub LineLeaves : {A : Type 0} → Result A Stop → Runs → List (List ℕ) → HistoryState → Type 0
LineLeaves (Ok _) runs lines history = runs.Whole lines history
LineLeaves (Err LogFull) runs lines history = runs.Full lines history × (length history.entries ≡ 262144)
LineLeaves (Err NoMemory) runs lines history = runs.Front lines history

-- the history only grew: the names and entries that it had are the first ones that it has
pub record GrowsTo (old new : HistoryState) : Type 0 where
  pub names : List (List ℕ)
  pub entries : List Entry
  pub actors_are : new.actors ≡ old.actors ++ names
  pub entries_are : new.entries ≡ old.entries ++ entries
