-- Each entry is read back from its text, and what is read next is one.
use Rattle.std.specs.Prelude.{◌≡◌, ℕ, ◌≤◌, List, [], ◌∷◌, ◌++◌, length}
use Rattle.fc_base.specs.declared.size.GrainSize.{GrainSize}
use Rattle.fc_entry.specs.HistoryState.{HistoryState, number_of_actor, with_actor}
use Rattle.fc_entry.specs.declared.entry.Entry.{Entry}
use Rattle.fc_reading.specs.Stops.{StopsAt}
use Rattle.fc_trace.specs.Trace.{traced_by}
use Rattle.fc_words.specs.Canonical.{IsName}
use Rattle.fc_reading_entries.specs.Entries.{IsEntry, IsEntryText, ReadNext}

-- the history with this entry behind the others, of the actor with this name
abbrev pub with_next : List ℕ → Entry → HistoryState → HistoryState
with_next name entry old = record {
  actors = with_actor old.actors name;
  entries = old.entries ++ record entry { actor = number_of_actor old.actors name } ∷ [];
}

pub record ReadEntriesLaw : Type 0 where
  -- from the text of an entry of the next number just that entry is read, whatever stands behind it
  pub read_back : (size : GrainSize) (old : HistoryState) (name : List ℕ) (entry : Entry) (rest : List ℕ) → IsName name → IsEntry size (length old.entries) entry →
      ReadNext size old (traced_by name entry ++ rest) (length (traced_by name entry)) (with_next name entry old)
  -- there it never stops
  pub never_stops : (size : GrainSize) (number : ℕ) (text rest : List ℕ) (place : ℕ) → IsEntryText size number text → StopsAt (IsEntryText size number) (text ++ rest) place → ⊥
  -- what is read next, and its length, are one
  pub one_reading : (size : GrainSize) (old : HistoryState) (bytes : List ℕ) (count other : ℕ) (new next : HistoryState) → count ≤ length bytes → other ≤ length bytes →
      ReadNext size old bytes count new → ReadNext size old bytes other next → (count ≡ other) × (new ≡ next)
