-- One step of a merge: an entry is taken from the list that it is first in.
use Rattle.std.specs.Prelude.{◌≡◌, ℕ, suc, ◌==◌, Bool, false, List, [], ◌∷◌}
use Rattle.fc_entry.specs.declared.entry.Entry.{Entry}
use Rattle.fc_merge.specs.Merging.{Own, all_of}

-- The first of the entries has this number.
abbrev pub is_next : ℕ → List Entry → Bool
is_next number [] = false
is_next number (entry ∷ entries) = entry.number == number

-- The entry with this number is the first of one list, which goes on without it; the others stay.
pub data Takes (number : ℕ) : List Own → Entry → List Own → Type 0 where
  here : {own : Own} {entry : Entry} {rest : List Entry} {lists : List Own} →
      own.entries ≡ entry ∷ rest → entry.number ≡ number →
      Takes number (own ∷ lists) entry (record own { entries = rest } ∷ lists)
  there : {own : Own} {entry : Entry} {lists next : List Own} →
      Takes number lists entry next → Takes number (own ∷ lists) entry (own ∷ next)

-- The entries of the lists, taken one by one from this number on.
pub data Merges : ℕ → List Own → List Entry → Type 0 where
  ends : {number : ℕ} {lists : List Own} → all_of lists ≡ [] → Merges number lists []
  takes : {number : ℕ} {lists next : List Own} {entry : Entry} {entries : List Entry} →
      Takes number lists entry next → Merges (suc number) next entries → Merges number lists (entry ∷ entries)
