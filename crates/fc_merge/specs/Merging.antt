-- The entries of several actors, and one list of them all by number.
use Rattle.std.specs.Prelude.{◌≡◌, ◌≢◌, ℕ, ◌+◌, ◌<◌, ◌≤◌, ◌==◌, List, map, filter, flat_map, All, AllPairs, Contains, count_by}
use Rattle.std.specs.List.{range_with_len}
use Rattle.fc_entry.specs.declared.entry.Entry.{Entry}

-- What one actor was answered, in order.
pub record Own : Type 0 where
  pub actor : ℕ
  pub entries : List Entry

-- Each entry is its actor's, their numbers rise, and no two lists are of one actor.
abbrev pub IsOwn : Own → Type 0
IsOwn own = All (λ (e : Entry). e.actor ≡ own.actor) own.entries × AllPairs (λ (a b : Entry). a.number < b.number) own.entries

abbrev pub AreOwn : List Own → Type 0
AreOwn lists = All IsOwn lists × AllPairs (λ (a b : Own). a.actor ≢ b.actor) lists

-- All entries of the lists.
abbrev pub all_of : List Own → List Entry
all_of lists = flat_map (λ (own : Own). own.entries) lists

-- Each number from the first on, `count` of them, is that of one entry, and no other number is that of any.
pub record AreNumbered (first count : ℕ) (lists : List Own) : Type 0 where
  pub once : (n : ℕ) → first ≤ n → n < first + count → count_by (λ (e : Entry). e.number == n) (all_of lists) ≡ 1
  pub none : (e : Entry) → Contains (all_of lists) e → (first ≤ e.number) × (e.number < first + count)

-- The entries of an actor.
abbrev pub of_actor : ℕ → List Entry → List Entry
of_actor actor entries = filter (λ (e : Entry). e.actor == actor) entries

-- One list of them all by number: of each actor its own in their order, and nobody else's.
pub record IsMerged (first count : ℕ) (lists : List Own) (merged : List Entry) : Type 0 where
  pub numbers : map (λ (e : Entry). e.number) merged ≡ range_with_len first count
  pub each : All (λ (own : Own). of_actor own.actor merged ≡ own.entries) lists
  pub of_lists : All (λ (e : Entry). Contains (all_of lists) e) merged
