-- Who still needs a slot, and who depends on it.
use Rattle.std.specs.Prelude.{◌≡◌, ◌≢◌, ℕ, ◌<◌, Bool, true, Some, List, length}
use Rattle.std.specs.List.{list_all}
use Rattle.fc_base.specs.Column.{holder, needer}
use Rattle.fc_base.specs.Sheet.{Slot, slot_at, column}

-- A slot is needed where some live slot other than it has it as holder at some grain.
abbrev pub IsNeeded : List Slot → ℕ → Type 0
IsNeeded slots k = (g a : ℕ) × (needer (column slots g) k ≡ Some a)

-- A slot is complete where it holds every grain.
abbrev pub is_complete : Slot → Bool
is_complete s = list_all (λ b. b) s.held

-- A live slot other than `k` that has `h` as holder at some grain.
pub record ReadsAt (slots : List Slot) (k h d : ℕ) : Type 0 where
  pub grain : ℕ
  pub there : d < length slots
  pub is_live : (slot_at slots d).is_live ≡ true
  pub other : d ≢ k
  pub reads : holder (column slots grain) d ≡ Some h

-- The dependents of a slot: the least set of live slots other than it that has each live slot with a holder, at some grain,
-- in the slot or in the set.
pub data IsDependent (slots : List Slot) (k : ℕ) : ℕ → Type 0 where
  direct : {d : ℕ} → ReadsAt slots k k d → IsDependent slots k d
  onward : {e d : ℕ} → IsDependent slots k e → ReadsAt slots k e d → IsDependent slots k d
