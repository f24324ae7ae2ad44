-- How many grains a slot holds, and how many others need of it.
use Rattle.std.specs.Prelude.{◌≡◌, ℕ, zero, suc, ◌+◌, ◌<◌, Bool, true, false, cond, not, ◌&&◌, ◌||◌, eqb, is_some, List, [], ◌∷◌, ◌++◌, length}
use Rattle.fc_base.specs.declared.ids.SlotId.{SlotId}
use Rattle.fc_base.specs.Column.{needer, holder, is_at}
use Rattle.fc_base.specs.Sheet.{Slot, slot_at, slot_id, column}

-- How many numbers below a bound pass a test.
abbrev pub count_below : (ℕ → Bool) → ℕ → ℕ
count_below test zero = 0
count_below test (suc n) = cond (test n) (count_below test n + 1) (count_below test n)

-- Whether the slot at a place has a needer at a grain.
abbrev pub is_needed_at : List Slot → ℕ → ℕ → Bool
is_needed_at slots k g = is_some (needer (column slots g) k)

-- At how many grains the slot at a place has a needer.
abbrev pub need_count_of : List Slot → ℕ → ℕ
need_count_of slots k = count_below (is_needed_at slots k) (length (slot_at slots k).held)

-- Some live slot stands behind a place in its chain.
abbrev pub LiveBehind : List Slot → ℕ → Type 0
LiveBehind slots k =
    (j : ℕ) × (j < length slots) × (k < j) × ((slot_at slots j).is_live ≡ true) × ((slot_at slots j).chain ≡ (slot_at slots k).chain)

-- A volume is used as a source: some slot of it has a live slot behind it.
abbrev pub UsedAt : List Slot → ℕ → Type 0
UsedAt slots v = (k : ℕ) × (k < length slots) × ((slot_at slots k).volume ≡ v) × LiveBehind slots k

-- Whether some number below a bound passes a test.
abbrev pub any_below : (ℕ → Bool) → ℕ → Bool
any_below test zero = false
any_below test (suc n) = any_below test n || test n

-- Whether the slot at `k` has the slot at `h` as holder at some grain.
abbrev pub reads_some : List Slot → ℕ → ℕ → Bool
reads_some slots h k = any_below (λ g. is_at (holder (column slots g) k) h) (length (slot_at slots k).held)

-- The names of the slots below a bound that pass a test, in order of their places.
abbrev pub names_below : List Slot → (ℕ → Bool) → ℕ → List SlotId
names_below slots test zero = []
names_below slots test (suc n) = cond (test n) (names_below slots test n ++ slot_id slots n ∷ []) (names_below slots test n)

-- The live slots other than `k` that have it as holder at some grain.
abbrev pub is_direct : List Slot → ℕ → ℕ → Bool
is_direct slots k j = ((slot_at slots j).is_live && not (eqb j k)) && reads_some slots k j

-- The old slots without a needer.
abbrev pub is_unneeded : List Slot → ℕ → Bool
is_unneeded slots k = not (slot_at slots k).is_live && eqb (need_count_of slots k) 0
