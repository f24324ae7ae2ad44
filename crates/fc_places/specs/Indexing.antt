-- Where slots stand: lists of places in the order of births, of mappings or of volumes.
use Rattle.std.specs.Prelude.{◌≡◌, ◌≢◌, ◌⊎◌, ℕ, ◌-◌, ◌<◌, ◌≤◌, Bool, true, false, ◌&&◌, ◌||◌, cond, eqb, ltb, Option, Some, None, is_some, List, length, slice_index_or}
use Rattle.std.specs.List.{sum_by}
use Rattle.fc_base.specs.Sheet.{Slot, slot_at}
use Rattle.fc_places.specs.declared.index.By.{By}
use Rattle.fc_places.specs.declared.index.By.TheVariants.{Birth, Mapping, Volume}
use Rattle.fc_places.specs.declared.index.Entry.{Entry}

-- The number by which a slot is listed; a slot that is no mapping's isn't listed by mapping.
abbrev pub key_at : By → Slot → Option ℕ
key_at Birth t = Some t.birth
key_at Mapping t = t.mapping
key_at Volume t = Some t.volume

abbrev pub no_entry : Entry
no_entry = record { key = 0; birth = 0; place = 0 }

abbrev pub entry_at : List Entry → ℕ → Entry
entry_at entries i = slice_index_or entries i no_entry

-- The entry is that of a slot.
pub record IsEntryOf (slots : List Slot) (by : By) (e : Entry) : Type 0 where
  pub there : e.place < length slots
  pub key : key_at by (slot_at slots e.place) ≡ Some e.key
  pub birth : e.birth ≡ (slot_at slots e.place).birth

-- The entry of a slot that has a key is among them.
abbrev pub IsListed : List Entry → ℕ → Type 0
IsListed entries k = (i : ℕ) × (i < length entries) × ((entry_at entries i).place ≡ k)

-- How often a place is among them.
abbrev pub listings : ℕ → List Entry → ℕ
listings k entries = sum_by (λ (e : Entry). cond {A = ℕ} (eqb e.place k) 1 0) entries

-- Keys rise along the list, and with one key the births.
abbrev pub AreRising : List Entry → Type 0
AreRising entries =
    (i j : ℕ) → i ≤ j → j < length entries → ((entry_at entries i).key < (entry_at entries j).key) ⊎ (((entry_at entries i).key ≡ (entry_at entries j).key) × ((entry_at entries i).birth ≤ (entry_at entries j).birth))

-- All slots that have a key are listed, each once, and nothing else, in the order of the keys.
pub record IsIndexOf (slots : List Slot) (by : By) (entries : List Entry) : Type 0 where
  pub only : (i : ℕ) → i < length entries → IsEntryOf slots by (entry_at entries i)
  pub each : (k x : ℕ) → k < length slots → key_at by (slot_at slots k) ≡ Some x → IsListed entries k
  pub once : (k : ℕ) → listings k entries ≤ 1
  pub rising : AreRising entries

-- Those of the slots below a place are listed, each once, in any order.
pub record ListsBelow (slots : List Slot) (by : By) (bound : ℕ) (entries : List Entry) : Type 0 where
  pub short : length entries ≤ bound
  pub only : (i : ℕ) → i < length entries → IsEntryOf slots by (entry_at entries i)
  pub each : (k x : ℕ) → k < bound → key_at by (slot_at slots k) ≡ Some x → IsListed entries k
  pub below : (i : ℕ) → i < length entries → (entry_at entries i).place < bound
  pub once : (k : ℕ) → listings k entries ≤ 1

-- The slots of a volume are listed, each once, and no others.
pub record ListsVolume (slots : List Slot) (v : ℕ) (entries : List Entry) : Type 0 where
  pub there : (i : ℕ) → i < length entries → (entry_at entries i).place < length slots
  pub only : (i : ℕ) → i < length entries → (slot_at slots (entry_at entries i).place).volume ≡ v
  pub each : (k : ℕ) → k < length slots → (slot_at slots k).volume ≡ v → IsListed entries k
  pub once : (i j : ℕ) → i < j → j < length entries → (entry_at entries i).place ≢ (entry_at entries j).place

-- The entry stands before all with this key that are born at a number or later.
abbrev pub is_before : ℕ → ℕ → Entry → Bool
is_before key birth e = ltb e.key key || (eqb e.key key && ltb e.birth birth)

-- The place in the list from which on none stands before them.
pub record IsFirstFrom (entries : List Entry) (key birth from : ℕ) : Type 0 where
  pub within : from ≤ length entries
  pub before : (i : ℕ) → i < from → is_before key birth (entry_at entries i) ≡ true
  pub rest : (i : ℕ) → from ≤ i → i < length entries → is_before key birth (entry_at entries i) ≡ false

-- The slot at a place has a key.
abbrev pub has_key : List Slot → By → ℕ → Bool
has_key slots by k = is_some (key_at by (slot_at slots k))

-- The entry at a place of the list is that of its slot, and stands behind the entry before it.
pub record FitsAt (slots : List Slot) (by : By) (entries : List Entry) (i : ℕ) : Type 0 where
  pub own : IsEntryOf slots by (entry_at entries i)
  pub after : 0 < i → is_before (entry_at entries i).key (entry_at entries i).birth (entry_at entries (i - 1)) ≡ true

-- The list, with room for as many entries without taking memory.
pub record Index : Type 0 where
  pub by : By
  pub entries : List Entry
  pub room : ℕ

-- The place of an entry with this key, and none exactly where there is no such entry.
abbrev pub FoundKey : List Entry → ℕ → Option ℕ → Type 0
FoundKey entries key None = (i : ℕ) → i < length entries → (entry_at entries i).key ≢ key
FoundKey entries key (Some k) = (i : ℕ) × (i < length entries) × ((entry_at entries i).key ≡ key) × ((entry_at entries i).place ≡ k)
