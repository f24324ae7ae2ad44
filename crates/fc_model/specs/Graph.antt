-- Loops of the restore graph.
use Rattle.std.specs.Prelude.{◌≡◌, ℕ, ◌<◌, Bool, true, false, Option, Some, None, List, length, Contains, slice_index}
use Rattle.fc_base.specs.Column.{Shape}
use Rattle.fc_base.specs.RestoreGraph.{Edge, Way, HasNoLoop}
use Rattle.fc_base.specs.Sheet.{Slot, slot_at}

-- A live slot of the volume stands after a place in its chain.
pub record LiveOfBehind (slots : List Slot) (k v : ℕ) : Type 0 where
  pub live : ℕ
  pub behind : k < live
  pub there : live < length slots
  pub is_live : (slot_at slots live).is_live ≡ true
  pub one_chain : (slot_at slots k).chain ≡ (slot_at slots live).chain
  pub of_volume : (slot_at slots live).volume ≡ v

-- An edge runs from a volume to one of these.
abbrev pub LeadsInto : Shape → ℕ → List ℕ → Type 0
LeadsInto s v volumes = (w : ℕ) × Contains volumes w × Edge s v w

-- The place of one of these volumes from which no edge runs to one of them; or each leads to one of them.
pub record IsSink (s : Shape) (volumes : List ℕ) (k : ℕ) : Type 0 where
  pub there : k < length volumes
  pub ends : LeadsInto s (slice_index volumes k) volumes → ⊥

abbrev pub HasSink : Shape → List ℕ → Option ℕ → Type 0
HasSink s volumes None = (v : ℕ) → Contains volumes v → LeadsInto s v volumes
HasSink s volumes (Some k) = IsSink s volumes k

-- A volume was listed: it is in the new list, and so is all that was in the old one.
pub record Lists (old new : List ℕ) (v : ℕ) : Type 0 where
  pub listed : Contains new v
  pub kept : (w : ℕ) → Contains old w → Contains new w

-- A loop was found, or there is none.
abbrev pub LoopFound : Shape → Bool → Type 0
LoopFound s true = (v : ℕ) × Way s v v
LoopFound s false = HasNoLoop s
