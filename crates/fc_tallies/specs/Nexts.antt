-- The next grain of a slot.
use Rattle.std.specs.Prelude.{◌≡◌, ℕ, ◌<◌, Bool, true, false, not, ◌&&◌, Option, Some, None, List, length, slice_index_or}
use Rattle.fc_base.specs.Counts.{LiveBehind}
use Rattle.fc_base.specs.Sheet.{Slot, slot_at}

-- The slot is live and lacks the grain. An old slot lacks none: it gets no more grains.
abbrev pub lacks : Slot → ℕ → Bool
lacks t g = t.is_live && not (slice_index_or t.held g false)

-- A slot behind a place in its chain, with no live slot between.
pub record IsNextLive (slots : List Slot) (k reader : ℕ) : Type 0 where
  pub behind : k < reader
  pub there : reader < length slots
  pub one_chain : (slot_at slots reader).chain ≡ (slot_at slots k).chain
  pub none_between : (j : ℕ) → k < j → j < reader → (slot_at slots j).is_live ≡ true → (slot_at slots j).chain ≡ (slot_at slots k).chain → ⊥

abbrev pub NextLive : List Slot → ℕ → Option ℕ → Type 0
NextLive slots k None = LiveBehind slots k → ⊥
NextLive slots k (Some reader) = IsNextLive slots k reader
