-- What a walk along a chain finds.
use Rattle.std.specs.Prelude.{◌≡◌, ◌≢◌, ℕ, ◌<◌, ◌≤◌, true, false, Option, Some, None, List, length}
use Rattle.std.specs.List.{slice_index_or}
use Rattle.fc_base.specs.Sheet.{Slot, slot_at}

-- A live slot behind `from` in its chain, with no slot between them that holds the grain, and that doesn't hold it itself.
pub record WaitsBehind (slots : List Slot) (g from k : ℕ) : Type 0 where
  pub behind : from < k
  pub is_live : (slot_at slots k).is_live ≡ true
  pub one_chain : (slot_at slots k).chain ≡ (slot_at slots from).chain
  pub none_holds : (j : ℕ) → from < j → j ≤ k → (slot_at slots j).chain ≡ (slot_at slots from).chain → slice_index_or (slot_at slots j).held g false ≡ true → ⊥

-- The first such slot other than `but`.
pub record IsFirstWaiting (slots : List Slot) (g from but k : ℕ) : Type 0 where
  pub there : k < length slots
  pub other : k ≢ but
  pub waits : WaitsBehind slots g from k
  pub first : (j : ℕ) → j < k → j ≢ but → WaitsBehind slots g from j → ⊥

abbrev pub FirstWaiting : List Slot → ℕ → ℕ → ℕ → Option ℕ → Type 0
FirstWaiting slots g from but None = (k : ℕ) → k < length slots → k ≢ but → WaitsBehind slots g from k → ⊥
FirstWaiting slots g from but (Some k) = IsFirstWaiting slots g from but k
