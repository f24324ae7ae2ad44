-- Which events fit a sheet: what the decisions of the control part keep to.
use Rattle.std.specs.Prelude.{◌≡◌, ◌≢◌, ◌⊎◌, ℕ, ◌<◌, ◌^◌, true, false, Some, None, List, [], ◌∷◌, length, IsSome, Contains, slice_index_or}
use Rattle.fc_base.specs.declared.ids.MapId.{MapId}
use Rattle.fc_base.specs.declared.request.Pair.{Pair}
use Rattle.fc_base.specs.declared.decision.LaneEvent.{LaneEvent}
use Rattle.fc_base.specs.declared.decision.LaneEvent.TheVariants.{Make, Remove, Trigger, Retire, Detach, Split, Force, Drop, Forget, NoteCut, Access, Work, Arm}
use Rattle.fc_base.specs.Column.{holder}
use Rattle.fc_base.specs.Sheet.{Slot, Sheet, slot_at, shape_of, column, live_place, mapping_place, birth_place}
use Rattle.fc_base.specs.SheetStep.{sheet_step, triggered}
use Rattle.fc_base.specs.Need.{IsNeeded, is_complete}
use Rattle.fc_base.specs.RestoreGraph.{HasNoLoop}

-- A volume's slot stands alone: it is the volume's one slot, and its chain's.
pub record FitsRemove (slots : List Slot) (v : ℕ) : Type 0 where
  pub place : ℕ
  pub is_there : live_place slots v ≡ Some place
  pub alone : (j : ℕ) → j < length slots → ((slot_at slots j).volume ≡ v) ⊎ ((slot_at slots j).chain ≡ (slot_at slots place).chain) → j ≡ place

-- A pair of a trigger: source and target are there and as large, the target's live slot holds every grain, and the mapping
-- has no slot.
pub record FitsPair (slots : List Slot) (p : Pair) : Type 0 where
  pub source : ℕ
  pub target : ℕ
  pub source_there : live_place slots p.source.0 ≡ Some source
  pub target_there : live_place slots p.target.0 ≡ Some target
  pub as_large : length (slot_at slots source).held ≡ length (slot_at slots target).held
  pub complete : is_complete (slot_at slots target) ≡ true
  pub no_slot_yet : mapping_place slots p.map.0 ≡ None

-- All pairs: mappings differ, targets differ, no target is a source, and no loop stands after them.
pub record FitsTrigger (s : Sheet) (pairs : List Pair) : Type 0 where
  pub each : (p : Pair) → Contains pairs p → FitsPair s.slots p
  pub maps : (i j : ℕ) (d : Pair) → i < length pairs → j < length pairs → ((slice_index_or pairs i d).map.0 ≡ (slice_index_or pairs j d).map.0) → i ≡ j
  pub targets : (i j : ℕ) (d : Pair) → i < length pairs → j < length pairs → ((slice_index_or pairs i d).target.0 ≡ (slice_index_or pairs j d).target.0) → i ≡ j
  pub apart : (p q : Pair) → Contains pairs p → Contains pairs q → p.target.0 ≢ q.source.0
  pub no_loop : HasNoLoop (shape_of (triggered pairs s).slots)

-- The mapping's slot, at a place, and live.
pub record HasLiveSlot (slots : List Slot) (m k : ℕ) : Type 0 where
  pub is_there : mapping_place slots m ≡ Some k
  pub is_live : (slot_at slots k).is_live ≡ true

-- The slot of the mapping or of one of the others.
abbrev pub IsSlotOf : List Slot → MapId → List MapId → ℕ → Type 0
IsSlotOf slots m others k = (n : MapId) × ((n ≡ m) ⊎ Contains others n) × (mapping_place slots n.0 ≡ Some k)

-- Each of the mappings has its slot, and no live slot besides has one of them as holder.
pub record FitsForce (slots : List Slot) (m : MapId) (dependents : List MapId) : Type 0 where
  pub each : (n : MapId) → (n ≡ m) ⊎ Contains dependents n → IsSome (mapping_place slots n.0)
  pub closed : (g d h : ℕ) → d < length slots → (slot_at slots d).is_live ≡ true → holder (column slots g) d ≡ Some h → IsSlotOf slots m dependents h → IsSlotOf slots m dependents d

-- An old slot that nobody needs.
pub record FitsDrop (slots : List Slot) (birth : ℕ) : Type 0 where
  pub place : ℕ
  pub is_there : birth_place slots birth ≡ Some place
  pub is_old : (slot_at slots place).is_live ≡ false
  pub unneeded : IsNeeded slots place → ⊥

abbrev pub FitsEvent : Sheet → LaneEvent → Type 0
FitsEvent s (Make volume grains kind) = (k : ℕ) → k < length s.slots → (slot_at s.slots k).volume ≢ volume.0
FitsEvent s (Remove volume) = FitsRemove s.slots volume.0
FitsEvent s (Trigger pairs) = FitsTrigger s pairs
FitsEvent s (Retire m) = (k : ℕ) × HasLiveSlot s.slots m.0 k
FitsEvent s (Detach m) = (k : ℕ) × HasLiveSlot s.slots m.0 k × (IsNeeded s.slots k → ⊥)
FitsEvent s (Split m) = (k : ℕ) × HasLiveSlot s.slots m.0 k × (is_complete (slot_at s.slots k) ≡ true)
FitsEvent s (Force m dependents) = FitsForce s.slots m dependents
FitsEvent s (Drop slot) = FitsDrop s.slots slot.0
FitsEvent s (Forget m) = mapping_place s.slots m.0 ≡ None
FitsEvent s (NoteCut m source target) = Unit {0}
FitsEvent s (Access volume access) = Unit {0}
FitsEvent s (Work m copies cleans) = Unit {0}
FitsEvent s (Arm volume grain calls) = Unit {0}

-- Events fit one after the other, and the births after them are below 2^64.
abbrev pub FitsEvents : (ℕ → ℕ) → Sheet → List LaneEvent → Type 0
FitsEvents local s [] = s.births < 2 ^ 64
FitsEvents local s (e ∷ es) = FitsEvent s e × FitsEvents local (sheet_step local s e) es

-- Which moves and writes fit. No older slot of the volume is the holder, at the grain, of a live slot other than the
-- volume's own.
abbrev pub FitsTaken : List Slot → ℕ → ℕ → Type 0
FitsTaken slots v g =
    (k h : ℕ) → k < length slots → (slot_at slots k).is_live ≡ true → holder (column slots g) k ≡ Some h → (slot_at slots h).is_live ≡ false → (slot_at slots h).volume ≡ v → (slot_at slots k).volume ≡ v

-- Nor of the volume's own.
abbrev pub FitsLost : List Slot → ℕ → ℕ → Type 0
FitsLost slots v g =
    (k h : ℕ) → k < length slots → (slot_at slots k).is_live ≡ true → holder (column slots g) k ≡ Some h → (slot_at slots h).is_live ≡ false → (slot_at slots h).volume ≢ v
