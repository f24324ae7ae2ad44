-- How a plan is made: words for its parts.
use Rattle.std.specs.Prelude.{◌≡◌, ℕ, ◌<◌, ◌≤◌, true, false, ◌&&◌, Option, Some, None, List, [], ◌∷◌, length, map, reverse, count_by, slice_index_or, IsSome, ◌/◌, ◌%◌}
use Rattle.fc_base.specs.declared.request.Move.{Move}
use Rattle.fc_base.specs.Column.{is_old_of, places_by_birth}
use Rattle.fc_base.specs.Sheet.{Slot, slot_at, shape_of, column, birth_place, live_place}
use Rattle.fc_base.specs.Moves.{is_in, list_with_asked}
use Rattle.fc_base.specs.RestoreGraph.{HasOneLive, HasNoLoop}
use Rattle.fc_base.specs.Plan.{move_at, moves_of_fill, moves_of_write}
use Rattle.fc_base.specs.declared.request.Planned.{Planned}
use Rattle.fc_base.specs.declared.request.Planned.TheVariants.{Fill, Write}
use Rattle.fc_slots.specs.Contiguous.{IsContiguous}
use Rattle.fc_places.specs.Olds.{HasApartBirths}
pub use Rattle.fc_places.specs.Directory.{volume_count}

-- The moves are those of these places, the latest first in the list.
pub record IsPlanned (slots : List Slot) (g number : ℕ) (moves : List Move) (listed : List ℕ) : Type 0 where
  pub moves_are : moves ≡ map (move_at slots g number) (reverse listed)
  pub there : (k : ℕ) → is_in k listed ≡ true → k < length slots

-- A plan with room for what a slot and all that it asks for add to it.
pub record HasRoom (slots : List Slot) (g number : ℕ) (moves : List Move) (room depth m : ℕ) : Type 0 where
  pub listed : List ℕ
  pub planned : IsPlanned slots g number moves listed
  pub fits : length (list_with_asked (column slots g) depth m listed) ≤ room

-- The moves that are planned.
abbrev pub moves_of_named : List Slot → ℕ → ℕ → Option ℕ → List Move
moves_of_named slots g number None = []
moves_of_named slots g number (Some k) = moves_of_fill slots g number k

abbrev pub planned_moves : List Slot → ℕ → Planned → List Move
planned_moves slots lanes (Fill name grain) = moves_of_named slots (grain.0 / lanes) grain.0 (birth_place slots name.0)
planned_moves slots lanes (Write volume grain) = moves_of_write slots (grain.0 / lanes) grain.0 (live_place slots volume.0)

-- A plan is for a grain of the lane: a fill for a live slot that lacks it, a write for a volume that is there.
pub record CanFill (slots : List Slot) (g birth : ℕ) : Type 0 where
  pub place : ℕ
  pub there : birth_place slots birth ≡ Some place
  pub is_live : (slot_at slots place).is_live ≡ true
  pub lacks : slice_index_or (slot_at slots place).held g false ≡ false

abbrev pub CanPlan : List Slot → ℕ → ℕ → Planned → Type 0
CanPlan slots lane lanes (Fill name grain) = (grain.0 % lanes ≡ lane) × CanFill slots (grain.0 / lanes) name.0
CanPlan slots lane lanes (Write volume grain) = (grain.0 % lanes ≡ lane) × IsSome (live_place slots volume.0)

-- What a plan rests on: births name slots, chains stand together, each volume has one live slot, and the restore graph has
-- no loop.
pub record Plannable (slots : List Slot) : Type 0 where
  pub together : IsContiguous slots
  pub apart : HasApartBirths slots
  pub one_live : HasOneLive (shape_of slots)
  pub no_loop : HasNoLoop (shape_of slots)

pub record FillFits (slots : List Slot) (g place : ℕ) : Type 0 where
  pub sheet : Plannable slots
  pub there : place < length slots
  pub is_live : (slot_at slots place).is_live ≡ true
  pub lacks : slice_index_or (slot_at slots place).held g false ≡ false

pub record WriteFits (slots : List Slot) (place : ℕ) : Type 0 where
  pub sheet : Plannable slots
  pub there : place < length slots
  pub is_live : (slot_at slots place).is_live ≡ true
