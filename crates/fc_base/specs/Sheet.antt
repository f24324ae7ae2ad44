-- Chains of copies: the slots of all chains, and the pairs of slot and grain that are held.
use Rattle.std.specs.Prelude.{ℕ, Bool, false, ◌&&◌, eqb, Option, Some, None, List, [], length, slice_index_or}
use Rattle.fc_base.specs.declared.ids.SlotId.{SlotId}
use Rattle.fc_base.specs.Column.{Shape, Column, first_below, is_at}

-- A slot is a state of a volume in a chain of copies. `birth` is its number, by which it is named; no two slots ever have
-- one birth. `chain` is the birth of the slot that began its chain. The live slot of a volume is the volume as hosts see it;
-- an old slot is what the volume was, kept for those that still need it. `mapping` is the FlashCopy mapping whose slot it
-- is, if any. `held` says for each grain whether the slot holds it: then the physical grain of its volume is its content.
pub record Slot : Type 0 where
  pub birth : ℕ
  pub chain : ℕ
  pub volume : ℕ
  pub is_live : Bool
  pub mapping : Option ℕ
  pub held : List Bool

-- All slots, those of one chain in their order, and how many births were given. A sheet of one lane has the grains of this
-- lane alone, counted from 0.
pub record Sheet : Type 0 where
  pub births : ℕ
  pub slots : List Slot

abbrev pub no_slots : Sheet
no_slots = record { births = 0; slots = [] }

-- What stands past the last slot.
abbrev pub no_slot : Slot
no_slot = record { birth = 0; chain = 0; volume = 0; is_live = false; mapping = None; held = [] }

abbrev pub slot_at : List Slot → ℕ → Slot
slot_at slots k = slice_index_or slots k no_slot

-- The name of the slot at a place.
abbrev pub slot_id : List Slot → ℕ → SlotId
slot_id slots k = record { 0 = (slot_at slots k).birth }

-- The slots without what they hold, by their places.
abbrev pub shape_of : List Slot → Shape
shape_of slots =
    record {
      count = length slots;
      birth = λ k. (slot_at slots k).birth;
      chain = λ k. (slot_at slots k).chain;
      volume = λ k. (slot_at slots k).volume;
      is_live = λ k. (slot_at slots k).is_live;
    }

-- The sheet at one grain.
abbrev pub column : List Slot → ℕ → Column
column slots g = record { shape = shape_of slots; held = λ k. slice_index_or (slot_at slots k).held g false }

-- The place of the live slot of a volume, of the slot of a mapping, and of the slot with a birth.
unfoldable pub live_place : List Slot → ℕ → Option ℕ
live_place slots v = first_below (λ k. (slot_at slots k).is_live && eqb (slot_at slots k).volume v) (length slots)

unfoldable pub mapping_place : List Slot → ℕ → Option ℕ
mapping_place slots m = first_below (λ k. is_at (slot_at slots k).mapping m) (length slots)

unfoldable pub birth_place : List Slot → ℕ → Option ℕ
birth_place slots b = first_below (λ k. eqb (slot_at slots k).birth b) (length slots)

-- How many grains a volume has.
abbrev pub grains_at : List Slot → Option ℕ → ℕ
grains_at slots None = 0
grains_at slots (Some k) = length (slot_at slots k).held

abbrev pub volume_grains : List Slot → ℕ → ℕ
volume_grains slots v = grains_at slots (live_place slots v)
