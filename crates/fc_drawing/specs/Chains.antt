-- The chains as they are drawn.
use Rattle.std.specs.Prelude.{◌≡◌, ℕ, Bool, ◌&&◌, eqb, is_none, is_some, slice_index_or, false, length, map, List}
use Rattle.fc_base.specs.Column.{last_below}
use Rattle.fc_base.specs.Sheet.{Slot, slot_at}
use Rattle.fc_drawing.specs.Places.{places_below}
use Rattle.fc_drawing.specs.declared.slot.DrawnSlot.{DrawnSlot}

-- Whether two places are of one chain, and whether no slot of its chain stands before a place.
abbrev pub are_together : List Slot → ℕ → ℕ → Bool
are_together slots j k = eqb (slot_at slots j).chain (slot_at slots k).chain

abbrev pub is_first : List Slot → ℕ → Bool
is_first slots k = is_none (last_below (λ j. are_together slots j k) k)

-- The places of the chain of a place, in order; and all chains, in the order of their first places.
abbrev pub chain_at : List Slot → ℕ → List ℕ
chain_at slots k = places_below (λ j. are_together slots j k) (length slots)

abbrev pub chains_of : List Slot → List (List ℕ)
chains_of slots = map (chain_at slots) (places_below (is_first slots) (length slots))

-- A slot is drawn as what it is.
pub record IsDrawn (slot : Slot) (drawn : DrawnSlot) : Type 0 where
  pub birth : drawn.slot.0 ≡ slot.birth
  pub volume : drawn.volume.0 ≡ slot.volume
  pub is_live : drawn.is_live ≡ slot.is_live
  pub held : drawn.held.now ≡ slot.held

-- The room of a volume: the grains below a bound that one of its slots holds.
abbrev pub is_stored : List Slot → ℕ → ℕ → Bool
is_stored slots v g = is_some (last_below (λ k. eqb (slot_at slots k).volume v && slice_index_or (slot_at slots k).held g false) (length slots))

abbrev pub room_of : List Slot → ℕ → ℕ → ℕ
room_of slots v grains = length (places_below (is_stored slots v) grains)
