-- The parts of a store, as contracts see them.
use Rattle.std.specs.Prelude.{List, ◌∷◌, map}
use Rattle.fc_lane.specs.Lane.{LaneView}
use Rattle.fc_stands.specs.Store.{StoreView}
use Rattle.fc_store.specs.declared.store_part.StorePart.{StorePart}
use Rattle.fc_store.specs.declared.store_part.StorePart.TheVariants.{Control, Lane}

-- A lane as a part.
abbrev pub lane_part : {D : Type 0} → LaneView → StorePart D
lane_part l = Lane l

-- Lanes as parts, in order.
abbrev pub lane_parts : {D : Type 0} → List LaneView → List (StorePart D)
lane_parts ls = map lane_part ls

-- The parts of a store: the control part, and then the lanes in order.
abbrev pub parts_view : {D : Type 0} → StoreView → List (StorePart D)
parts_view s = Control s.control ∷ lane_parts s.lanes
