-- The list of background work, and its next grain of all lanes.
use Rattle.std.specs.Prelude.{◌<◌, ◌++◌, ℕ, Bool, false, cond, nat_lt, filter, fold, map, Option, Some, None, List, length, slice_index_or}
use Rattle.std.specs.Option.{option_map_or}
use Rattle.fc_base.specs.declared.ids.GrainNo.{GrainNo}
use Rattle.fc_base.specs.declared.volume.Mapping.{Mapping}
use Rattle.fc_desk.specs.Telling.{row_of}
use Rattle.fc_lane.specs.Lane.{LaneView, IsLaneOf, of}
use Rattle.fc_legal.specs.Seconds.{Work, cleanings_of, copies_of, filled_by}
use Rattle.fc_pick.specs.declared.work.WorkFlags.{WorkFlags}
use Rattle.fc_rules.specs.LaneTold.{LaneTold}
use Rattle.fc_rules.specs.LaneTurn.{least_grain}

-- ---- the list

-- The flags of a mapping.
abbrev pub does_copy : List WorkFlags → Mapping → Bool
does_copy flags m = option_map_or (λ (row : WorkFlags). row.copies) (row_of flags m) false

abbrev pub does_clean : List WorkFlags → Mapping → Bool
does_clean flags m = option_map_or (λ (row : WorkFlags). row.cleans) (row_of flags m) false

-- All copies by mapping, and then all cleanings.
abbrev pub works_by : List WorkFlags → List Mapping → List Work
works_by flags ms = map copies_of (filter (does_copy flags) ms) ++ map cleanings_of (filter (does_clean flags) ms)

-- ---- the next grain

-- The lesser of two grains, either of which may be missing.
abbrev pub lesser : Option GrainNo → Option GrainNo → Option GrainNo
lesser None b = b
lesser (Some a) None = Some a
lesser (Some a) (Some b) = cond (nat_lt b.0 a.0) (Some b) (Some a)

-- The least grain of a lane at which the work has something to do, and the least of those of all lanes.
abbrev pub least_in : Work → LaneView → Option GrainNo
least_in work v = least_grain (of v) v.chains.sheet.slots (filled_by work.cleans v.chains.sheet.slots work.map.0) work.map.0

abbrev pub least_of : Work → List LaneView → Option GrainNo
least_of work lanes = fold (λ least (v : LaneView). lesser least (least_in work v)) None lanes

-- Each lane stands for something that could be told.
abbrev pub AllStand : List LaneView → Type 0
AllStand lanes = (i : ℕ) (d : LaneView) → i < length lanes → (told : LaneTold) × IsLaneOf (slice_index_or lanes i d) told
