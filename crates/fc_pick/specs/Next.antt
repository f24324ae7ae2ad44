-- The next piece of background work.
use Rattle.std.specs.Prelude.{Bool, ◌&&◌, List, find, Option, is_some, option_map}
use Rattle.std.specs.Option.{option_and_then}
use Rattle.fc_base.specs.declared.ids.MapId.{MapId}
use Rattle.fc_base.specs.declared.ids.GrainNo.{GrainNo}
use Rattle.fc_pick.specs.declared.work.WorkFlags.{WorkFlags}

-- the mapping has the flag and a possible grain
abbrev pub can_work : (WorkFlags → Bool) → (MapId → Option GrainNo) → WorkFlags → Bool
can_work has_flag least_grain row = has_flag row && is_some (least_grain row.map)

-- the mapping and its least grain
abbrev pub work_of : (MapId → Option GrainNo) → WorkFlags → Option (MapId × GrainNo)
work_of least_grain row = option_map (λ g. (row.map, g)) (least_grain row.map)

-- the first mapping that has the flag and a possible grain, and its least such grain
abbrev pub next_work : (WorkFlags → Bool) → (MapId → Option GrainNo) → List WorkFlags → Option (MapId × GrainNo)
next_work has_flag least_grain flags =
    option_and_then (work_of least_grain) (find (can_work has_flag least_grain) flags)
