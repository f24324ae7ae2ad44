-- States of mappings, and how hosts reach a volume.
use Rattle.std.specs.Prelude.{Bool, true, false, not, ◌&&◌, ◌==◌, find, Option, Some, None}
use Rattle.fc_base.specs.States.{access_of}
use Rattle.fc_base.specs.Tables.{Tables}
use Rattle.fc_base.specs.declared.ids.VolId.{VolId}
use Rattle.fc_base.specs.declared.state.Access.{Access}
use Rattle.fc_base.specs.declared.state.Access.TheVariants.{Online}
use Rattle.fc_base.specs.declared.state.MapState.{MapState}
use Rattle.fc_base.specs.declared.state.MapState.TheVariants.{IdleOrCopied, Preparing, Prepared, Copying, Stopping, Stopped}
use Rattle.fc_base.specs.declared.volume.Mapping.{Mapping}

abbrev pub is_idle : MapState → Bool
is_idle IdleOrCopied = true
is_idle state = false

abbrev pub is_preparing : MapState → Bool
is_preparing Preparing = true
is_preparing state = false

abbrev pub is_prepared : MapState → Bool
is_prepared Prepared = true
is_prepared state = false

abbrev pub is_copying : MapState → Bool
is_copying Copying = true
is_copying state = false

abbrev pub is_stopping : MapState → Bool
is_stopping Stopping = true
is_stopping state = false

abbrev pub is_stopped : MapState → Bool
is_stopped Stopped = true
is_stopped state = false

-- A mapping is active in every state but idle_or_copied and stopped.
abbrev pub is_active : MapState → Bool
is_active state = not (is_idle state) && not (is_stopped state)

-- How a volume is reached: the one mapping with it as target that isn't idle_or_copied decides; without such a one the
-- volume is online.
abbrev pub deciding : Tables → VolId → Option Mapping
deciding t v = find (λ m. (m.target.0 == v.0) && not (is_idle m.state)) t.mappings

abbrev pub access_by : Option Mapping → Access
access_by None = Online
access_by (Some m) = access_of m.id m.state m.complete

abbrev pub access_in : Tables → VolId → Access
access_in t v = access_by (deciding t v)

abbrev pub is_online : Access → Bool
is_online Online = true
is_online access = false
