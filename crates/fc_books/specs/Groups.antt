-- Consistency groups: their members, their state, and which members may be triggered at once.
use Rattle.std.specs.Prelude.{ℕ, Bool, true, false, cond, ◌||◌, ◌==◌, nat_lt, min, List, [], ◌∷◌, filter, map, count_by, Option, option_map}
use Rattle.std.specs.List.{list_any, reduce}
use Rattle.std.specs.Option.{option_map_or}
use Rattle.fc_base.specs.Tables.{Tables}
use Rattle.fc_base.specs.declared.command.StopWay.{StopWay}
use Rattle.fc_base.specs.declared.command.StopWay.TheVariants.{Plain, Force, Split}
use Rattle.fc_base.specs.declared.fault.Refusal.{Refusal}
use Rattle.fc_base.specs.declared.fault.Refusal.TheVariants.{Empty as EmptyGroup, TargetTwice, SourceIsTarget}
use Rattle.fc_base.specs.declared.ids.GroupId.{GroupId}
use Rattle.fc_base.specs.declared.state.MapState.{MapState}
use Rattle.fc_base.specs.declared.state.MapState.TheVariants.{Empty, IdleOrCopied, Preparing, Prepared, Copying, Stopping, Stopped}
use Rattle.fc_base.specs.declared.volume.Mapping.{Mapping}
use Rattle.fc_books.specs.Accesses.{is_preparing, is_prepared, is_copying, is_stopping, is_stopped}
use Rattle.fc_entry.specs.Refused.{first_of, where_}

-- The members of a group, by id.
abbrev pub is_member : GroupId → Mapping → Bool
is_member g m = option_map_or (λ (h : GroupId). g.0 == h.0) m.group false

abbrev pub members : Tables → GroupId → List Mapping
members t g = filter (is_member g) t.mappings

-- ---- state

abbrev pub some_in : (MapState → Bool) → List Mapping → Bool
some_in test maps = list_any (λ (m : Mapping). test m.state) maps

-- The first of these states that some member has; with none of them idle_or_copied; and empty without members.
abbrev pub state_of_members : List Mapping → MapState
state_of_members [] = Empty
state_of_members (m ∷ ms) =
    cond (some_in is_preparing (m ∷ ms)) Preparing
    (cond (some_in is_prepared (m ∷ ms)) Prepared
    (cond (some_in is_copying (m ∷ ms)) Copying
    (cond (some_in is_stopping (m ∷ ms)) Stopping
    (cond (some_in is_stopped (m ∷ ms)) Stopped
    IdleOrCopied))))

abbrev pub group_state : Tables → GroupId → MapState
group_state t g = state_of_members (members t g)

-- ---- which members a stop acts on

-- Those that are prepared or copying, with `-force` also the stopping ones; with `-split` the copying ones.
abbrev pub acts_on : StopWay → MapState → Bool
acts_on Plain state = is_prepared state || is_copying state
acts_on Force state = is_prepared state || (is_copying state || is_stopping state)
acts_on Split state = is_copying state

abbrev pub stopped_members : Tables → StopWay → GroupId → List Mapping
stopped_members t way g = filter (λ m. acts_on way m.state) (members t g)

-- ---- what can't be triggered at once

abbrev pub least : List ℕ → Option ℕ
least ids = reduce min ids

-- The volumes that two of the mappings have as target, and those that one has as source and one as target.
abbrev pub has_target : ℕ → Mapping → Bool
has_target v m = m.target.0 == v

abbrev pub twice_targets : List Mapping → List ℕ
twice_targets maps = filter (λ v. nat_lt 1 (count_by (has_target v) maps)) (map (λ m. m.target.0) maps)

abbrev pub source_targets : List Mapping → List ℕ
source_targets maps = filter (λ v. list_any (has_target v) maps) (map (λ m. m.source.0) maps)

abbrev pub is_none_of : List Mapping → Bool
is_none_of [] = true
is_none_of (m ∷ ms) = false

-- No mapping; two with one target; or a source that is a target too. Of several volumes the least id is told.
abbrev pub trigger_refusal : List Mapping → Option Refusal
trigger_refusal maps =
    first_of
    (where_ (is_none_of maps) EmptyGroup
    ∷ option_map (λ v. TargetTwice record { 0 = v }) (least (twice_targets maps))
    ∷ option_map (λ v. SourceIsTarget record { 0 = v }) (least (source_targets maps))
    ∷ [])
