-- Whether a state is another one, and the first state that some member of a group is in.
use Rattle.std.specs.Prelude.{Bool, true, false, cond, ◌&&◌, List}
use Rattle.std.specs.List.{list_any}
use Rattle.fc_base.specs.declared.ids.GroupId.{GroupId}
use Rattle.fc_base.specs.declared.state.MapState.{MapState}
use Rattle.fc_base.specs.declared.state.MapState.TheVariants.{Empty, IdleOrCopied, Preparing, Prepared, Copying, Stopping, Stopped}
use Rattle.fc_base.specs.declared.volume.Mapping.{Mapping}
use Rattle.fc_books.specs.Accesses.{is_idle, is_preparing, is_prepared, is_copying, is_stopping, is_stopped}
use Rattle.fc_books.specs.Groups.{is_member}

abbrev pub is_empty : MapState → Bool
is_empty Empty = true
is_empty state = false

-- Whether a state is the wanted one.
abbrev pub is_in_state : MapState → MapState → Bool
is_in_state Empty state = is_empty state
is_in_state IdleOrCopied state = is_idle state
is_in_state Preparing state = is_preparing state
is_in_state Prepared state = is_prepared state
is_in_state Copying state = is_copying state
is_in_state Stopping state = is_stopping state
is_in_state Stopped state = is_stopped state

-- A member of the group that is in the state.
abbrev pub is_in_in_state : GroupId → MapState → Mapping → Bool
is_in_in_state g wanted m = is_member g m && is_in_state wanted m.state

-- The first of these states that some member is in, else idle_or_copied.
abbrev pub first_state_of : GroupId → List Mapping → MapState
first_state_of g maps =
    cond (list_any (is_in_in_state g Preparing) maps) Preparing
    (cond (list_any (is_in_in_state g Prepared) maps) Prepared
    (cond (list_any (is_in_in_state g Copying) maps) Copying
    (cond (list_any (is_in_in_state g Stopping) maps) Stopping
    (cond (list_any (is_in_in_state g Stopped) maps) Stopped
    IdleOrCopied))))
