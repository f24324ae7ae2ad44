-- What stops of mappings and groups do, where they aren't refused.
use Rattle.std.specs.Prelude.{ℕ, Bool, false, cond, List, [], ◌∷◌, map, Option, Some, None}
use Rattle.fc_base.specs.States.{next_state}
use Rattle.fc_base.specs.Tables.{mapping_with}
use Rattle.fc_base.specs.declared.command.StopWay.{StopWay}
use Rattle.fc_base.specs.declared.command.StopWay.TheVariants.{Plain, Force, Split as SplitOff}
use Rattle.fc_base.specs.declared.decision.LaneEvent.{LaneEvent}
use Rattle.fc_base.specs.declared.decision.LaneEvent.TheVariants.{Retire, Detach, Split, Force as ForceOut}
use Rattle.fc_base.specs.declared.ids.MapId.{MapId}
use Rattle.fc_base.specs.declared.state.MapEvent.{MapEvent}
use Rattle.fc_base.specs.declared.state.MapEvent.TheVariants.{Stop, StopSplit, StopForce}
use Rattle.fc_base.specs.declared.state.MapState.{MapState}
use Rattle.fc_base.specs.declared.state.MapState.TheVariants.{Copying, Stopping, Stopped}
use Rattle.fc_base.specs.declared.volume.Mapping.{Mapping}
use Rattle.fc_books.specs.After.{after_deed}
use Rattle.fc_books.specs.Books.{Books, Deed, nothing, told, ◌then◌, all_deeds}
use Rattle.fc_books.specs.Copies.{is_whole, is_needed, dependents}
use Rattle.fc_books.specs.Ending.{ends_by, ends_in, as_left, cut_of, leaves_by}
use Rattle.fc_books.specs.Groups.{acts_on}

-- The event of each way to stop.
abbrev pub stop_event : StopWay → MapEvent
stop_event Plain = Stop
stop_event Force = StopForce
stop_event SplitOff = StopSplit

-- How the slot of a copying mapping leaves its place: by a plain stop it is retired where it is needed, else detached; it is
-- split off with all behind it; or it is forced out with all dependents.
abbrev pub leave_event : StopWay → Books → Mapping → LaneEvent
leave_event Plain b m = cond (is_needed b m) (Retire m.id) (Detach m.id)
leave_event SplitOff b m = Split m.id
leave_event Force b m = ForceOut m.id (map (λ (d : Mapping). d.id) (dependents b m))

-- The dependents of a forced mapping go to stopped, by id, each cut.
abbrev pub stops_with : Books → Mapping → Deed
stops_with b d = cut_of b d then ends_in Stopped (as_left b d)

abbrev pub stop_dependents : StopWay → Books → Mapping → Deed
stop_dependents Force b m = all_deeds (stops_with b) (dependents b m)
stop_dependents way b m = nothing

-- A copying mapping is stopped, or a stopping one by force. One that is only prepared has no slot.
abbrev pub stops_in : MapState → StopWay → Books → Mapping → Deed
stops_in Copying way b m =
    told (leave_event way b m ∷ [])
    then (leaves_by (next_state Copying (stop_event way) (is_whole b m) (is_needed b m)) b m
    then stop_dependents way b m)
stops_in Stopping way b m =
    told (leave_event Force b m ∷ [])
    then (ends_by (next_state Stopping (stop_event way) m.complete (is_needed b m)) m
    then stop_dependents Force b m)
stops_in state way b m = ends_by (next_state state (stop_event way) m.complete false) m

unfoldable pub stops : StopWay → Books → Mapping → Deed
stops way b m = stops_in m.state way b m

-- The members of a group are stopped one after the other, by id, each on the chains that the last left. One that a force
-- has stopped meanwhile is passed over.
abbrev pub stops_member : StopWay → Books → Option Mapping → Deed
stops_member way b None = nothing
stops_member way b (Some m) = cond (acts_on way m.state) (stops way b m) nothing

abbrev pub one_by_one : (ℕ → List Bool) → (Books → MapId → Deed) → Books → List MapId → Deed
one_by_one restarts deed b [] = nothing
one_by_one restarts deed b (m ∷ ms) =
    let first = deed b m in
    first then one_by_one restarts deed (after_deed restarts b first) ms

-- No stop triggers, so restart sets don't matter here.
abbrev pub stop_group : StopWay → Books → List Mapping → Deed
stop_group way b maps =
    one_by_one (λ m. []) (λ books id. stops_member way books (mapping_with books.tables id)) b (map (λ (m : Mapping). m.id) maps)
