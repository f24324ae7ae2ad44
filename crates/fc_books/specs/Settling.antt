-- Settling, with which every command begins: copies end that are complete or that nobody needs any more.
use Rattle.std.specs.Prelude.{List, [], ◌∷◌, length, map, Result, Ok, Err}
use Rattle.fc_base.specs.Counts.{names_below, is_unneeded}
use Rattle.fc_base.specs.Sheet.{Slot}
use Rattle.fc_base.specs.States.{next_state}
use Rattle.fc_base.specs.declared.decision.LaneEvent.TheVariants.{Detach, Drop}
use Rattle.fc_base.specs.declared.fault.Refusal.{Refusal}
use Rattle.fc_base.specs.declared.state.MapEvent.TheVariants.{Finish}
use Rattle.fc_base.specs.declared.state.MapState.{MapState}
use Rattle.fc_base.specs.declared.state.MapState.TheVariants.{Copying, Stopping}
use Rattle.fc_base.specs.declared.volume.Mapping.{Mapping}
use Rattle.fc_books.specs.Books.{Books, Deed, nothing, told, ◌then◌, all_deeds}
use Rattle.fc_books.specs.Copies.{is_whole, is_needed}
use Rattle.fc_books.specs.Ending.{ends_by, leaves_by}

-- Every old slot that nobody needs is dropped, those of stopping mappings too, in order of their places.
abbrev pub drops : List Slot → Deed
drops slots = told (map (λ slot. Drop slot) (names_below slots (is_unneeded slots) (length slots)))

-- A copying mapping that is complete and not needed is detached and goes to idle_or_copied; one that isn't stays.
abbrev pub finishes : Result MapState Refusal → Books → Mapping → Deed
finishes (Ok state) b m = told (Detach m.id ∷ []) then leaves_by (Ok state) b m
finishes (Err refusal) b m = nothing

-- A stopping mapping that nobody needs ends: in idle_or_copied if its copy was complete when it was stopped, else in
-- stopped.
abbrev pub settles_in : MapState → Books → Mapping → Deed
settles_in Copying b m = finishes (next_state Copying Finish (is_whole b m) (is_needed b m)) b m
settles_in Stopping b m = ends_by (next_state Stopping Finish m.complete (is_needed b m)) m
settles_in state b m = nothing

-- First the old slots that nobody needs; then mapping by mapping, by id. A complete slot and an old slot read from no other,
-- so none of this makes another slot needed or free.
unfoldable pub settling : Books → Deed
settling b = drops b.sheet.slots then all_deeds (λ m. settles_in m.state b m) b.tables.mappings
