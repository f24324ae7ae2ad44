-- How the copy of a mapping ends, by a stop or a settling.
use Rattle.std.specs.Prelude.{false, ◌&&◌, cond, [], ◌∷◌, Result, Ok, Err}
use Rattle.fc_base.specs.States.{access_of}
use Rattle.fc_base.specs.declared.decision.LaneEvent.TheVariants.{Forget, NoteCut, Access}
use Rattle.fc_base.specs.declared.fault.Refusal.{Refusal}
use Rattle.fc_base.specs.declared.request.Effect.TheVariants.{Cut, State, Gone}
use Rattle.fc_base.specs.declared.state.MapState.{MapState}
use Rattle.fc_base.specs.declared.volume.Change.TheVariants.{SetMapping, RemoveMapping}
use Rattle.fc_base.specs.declared.volume.Mapping.{Mapping}
use Rattle.fc_books.specs.Accesses.{is_idle, is_active}
use Rattle.fc_books.specs.Books.{Books, Deed, nothing, ◌then◌}
use Rattle.fc_books.specs.Copies.{held, kept, is_whole}

-- A mapping in a state. That it restores is known while it is active.
abbrev pub in_state : MapState → Mapping → Mapping
in_state state m = record m { state = state; restoring = cond (is_active state) m.restoring false }

-- A mapping comes into a state, and hosts reach its target by that state.
abbrev pub comes_to : MapState → Mapping → Deed
comes_to state m =
    record {
      effects = State m.id state ∷ [];
      events = Access m.target (access_of m.id state m.complete) ∷ [];
      changes = SetMapping (in_state state m) ∷ [];
    }

-- A mapping with `-autodelete` is removed as it ends in idle_or_copied, which is with a complete copy.
abbrev pub goes_from : MapState → Mapping → Deed
goes_from state m =
    record {
      effects = State m.id state ∷ Gone m.id ∷ [];
      events = Access m.target (access_of m.id state m.complete) ∷ Forget m.id ∷ [];
      changes = RemoveMapping m.id ∷ [];
    }

abbrev pub ends_in : MapState → Mapping → Deed
ends_in state m = cond (m.autodelete && is_idle state) (goes_from state m) (comes_to state m)

-- What the table of states says of an event that isn't refused.
abbrev pub ends_by : Result MapState Refusal → Mapping → Deed
ends_by (Ok state) m = ends_in state m
ends_by (Err refusal) m = nothing

-- A mapping that leaves copying: how much its copy held stays known.
abbrev pub as_left : Books → Mapping → Mapping
as_left b m = record m { held_at_leave = held b m; complete = is_whole b m }

-- Where its copy is incomplete its target is cut: it keeps what the copy held.
abbrev pub cut_of : Books → Mapping → Deed
cut_of b m =
    cond (is_whole b m)
    nothing
    record {
      effects = Cut m.target (kept b m) ∷ [];
      events = NoteCut m.id m.source m.target ∷ [];
      changes = [];
    }

-- A mapping leaves copying, after its slot left its place.
abbrev pub leaves_by : Result MapState Refusal → Books → Mapping → Deed
leaves_by next b m = cut_of b m then ends_by next (as_left b m)
