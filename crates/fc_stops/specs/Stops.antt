-- Stops, by what is asked of the chains before them, and what a stop may do.
use Rattle.std.specs.Prelude.{◌≡◌, ℕ, Bool, true, false, cond, ◌||◌, ◌==◌, List, [], ◌∷◌, filter, Option, Some, None}
use Rattle.std.specs.List.{list_any}
use Rattle.std.specs.Option.{option_and_then}
use Rattle.fc_base.specs.SheetView.{AreMappings, DependsOn}
use Rattle.fc_base.specs.States.{next_state}
use Rattle.fc_base.specs.declared.command.StopWay.{StopWay}
use Rattle.fc_base.specs.declared.command.StopWay.TheVariants.{Plain, Force as ByForce, Split as SplitOff}
use Rattle.fc_base.specs.declared.decision.LaneEvent.{LaneEvent}
use Rattle.fc_base.specs.declared.decision.LaneEvent.TheVariants.{Make, Remove, Trigger, Retire, Detach, Split, Force, Drop, Forget, Work, Arm}
use Rattle.fc_base.specs.declared.fault.Refusal.{Refusal}
use Rattle.fc_base.specs.declared.ids.MapId.{MapId}
use Rattle.fc_base.specs.declared.state.MapState.{MapState}
use Rattle.fc_base.specs.declared.state.MapState.TheVariants.{Copying, Stopping}
use Rattle.fc_base.specs.declared.volume.Change.{Change}
use Rattle.fc_base.specs.declared.volume.Change.TheVariants.{SetMapping, RemoveMapping}
use Rattle.fc_base.specs.declared.volume.Mapping.{Mapping}
use Rattle.fc_books.specs.Accesses.{is_copying}
use Rattle.fc_books.specs.Books.{Books, Deed, nothing, told, ◌then◌, all_deeds}
use Rattle.fc_books.specs.Copies.{is_whole}
use Rattle.fc_books.specs.Ending.{ends_in, ends_by, leaves_by}
use Rattle.fc_books.specs.RefusedStarts.{in_group, by_state, not_complete}
use Rattle.fc_books.specs.Stopping.{stop_event, stops_with}
use Rattle.fc_entry.specs.Refused.{first_of}
use Rattle.fc_desk.specs.Telling.{work_told}

-- ---- a stop, where it is known whether the mapping's slot is needed, and which mappings depend on it

abbrev pub leaves_asked : StopWay → Bool → List MapId → MapId → LaneEvent
leaves_asked Plain needed ids m = cond needed (Retire m) (Detach m)
leaves_asked SplitOff needed ids m = Split m
leaves_asked ByForce needed ids m = Force m ids

-- The mappings with these ids, in their own order.
abbrev pub is_among : List MapId → Mapping → Bool
is_among ids m = list_any (λ (id : MapId). id.0 == m.id.0) ids

abbrev pub those : List MapId → List Mapping → List Mapping
those ids maps = filter (is_among ids) maps

-- A mapping is stopped with another one where its id is among these.
abbrev pub stops_among : List MapId → Books → Mapping → Deed
stops_among ids b m = cond (is_among ids m) (stops_with b m) nothing

-- A mapping ends in a state, if there is one.
abbrev pub ends_where : Option MapState → Mapping → Deed
ends_where None m = nothing
ends_where (Some state) m = ends_in state m

abbrev pub ends_those : StopWay → List MapId → Books → Deed
ends_those ByForce ids b = all_deeds (stops_with b) (those ids b.tables.mappings)
ends_those way ids b = nothing

abbrev pub stop_asked : MapState → StopWay → Bool → List MapId → Books → Mapping → Deed
stop_asked Copying way needed ids b m =
    told (leaves_asked way needed ids m.id ∷ [])
    then (leaves_by (next_state Copying (stop_event way) (is_whole b m) needed) b m
    then ends_those way ids b)
stop_asked Stopping way needed ids b m =
    told (Force m.id ids ∷ [])
    then (ends_by (next_state Stopping (stop_event way) m.complete needed) m
    then ends_those ByForce ids b)
stop_asked state way needed ids b m = ends_by (next_state state (stop_event way) m.complete false) m

-- What is asked of the mappings that depend on one: by force they are stopped with it.
abbrev pub IsAnswer : StopWay → Books → Mapping → List MapId → Type 0
IsAnswer ByForce b m ids = AreMappings (DependsOn b.sheet.slots m.id.0) ids
IsAnswer way b m ids = ids ≡ []

-- Whether a stop of the mapping is refused: for its group, its state, or as a split of an incomplete copy.
abbrev pub refused_stop : StopWay → Books → Mapping → Option Refusal
refused_stop way b m = first_of (in_group m ∷ by_state (stop_event way) m ∷ not_complete way b m ∷ [])

-- ---- what changes make of a mapping

abbrev pub set_by : Change → Mapping → Option Mapping
set_by (SetMapping n) m = cond (n.id.0 == m.id.0) (Some n) (Some m)
set_by (RemoveMapping id) m = cond (id.0 == m.id.0) None (Some m)
set_by change m = Some m

-- The mapping after all of them; none where it went.
abbrev pub mapping_after : List Change → Mapping → Option Mapping
mapping_after [] m = Some m
mapping_after (c ∷ cs) m = option_and_then (mapping_after cs) (set_by c m)

-- The flags of a mapping as it is after changes that leave what it holds.
abbrev pub told_of : Books → Option Mapping → List LaneEvent
told_of b None = []
told_of b (Some m) = work_told b None m

abbrev pub told_after : Books → List Change → Mapping → List LaneEvent
told_after b changes m = told_of b (mapping_after changes m)

-- The mapping as it is after one more change.
abbrev pub set_next : Change → Option Mapping → Option Mapping
set_next c o = option_and_then (set_by c) o

-- Whether a change sets or removes the mapping.
abbrev pub changes_in : ℕ → Change → Bool
changes_in n (SetMapping m) = m.id.0 == n
changes_in n (RemoveMapping id) = id.0 == n
changes_in n change = false

abbrev pub changes_some : ℕ → List Change → Bool
changes_some n changes = list_any (changes_in n) changes

abbrev pub removes_in : ℕ → Change → Bool
removes_in n (RemoveMapping id) = id.0 == n
removes_in n change = false

abbrev pub removes_some : ℕ → List Change → Bool
removes_some n changes = list_any (removes_in n) changes

-- ---- what a stop may do

-- Whether the mapping's slot leaves its place by an event, and whether the mapping is forgotten.
abbrev pub leaves_in : ℕ → LaneEvent → Bool
leaves_in n (Retire m) = m.0 == n
leaves_in n (Detach m) = m.0 == n
leaves_in n (Split m) = m.0 == n
leaves_in n (Force m ids) = (m.0 == n) || list_any (λ (id : MapId). id.0 == n) ids
leaves_in n event = false

abbrev pub leaves_some : ℕ → List LaneEvent → Bool
leaves_some n events = list_any (leaves_in n) events

abbrev pub forgets_in : ℕ → LaneEvent → Bool
forgets_in n (Forget m) = m.0 == n
forgets_in n event = false

abbrev pub forgets_some : ℕ → List LaneEvent → Bool
forgets_some n events = list_any (forgets_in n) events

abbrev pub IsStopEvent : LaneEvent → Type 0
IsStopEvent (Make volume grains kind) = ⊥
IsStopEvent (Remove volume) = ⊥
IsStopEvent (Trigger pairs) = ⊥
IsStopEvent (Drop slot) = ⊥
IsStopEvent (Work m copies cleans) = ⊥
IsStopEvent (Arm volume grain calls) = ⊥
IsStopEvent event = Unit {0}

abbrev pub AreStopEvents : List LaneEvent → Type 0
AreStopEvents [] = Unit {0}
AreStopEvents (e ∷ es) = IsStopEvent e × AreStopEvents es

-- No stop leaves a mapping copying.
abbrev pub IsStopChange : Change → Type 0
IsStopChange (SetMapping m) = is_copying m.state ≡ false
IsStopChange (RemoveMapping id) = Unit {0}
IsStopChange change = ⊥

abbrev pub AreStopChanges : List Change → Type 0
AreStopChanges [] = Unit {0}
AreStopChanges (c ∷ cs) = IsStopChange c × AreStopChanges cs

-- What holds of each stop, and of several stops one after the other: a mapping that leaves its place is set, or removed; and
-- one that is forgotten is removed.
pub record IsStop (d : Deed) : Type 0 where
  pub events : AreStopEvents d.events
  pub changes : AreStopChanges d.changes
  pub left : (n : ℕ) → leaves_some n d.events ≡ true → changes_some n d.changes ≡ true
  pub gone : (n : ℕ) → forgets_some n d.events ≡ true → removes_some n d.changes ≡ true
