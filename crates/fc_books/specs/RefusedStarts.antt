-- The first refusal of commands that prepare, start or stop, in the stated order. That a start would close a loop of restores
-- is asked for after all of these; want of memory comes last.
use Rattle.std.specs.Prelude.{Bool, true, false, cond, not, ◌&&◌, ◌||◌, ◌==◌, List, [], ◌∷◌, ◌++◌, find, Option, None, option_map}
use Rattle.std.specs.List.{list_any, list_all}
use Rattle.fc_base.specs.States.{next_state}
use Rattle.fc_base.specs.declared.command.StopWay.{StopWay}
use Rattle.fc_base.specs.declared.command.StopWay.TheVariants.{Split}
use Rattle.fc_base.specs.declared.fault.Refusal.{Refusal}
use Rattle.fc_base.specs.declared.fault.Refusal.TheVariants.{InGroup, NotAllowed, NotPrepared, SourceNotReady, TargetActive, TargetIsSource, NotComplete, Empty as EmptyGroup}
use Rattle.fc_base.specs.declared.name.Ref.{Ref}
use Rattle.fc_base.specs.declared.state.MapEvent.{MapEvent}
use Rattle.fc_base.specs.declared.state.MapEvent.TheVariants.{Prepare, Start, StartPrep}
use Rattle.fc_base.specs.declared.volume.Mapping.{Mapping}
use Rattle.fc_books.specs.Accesses.{is_active, is_prepared, is_online, access_in}
use Rattle.fc_books.specs.Books.{Books}
use Rattle.fc_books.specs.Copies.{held, total, is_whole, is_used}
use Rattle.fc_books.specs.Groups.{members, group_state, is_none_of, some_in, acts_on, trigger_refusal}
use Rattle.fc_books.specs.Refused.{of_mapping, of_group, refused_by}
use Rattle.fc_books.specs.Stopping.{stop_event}
use Rattle.fc_entry.specs.Refused.{first_of, where_}

-- ---- parts

-- `in group`: the mapping is in this group, and commands go to the group.
abbrev pub in_group : Mapping → Option Refusal
in_group m = option_map InGroup m.group

-- What the state table refuses. A split is refused there as of a complete copy; that it isn't complete is told later.
abbrev pub by_state : MapEvent → Mapping → Option Refusal
by_state event m = refused_by (next_state m.state event true false)

-- `target active`: another active mapping has the target; the least id is told.
abbrev pub is_rival : Mapping → Mapping → Bool
is_rival m other = (other.target.0 == m.target.0) && (not (other.id.0 == m.id.0) && is_active other.state)

abbrev pub target_active : Books → Mapping → Option Refusal
target_active b m = option_map (λ (other : Mapping). TargetActive other.id) (find (is_rival m) b.tables.mappings)

-- A source that isn't online; a target that is active by another mapping; a target that is used as a source, without
-- `-restore`.
abbrev pub not_ready : Books → Bool → Mapping → List (Option Refusal)
not_ready b restore m =
    where_ (not (is_online (access_in b.tables m.source))) (SourceNotReady m.source)
    ∷ target_active b m
    ∷ where_ (not restore && is_used b.sheet.slots m.target) (TargetIsSource m.target)
    ∷ []

-- `not complete`: a split of a copy that holds fewer grains than all.
abbrev pub not_complete : StopWay → Books → Mapping → Option Refusal
not_complete Split b m = where_ (not (is_whole b m)) (NotComplete (held b m) (total b m))
not_complete way b m = None

-- ---- mappings

-- `prestartfcmap`: its group; its state; its source; its target.
abbrev pub prestartfcmap_refused : Books → Ref → Bool → Option Refusal
prestartfcmap_refused b r restore =
    of_mapping b r (λ m. first_of (in_group m ∷ by_state Prepare m ∷ not_ready b restore m))

-- `startfcmap`: the same.
abbrev pub start_event : Bool → MapEvent
start_event prep = cond prep StartPrep Start

abbrev pub startfcmap_refused : Books → Ref → Bool → Bool → Option Refusal
startfcmap_refused b r prep restore =
    of_mapping b r (λ m. first_of (in_group m ∷ by_state (start_event prep) m ∷ not_ready b restore m))

-- `stopfcmap`: its group; its state; a split of an incomplete copy.
abbrev pub stopfcmap_refused : Books → Ref → StopWay → Option Refusal
stopfcmap_refused b r way =
    of_mapping b r (λ m. first_of (in_group m ∷ by_state (stop_event way) m ∷ not_complete way b m ∷ []))

-- ---- groups

-- `empty group`.
abbrev pub empty_group : List Mapping → Option Refusal
empty_group maps = where_ (is_none_of maps) EmptyGroup

-- The first refusal of a list, member by member.
abbrev pub for_each : (Mapping → List (Option Refusal)) → List Mapping → Option Refusal
for_each refusals [] = None
for_each refusals (m ∷ ms) = first_of (refusals m ++ for_each refusals ms ∷ [])

-- `prestartfcconsistgrp`: no member; one that is neither idle_or_copied nor stopped; what can't be triggered at once; then the
-- sources and targets, member by member.
abbrev pub prestartfcconsistgrp_refused : Books → Ref → Bool → Option Refusal
prestartfcconsistgrp_refused b r restore =
    of_group b r (λ g. let maps = members b.tables g.id in
    first_of
    (empty_group maps
    ∷ where_ (some_in is_active maps) (NotAllowed (group_state b.tables g.id))
    ∷ trigger_refusal maps
    ∷ for_each (not_ready b restore) maps
    ∷ []))

-- `startfcconsistgrp`: no member; with `-prep` one that is active, without it one that is active and not prepared; without
-- `-prep` one that isn't prepared; what can't be triggered at once; then the sources and targets, member by member.
abbrev pub starts_not : Bool → Mapping → Bool
starts_not prep m = is_active m.state && (prep || not (is_prepared m.state))

abbrev pub startfcconsistgrp_refused : Books → Ref → Bool → Bool → Option Refusal
startfcconsistgrp_refused b r prep restore =
    of_group b r (λ g. let maps = members b.tables g.id in
    first_of
    (empty_group maps
    ∷ where_ (list_any (starts_not prep) maps) (NotAllowed (group_state b.tables g.id))
    ∷ where_ (not prep && not (list_all (λ (m : Mapping). is_prepared m.state) maps)) NotPrepared
    ∷ trigger_refusal maps
    ∷ for_each (not_ready b restore) maps
    ∷ []))

-- `stopfcconsistgrp`: no member; none that the stop acts on; a split of an incomplete copy, the first by id.
abbrev pub split_refusals : StopWay → Books → Mapping → List (Option Refusal)
split_refusals way b m = cond (acts_on way m.state) (not_complete way b m) None ∷ []

abbrev pub stopfcconsistgrp_refused : Books → Ref → StopWay → Option Refusal
stopfcconsistgrp_refused b r way =
    of_group b r (λ g. let maps = members b.tables g.id in
    first_of
    (empty_group maps
    ∷ where_ (not (some_in (acts_on way) maps)) (NotAllowed (group_state b.tables g.id))
    ∷ for_each (split_refusals way b) maps
    ∷ []))
