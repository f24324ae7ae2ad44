-- Of a decision one object at most comes: every deed but one that makes an object sets mappings, and removes objects.
use Rattle.std.proofs.Common.{◌≡◌, ℕ, ◌≤◌, Bool, true, false, cond, ◌&&◌, List, [], ◌∷◌, ◌++◌, map, filter, length, Option, Some, None, Result, Ok, Err, refl, ap, arith}
use Rattle.std.specs.List.{flat_map}
use Rattle.fc_base.specs.States.{next_state}
use Rattle.fc_base.specs.Tables.{Tables, group_named, mapping_named, mapping_with, volume_named}
use Rattle.fc_base.specs.declared.command.Command.{Command}
use Rattle.fc_base.specs.declared.command.Command.TheVariants.{Mkvdisk, Rmvdisk, Armfault, Mkfcmap, Prestartfcmap, Startfcmap, Stopfcmap, Rmfcmap, Mkfcconsistgrp, Prestartfcconsistgrp, Startfcconsistgrp, Stopfcconsistgrp, Rmfcconsistgrp}
use Rattle.fc_base.specs.declared.command.StopWay.{StopWay}
use Rattle.fc_base.specs.declared.command.StopWay.TheVariants.{Force}
use Rattle.fc_base.specs.declared.decision.LaneEvent.TheVariants.{NoteCut}
use Rattle.fc_base.specs.declared.fault.Refusal.{Refusal}
use Rattle.fc_base.specs.declared.ids.MapId.{MapId}
use Rattle.fc_base.specs.declared.ids.VolId.{VolId}
use Rattle.fc_base.specs.declared.request.Effect.TheVariants.{Cut}
use Rattle.fc_base.specs.declared.size.GrainSize.{GrainSize}
use Rattle.fc_base.specs.declared.state.MapEvent.TheVariants.{Finish}
use Rattle.fc_base.specs.declared.state.MapState.{MapState}
use Rattle.fc_base.specs.declared.state.MapState.TheVariants.{Copying, Prepared, Stopping, Stopped}
use Rattle.fc_base.specs.declared.volume.Change.{Change}
use Rattle.fc_base.specs.declared.volume.Change.TheVariants.{AddVolume, RemoveVolume, AddMapping, RemoveMapping, SetMapping, AddGroup, RemoveGroup}
use Rattle.fc_base.specs.declared.volume.Group.{Group}
use Rattle.fc_base.specs.declared.volume.Mapping.{Mapping}
use Rattle.fc_base.specs.declared.volume.Volume.{Volume}
use Rattle.fc_books.specs.Accesses.{is_idle}
use Rattle.fc_books.specs.After.{after_deed}
use Rattle.fc_books.specs.Books.{Books, Deed, all_deeds, nothing}
use Rattle.fc_books.specs.Copies.{dependents, is_needed, is_whole, kept}
use Rattle.fc_books.specs.Deciding.{answered, decide, done, for_members, for_one, refused, settle}
use Rattle.fc_books.specs.Ending.{as_left, comes_to, cut_of, ends_by, goes_from, leaves_by}
use Rattle.fc_books.specs.Groups.{acts_on, members}
use Rattle.fc_books.specs.Making.{arm, make_mapping, new_mapping, remove_group, remove_mapping, remove_volume}
use Rattle.fc_books.specs.Settling.{finishes, settles_in, settling}
use Rattle.fc_books.specs.Starting.{begins, gives_way, is_superseded, prepare, start, supersedes}
use Rattle.fc_books.specs.Stopping.{one_by_one, stop_dependents, stop_event, stop_group, stops, stops_in, stops_member, stops_with}
use Rattle.fc_desk.specs.Changes.{adds}

-- ---- changes that make nothing

abbrev pub MakesNone : Change → Type 0
MakesNone (AddVolume volume) = ⊥
MakesNone (AddMapping mapping) = ⊥
MakesNone (AddGroup group) = ⊥
MakesNone change = Unit {0}

abbrev pub MakeNone : List Change → Type 0
MakeNone [] = Unit {0}
MakeNone (c ∷ cs) = MakesNone c × MakeNone cs

both_none : (xs ys : List Change) → MakeNone xs → MakeNone ys → MakeNone (xs ++ ys)
both_none [] ys first second = second
both_none (x ∷ xs) ys first second = (first.0, both_none xs ys first.1 second)

all_none : {X : Type 0} (f : X → List Change) (xs : List X) → ((x : X) → MakeNone (f x)) → MakeNone (flat_map f xs)
all_none f [] each = tt
all_none f (x ∷ xs) each = both_none (f x) (flat_map f xs) (each x) (all_none f xs each)

none_added : (changes : List Change) → MakeNone changes → filter adds changes ≡ []
none_added [] none = refl
none_added (AddVolume volume ∷ cs) none = absurd none.0
none_added (AddMapping mapping ∷ cs) none = absurd none.0
none_added (AddGroup group ∷ cs) none = absurd none.0
none_added (RemoveVolume id ∷ cs) none = none_added cs none.1
none_added (RemoveMapping id ∷ cs) none = none_added cs none.1
none_added (SetMapping mapping ∷ cs) none = none_added cs none.1
none_added (RemoveGroup id ∷ cs) none = none_added cs none.1

-- ---- deeds

abbrev Spares : Deed → Type 0
Spares deed = MakeNone deed.changes

either_none : (c : Bool) (d e : Deed) → Spares d → Spares e → Spares (cond c d e)
either_none true d e first second = first
either_none false d e first second = second

ends_none : (next : Result MapState Refusal) (m : Mapping) → Spares (ends_by next m)
ends_none (Ok state) m = either_none (m.autodelete && is_idle state) (goes_from state m) (comes_to state m) (tt, tt) (tt, tt)
ends_none (Err refusal) m = tt

cut_none : (b : Books) (m : Mapping) → Spares (cut_of b m)
cut_none b m =
    either_none (is_whole b m) nothing record { effects = Cut m.target (kept b m) ∷ []; events = NoteCut m.id m.source m.target ∷ []; changes = [] } tt tt

leaves_none : (next : Result MapState Refusal) (b : Books) (m : Mapping) → Spares (leaves_by next b m)
leaves_none next b m = both_none (cut_of b m).changes (ends_by next (as_left b m)).changes (cut_none b m) (ends_none next (as_left b m))

finishes_none : (next : Result MapState Refusal) (b : Books) (m : Mapping) → Spares (finishes next b m)
finishes_none (Ok state) b m = leaves_none (Ok state) b m
finishes_none (Err refusal) b m = tt

settles_none : (state : MapState) (b : Books) (m : Mapping) → Spares (settles_in state b m)
settles_none Copying b m = finishes_none (next_state Copying Finish (is_whole b m) (is_needed b m)) b m
settles_none Stopping b m = ends_none (next_state Stopping Finish m.complete (is_needed b m)) m
settles_none state b m = tt

settling_none : (b : Books) → Spares (settling b)
unfolding settling
settling_none b = all_none (λ (m : Mapping). (settles_in m.state b m).changes) b.tables.mappings (λ m. settles_none m.state b m)

-- stops
stops_with_none : (b : Books) (d : Mapping) → Spares (stops_with b d)
stops_with_none b d = leaves_none (Ok Stopped) b d

dependents_none : (way : StopWay) (b : Books) (m : Mapping) → Spares (stop_dependents way b m)
dependents_none Force b m = all_none (λ (d : Mapping). (stops_with b d).changes) (dependents b m) (stops_with_none b)
dependents_none way b m = tt

stops_in_none : (state : MapState) (way : StopWay) (b : Books) (m : Mapping) → Spares (stops_in state way b m)
stops_in_none Copying way b m =
    let next : Result MapState Refusal = next_state Copying (stop_event way) (is_whole b m) (is_needed b m) in
    both_none (leaves_by next b m).changes (stop_dependents way b m).changes (leaves_none next b m) (dependents_none way b m)
stops_in_none Stopping way b m =
    let next : Result MapState Refusal = next_state Stopping (stop_event way) m.complete (is_needed b m) in
    both_none (ends_by next m).changes (stop_dependents Force b m).changes (ends_none next m) (dependents_none Force b m)
stops_in_none state way b m = ends_none (next_state state (stop_event way) m.complete false) m

stops_none : (way : StopWay) (b : Books) (m : Mapping) → Spares (stops way b m)
unfolding stops
stops_none way b m = stops_in_none m.state way b m

member_none : (way : StopWay) (b : Books) (found : Option Mapping) → Spares (stops_member way b found)
member_none way b None = tt
member_none way b (Some m) = either_none (acts_on way m.state) (stops way b m) nothing (stops_none way b m) tt

each_stops_none : (deed : Books → MapId → Deed) → ((b : Books) (id : MapId) → Spares (deed b id)) → (b : Books) (ids : List MapId) → Spares (one_by_one (λ m. []) deed b ids)
each_stops_none deed each b [] = tt
each_stops_none deed each b (id ∷ ids) =
    let after : Books = after_deed (λ m. []) b (deed b id) in
    both_none (deed b id).changes (one_by_one (λ m. []) deed after ids).changes (each b id) (each_stops_none deed each after ids)

stop_group_none : (way : StopWay) (b : Books) (maps : List Mapping) → Spares (stop_group way b maps)
stop_group_none way b maps =
    each_stops_none (λ books id. stops_member way books (mapping_with books.tables id)) (λ books id. member_none way books (mapping_with books.tables id)) b (map (λ (m : Mapping). m.id) maps)

-- starts
supersedes_none : (t : Tables) (maps : List Mapping) → Spares (supersedes t maps)
supersedes_none t maps = all_none (λ (s : Mapping). (gives_way s).changes) (filter (is_superseded maps) t.mappings) (λ s. (tt, tt))

begins_none : (state : MapState) (restore : Bool) (maps : List Mapping) → Spares (all_deeds (begins state restore) maps)
begins_none state restore maps = all_none (λ (m : Mapping). (begins state restore m).changes) maps (λ m. (tt, tt))

prepare_none : (restore : Bool) (t : Tables) (maps : List Mapping) → Spares (prepare restore t maps)
prepare_none restore t maps =
    both_none (supersedes t maps).changes (all_deeds (begins Prepared restore) maps).changes (supersedes_none t maps) (begins_none Prepared restore maps)

start_none : (prep restore : Bool) (t : Tables) (maps : List Mapping) → Spares (start prep restore t maps)
start_none prep restore t maps =
    both_none (cond prep (supersedes t maps) nothing).changes (all_deeds (begins Copying restore) maps).changes
    (either_none prep (supersedes t maps) nothing (supersedes_none t maps) tt) (begins_none Copying restore maps)

-- groups
remove_group_none : (t : Tables) (g : Group) → Spares (remove_group t g.id)
remove_group_none t g = both_none (map leaves (members t g.id)) (RemoveGroup g.id ∷ []) (sets (members t g.id)) (tt, tt)
  where
    leaves : Mapping → Change
    leaves m = SetMapping (record m { group = None })

    sets : (maps : List Mapping) → MakeNone (map leaves maps)
    sets [] = tt
    sets (m ∷ ms) = (tt, sets ms)

-- ---- decisions

abbrev pub AddOne : List Change → Type 0
AddOne changes = length (filter adds changes) ≤ 1

none_is_few : (changes : List Change) → MakeNone changes → AddOne changes
none_is_few changes none = omega (arith, ap length (none_added changes none))

one_few : {X : Type 0} (found : Option X) (deed : X → Deed) → ((x : X) → AddOne (deed x).changes) → AddOne (for_one found deed).changes
one_few None deed each = omega arith
one_few (Some x) deed each = each x

one_none : {X : Type 0} (found : Option X) (deed : X → Deed) → ((x : X) → Spares (deed x)) → AddOne (for_one found deed).changes
one_none found deed each = one_few found deed (λ x. none_is_few (deed x).changes (each x))

members_few : (t : Tables) (found : Option Group) (deed : List Mapping → Deed) → ((maps : List Mapping) → Spares (deed maps)) → AddOne (for_members t found deed).changes
members_few t None deed each = omega arith
members_few t (Some g) deed each = none_is_few (deed (members t g.id)).changes (each (members t g.id))

done_few : (grain : GrainSize) (b : Books) (command : Command) → AddOne (done grain b command).changes
done_few grain b (Mkvdisk name size unit thin) = omega arith
done_few grain b (Rmvdisk volume) = one_none (volume_named b.tables volume) remove_volume (λ v. (tt, tt))
done_few grain b (Armfault volume number calls) = one_none (volume_named b.tables volume) (λ v. arm v number calls) (λ v. tt)
done_few grain b (Mkfcmap source target name group copy_rate clean_rate grain_size incremental autodelete) =
    let made : Volume → Volume → Deed = λ s t. make_mapping (new_mapping b s t name group copy_rate clean_rate incremental autodelete) in
    one_few (volume_named b.tables source) (λ s. for_one (volume_named b.tables target) (made s)) (λ s. one_few (volume_named b.tables target) (made s) (λ t. omega arith))
done_few grain b (Prestartfcmap m restore) = one_none (mapping_named b.tables m) (λ found. prepare restore b.tables (found ∷ [])) (λ found. prepare_none restore b.tables (found ∷ []))
done_few grain b (Startfcmap m prep restore) = one_none (mapping_named b.tables m) (λ found. start prep restore b.tables (found ∷ [])) (λ found. start_none prep restore b.tables (found ∷ []))
done_few grain b (Stopfcmap m way) = one_none (mapping_named b.tables m) (stops way b) (stops_none way b)
done_few grain b (Rmfcmap m force) = one_none (mapping_named b.tables m) remove_mapping (λ found. (tt, tt))
done_few grain b (Mkfcconsistgrp name) = omega arith
done_few grain b (Prestartfcconsistgrp group restore) = members_few b.tables (group_named b.tables group) (prepare restore b.tables) (prepare_none restore b.tables)
done_few grain b (Startfcconsistgrp group prep restore) = members_few b.tables (group_named b.tables group) (start prep restore b.tables) (start_none prep restore b.tables)
done_few grain b (Stopfcconsistgrp group way) = members_few b.tables (group_named b.tables group) (stop_group way b) (stop_group_none way b)
done_few grain b (Rmfcconsistgrp group force) = one_none (group_named b.tables group) (λ (g : Group). remove_group b.tables g.id) (λ (g : Group). remove_group_none b.tables g)
done_few grain b command = omega arith

answered_few : (sets : ℕ → List Bool) (grain : GrainSize) (b : Books) (command : Command) (refusal : Option Refusal) (loop : Option (List VolId)) → AddOne (answered sets grain b command refusal loop).changes
answered_few sets grain b command (Some refusal) loop = omega arith
answered_few sets grain b command None (Some volumes) = omega arith
answered_few sets grain b command None None = done_few grain b command

pub settle_few : (b : Books) → AddOne (settle b).changes
settle_few b = none_is_few (settling b).changes (settling_none b)

pub decide_few : (sets : ℕ → List Bool) (grain : GrainSize) (b : Books) (command : Command) (loop : Option (List VolId)) → AddOne (decide sets grain b command loop).changes
decide_few sets grain b command loop = answered_few sets grain b command (refused grain b command) loop
