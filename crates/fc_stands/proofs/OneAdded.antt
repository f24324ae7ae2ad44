-- A decision adds one object at most, and its id isn't the last that there is.
use Rattle.std.proofs.Common.{◌≡◌, ℕ, ◌^◌, ◌<◌, ◌≤◌, Bool, true, false, cond, ◌&&◌, List, [], ◌∷◌, ◌++◌, map, filter, flat_map, fold, length, Option, Some, None, Result, Ok, Err, refl, ◌∙◌, ap, arith}
use Rattle.std.proofs.lemmas.List.Elements.{filter-append}
use Rattle.fc_base.specs.States.{next_state}
use Rattle.fc_base.specs.Tables.{Tables, mapping_with, mapping_named, volume_named, group_named}
use Rattle.fc_base.specs.declared.command.Command.{Command}
use Rattle.fc_base.specs.declared.command.Command.TheVariants.{Mkvdisk, Rmvdisk, Armfault, Mkfcmap, Prestartfcmap, Startfcmap, Stopfcmap, Rmfcmap, Mkfcconsistgrp, Prestartfcconsistgrp, Startfcconsistgrp, Stopfcconsistgrp, Rmfcconsistgrp}
use Rattle.fc_base.specs.declared.command.StopWay.{StopWay}
use Rattle.fc_base.specs.declared.command.StopWay.TheVariants.{Force}
use Rattle.fc_base.specs.declared.decision.LaneEvent.TheVariants.{NoteCut}
use Rattle.fc_base.specs.declared.fault.Refusal.{Refusal}
use Rattle.fc_base.specs.declared.ids.MapId.{MapId}
use Rattle.fc_base.specs.declared.ids.VolId.{VolId}
use Rattle.fc_base.specs.declared.request.Effect.TheVariants.{Cut}
use Rattle.fc_base.specs.declared.size.GrainSize.{GrainSize}
use Rattle.fc_base.specs.declared.state.MapState.{MapState}
use Rattle.fc_base.specs.declared.state.MapState.TheVariants.{Copying, Stopping, Stopped, Prepared}
use Rattle.fc_base.specs.declared.volume.Change.{Change}
use Rattle.fc_base.specs.declared.volume.Change.TheVariants.{AddVolume, RemoveVolume, AddMapping, RemoveMapping, SetMapping, AddGroup, RemoveGroup}
use Rattle.fc_base.specs.declared.volume.Group.{Group}
use Rattle.fc_base.specs.declared.volume.Mapping.{Mapping}
use Rattle.fc_base.specs.declared.volume.Volume.{Volume}
use Rattle.fc_books.specs.Accesses.{is_idle}
use Rattle.fc_books.specs.After.{after_deed, after_table_change}
use Rattle.fc_books.specs.Books.{Books, Deed, nothing, all_deeds}
use Rattle.fc_books.specs.Copies.{kept, is_whole, dependents}
use Rattle.fc_books.specs.Deciding.{settle, decide, done, answered, for_one, for_members, refused}
use Rattle.fc_books.specs.Ending.{ends_in, ends_by, goes_from, comes_to, cut_of, as_left, leaves_by}
use Rattle.fc_books.specs.Groups.{members, acts_on}
use Rattle.fc_books.specs.Making.{remove_volume, arm, new_mapping, make_mapping, remove_mapping, remove_group}
use Rattle.fc_books.specs.Settling.{settling, settles_in, finishes}
use Rattle.fc_books.specs.Starting.{prepare, start, supersedes, gives_way, begins, is_superseded}
use Rattle.fc_books.specs.Stopping.{stop_event, stops, stops_in, stops_with, stop_dependents, stops_member, one_by_one, stop_group}
use Rattle.fc_desk.specs.Changes.{adds, AreCountable}

-- ---- changes that add nothing

abbrev pub NoAdd : List Change → Type 0
NoAdd changes = filter adds changes ≡ []

none_append : (xs ys : List Change) → NoAdd xs → NoAdd ys → NoAdd (xs ++ ys)
none_append xs ys first second = filter-append adds xs ys ∙ ap (λ (zs : List Change). zs ++ filter adds ys) first ∙ second

none_all : (X : Type 0) (f : X → List Change) (xs : List X) → ((x : X) → NoAdd (f x)) → NoAdd (flat_map f xs)
none_all X f [] each = refl
none_all X f (x ∷ xs) each = none_append (f x) (flat_map f xs) (each x) (none_all X f xs each)

none_either : (c : Bool) (d e : Deed) → NoAdd d.changes → NoAdd e.changes → NoAdd (cond c d e).changes
none_either true d e first second = first
none_either false d e first second = second

-- ---- deeds

ends_in_none : (state : MapState) (m : Mapping) → NoAdd (ends_in state m).changes
ends_in_none state m = none_either (m.autodelete && is_idle state) (goes_from state m) (comes_to state m) refl refl

ends_by_none : (next : Result MapState Refusal) (m : Mapping) → NoAdd (ends_by next m).changes
ends_by_none (Ok state) m = ends_in_none state m
ends_by_none (Err refusal) m = refl

cut_none : (b : Books) (m : Mapping) → NoAdd (cut_of b m).changes
cut_none b m =
    none_either (is_whole b m) nothing record { effects = Cut m.target (kept b m) ∷ []; events = NoteCut m.id m.source m.target ∷ []; changes = [] } refl refl

leaves_none : (next : Result MapState Refusal) (b : Books) (m : Mapping) → NoAdd (leaves_by next b m).changes
leaves_none next b m = none_append (cut_of b m).changes (ends_by next (as_left b m)).changes (cut_none b m) (ends_by_none next (as_left b m))

finishes_none : (next : Result MapState Refusal) (b : Books) (m : Mapping) → NoAdd (finishes next b m).changes
finishes_none (Ok state) b m = leaves_none (Ok state) b m
finishes_none (Err refusal) b m = refl

settles_none : (state : MapState) (b : Books) (m : Mapping) → NoAdd (settles_in state b m).changes
settles_none Copying b m = finishes_none _ b m
settles_none Stopping b m = ends_by_none _ m
settles_none state b m = refl

settling_none : (b : Books) → NoAdd (settling b).changes
unfolding settling
settling_none b = none_all Mapping (λ m. (settles_in m.state b m).changes) b.tables.mappings (λ m. settles_none m.state b m)

-- ---- stops

stops_with_none : (b : Books) (d : Mapping) → NoAdd (stops_with b d).changes
stops_with_none b d = none_append (cut_of b d).changes _ (cut_none b d) (ends_in_none Stopped (as_left b d))

dependents_none : (way : StopWay) (b : Books) (m : Mapping) → NoAdd (stop_dependents way b m).changes
dependents_none Force b m = none_all Mapping (λ d. (stops_with b d).changes) (dependents b m) (stops_with_none b)
dependents_none way b m = refl

stops_in_none : (state : MapState) (way : StopWay) (b : Books) (m : Mapping) → NoAdd (stops_in state way b m).changes
stops_in_none Copying way b m = none_append (leaves_by _ b m).changes (stop_dependents way b m).changes (leaves_none _ b m) (dependents_none way b m)
stops_in_none Stopping way b m = none_append (ends_by _ m).changes (stop_dependents Force b m).changes (ends_by_none _ m) (dependents_none Force b m)
stops_in_none state way b m = ends_by_none (next_state state (stop_event way) m.complete false) m

stops_none : (way : StopWay) (b : Books) (m : Mapping) → NoAdd (stops way b m).changes
unfolding stops
stops_none way b m = stops_in_none m.state way b m

member_none : (way : StopWay) (b : Books) (found : Option Mapping) → NoAdd (stops_member way b found).changes
member_none way b None = refl
member_none way b (Some m) = none_either (acts_on way m.state) (stops way b m) nothing (stops_none way b m) refl

one_by_one_none : (deed : Books → MapId → Deed) (b : Books) (ids : List MapId) → ((b : Books) (id : MapId) → NoAdd (deed b id).changes) → NoAdd (one_by_one (λ m. []) deed b ids).changes
one_by_one_none deed b [] each = refl
one_by_one_none deed b (id ∷ ids) each =
    none_append (deed b id).changes (one_by_one (λ m. []) deed (after_deed (λ m. []) b (deed b id)) ids).changes (each b id) (one_by_one_none deed (after_deed (λ m. []) b (deed b id)) ids each)

stop_group_none : (way : StopWay) (b : Books) (maps : List Mapping) → NoAdd (stop_group way b maps).changes
stop_group_none way b maps =
    one_by_one_none (λ books id. stops_member way books (mapping_with books.tables id)) b (map (λ (m : Mapping). m.id) maps) (λ books id. member_none way books (mapping_with books.tables id))

-- ---- starts

supersedes_none : (t : Tables) (maps : List Mapping) → NoAdd (supersedes t maps).changes
supersedes_none t maps = none_all Mapping (λ s. (gives_way s).changes) (filter (is_superseded maps) t.mappings) (λ s. refl)

begins_none : (state : MapState) (restore : Bool) (maps : List Mapping) → NoAdd (all_deeds (begins state restore) maps).changes
begins_none state restore maps = none_all Mapping (λ m. (begins state restore m).changes) maps (λ m. refl)

prepare_none : (restore : Bool) (t : Tables) (maps : List Mapping) → NoAdd (prepare restore t maps).changes
prepare_none restore t maps = none_append (supersedes t maps).changes _ (supersedes_none t maps) (begins_none Prepared restore maps)

start_none : (prep restore : Bool) (t : Tables) (maps : List Mapping) → NoAdd (start prep restore t maps).changes
start_none prep restore t maps =
    none_append (cond prep (supersedes t maps) nothing).changes _ (none_either prep (supersedes t maps) nothing (supersedes_none t maps) refl) (begins_none Copying restore maps)

-- ---- groups

sets_none : (maps : List Mapping) → NoAdd (map (λ (m : Mapping). SetMapping (record m { group = None })) maps)
sets_none [] = refl
sets_none (m ∷ ms) = sets_none ms

-- ---- commands

-- Of so few changes, one object at most comes.
abbrev AddsOne : Deed → Type 0
AddsOne deed = length (filter adds deed.changes) ≤ 1

none_is_few : (deed : Deed) → NoAdd deed.changes → AddsOne deed
none_is_few deed none = omega (arith, ap length none)

one_is_few : (deed : Deed) (c : Change) → filter adds deed.changes ≡ c ∷ [] → AddsOne deed
one_is_few deed c one = omega (arith, ap length one)

for_one_few : (X : Type 0) (found : Option X) (deed : X → Deed) → ((x : X) → AddsOne (deed x)) → AddsOne (for_one found deed)
for_one_few X None deed each = none_is_few nothing refl
for_one_few X (Some x) deed each = each x

for_members_few : (t : Tables) (found : Option Group) (deed : List Mapping → Deed) → ((maps : List Mapping) → NoAdd (deed maps).changes) → AddsOne (for_members t found deed)
for_members_few t None deed each = none_is_few nothing refl
for_members_few t (Some g) deed each = none_is_few (deed (members t g.id)) (each (members t g.id))

make_mapping_few : (m : Mapping) → AddsOne (make_mapping m)
make_mapping_few m = one_is_few (make_mapping m) (AddMapping m) refl

done_few : (grain : GrainSize) (b : Books) (command : Command) → AddsOne (done grain b command)
done_few grain b (Mkvdisk name size unit thin) = one_is_few (done grain b (Mkvdisk name size unit thin)) (AddVolume _) refl
done_few grain b (Rmvdisk volume) = for_one_few Volume (volume_named b.tables volume) remove_volume (λ v. none_is_few (remove_volume v) refl)
done_few grain b (Armfault volume number calls) = for_one_few Volume (volume_named b.tables volume) (λ v. arm v number calls) (λ v. none_is_few (arm v number calls) refl)
done_few grain b (Mkfcmap source target name group copy_rate clean_rate grain_size incremental autodelete) =
    for_one_few Volume (volume_named b.tables source) _ (λ s. for_one_few Volume (volume_named b.tables target) _ (λ t.
    make_mapping_few (new_mapping b s t name group copy_rate clean_rate incremental autodelete)))
done_few grain b (Prestartfcmap m restore) = for_one_few Mapping (mapping_named b.tables m) _ (λ found. none_is_few (prepare restore b.tables (found ∷ [])) (prepare_none restore b.tables (found ∷ [])))
done_few grain b (Startfcmap m prep restore) = for_one_few Mapping (mapping_named b.tables m) _ (λ found. none_is_few (start prep restore b.tables (found ∷ [])) (start_none prep restore b.tables (found ∷ [])))
done_few grain b (Stopfcmap m way) = for_one_few Mapping (mapping_named b.tables m) (stops way b) (λ found. none_is_few (stops way b found) (stops_none way b found))
done_few grain b (Rmfcmap m force) = for_one_few Mapping (mapping_named b.tables m) remove_mapping (λ found. none_is_few (remove_mapping found) refl)
done_few grain b (Mkfcconsistgrp name) = one_is_few (done grain b (Mkfcconsistgrp name)) (AddGroup _) refl
done_few grain b (Prestartfcconsistgrp group restore) = for_members_few b.tables (group_named b.tables group) (prepare restore b.tables) (prepare_none restore b.tables)
done_few grain b (Startfcconsistgrp group prep restore) = for_members_few b.tables (group_named b.tables group) (start prep restore b.tables) (start_none prep restore b.tables)
done_few grain b (Stopfcconsistgrp group way) = for_members_few b.tables (group_named b.tables group) (stop_group way b) (stop_group_none way b)
done_few grain b (Rmfcconsistgrp group force) =
    for_one_few Group (group_named b.tables group) _ (λ g. none_is_few (remove_group b.tables g.id) (none_append (map (λ (m : Mapping). SetMapping (record m { group = None })) (members b.tables g.id)) (RemoveGroup g.id ∷ []) (sets_none (members b.tables g.id)) refl))
done_few grain b command = none_is_few nothing refl

answered_few : (sets : ℕ → List Bool) (grain : GrainSize) (b : Books) (command : Command) (refusal : Option Refusal) (loop : Option (List VolId)) → length (filter adds (answered sets grain b command refusal loop).changes) ≤ 1
answered_few sets grain b command (Some refusal) loop = none_is_few nothing refl
answered_few sets grain b command None (Some volumes) = none_is_few nothing refl
answered_few sets grain b command None None = done_few grain b command

pub settling_adds : (b : Books) → length (filter adds (settle b).changes) ≤ 1
settling_adds b = none_is_few (settling b) (settling_none b)

pub command_adds : (sets : ℕ → List Bool) (grain : GrainSize) (b : Books) (command : Command) (loop : Option (List VolId)) → length (filter adds (decide sets grain b command loop).changes) ≤ 1
command_adds sets grain b command loop = answered_few sets grain b command (refused grain b command) loop

-- ---- ids

-- Ids that come next are below the number of ids.
pub record AreCounted (b : Books) : Type 0 where
  pub volume : b.next_volume < 2 ^ 32
  pub mapping : b.next_mapping < 2 ^ 32
  pub group : b.next_group < 2 ^ 32

record SameNext (b after : Books) : Type 0 where
  pub volume : after.next_volume ≡ b.next_volume
  pub mapping : after.next_mapping ≡ b.next_mapping
  pub group : after.next_group ≡ b.next_group

one_too_many : (X : Type 0) (n : ℕ) → ℕ.suc n ≤ 0 → X
one_too_many X n le = absurd (omega (arith, le))

-- Where nothing comes, the next ids stay.
next_stays : (b : Books) (changes : List Change) → length (filter adds changes) ≤ 0 → SameNext b (fold after_table_change b changes)
next_stays b [] none = record { volume = refl; mapping = refl; group = refl }
next_stays b (AddVolume v ∷ cs) none = one_too_many _ (length (filter adds cs)) none
next_stays b (AddMapping m ∷ cs) none = one_too_many _ (length (filter adds cs)) none
next_stays b (AddGroup g ∷ cs) none = one_too_many _ (length (filter adds cs)) none
next_stays b (RemoveVolume id ∷ cs) none = let r = next_stays (after_table_change b (RemoveVolume id)) cs none in record { volume = r.volume; mapping = r.mapping; group = r.group }
next_stays b (RemoveMapping id ∷ cs) none = let r = next_stays (after_table_change b (RemoveMapping id)) cs none in record { volume = r.volume; mapping = r.mapping; group = r.group }
next_stays b (SetMapping m ∷ cs) none = let r = next_stays (after_table_change b (SetMapping m)) cs none in record { volume = r.volume; mapping = r.mapping; group = r.group }
next_stays b (RemoveGroup id ∷ cs) none = let r = next_stays (after_table_change b (RemoveGroup id)) cs none in record { volume = r.volume; mapping = r.mapping; group = r.group }

none_countable : (changes : List Change) → length (filter adds changes) ≤ 0 → AreCountable changes
none_countable [] none = tt
none_countable (AddVolume v ∷ cs) none = one_too_many _ (length (filter adds cs)) none
none_countable (AddMapping m ∷ cs) none = one_too_many _ (length (filter adds cs)) none
none_countable (AddGroup g ∷ cs) none = one_too_many _ (length (filter adds cs)) none
none_countable (RemoveVolume id ∷ cs) none = (tt, none_countable cs none)
none_countable (RemoveMapping id ∷ cs) none = (tt, none_countable cs none)
none_countable (SetMapping m ∷ cs) none = (tt, none_countable cs none)
none_countable (RemoveGroup id ∷ cs) none = (tt, none_countable cs none)

no_more : (n : ℕ) → ℕ.suc n ≤ 1 → n ≤ 0
no_more n le = omega (arith, le)

-- What comes has an id below those that come next.
pub countable : (b : Books) (changes : List Change) → length (filter adds changes) ≤ 1 → AreCounted (fold after_table_change b changes) → AreCountable changes
countable b [] one counted = tt
countable b (AddVolume v ∷ cs) one counted =
    let none : length (filter adds cs) ≤ 0 = no_more (length (filter adds cs)) one in
    let same : SameNext (after_table_change b (AddVolume v)) (fold after_table_change (after_table_change b (AddVolume v)) cs) = next_stays (after_table_change b (AddVolume v)) cs none in
    (omega (arith, same.volume, counted.volume), none_countable cs none)
countable b (AddMapping m ∷ cs) one counted =
    let none : length (filter adds cs) ≤ 0 = no_more (length (filter adds cs)) one in
    let same : SameNext (after_table_change b (AddMapping m)) (fold after_table_change (after_table_change b (AddMapping m)) cs) = next_stays (after_table_change b (AddMapping m)) cs none in
    (omega (arith, same.mapping, counted.mapping), none_countable cs none)
countable b (AddGroup g ∷ cs) one counted =
    let none : length (filter adds cs) ≤ 0 = no_more (length (filter adds cs)) one in
    let same : SameNext (after_table_change b (AddGroup g)) (fold after_table_change (after_table_change b (AddGroup g)) cs) = next_stays (after_table_change b (AddGroup g)) cs none in
    (omega (arith, same.group, counted.group), none_countable cs none)
countable b (RemoveVolume id ∷ cs) one counted = (tt, countable (after_table_change b (RemoveVolume id)) cs one counted)
countable b (RemoveMapping id ∷ cs) one counted = (tt, countable (after_table_change b (RemoveMapping id)) cs one counted)
countable b (SetMapping m ∷ cs) one counted = (tt, countable (after_table_change b (SetMapping m)) cs one counted)
countable b (RemoveGroup id ∷ cs) one counted = (tt, countable (after_table_change b (RemoveGroup id)) cs one counted)
