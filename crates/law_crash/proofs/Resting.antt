-- A deed that has no effect and changes no table tells lanes of nothing that changes chains or rows.
use Rattle.std.proofs.Common.{◌≡◌, ℕ, Bool, true, false, cond, if◌then◌else◌, ◌&&◌, List, [], ◌∷◌, ◌++◌, map, filter, Option, Some, None, Result, Ok, Err, refl, sym, subst, ◌∙◌}
use Rattle.fc_base.specs.States.{next_state}
use Rattle.fc_base.specs.Tables.{Tables, group_named, mapping_named, mapping_with, volume_named}
use Rattle.fc_base.specs.declared.command.Command.{Command}
use Rattle.fc_base.specs.declared.command.Command.TheVariants.{Mkvdisk, Rmvdisk, Armfault, Mkfcmap, Prestartfcmap, Startfcmap, Stopfcmap, Rmfcmap, Mkfcconsistgrp, Prestartfcconsistgrp, Startfcconsistgrp, Stopfcconsistgrp, Rmfcconsistgrp}
use Rattle.fc_base.specs.declared.command.StopWay.{StopWay}
use Rattle.fc_base.specs.declared.command.StopWay.TheVariants.{Plain, Force, Split as SplitOff}
use Rattle.fc_base.specs.declared.decision.LaneEvent.{LaneEvent}
use Rattle.fc_base.specs.declared.decision.LaneEvent.TheVariants.{Access, Arm, Detach, NoteCut, Work}
use Rattle.fc_base.specs.declared.fault.Kind.TheVariants.{Fcmap}
use Rattle.fc_base.specs.declared.fault.Refusal.{Refusal}
use Rattle.fc_base.specs.declared.fault.Refusal.TheVariants.{NotAllowed}
use Rattle.fc_base.specs.declared.ids.MapId.{MapId}
use Rattle.fc_base.specs.declared.ids.VolId.{VolId}
use Rattle.fc_base.specs.declared.request.Effect.{Effect}
use Rattle.fc_base.specs.declared.request.Effect.TheVariants.{Cut, Gone, State, Trigger as Triggered}
use Rattle.fc_base.specs.declared.size.GrainSize.{GrainSize}
use Rattle.fc_base.specs.declared.state.MapEvent.TheVariants.{Finish, StopSplit}
use Rattle.fc_base.specs.declared.state.MapState.{MapState}
use Rattle.fc_base.specs.declared.state.MapState.TheVariants.{Copying, IdleOrCopied, Prepared, Stopping, Stopped}
use Rattle.fc_base.specs.declared.volume.Change.{Change}
use Rattle.fc_base.specs.declared.volume.Change.TheVariants.{AddGroup, AddMapping, AddVolume, RemoveGroup, RemoveMapping, RemoveVolume, SetMapping}
use Rattle.fc_base.specs.declared.volume.Group.{Group}
use Rattle.fc_base.specs.declared.volume.Mapping.{Mapping}
use Rattle.fc_base.specs.declared.volume.Volume.{Volume}
use Rattle.fc_books.specs.Accesses.{is_idle}
use Rattle.fc_books.specs.After.{after_deed}
use Rattle.fc_books.specs.Books.{Books, Deed, all_deeds, nothing, told, ◌then◌}
use Rattle.fc_books.specs.Copies.{is_needed, is_whole, kept}
use Rattle.fc_books.specs.Deciding.{answered, decide, done, for_members, for_one, refused, settle}
use Rattle.fc_books.specs.Ending.{as_left, comes_to, cut_of, ends_by, ends_in, goes_from, leaves_by}
use Rattle.fc_books.specs.Groups.{acts_on, members}
use Rattle.fc_books.specs.Making.{arm, make_mapping, new_group, new_mapping, new_volume, remove_group, remove_mapping, remove_volume}
use Rattle.fc_books.specs.Refused.{of_one, refused_by}
use Rattle.fc_books.specs.RefusedStarts.{by_state, in_group, not_complete}
use Rattle.fc_books.specs.Settling.{finishes, settles_in, settling}
use Rattle.fc_books.specs.Starting.{begins, gives_way, is_superseded, pair_of, prepare, start, supersedes, triggers}
use Rattle.fc_books.specs.Stopping.{leave_event, one_by_one, stop_dependents, stop_event, stop_group, stops, stops_in, stops_member}
use Rattle.fc_books.specs.Work.{changes_work, cleans, copies, work_events}
use Rattle.fc_decided.proofs.Dropping.{drop_events, unneeded_names}
use Rattle.fc_entry.specs.Refused.{first_of}

-- ---- events that change neither chains nor rows

abbrev pub IsStill : LaneEvent → Type 0
IsStill (Access volume access) = Unit {0}
IsStill (Work m copies cleans) = Unit {0}
IsStill (Arm volume grain calls) = Unit {0}
IsStill e = ⊥

-- each of a list
abbrev pub Each : {X : Type 0} → (X → Type 0) → List X → Type 0
Each P [] = Unit {0}
Each P (x ∷ xs) = P x × Each P xs

abbrev pub AreStill : List LaneEvent → Type 0
AreStill es = Each IsStill es

pub each_append : {X : Type 0} (P : X → Type 0) (xs ys : List X) → Each P xs → Each P ys → Each P (xs ++ ys)
each_append P [] ys first second = second
each_append P (x ∷ xs) ys first second = (first.0, each_append P xs ys first.1 second)

-- ---- deeds

abbrev HasNone : Deed → Type 0
HasNone d = (d.effects ≡ []) × (d.changes ≡ [])

-- it tells of such events alone, if it has no effect; and it has one
abbrev Rests : Deed → Type 0
Rests d = HasNone d → AreStill d.events

abbrev Acts : Deed → Type 0
Acts d = HasNone d → ⊥

append_none : {X : Type 0} (xs ys : List X) → xs ++ ys ≡ [] → (xs ≡ []) × (ys ≡ [])
append_none [] ys e = (refl, e)
append_none {X} (x ∷ xs) ys e = absurd (let f : x ∷ (xs ++ ys) ≡ [] = e in cc)

parts : (d e : Deed) → HasNone (d then e) → HasNone d × HasNone e
parts d e none =
    let f = append_none d.effects e.effects none.0 in
    let c = append_none d.changes e.changes none.1 in
    ((f.0, c.0), (f.1, c.1))

both_rest : (d e : Deed) → Rests d → Rests e → Rests (d then e)
both_rest d e first second none = let p = parts d e none in each_append IsStill d.events e.events (first p.0) (second p.1)

all_rest : {X : Type 0} (deed : X → Deed) (xs : List X) → ((x : X) → Rests (deed x)) → Rests (all_deeds deed xs)
all_rest deed [] each none = tt
all_rest deed (x ∷ xs) each none = both_rest (deed x) (all_deeds deed xs) (each x) (all_rest deed xs each) none

acts_rest : (d : Deed) → Acts d → Rests d
acts_rest d acts none = absurd (acts none)

first_acts : (d e : Deed) → Acts d → Acts (d then e)
first_acts d e acts none = acts (parts d e none).0

second_acts : (d e : Deed) → Acts e → Acts (d then e)
second_acts d e acts none = acts (parts d e none).1

either_acts : (c : Bool) (d e : Deed) → Acts d → Acts e → Acts (cond c d e)
either_acts true d e first second = first
either_acts false d e first second = second

either_rest : (c : Bool) (d e : Deed) → Rests d → Rests e → Rests (cond c d e)
either_rest true d e first second = first
either_rest false d e first second = second

effect_acts : (d : Deed) (x : Effect) (xs : List Effect) → d.effects ≡ x ∷ xs → Acts d
effect_acts d x xs e none = let f : x ∷ xs ≡ [] = sym e ∙ none.0 in cc

change_acts : (d : Deed) (x : Change) (xs : List Change) → d.changes ≡ x ∷ xs → Acts d
change_acts d x xs e none = let f : x ∷ xs ≡ [] = sym e ∙ none.1 in cc

-- ---- a mapping ends

comes_acts : (state : MapState) (m : Mapping) → Acts (comes_to state m)
comes_acts state m = effect_acts (comes_to state m) (State m.id state) [] refl

ends_acts : (state : MapState) (m : Mapping) → Acts (ends_in state m)
ends_acts state m =
    either_acts (m.autodelete && is_idle state) (goes_from state m) (comes_to state m) (effect_acts (goes_from state m) (State m.id state) (Gone m.id ∷ []) refl) (comes_acts state m)

ends_rest : (next : Result MapState Refusal) (m : Mapping) → Rests (ends_by next m)
ends_rest (Ok state) m = acts_rest (ends_in state m) (ends_acts state m)
ends_rest (Err refusal) m = λ none. tt

leaves_acts : (state : MapState) (b : Books) (m : Mapping) → Acts (leaves_by (Ok state) b m)
leaves_acts state b m = second_acts (cut_of b m) (ends_in state (as_left b m)) (ends_acts state (as_left b m))

finishes_rest : (next : Result MapState Refusal) (b : Books) (m : Mapping) → Rests (finishes next b m)
finishes_rest (Ok state) b m =
    let both : Deed = told (Detach m.id ∷ []) then leaves_by (Ok state) b m in
    acts_rest both (second_acts (told (Detach m.id ∷ [])) (leaves_by (Ok state) b m) (leaves_acts state b m))
finishes_rest (Err refusal) b m = λ none. tt

settles_rest : (state : MapState) (b : Books) (m : Mapping) → Rests (settles_in state b m)
settles_rest Copying b m = finishes_rest (next_state Copying Finish (is_whole b m) (is_needed b m)) b m
settles_rest Stopping b m = ends_rest (next_state Stopping Finish m.complete (is_needed b m)) m
settles_rest state b m = λ none. tt

-- a settling without effect only drops slots
pub settle_rests : (b : Books) → (settle b).effects ≡ [] → (settle b).changes ≡ [] →
    (more : List LaneEvent) × AreStill more × ((settle b).events ≡ drop_events (unneeded_names b.sheet.slots) ++ more)
unfolding settling
settle_rests b effects changes =
    let more : Deed = all_deeds (λ (m : Mapping). settles_in m.state b m) b.tables.mappings in
    (more.events, all_rest (λ (m : Mapping). settles_in m.state b m) b.tables.mappings (λ m. settles_rest m.state b m) (effects, changes), refl)

-- ---- stops, where they aren't refused

abbrev MayStop : MapState → StopWay → Type 0
MayStop Stopping Plain = ⊥
MayStop Stopping SplitOff = ⊥
MayStop state way = Unit {0}

-- an incomplete copy is cut, and a complete one goes
split_acts : (b : Books) (m : Mapping) (whole : Bool) → is_whole b m ≡ whole → Acts (leaves_by (next_state Copying StopSplit whole (is_needed b m)) b m)
split_acts b m true e = leaves_acts IdleOrCopied b m
split_acts b m false e =
    let cut : Deed = record { effects = Cut m.target (kept b m) ∷ []; events = NoteCut m.id m.source m.target ∷ []; changes = [] } in
    first_acts (cut_of b m) nothing (subst (λ (c : Bool). Acts (cond c nothing cut)) (sym e) (effect_acts cut (Cut m.target (kept b m)) [] refl))

leaves_either : (c : Bool) (first second : MapState) (b : Books) (m : Mapping) → Acts (leaves_by (if c then Ok first else Ok second) b m)
leaves_either true first second b m = leaves_acts first b m
leaves_either false first second b m = leaves_acts second b m

ends_either : (c : Bool) (first second : MapState) (m : Mapping) → Acts (ends_by (if c then Ok first else Ok second) m)
ends_either true first second m = ends_acts first m
ends_either false first second m = ends_acts second m

copying_leaves : (way : StopWay) (b : Books) (m : Mapping) → Acts (leaves_by (next_state Copying (stop_event way) (is_whole b m) (is_needed b m)) b m)
copying_leaves Plain b m = leaves_either (is_needed b m) Stopping Stopped b m
copying_leaves Force b m = leaves_either (is_whole b m) IdleOrCopied Stopped b m
copying_leaves SplitOff b m = split_acts b m (is_whole b m) refl

stops_in_rest : (state : MapState) (way : StopWay) (b : Books) (m : Mapping) → MayStop state way → Rests (stops_in state way b m)
stops_in_rest Copying way b m may =
    let leaves : Deed = leaves_by (next_state Copying (stop_event way) (is_whole b m) (is_needed b m)) b m in
    let others : Deed = stop_dependents way b m in
    acts_rest (stops_in Copying way b m) (second_acts (told (leave_event way b m ∷ [])) (leaves then others) (first_acts leaves others (copying_leaves way b m)))
stops_in_rest Stopping Force b m may =
    let ends : Deed = ends_by (next_state Stopping (stop_event Force) m.complete (is_needed b m)) m in
    let others : Deed = stop_dependents Force b m in
    acts_rest (stops_in Stopping Force b m) (second_acts (told (leave_event Force b m ∷ [])) (ends then others) (first_acts ends others (ends_either m.complete IdleOrCopied Stopped m)))
stops_in_rest Stopping way b m may = absurd may
stops_in_rest state way b m may = ends_rest (next_state state (stop_event way) m.complete false) m

stops_rest : (way : StopWay) (b : Books) (m : Mapping) → MayStop m.state way → Rests (stops way b m)
unfolding stops
stops_rest way b m may = stops_in_rest m.state way b m may

may_by_state : (state : MapState) (way : StopWay) → refused_by (next_state state (stop_event way) true false) ≡ None → MayStop state way
may_by_state Stopping Plain e = let f : Some (NotAllowed Stopping) ≡ None = e in cc
may_by_state Stopping SplitOff e = let f : Some (NotAllowed Stopping) ≡ None = e in cc
may_by_state state way e = tt

may_by_acts : (state : MapState) (way : StopWay) → acts_on way state ≡ true → MayStop state way
may_by_acts Stopping Plain e = let f : false ≡ true = e in cc
may_by_acts Stopping SplitOff e = let f : false ≡ true = e in cc
may_by_acts state way e = tt

member_rests : (way : StopWay) (b : Books) (found : Option Mapping) → Rests (stops_member way b found)
member_rests way b None = λ none. tt
member_rests way b (Some m) = by (acts_on way m.state) refl
  where
    by : (c : Bool) → acts_on way m.state ≡ c → Rests (cond c (stops way b m) nothing)
    by true e = stops_rest way b m (may_by_acts m.state way e)
    by false e = λ none. tt

each_rests : (deed : Books → MapId → Deed) → ((b : Books) (id : MapId) → Rests (deed b id)) → (b : Books) (ids : List MapId) → Rests (one_by_one (λ m. []) deed b ids)
each_rests deed each b [] = λ none. tt
each_rests deed each b (id ∷ ids) =
    let after : Books = after_deed (λ m. []) b (deed b id) in
    both_rest (deed b id) (one_by_one (λ m. []) deed after ids) (each b id) (each_rests deed each after ids)

group_rests : (way : StopWay) (b : Books) (maps : List Mapping) → Rests (stop_group way b maps)
group_rests way b maps =
    each_rests (λ books id. stops_member way books (mapping_with books.tables id)) (λ books id. member_rests way books (mapping_with books.tables id)) b (map (λ (m : Mapping). m.id) maps)

second_none : (o p : Option Refusal) (rest : List (Option Refusal)) → first_of (o ∷ p ∷ rest) ≡ None → p ≡ None
second_none None None rest e = refl
second_none None (Some refusal) rest e = e
second_none (Some refusal) p rest e = absurd (let f : Some refusal ≡ None = e in cc)

stop_rests : (way : StopWay) (b : Books) (found : Option Mapping) → of_one Fcmap found (λ m. first_of (in_group m ∷ by_state (stop_event way) m ∷ not_complete way b m ∷ [])) ≡ None → Rests (for_one found (stops way b))
stop_rests way b None e = λ none. tt
stop_rests way b (Some m) e = stops_rest way b m (may_by_state m.state way (second_none (in_group m) (by_state (stop_event way) m) (not_complete way b m ∷ []) e))

-- ---- starts

supersedes_rest : (t : Tables) (maps : List Mapping) → Rests (supersedes t maps)
supersedes_rest t maps = all_rest gives_way (filter (is_superseded maps) t.mappings) (λ s. acts_rest (gives_way s) (effect_acts (gives_way s) (State s.id IdleOrCopied) [] refl))

begins_rest : (state : MapState) (restore : Bool) (maps : List Mapping) → Rests (all_deeds (begins state restore) maps)
begins_rest state restore maps = all_rest (begins state restore) maps (λ m. acts_rest (begins state restore m) (comes_acts state (record m { restoring = restore })))

prepare_rests : (restore : Bool) (t : Tables) (maps : List Mapping) → Rests (prepare restore t maps)
prepare_rests restore t maps = both_rest (supersedes t maps) (all_deeds (begins Prepared restore) maps) (supersedes_rest t maps) (begins_rest Prepared restore maps)

start_rests : (prep restore : Bool) (t : Tables) (maps : List Mapping) → Rests (start prep restore t maps)
start_rests prep restore t maps =
    let first : Deed = cond prep (supersedes t maps) nothing in
    let more : Deed = all_deeds (begins Copying restore) maps in
    acts_rest (first then (triggers maps then more)) (second_acts first (triggers maps then more) (first_acts (triggers maps) more (effect_acts (triggers maps) (Triggered (map pair_of maps)) [] refl)))

-- ---- decisions

one_rests : {X : Type 0} (found : Option X) (deed : X → Deed) → ((x : X) → Rests (deed x)) → Rests (for_one found deed)
one_rests None deed each = λ none. tt
one_rests (Some x) deed each = each x

members_rest : (t : Tables) (found : Option Group) (deed : List Mapping → Deed) → ((maps : List Mapping) → Rests (deed maps)) → Rests (for_members t found deed)
members_rest t None deed each = λ none. tt
members_rest t (Some g) deed each = each (members t g.id)

changed_rests : (d : Deed) (x : Change) → d.changes ≡ x ∷ [] → Rests d
changed_rests d x e = acts_rest d (change_acts d x [] e)

group_goes : (t : Tables) (g : Group) → Rests (remove_group t g.id)
group_goes t g none =
    absurd (let f : RemoveGroup g.id ∷ [] ≡ [] = (append_none (map (λ (m : Mapping). SetMapping (record m { group = None })) (members t g.id)) (RemoveGroup g.id ∷ []) none.1).1 in cc)

done_rests : (grain : GrainSize) (b : Books) (command : Command) → refused grain b command ≡ None → Rests (done grain b command)
done_rests grain b (Mkvdisk name size unit thin) e = changed_rests (done grain b (Mkvdisk name size unit thin)) (AddVolume (new_volume grain b name size unit thin)) refl
done_rests grain b (Rmvdisk volume) e = one_rests (volume_named b.tables volume) remove_volume (λ (v : Volume). changed_rests (remove_volume v) (RemoveVolume v.id) refl)
done_rests grain b (Armfault volume number calls) e = one_rests (volume_named b.tables volume) (λ v. arm v number calls) (λ v none. (tt, tt))
done_rests grain b (Mkfcmap source target name group copy_rate clean_rate grain_size incremental autodelete) e =
    let made : Volume → Volume → Deed = λ s t. make_mapping (new_mapping b s t name group copy_rate clean_rate incremental autodelete) in
    one_rests (volume_named b.tables source) (λ s. for_one (volume_named b.tables target) (made s))
    (λ s. one_rests (volume_named b.tables target) (made s) (λ t. changed_rests (made s t) (AddMapping (new_mapping b s t name group copy_rate clean_rate incremental autodelete)) refl))
done_rests grain b (Prestartfcmap m restore) e = one_rests (mapping_named b.tables m) (λ found. prepare restore b.tables (found ∷ [])) (λ found. prepare_rests restore b.tables (found ∷ []))
done_rests grain b (Startfcmap m prep restore) e = one_rests (mapping_named b.tables m) (λ found. start prep restore b.tables (found ∷ [])) (λ found. start_rests prep restore b.tables (found ∷ []))
done_rests grain b (Stopfcmap m way) e = stop_rests way b (mapping_named b.tables m) e
done_rests grain b (Rmfcmap m force) e = one_rests (mapping_named b.tables m) remove_mapping (λ (x : Mapping). changed_rests (remove_mapping x) (RemoveMapping x.id) refl)
done_rests grain b (Mkfcconsistgrp name) e = changed_rests (done grain b (Mkfcconsistgrp name)) (AddGroup (new_group b name)) refl
done_rests grain b (Prestartfcconsistgrp group restore) e = members_rest b.tables (group_named b.tables group) (prepare restore b.tables) (prepare_rests restore b.tables)
done_rests grain b (Startfcconsistgrp group prep restore) e = members_rest b.tables (group_named b.tables group) (start prep restore b.tables) (start_rests prep restore b.tables)
done_rests grain b (Stopfcconsistgrp group way) e = members_rest b.tables (group_named b.tables group) (stop_group way b) (group_rests way b)
done_rests grain b (Rmfcconsistgrp group force) e = one_rests (group_named b.tables group) (λ (g : Group). remove_group b.tables g.id) (λ (g : Group). group_goes b.tables g)
done_rests grain b command e = λ none. tt

works_still : (b : Books) (ms : List Mapping) → AreStill (map (λ m. Work m.id (copies b m) (cleans b m)) ms)
works_still b [] = tt
works_still b (m ∷ ms) = (tt, works_still b ms)

pub work_still : (b : Books) → AreStill (work_events b)
unfolding work_events
work_still b = works_still b (filter (changes_work b) b.tables.mappings)

answered_rests : (sets : ℕ → List Bool) (grain : GrainSize) (b : Books) (command : Command) (refusal : Option Refusal) (loop : Option (List VolId)) → refused grain b command ≡ refusal →
    (answered sets grain b command refusal loop).effects ≡ [] → (answered sets grain b command refusal loop).changes ≡ [] → AreStill (answered sets grain b command refusal loop).events
answered_rests sets grain b command (Some refusal) loop e effects changes = work_still (after_deed sets b nothing)
answered_rests sets grain b command None (Some volumes) e effects changes = work_still (after_deed sets b nothing)
answered_rests sets grain b command None None e effects changes =
    let deed : Deed = done grain b command in
    each_append IsStill deed.events (work_events (after_deed sets b deed)) (done_rests grain b command e (effects, changes)) (work_still (after_deed sets b deed))

-- so does a decision without effect
pub decide_rests : (sets : ℕ → List Bool) (grain : GrainSize) (b : Books) (command : Command) (loop : Option (List VolId)) →
    (decide sets grain b command loop).effects ≡ [] → (decide sets grain b command loop).changes ≡ [] → AreStill (decide sets grain b command loop).events
decide_rests sets grain b command loop effects changes = answered_rests sets grain b command (refused grain b command) loop refl effects changes
