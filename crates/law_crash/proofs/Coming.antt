-- A volume that a decision makes has an id that was never given: every deed but that of `mkvdisk` makes none.
use Rattle.std.proofs.Common.{ℕ, ◌≤◌, Bool, true, false, cond, ◌&&◌, List, [], ◌∷◌, ◌++◌, map, filter, length, Option, Some, None, Result, Ok, Err, sym, subst, arith}
use Rattle.fc_base.specs.Counts.{names_below, is_unneeded}
use Rattle.fc_base.specs.States.{next_state}
use Rattle.fc_base.specs.Tables.{Tables, group_named, mapping_named, mapping_with, volume_named}
use Rattle.fc_base.specs.declared.command.Command.{Command}
use Rattle.fc_base.specs.declared.command.Command.TheVariants.{Mkvdisk, Rmvdisk, Armfault, Mkfcmap, Prestartfcmap, Startfcmap, Stopfcmap, Rmfcmap, Mkfcconsistgrp, Prestartfcconsistgrp, Startfcconsistgrp, Stopfcconsistgrp, Rmfcconsistgrp}
use Rattle.fc_base.specs.declared.command.StopWay.{StopWay}
use Rattle.fc_base.specs.declared.command.StopWay.TheVariants.{Plain, Force, Split as SplitOff}
use Rattle.fc_base.specs.declared.decision.LaneEvent.{LaneEvent}
use Rattle.fc_base.specs.declared.decision.LaneEvent.TheVariants.{Make, Access, Retire, Detach, Drop, NoteCut, Work, Forget}
use Rattle.fc_base.specs.declared.fault.Refusal.{Refusal}
use Rattle.fc_base.specs.declared.ids.MapId.{MapId}
use Rattle.fc_base.specs.declared.ids.SlotId.{SlotId}
use Rattle.fc_base.specs.declared.ids.VolId.{VolId}
use Rattle.fc_base.specs.declared.request.Effect.TheVariants.{Cut}
use Rattle.fc_base.specs.declared.size.GrainSize.{GrainSize}
use Rattle.fc_base.specs.declared.state.Access.TheVariants.{Online}
use Rattle.fc_base.specs.declared.state.MapEvent.TheVariants.{Finish}
use Rattle.fc_base.specs.declared.state.MapState.{MapState}
use Rattle.fc_base.specs.declared.state.MapState.TheVariants.{Copying, Prepared, Stopping, Stopped}
use Rattle.fc_base.specs.declared.volume.Change.{Change}
use Rattle.fc_base.specs.declared.volume.Change.TheVariants.{AddVolume, RemoveGroup, SetMapping}
use Rattle.fc_base.specs.declared.volume.Group.{Group}
use Rattle.fc_base.specs.declared.volume.Mapping.{Mapping}
use Rattle.fc_base.specs.declared.volume.Volume.{Volume}
use Rattle.fc_books.specs.Accesses.{is_idle, is_stopped}
use Rattle.fc_books.specs.After.{after_all, after_deed, after_table_change}
use Rattle.fc_books.specs.Books.{Books, Deed, all_deeds, nothing, told, ◌then◌}
use Rattle.fc_books.specs.Copies.{dependents, is_needed, is_whole, kept}
use Rattle.fc_books.specs.Deciding.{answered, decide, done, for_members, for_one, refused, settle}
use Rattle.fc_books.specs.Ending.{as_left, comes_to, cut_of, ends_by, goes_from, leaves_by}
use Rattle.fc_books.specs.Groups.{acts_on, members}
use Rattle.fc_books.specs.Making.{arm, make_mapping, new_mapping, remove_group, remove_mapping, remove_volume}
use Rattle.fc_books.specs.Settling.{drops, finishes, settles_in, settling}
use Rattle.fc_books.specs.Starting.{begins, gives_way, is_superseded, prepare, start, supersedes, triggers}
use Rattle.fc_books.specs.Stopping.{leave_event, one_by_one, stop_dependents, stop_event, stop_group, stops, stops_in, stops_member, stops_with}
use Rattle.fc_books.specs.Work.{changes_work, cleans, copies, work_events}
use Rattle.fc_decided.proofs.Frame.{all_leave, tabled}

-- ---- events and changes that make no volume below an id

abbrev pub IsAbove : ℕ → LaneEvent → Type 0
IsAbove n (Make volume grains kind) = n ≤ volume.0
IsAbove n e = Unit {0}

abbrev pub AreAbove : ℕ → List LaneEvent → Type 0
AreAbove n [] = Unit {0}
AreAbove n (e ∷ es) = IsAbove n e × AreAbove n es

abbrev IsLater : ℕ → Change → Type 0
IsLater n (AddVolume volume) = n ≤ volume.id.0
IsLater n change = Unit {0}

abbrev AreLater : ℕ → List Change → Type 0
AreLater n [] = Unit {0}
AreLater n (c ∷ cs) = IsLater n c × AreLater n cs

above_append : (n : ℕ) (xs ys : List LaneEvent) → AreAbove n xs → AreAbove n ys → AreAbove n (xs ++ ys)
above_append n [] ys first second = second
above_append n (x ∷ xs) ys first second = (first.0, above_append n xs ys first.1 second)

later_append : (n : ℕ) (xs ys : List Change) → AreLater n xs → AreLater n ys → AreLater n (xs ++ ys)
later_append n [] ys first second = second
later_append n (x ∷ xs) ys first second = (first.0, later_append n xs ys first.1 second)

-- the id that comes next never falls
change_later : (n : ℕ) (b : Books) (c : Change) → n ≤ b.next_volume → IsLater n c → n ≤ (after_table_change b c).next_volume
change_later n b (AddVolume volume) le later = omega (arith, later)
change_later n b c le later = le

tabled_later : (n : ℕ) (b : Books) (cs : List Change) → n ≤ b.next_volume → AreLater n cs → n ≤ (tabled b cs).next_volume
tabled_later n b [] le later = le
tabled_later n b (c ∷ cs) le later = tabled_later n (after_table_change b c) cs (change_later n b c le later.0) later.1

pub next_later : (restarts : ℕ → List Bool) (b : Books) (es : List LaneEvent) (cs : List Change) → AreLater b.next_volume cs → b.next_volume ≤ (after_all restarts es cs b).next_volume
next_later restarts b es cs later =
    subst (λ (x : Books). b.next_volume ≤ x.next_volume) (sym (all_leave restarts b es cs)) (tabled_later b.next_volume b cs (omega arith) later)

-- ---- deeds

abbrev Spares : ℕ → Deed → Type 0
Spares n deed = AreAbove n deed.events × AreLater n deed.changes

both : (n : ℕ) (d e : Deed) → Spares n d → Spares n e → Spares n (d then e)
both n d e first second = (above_append n d.events e.events first.0 second.0, later_append n d.changes e.changes first.1 second.1)

all_spare : {X : Type 0} (n : ℕ) (deed : X → Deed) (xs : List X) → ((x : X) → Spares n (deed x)) → Spares n (all_deeds deed xs)
all_spare n deed [] each = (tt, tt)
all_spare n deed (x ∷ xs) each =
    let rest = all_spare n deed xs each in
    let one = each x in
    (above_append n (deed x).events (all_deeds deed xs).events one.0 rest.0, later_append n (deed x).changes (all_deeds deed xs).changes one.1 rest.1)

either : (n : ℕ) (c : Bool) (d e : Deed) → Spares n d → Spares n e → Spares n (cond c d e)
either n true d e first second = first
either n false d e first second = second

ends_spare : (n : ℕ) (next : Result MapState Refusal) (m : Mapping) → Spares n (ends_by next m)
ends_spare n (Ok state) m = either n (m.autodelete && is_idle state) (goes_from state m) (comes_to state m) ((tt, (tt, tt)), (tt, tt)) ((tt, tt), (tt, tt))
ends_spare n (Err refusal) m = (tt, tt)

cut_spares : (n : ℕ) (b : Books) (m : Mapping) → Spares n (cut_of b m)
cut_spares n b m =
    either n (is_whole b m) nothing record { effects = Cut m.target (kept b m) ∷ []; events = NoteCut m.id m.source m.target ∷ []; changes = [] } (tt, tt) ((tt, tt), tt)

leaves_spare : (n : ℕ) (next : Result MapState Refusal) (b : Books) (m : Mapping) → Spares n (leaves_by next b m)
leaves_spare n next b m = both n (cut_of b m) (ends_by next (as_left b m)) (cut_spares n b m) (ends_spare n next (as_left b m))

finishes_spare : (n : ℕ) (next : Result MapState Refusal) (b : Books) (m : Mapping) → Spares n (finishes next b m)
finishes_spare n (Ok state) b m = both n (told (Detach m.id ∷ [])) (leaves_by (Ok state) b m) ((tt, tt), tt) (leaves_spare n (Ok state) b m)
finishes_spare n (Err refusal) b m = (tt, tt)

settles_spare : (n : ℕ) (state : MapState) (b : Books) (m : Mapping) → Spares n (settles_in state b m)
settles_spare n Copying b m = finishes_spare n (next_state Copying Finish (is_whole b m) (is_needed b m)) b m
settles_spare n Stopping b m = ends_spare n (next_state Stopping Finish m.complete (is_needed b m)) m
settles_spare n state b m = (tt, tt)

drop_above : (n : ℕ) (names : List SlotId) → AreAbove n (map (λ slot. Drop slot) names)
drop_above n [] = tt
drop_above n (x ∷ xs) = (tt, drop_above n xs)

settling_spares : (n : ℕ) (b : Books) → Spares n (settling b)
unfolding settling
settling_spares n b =
    let slots = b.sheet.slots in
    both n (drops slots) (all_deeds (λ (m : Mapping). settles_in m.state b m) b.tables.mappings) (drop_above n (names_below slots (is_unneeded slots) (length slots)), tt)
    (all_spare n (λ (m : Mapping). settles_in m.state b m) b.tables.mappings (λ m. settles_spare n m.state b m))

-- stops
stops_with_spares : (n : ℕ) (b : Books) (d : Mapping) → Spares n (stops_with b d)
stops_with_spares n b d = leaves_spare n (Ok Stopped) b d

dependents_spare : (n : ℕ) (way : StopWay) (b : Books) (m : Mapping) → Spares n (stop_dependents way b m)
dependents_spare n Force b m = all_spare n (stops_with b) (dependents b m) (stops_with_spares n b)
dependents_spare n way b m = (tt, tt)

plain_above : (n : ℕ) (c : Bool) (m : MapId) → IsAbove n (cond c (Retire m) (Detach m))
plain_above n true m = tt
plain_above n false m = tt

leave_above : (n : ℕ) (way : StopWay) (b : Books) (m : Mapping) → IsAbove n (leave_event way b m)
leave_above n Plain b m = plain_above n (is_needed b m) m.id
leave_above n SplitOff b m = tt
leave_above n Force b m = tt

stops_in_spare : (n : ℕ) (state : MapState) (way : StopWay) (b : Books) (m : Mapping) → Spares n (stops_in state way b m)
stops_in_spare n Copying way b m =
    let next : Result MapState Refusal = next_state Copying (stop_event way) (is_whole b m) (is_needed b m) in
    both n (told (leave_event way b m ∷ [])) (leaves_by next b m then stop_dependents way b m) ((leave_above n way b m, tt), tt)
    (both n (leaves_by next b m) (stop_dependents way b m) (leaves_spare n next b m) (dependents_spare n way b m))
stops_in_spare n Stopping way b m =
    let next : Result MapState Refusal = next_state Stopping (stop_event way) m.complete (is_needed b m) in
    both n (told (leave_event Force b m ∷ [])) (ends_by next m then stop_dependents Force b m) ((tt, tt), tt)
    (both n (ends_by next m) (stop_dependents Force b m) (ends_spare n next m) (dependents_spare n Force b m))
stops_in_spare n state way b m = ends_spare n (next_state state (stop_event way) m.complete false) m

stops_spare : (n : ℕ) (way : StopWay) (b : Books) (m : Mapping) → Spares n (stops way b m)
unfolding stops
stops_spare n way b m = stops_in_spare n m.state way b m

member_spares : (n : ℕ) (way : StopWay) (b : Books) (found : Option Mapping) → Spares n (stops_member way b found)
member_spares n way b None = (tt, tt)
member_spares n way b (Some m) = either n (acts_on way m.state) (stops way b m) nothing (stops_spare n way b m) (tt, tt)

each_spares : (n : ℕ) (deed : Books → MapId → Deed) → ((b : Books) (id : MapId) → Spares n (deed b id)) → (b : Books) (ids : List MapId) → Spares n (one_by_one (λ m. []) deed b ids)
each_spares n deed each b [] = (tt, tt)
each_spares n deed each b (id ∷ ids) =
    let after : Books = after_deed (λ m. []) b (deed b id) in
    both n (deed b id) (one_by_one (λ m. []) deed after ids) (each b id) (each_spares n deed each after ids)

group_spares : (n : ℕ) (way : StopWay) (b : Books) (maps : List Mapping) → Spares n (stop_group way b maps)
group_spares n way b maps =
    each_spares n (λ books id. stops_member way books (mapping_with books.tables id)) (λ books id. member_spares n way books (mapping_with books.tables id)) b (map (λ (m : Mapping). m.id) maps)

-- starts
supersedes_spare : (n : ℕ) (t : Tables) (maps : List Mapping) → Spares n (supersedes t maps)
supersedes_spare n t maps = all_spare n gives_way (filter (is_superseded maps) t.mappings) (λ s. (tt, (tt, tt)))

begins_spare : (n : ℕ) (state : MapState) (restore : Bool) (maps : List Mapping) → Spares n (all_deeds (begins state restore) maps)
begins_spare n state restore maps = all_spare n (begins state restore) maps (λ m. ((tt, tt), (tt, tt)))

prepare_spares : (n : ℕ) (restore : Bool) (t : Tables) (maps : List Mapping) → Spares n (prepare restore t maps)
prepare_spares n restore t maps = both n (supersedes t maps) (all_deeds (begins Prepared restore) maps) (supersedes_spare n t maps) (begins_spare n Prepared restore maps)

start_spares : (n : ℕ) (prep restore : Bool) (t : Tables) (maps : List Mapping) → Spares n (start prep restore t maps)
start_spares n prep restore t maps =
    both n (cond prep (supersedes t maps) nothing) (triggers maps then all_deeds (begins Copying restore) maps)
    (either n prep (supersedes t maps) nothing (supersedes_spare n t maps) (tt, tt))
    (both n (triggers maps) (all_deeds (begins Copying restore) maps) ((tt, tt), tt) (begins_spare n Copying restore maps))

-- removals
online_above : (n : ℕ) (c : Bool) (v : VolId) (m : MapId) → AreAbove n (cond c (Access v Online ∷ []) [] ++ Forget m ∷ [])
online_above n true v m = (tt, (tt, tt))
online_above n false v m = (tt, tt)

removal_spares : (n : ℕ) (m : Mapping) → Spares n (remove_mapping m)
removal_spares n m = (online_above n (is_stopped m.state) m.target m.id, (tt, tt))

sets_later : (n : ℕ) (maps : List Mapping) → AreLater n (map (λ (m : Mapping). SetMapping (record m { group = None })) maps)
sets_later n [] = tt
sets_later n (m ∷ ms) = (tt, sets_later n ms)

remove_group_spares : (n : ℕ) (t : Tables) (g : Group) → Spares n (remove_group t g.id)
remove_group_spares n t g =
    (tt, later_append n (map (λ (m : Mapping). SetMapping (record m { group = None })) (members t g.id)) (RemoveGroup g.id ∷ []) (sets_later n (members t g.id)) (tt, tt))

-- ---- decisions

one_spares : {X : Type 0} (n : ℕ) (found : Option X) (deed : X → Deed) → ((x : X) → Spares n (deed x)) → Spares n (for_one found deed)
one_spares n None deed each = (tt, tt)
one_spares n (Some x) deed each = each x

members_spare : (n : ℕ) (t : Tables) (found : Option Group) (deed : List Mapping → Deed) → ((maps : List Mapping) → Spares n (deed maps)) → Spares n (for_members t found deed)
members_spare n t None deed each = (tt, tt)
members_spare n t (Some g) deed each = each (members t g.id)

done_spares : (grain : GrainSize) (b : Books) (command : Command) → Spares b.next_volume (done grain b command)
done_spares grain b (Mkvdisk name size unit thin) = ((omega arith, tt), (omega arith, tt))
done_spares grain b (Rmvdisk volume) = one_spares b.next_volume (volume_named b.tables volume) remove_volume (λ v. ((tt, tt), (tt, tt)))
done_spares grain b (Armfault volume number calls) = one_spares b.next_volume (volume_named b.tables volume) (λ v. arm v number calls) (λ v. ((tt, tt), tt))
done_spares grain b (Mkfcmap source target name group copy_rate clean_rate grain_size incremental autodelete) =
    let made : Volume → Volume → Deed = λ s t. make_mapping (new_mapping b s t name group copy_rate clean_rate incremental autodelete) in
    one_spares b.next_volume (volume_named b.tables source) (λ s. for_one (volume_named b.tables target) (made s)) (λ s. one_spares b.next_volume (volume_named b.tables target) (made s) (λ t. (tt, (tt, tt))))
done_spares grain b (Prestartfcmap m restore) = one_spares b.next_volume (mapping_named b.tables m) (λ found. prepare restore b.tables (found ∷ [])) (λ found. prepare_spares b.next_volume restore b.tables (found ∷ []))
done_spares grain b (Startfcmap m prep restore) = one_spares b.next_volume (mapping_named b.tables m) (λ found. start prep restore b.tables (found ∷ [])) (λ found. start_spares b.next_volume prep restore b.tables (found ∷ []))
done_spares grain b (Stopfcmap m way) = one_spares b.next_volume (mapping_named b.tables m) (stops way b) (stops_spare b.next_volume way b)
done_spares grain b (Rmfcmap m force) = one_spares b.next_volume (mapping_named b.tables m) remove_mapping (removal_spares b.next_volume)
done_spares grain b (Mkfcconsistgrp name) = (tt, (tt, tt))
done_spares grain b (Prestartfcconsistgrp group restore) = members_spare b.next_volume b.tables (group_named b.tables group) (prepare restore b.tables) (prepare_spares b.next_volume restore b.tables)
done_spares grain b (Startfcconsistgrp group prep restore) = members_spare b.next_volume b.tables (group_named b.tables group) (start prep restore b.tables) (start_spares b.next_volume prep restore b.tables)
done_spares grain b (Stopfcconsistgrp group way) = members_spare b.next_volume b.tables (group_named b.tables group) (stop_group way b) (group_spares b.next_volume way b)
done_spares grain b (Rmfcconsistgrp group force) = one_spares b.next_volume (group_named b.tables group) (λ (g : Group). remove_group b.tables g.id) (λ (g : Group). remove_group_spares b.next_volume b.tables g)
done_spares grain b command = (tt, tt)

works_above : (n : ℕ) (b : Books) (ms : List Mapping) → AreAbove n (map (λ m. Work m.id (copies b m) (cleans b m)) ms)
works_above n b [] = tt
works_above n b (m ∷ ms) = (tt, works_above n b ms)

work_above : (n : ℕ) (b : Books) → AreAbove n (work_events b)
unfolding work_events
work_above n b = works_above n b (filter (changes_work b) b.tables.mappings)

-- the events and changes of a decision make volumes of new ids alone
abbrev pub MakesNew : ℕ → List LaneEvent → List Change → Type 0
MakesNew n events changes = AreAbove n events × AreLater n changes

answered_new : (sets : ℕ → List Bool) (grain : GrainSize) (b : Books) (command : Command) (refusal : Option Refusal) (loop : Option (List VolId)) →
    MakesNew b.next_volume (answered sets grain b command refusal loop).events (answered sets grain b command refusal loop).changes
answered_new sets grain b command (Some refusal) loop = (work_above b.next_volume (after_deed sets b nothing), tt)
answered_new sets grain b command None (Some volumes) = (work_above b.next_volume (after_deed sets b nothing), tt)
answered_new sets grain b command None None =
    let deed : Deed = done grain b command in
    let one = done_spares grain b command in
    (above_append b.next_volume deed.events (work_events (after_deed sets b deed)) one.0 (work_above b.next_volume (after_deed sets b deed)), one.1)

pub settle_above : (n : ℕ) (b : Books) → AreAbove n (settle b).events
settle_above n b = (settling_spares n b).0

pub settle_new : (b : Books) → MakesNew b.next_volume (settle b).events (settle b).changes
settle_new b = settling_spares b.next_volume b

pub decide_new : (sets : ℕ → List Bool) (grain : GrainSize) (b : Books) (command : Command) (loop : Option (List VolId)) → MakesNew b.next_volume (decide sets grain b command loop).events (decide sets grain b command loop).changes
decide_new sets grain b command loop = answered_new sets grain b command (refused grain b command) loop
