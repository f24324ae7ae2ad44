-- The changes of every deed but those of `mkvdisk` and `rmvdisk` make and remove no volume.
use Rattle.std.proofs.Common.{◌≡◌, ℕ, Bool, true, false, cond, ◌&&◌, List, [], ◌∷◌, map, filter, Option, Some, None, Result, Ok, Err, true≢false}
use Rattle.fc_base.specs.Tables.{Tables, volume_named, mapping_named, group_named, mapping_with}
use Rattle.fc_base.specs.declared.command.Command.{Command}
use Rattle.fc_base.specs.declared.command.Command.TheVariants.{Mkvdisk, Rmvdisk, Write, Read, Armfault, Advance, Mkfcmap, Prestartfcmap, Startfcmap, Stopfcmap, Rmfcmap, Mkfcconsistgrp, Prestartfcconsistgrp, Startfcconsistgrp, Stopfcconsistgrp, Rmfcconsistgrp, Lsfcmap, Lsfcconsistgrp, Lsvdisk, Lsfcmapprogress, Lsfcmapdependentmaps, Mkpreset, Lsvdiskroom}
use Rattle.fc_base.specs.declared.command.StopWay.{StopWay}
use Rattle.fc_base.specs.declared.command.StopWay.TheVariants.{Plain, Force, Split}
use Rattle.fc_base.specs.declared.decision.LaneEvent.TheVariants.{Detach}
use Rattle.fc_base.specs.declared.fault.Refusal.{Refusal}
use Rattle.fc_base.specs.declared.ids.MapId.{MapId}
use Rattle.fc_base.specs.declared.ids.VolId.{VolId}
use Rattle.fc_base.specs.declared.size.GrainSize.{GrainSize}
use Rattle.fc_base.specs.declared.state.MapEvent.TheVariants.{Finish}
use Rattle.fc_base.specs.declared.state.MapState.{MapState}
use Rattle.fc_base.specs.declared.state.MapState.TheVariants.{Empty, IdleOrCopied, Preparing, Prepared, Copying, Stopping, Stopped}
use Rattle.fc_base.specs.declared.volume.Group.{Group}
use Rattle.fc_base.specs.declared.volume.Mapping.{Mapping}
use Rattle.fc_base.specs.States.{next_state}
use Rattle.fc_books.specs.Accesses.{is_idle}
use Rattle.fc_books.specs.After.{after_deed}
use Rattle.fc_books.specs.Books.{Books, Deed, nothing, told, ◌then◌, all_deeds}
use Rattle.fc_books.specs.Copies.{is_whole, is_needed, dependents}
use Rattle.fc_books.specs.Deciding.{answered, refused, done, settle, decide, for_one, for_members}
use Rattle.fc_books.specs.Ending.{goes_from, comes_to, ends_in, ends_by, as_left, cut_of, leaves_by}
use Rattle.fc_books.specs.Groups.{members, acts_on}
use Rattle.fc_books.specs.Making.{arm, new_mapping, make_mapping, remove_mapping, remove_group}
use Rattle.fc_books.specs.Settling.{drops, finishes, settles_in, settling}
use Rattle.fc_books.specs.Starting.{is_superseded, gives_way, supersedes, begins, prepare, triggers, start}
use Rattle.fc_books.specs.Stopping.{stop_event, leave_event, stops_with, stop_dependents, stops_in, stops, stops_member, one_by_one, stop_group}
use Rattle.fc_legal.proofs.Each.{each_append}
use Rattle.law_volumes.specs.Law.{is_of_volumes, KeepsVolumes}
use Rattle.law_volumes.proofs.Changes.{IsApart, AreApart, flat_map_apart, map_apart, volumes_keep}

-- The changes of a deed.
pub record Spares (deed : Deed) : Type 0 where
  pub apart : AreApart deed.changes

-- ---- deeds in general

nothing_spares : Spares nothing
nothing_spares = record { apart = tt }

then_spares : (first second : Deed) → Spares first → Spares second → Spares (first then second)
then_spares first second one two = record { apart = each_append IsApart first.changes second.changes one.apart two.apart }

all_spare : {X : Type 0} (deed : X → Deed) (xs : List X) → ((x : X) → Spares (deed x)) → Spares (all_deeds deed xs)
all_spare deed xs each = record { apart = flat_map_apart (λ x. (deed x).changes) xs (λ x. (each x).apart) }

cond_spares : (b : Bool) (first second : Deed) → Spares first → Spares second → Spares (cond b first second)
cond_spares true first second one two = one
cond_spares false first second one two = two

for_one_spares : {X : Type 0} (found : Option X) (deed : X → Deed) → ((x : X) → Spares (deed x)) → Spares (for_one found deed)
for_one_spares None deed each = nothing_spares
for_one_spares (Some x) deed each = each x

for_members_spares : (t : Tables) (found : Option Group) (deed : List Mapping → Deed) → ((maps : List Mapping) → Spares (deed maps)) → Spares (for_members t found deed)
for_members_spares t None deed each = nothing_spares
for_members_spares t (Some g) deed each = each (members t g.id)

-- ---- how copies end

ends_in_spares : (state : MapState) (m : Mapping) → Spares (ends_in state m)
ends_in_spares state m =
    cond_spares (m.autodelete && is_idle state) (goes_from state m) (comes_to state m) (record { apart = (tt, tt) }) (record { apart = (tt, tt) })

ends_by_spares : (next : Result MapState Refusal) (m : Mapping) → Spares (ends_by next m)
ends_by_spares (Ok state) m = ends_in_spares state m
ends_by_spares (Err refusal) m = nothing_spares

cut_of_spares : (b : Books) (m : Mapping) → Spares (cut_of b m)
cut_of_spares b m = cond_spares (is_whole b m) nothing _ nothing_spares (record { apart = tt })

leaves_by_spares : (next : Result MapState Refusal) (b : Books) (m : Mapping) → Spares (leaves_by next b m)
leaves_by_spares next b m = then_spares (cut_of b m) (ends_by next (as_left b m)) (cut_of_spares b m) (ends_by_spares next (as_left b m))

-- ---- settling

finishes_spares : (next : Result MapState Refusal) (b : Books) (m : Mapping) → Spares (finishes next b m)
finishes_spares (Ok state) b m = then_spares (told (Detach m.id ∷ [])) (leaves_by (Ok state) b m) (record { apart = tt }) (leaves_by_spares (Ok state) b m)
finishes_spares (Err refusal) b m = nothing_spares

settles_in_spares : (state : MapState) (b : Books) (m : Mapping) → Spares (settles_in state b m)
settles_in_spares Copying b m = finishes_spares (next_state Copying Finish (is_whole b m) (is_needed b m)) b m
settles_in_spares Stopping b m = ends_by_spares (next_state Stopping Finish m.complete (is_needed b m)) m
settles_in_spares Empty b m = nothing_spares
settles_in_spares IdleOrCopied b m = nothing_spares
settles_in_spares Preparing b m = nothing_spares
settles_in_spares Prepared b m = nothing_spares
settles_in_spares Stopped b m = nothing_spares

settling_spares : (b : Books) → Spares (settling b)
unfolding settling
settling_spares b =
    then_spares (drops b.sheet.slots) (all_deeds (λ m. settles_in m.state b m) b.tables.mappings) (record { apart = tt })
    (all_spare (λ (m : Mapping). settles_in m.state b m) b.tables.mappings (λ m. settles_in_spares m.state b m))

-- ---- stopping

stops_with_spares : (b : Books) (d : Mapping) → Spares (stops_with b d)
stops_with_spares b d = then_spares (cut_of b d) (ends_in Stopped (as_left b d)) (cut_of_spares b d) (ends_in_spares Stopped (as_left b d))

stop_dependents_spares : (way : StopWay) (b : Books) (m : Mapping) → Spares (stop_dependents way b m)
stop_dependents_spares Force b m = all_spare (stops_with b) (dependents b m) (stops_with_spares b)
stop_dependents_spares Plain b m = nothing_spares
stop_dependents_spares Split b m = nothing_spares

-- told of an event, then what a mapping does, then what its dependents do
leaves_spares : (told_first first second : Deed) → Spares told_first → Spares first → Spares second → Spares (told_first then (first then second))
leaves_spares told_first first second zero one two = then_spares told_first (first then second) zero (then_spares first second one two)

stops_in_spares : (state : MapState) (way : StopWay) (b : Books) (m : Mapping) → Spares (stops_in state way b m)
stops_in_spares Copying way b m =
    leaves_spares (told (leave_event way b m ∷ [])) (leaves_by (next_state Copying (stop_event way) (is_whole b m) (is_needed b m)) b m) (stop_dependents way b m)
    (record { apart = tt })
    (leaves_by_spares (next_state Copying (stop_event way) (is_whole b m) (is_needed b m)) b m)
    (stop_dependents_spares way b m)
stops_in_spares Stopping way b m =
    leaves_spares (told (leave_event Force b m ∷ [])) (ends_by (next_state Stopping (stop_event way) m.complete (is_needed b m)) m) (stop_dependents Force b m)
    (record { apart = tt })
    (ends_by_spares (next_state Stopping (stop_event way) m.complete (is_needed b m)) m)
    (stop_dependents_spares Force b m)
stops_in_spares Empty way b m = ends_by_spares (next_state Empty (stop_event way) m.complete false) m
stops_in_spares IdleOrCopied way b m = ends_by_spares (next_state IdleOrCopied (stop_event way) m.complete false) m
stops_in_spares Preparing way b m = ends_by_spares (next_state Preparing (stop_event way) m.complete false) m
stops_in_spares Prepared way b m = ends_by_spares (next_state Prepared (stop_event way) m.complete false) m
stops_in_spares Stopped way b m = ends_by_spares (next_state Stopped (stop_event way) m.complete false) m

stops_spares : (way : StopWay) (b : Books) (m : Mapping) → Spares (stops way b m)
unfolding stops
stops_spares way b m = stops_in_spares m.state way b m

stops_member_spares : (way : StopWay) (b : Books) (found : Option Mapping) → Spares (stops_member way b found)
stops_member_spares way b None = nothing_spares
stops_member_spares way b (Some m) = cond_spares (acts_on way m.state) (stops way b m) nothing (stops_spares way b m) nothing_spares

one_by_one_spares : (restarts : ℕ → List Bool) (deed : Books → MapId → Deed) (b : Books) (ids : List MapId) → ((books : Books) (id : MapId) → Spares (deed books id)) → Spares (one_by_one restarts deed b ids)
one_by_one_spares restarts deed b [] each = nothing_spares
one_by_one_spares restarts deed b (id ∷ ids) each =
    then_spares (deed b id) (one_by_one restarts deed (after_deed restarts b (deed b id)) ids) (each b id)
    (one_by_one_spares restarts deed (after_deed restarts b (deed b id)) ids each)

stop_group_spares : (way : StopWay) (b : Books) (maps : List Mapping) → Spares (stop_group way b maps)
stop_group_spares way b maps =
    one_by_one_spares (λ m. []) (λ books id. stops_member way books (mapping_with books.tables id)) b (map (λ (m : Mapping). m.id) maps)
    (λ books id. stops_member_spares way books (mapping_with books.tables id))

-- ---- starting

supersedes_spares : (t : Tables) (maps : List Mapping) → Spares (supersedes t maps)
supersedes_spares t maps = all_spare gives_way (filter (is_superseded maps) t.mappings) (λ m. record { apart = (tt, tt) })

all_begin_spares : (state : MapState) (restore : Bool) (maps : List Mapping) → Spares (all_deeds (begins state restore) maps)
all_begin_spares state restore maps = all_spare (begins state restore) maps (λ m. record { apart = (tt, tt) })

prepare_spares : (restore : Bool) (t : Tables) (maps : List Mapping) → Spares (prepare restore t maps)
prepare_spares restore t maps =
    then_spares (supersedes t maps) (all_deeds (begins Prepared restore) maps) (supersedes_spares t maps) (all_begin_spares Prepared restore maps)

start_spares : (prep restore : Bool) (t : Tables) (maps : List Mapping) → Spares (start prep restore t maps)
start_spares prep restore t maps =
    leaves_spares (cond prep (supersedes t maps) nothing) (triggers maps) (all_deeds (begins Copying restore) maps)
    (cond_spares prep (supersedes t maps) nothing (supersedes_spares t maps) nothing_spares)
    (record { apart = tt })
    (all_begin_spares Copying restore maps)

-- ---- every command

remove_group_spares : (t : Tables) (g : Group) → Spares (remove_group t g.id)
remove_group_spares t g =
    record { apart = each_append IsApart (map _ (members t g.id)) (_ ∷ []) (map_apart _ (members t g.id) (λ m. tt)) (tt, tt) }

done_spares : (grain : GrainSize) (b : Books) (command : Command) → is_of_volumes command ≡ false → Spares (done grain b command)
done_spares grain b (Mkvdisk name size unit thin) other = absurd (true≢false other)
done_spares grain b (Rmvdisk volume) other = absurd (true≢false other)
done_spares grain b (Armfault volume number calls) other = for_one_spares (volume_named b.tables volume) (λ v. arm v number calls) (λ v. record { apart = tt })
done_spares grain b (Mkfcmap source target name group copy_rate clean_rate grain_size incremental autodelete) other =
    for_one_spares (volume_named b.tables source) _ (λ s. for_one_spares (volume_named b.tables target) (λ t. make_mapping (new_mapping b s t name group copy_rate clean_rate incremental autodelete)) (λ t. record { apart = (tt, tt) }))
done_spares grain b (Prestartfcmap m restore) other = for_one_spares (mapping_named b.tables m) (λ found. prepare restore b.tables (found ∷ [])) (λ found. prepare_spares restore b.tables (found ∷ []))
done_spares grain b (Startfcmap m prep restore) other = for_one_spares (mapping_named b.tables m) (λ found. start prep restore b.tables (found ∷ [])) (λ found. start_spares prep restore b.tables (found ∷ []))
done_spares grain b (Stopfcmap m way) other = for_one_spares (mapping_named b.tables m) (stops way b) (stops_spares way b)
done_spares grain b (Rmfcmap m force) other = for_one_spares (mapping_named b.tables m) remove_mapping (λ found. record { apart = (tt, tt) })
done_spares grain b (Mkfcconsistgrp name) other = record { apart = (tt, tt) }
done_spares grain b (Prestartfcconsistgrp group restore) other = for_members_spares b.tables (group_named b.tables group) (prepare restore b.tables) (prepare_spares restore b.tables)
done_spares grain b (Startfcconsistgrp group prep restore) other = for_members_spares b.tables (group_named b.tables group) (start prep restore b.tables) (start_spares prep restore b.tables)
done_spares grain b (Stopfcconsistgrp group way) other = for_members_spares b.tables (group_named b.tables group) (stop_group way b) (stop_group_spares way b)
done_spares grain b (Rmfcconsistgrp group force) other = for_one_spares (group_named b.tables group) (λ (g : Group). remove_group b.tables g.id) (remove_group_spares b.tables)
done_spares grain b (Write volume block count byte) other = nothing_spares
done_spares grain b (Read volume block count) other = nothing_spares
done_spares grain b (Advance seconds) other = nothing_spares
done_spares grain b (Lsfcmap m delim) other = nothing_spares
done_spares grain b (Lsfcconsistgrp group delim) other = nothing_spares
done_spares grain b (Lsvdisk delim) other = nothing_spares
done_spares grain b (Lsfcmapprogress m delim) other = nothing_spares
done_spares grain b (Lsfcmapdependentmaps m delim) other = nothing_spares
done_spares grain b (Mkpreset source preset name) other = nothing_spares
done_spares grain b (Lsvdiskroom delim) other = nothing_spares

answered_keeps : (restarts : ℕ → List Bool) (grain : GrainSize) (b : Books) (command : Command) (refusal : Option Refusal) (loop : Option (List VolId)) → Spares (done grain b command) →
    KeepsVolumes b (answered restarts grain b command refusal loop)
answered_keeps restarts grain b command (Some refusal) loop spares sets = volumes_keep sets (answered restarts grain b command (Some refusal) loop).events [] b tt
answered_keeps restarts grain b command None (Some volumes) spares sets = volumes_keep sets (answered restarts grain b command None (Some volumes)).events [] b tt
answered_keeps restarts grain b command None None spares sets = volumes_keep sets (answered restarts grain b command None None).events (done grain b command).changes b spares.apart

-- ---- decisions

pub settle_keeps : (b : Books) → KeepsVolumes b (settle b)
settle_keeps b sets = volumes_keep sets (settling b).events (settling b).changes b (settling_spares b).apart

pub decide_keeps : (restarts : ℕ → List Bool) (grain : GrainSize) (b : Books) (command : Command) (loop : Option (List VolId)) → is_of_volumes command ≡ false →
    KeepsVolumes b (decide restarts grain b command loop)
decide_keeps restarts grain b command loop other = answered_keeps restarts grain b command (refused grain b command) loop (done_spares grain b command other)
