-- What is decided of a command, and what it leaves.
use Rattle.std.specs.Prelude.{◌≡◌, ℕ, Bool, List, [], ◌∷◌, ◌++◌, map, Option, Some, None}
use Rattle.fc_base.specs.Sheet.{shape_of}
use Rattle.fc_base.specs.SheetStep.{triggered}
use Rattle.fc_base.specs.SheetView.{LoopAnswer}
use Rattle.fc_base.specs.Tables.{Tables, volume_named, mapping_named, group_named}
use Rattle.fc_base.specs.declared.command.Command.{Command}
use Rattle.fc_base.specs.declared.command.Command.TheVariants.{Mkvdisk, Rmvdisk, Write, Read, Armfault, Advance, Mkfcmap, Prestartfcmap, Startfcmap, Stopfcmap, Rmfcmap, Mkfcconsistgrp, Prestartfcconsistgrp, Startfcconsistgrp, Stopfcconsistgrp, Rmfcconsistgrp, Lsfcmap, Lsfcconsistgrp, Lsvdisk, Lsfcmapprogress, Lsfcmapdependentmaps, Mkpreset, Lsvdiskroom}
use Rattle.fc_base.specs.declared.decision.Decision.{Decision}
use Rattle.fc_base.specs.declared.fault.Kind.TheVariants.{Vdisk, Fcmap, Group as OfGroups}
use Rattle.fc_base.specs.declared.fault.Refusal.{Refusal}
use Rattle.fc_base.specs.declared.fault.Refusal.TheVariants.{RestoreLoop}
use Rattle.fc_base.specs.declared.ids.VolId.{VolId}
use Rattle.fc_base.specs.declared.request.Reply.{Reply}
use Rattle.fc_base.specs.declared.request.Reply.TheVariants.{Done, Listed, Made, NoMemory, Refused}
use Rattle.fc_base.specs.declared.size.GrainSize.{GrainSize}
use Rattle.fc_base.specs.declared.volume.Group.{Group}
use Rattle.fc_base.specs.declared.volume.Mapping.{Mapping}
use Rattle.fc_books.specs.After.{after_deed, after_all}
use Rattle.fc_books.specs.Books.{Books, Deed, nothing}
use Rattle.fc_books.specs.Groups.{members}
use Rattle.fc_books.specs.Making.{new_volume, make_volume, remove_volume, arm, new_mapping, make_mapping, remove_mapping, new_group, make_group, remove_group}
use Rattle.fc_books.specs.Refused.{of_mapping, of_group, of_asked, mkvdisk_refused, rmvdisk_refused, access_refused, preset_refused, armfault_refused, advance_refused, mkfcmap_refused, rmfcmap_refused, mkfcconsistgrp_refused, rmfcconsistgrp_refused}
use Rattle.fc_books.specs.RefusedStarts.{prestartfcmap_refused, startfcmap_refused, stopfcmap_refused, prestartfcconsistgrp_refused, startfcconsistgrp_refused, stopfcconsistgrp_refused}
use Rattle.fc_books.specs.Reports.{report_rows}
use Rattle.fc_books.specs.Settling.{settling}
use Rattle.fc_books.specs.Starting.{prepare, start, pair_of}
use Rattle.fc_books.specs.Stopping.{stops, stop_group}
use Rattle.fc_books.specs.Work.{work_events}

-- ---- the settling

abbrev pub settle : Books → Decision
settle b =
    let deed = settling b in
    record { reply = NoMemory; effects = deed.effects; events = deed.events; changes = deed.changes }

-- ---- the first refusal

-- Of any command but that a start would close a loop of restores. Lines `read`, `write` and `mkpreset` are no commands: a refused
-- one is an entry of its own, that settles nothing and sets no flag. Of those that aren't refused reads and writes go to the lanes,
-- and in place of a preset other lines are asked.
abbrev pub refused : GrainSize → Books → Command → Option Refusal
refused grain b (Mkvdisk name size unit thin) = mkvdisk_refused grain b name size unit thin
refused grain b (Rmvdisk volume) = rmvdisk_refused b volume
refused grain b (Write volume block count byte) = access_refused grain b volume block count
refused grain b (Read volume block count) = access_refused grain b volume block count
refused grain b (Armfault volume number calls) = armfault_refused b volume number
refused grain b (Advance seconds) = advance_refused seconds
refused grain b (Mkfcmap source target name group copy_rate clean_rate grain_size incremental autodelete) =
    mkfcmap_refused grain b source target name group copy_rate clean_rate grain_size
refused grain b (Prestartfcmap m restore) = prestartfcmap_refused b m restore
refused grain b (Startfcmap m prep restore) = startfcmap_refused b m prep restore
refused grain b (Stopfcmap m way) = stopfcmap_refused b m way
refused grain b (Rmfcmap m force) = rmfcmap_refused b m force
refused grain b (Mkfcconsistgrp name) = mkfcconsistgrp_refused b name
refused grain b (Prestartfcconsistgrp group restore) = prestartfcconsistgrp_refused b group restore
refused grain b (Startfcconsistgrp group prep restore) = startfcconsistgrp_refused b group prep restore
refused grain b (Stopfcconsistgrp group way) = stopfcconsistgrp_refused b group way
refused grain b (Rmfcconsistgrp group force) = rmfcconsistgrp_refused b group force
refused grain b (Lsfcmap m delim) = of_asked (of_mapping b) m (λ found. None)
refused grain b (Lsfcconsistgrp group delim) = of_asked (of_group b) group (λ found. None)
refused grain b (Lsvdisk delim) = None
refused grain b (Lsfcmapprogress m delim) = of_mapping b m (λ found. None)
refused grain b (Lsfcmapdependentmaps m delim) = of_mapping b m (λ found. None)
refused grain b (Mkpreset source preset name) = preset_refused b source
refused grain b (Lsvdiskroom delim) = None

-- ---- what is done

-- The deed for what a reference names, and for the members of a group. A command is done only where that is there.
abbrev pub for_one : {X : Type 0} → Option X → (X → Deed) → Deed
for_one None deed = nothing
for_one (Some x) deed = deed x

abbrev pub for_members : Tables → Option Group → (List Mapping → Deed) → Deed
for_members t None deed = nothing
for_members t (Some g) deed = deed (members t g.id)

-- What a command does that isn't refused. Reports and `advance` do nothing by themselves.
abbrev pub done : GrainSize → Books → Command → Deed
done grain b (Mkvdisk name size unit thin) = make_volume (new_volume grain b name size unit thin)
done grain b (Rmvdisk volume) = for_one (volume_named b.tables volume) remove_volume
done grain b (Armfault volume number calls) = for_one (volume_named b.tables volume) (λ v. arm v number calls)
done grain b (Mkfcmap source target name group copy_rate clean_rate grain_size incremental autodelete) =
    for_one (volume_named b.tables source) (λ s. for_one (volume_named b.tables target) (λ t.
    make_mapping (new_mapping b s t name group copy_rate clean_rate incremental autodelete)))
done grain b (Prestartfcmap m restore) = for_one (mapping_named b.tables m) (λ found. prepare restore b.tables (found ∷ []))
done grain b (Startfcmap m prep restore) = for_one (mapping_named b.tables m) (λ found. start prep restore b.tables (found ∷ []))
done grain b (Stopfcmap m way) = for_one (mapping_named b.tables m) (stops way b)
done grain b (Rmfcmap m force) = for_one (mapping_named b.tables m) remove_mapping
done grain b (Mkfcconsistgrp name) = make_group (new_group b name)
done grain b (Prestartfcconsistgrp group restore) = for_members b.tables (group_named b.tables group) (prepare restore b.tables)
done grain b (Startfcconsistgrp group prep restore) = for_members b.tables (group_named b.tables group) (start prep restore b.tables)
done grain b (Stopfcconsistgrp group way) = for_members b.tables (group_named b.tables group) (stop_group way b)
done grain b (Rmfcconsistgrp group force) = for_one (group_named b.tables group) (λ g. remove_group b.tables g.id)
done grain b command = nothing

-- What is answered of it: the id of what was made, the rows of a report, else `ok`.
abbrev pub replied : GrainSize → Books → Command → Reply
replied grain b (Mkvdisk name size unit thin) = Made Vdisk b.next_volume
replied grain b (Mkfcmap source target name group copy_rate clean_rate grain_size incremental autodelete) = Made Fcmap b.next_mapping
replied grain b (Mkfcconsistgrp name) = Made OfGroups b.next_group
replied grain b (Lsfcmap m delim) = Listed (report_rows grain b (Lsfcmap m delim))
replied grain b (Lsfcconsistgrp group delim) = Listed (report_rows grain b (Lsfcconsistgrp group delim))
replied grain b (Lsvdisk delim) = Listed (report_rows grain b (Lsvdisk delim))
replied grain b (Lsfcmapprogress m delim) = Listed (report_rows grain b (Lsfcmapprogress m delim))
replied grain b (Lsfcmapdependentmaps m delim) = Listed (report_rows grain b (Lsfcmapdependentmaps m delim))
replied grain b (Lsvdiskroom delim) = Listed (report_rows grain b (Lsvdiskroom delim))
replied grain b command = Done

-- ---- the loop of restores

-- The pairs that a start triggers where nothing else refuses it.
abbrev pub pairs_of : Books → Command → List Mapping
pairs_of b (Startfcmap m prep restore) = found (mapping_named b.tables m)
  where
    found : Option Mapping → List Mapping
    found None = []
    found (Some x) = x ∷ []
pairs_of b (Startfcconsistgrp group prep restore) = found (group_named b.tables group)
  where
    found : Option Group → List Mapping
    found None = []
    found (Some g) = members b.tables g.id
pairs_of b command = []

-- The loop that the restore graph would have right after these pairs.
abbrev pub LoopAfter : Books → List Mapping → Option (List VolId) → Type 0
LoopAfter b [] loop = loop ≡ None
LoopAfter b (m ∷ ms) loop = LoopAnswer (shape_of (triggered (map pair_of (m ∷ ms)) b.sheet).slots) loop

-- It is asked for where a start is refused for nothing else.
abbrev pub LoopTold : Option Refusal → Books → Command → Option (List VolId) → Type 0
LoopTold None b command loop = LoopAfter b (pairs_of b command) loop
LoopTold (Some refusal) b command loop = loop ≡ None

abbrev pub IsLoopOf : GrainSize → Books → Command → Option (List VolId) → Type 0
IsLoopOf grain b command loop = LoopTold (refused grain b command) b command loop

-- ---- the decision

-- With the flags of background work set by the books after it.
abbrev pub with_work : (ℕ → List Bool) → Books → Reply → Deed → Decision
with_work restarts b reply deed =
    record {
      reply = reply;
      effects = deed.effects;
      events = deed.events ++ work_events (after_deed restarts b deed);
      changes = deed.changes;
    }

-- A command is refused for the first reason that holds, or done. A refused one changes nothing but the flags.
abbrev pub answered : (ℕ → List Bool) → GrainSize → Books → Command → Option Refusal → Option (List VolId) → Decision
answered restarts grain b command (Some refusal) loop = with_work restarts b (Refused refusal) nothing
answered restarts grain b command None (Some volumes) = with_work restarts b (Refused (RestoreLoop volumes)) nothing
answered restarts grain b command None None = with_work restarts b (replied grain b command) (done grain b command)

-- What is decided of a command on settled books, where the loop of restores is this one.
abbrev pub decide : (ℕ → List Bool) → GrainSize → Books → Command → Option (List VolId) → Decision
decide restarts grain b command loop = answered restarts grain b command (refused grain b command) loop

-- ---- what a command leaves

abbrev pub after_decision : (ℕ → List Bool) → Books → Decision → Books
after_decision restarts b d = after_all restarts d.events d.changes b
