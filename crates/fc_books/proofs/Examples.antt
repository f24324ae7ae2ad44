-- Starts and settlings, on closed examples; and the parts that examples are made of.
use Rattle.std.proofs.Common.{◌≡◌, ℕ, Bool, true, false, Some, None, List, [], ◌∷◌, Option, codes, refl}
use Rattle.fc_base.specs.Column.{first_below, last_below, holder, first_reader}
use Rattle.fc_base.specs.Sheet.{Slot, Sheet, live_place, mapping_place}
use Rattle.fc_base.specs.declared.command.Command.TheVariants.{Mkvdisk, Mkfcmap, Prestartfcmap, Startfcmap, Stopfcmap, Rmfcmap, Rmvdisk, Lsvdisk}
use Rattle.fc_base.specs.declared.command.StopWay.TheVariants.{Plain}
use Rattle.fc_base.specs.declared.decision.LaneEvent.TheVariants.{Make, Trigger, Detach, Forget, Access, Work, Remove}
use Rattle.fc_base.specs.declared.disk.DiskKind.TheVariants.{Flat}
use Rattle.fc_base.specs.declared.fault.Kind.TheVariants.{Vdisk, Fcmap}
use Rattle.fc_base.specs.declared.fault.Refusal.TheVariants.{NotPrepared, NotAllowed, NeedsForce, NoDisk, SameVolume, TargetIsSource, InUse}
use Rattle.fc_base.specs.declared.ids.MapId.{MapId}
use Rattle.fc_base.specs.declared.ids.VolId.{VolId}
use Rattle.fc_base.specs.declared.name.Ref.TheVariants.{Id, Name}
use Rattle.fc_base.specs.declared.request.Effect.TheVariants.{Make as Made, Remove as Removed, Trigger as Triggered, State, Gone}
use Rattle.fc_base.specs.declared.request.Pair.{Pair}
use Rattle.fc_base.specs.declared.request.Reply.TheVariants.{Done, Listed, Made as Answered, NoMemory, Refused}
use Rattle.fc_base.specs.declared.size.GrainSize.TheVariants.{K64}
use Rattle.fc_base.specs.declared.state.Access.TheVariants.{Online, Offline, NotAccessible}
use Rattle.fc_base.specs.declared.state.MapState.{MapState}
use Rattle.fc_base.specs.declared.state.MapState.TheVariants.{IdleOrCopied, Prepared, Copying, Stopped}
use Rattle.fc_base.specs.declared.volume.Change.TheVariants.{AddVolume, AddMapping, SetMapping, RemoveMapping, RemoveVolume}
use Rattle.fc_base.specs.declared.volume.Mapping.{Mapping}
use Rattle.fc_base.specs.declared.volume.Volume.{Volume}
use Rattle.fc_books.specs.Books.{Books}
use Rattle.fc_books.specs.Deciding.{settle, decide}
use Rattle.fc_books.specs.Reports.{report_rows}
use Rattle.fc_books.specs.Settling.{settling}
use Rattle.fc_books.specs.Stopping.{stops}
use Rattle.fc_books.specs.Work.{work_events}
use Rattle.fc_pick.specs.declared.work.WorkFlags.{WorkFlags}
use Rattle.std.specs.Fmt.{digits}

-- ---- parts

abbrev pub vol : ℕ → VolId
vol v = record { 0 = v }

abbrev pub map_id : ℕ → MapId
map_id m = record { 0 = m }

abbrev pub volume : ℕ → List ℕ → ℕ → Volume
volume id name grains = record { id = vol id; name = name; grains = grains; kind = Flat }

abbrev pub pair : ℕ → ℕ → ℕ → Pair
pair m source target = record { map = map_id m; source = vol source; target = vol target; incremental = false }

-- a mapping at copy rate 0 and clean rate 50
abbrev pub mapping : ℕ → List ℕ → ℕ → ℕ → MapState → Mapping
mapping id name source target state =
    record {
      id = map_id id;
      name = name;
      source = vol source;
      target = vol target;
      group = None;
      state = state;
      copy_rate = 0;
      clean_rate = 50;
      incremental = false;
      autodelete = false;
      restoring = false;
      held_at_leave = 0;
      complete = false;
    }

abbrev pub cleaned : ℕ → WorkFlags
cleaned m = record { map = map_id m; copies = false; cleans = true }

-- a live slot
abbrev pub slot : ℕ → ℕ → ℕ → Option ℕ → List Bool → Slot
slot birth chain volume mapping held =
    record { birth = birth; chain = chain; volume = volume; is_live = true; mapping = mapping; held = held }

abbrev pub old : Slot → Slot
old s = record s { is_live = false }

abbrev pub books : List Volume → List Mapping → Sheet → List WorkFlags → Books
books volumes mappings sheet flags =
    record {
      tables = record { volumes = volumes; mappings = mappings; groups = [] };
      next_volume = 4;
      next_mapping = 3;
      next_group = 1;
      sheet = sheet;
      flags = flags;
      pools = record { flat = 5; thin = 0 } ∷ [];
      rooms = [];
    }

abbrev pub no_restarts : ℕ → List Bool
no_restarts m = []

-- ---- one mapping, and its start

abbrev pub two : List Volume
two = volume 0 (codes "A") 2 ∷ volume 1 (codes "B") 2 ∷ []

abbrev pub apart : Sheet
apart = record { births = 2; slots = slot 0 0 0 None (true ∷ true ∷ []) ∷ slot 1 1 1 None (true ∷ true ∷ []) ∷ [] }

abbrev idle : Books
idle = books two (mapping 0 (codes "fcmap0") 0 1 IdleOrCopied ∷ []) apart []

start_is_refused : decide no_restarts K64 idle (Startfcmap (Name (codes "fcmap0")) false false) None ≡ record { reply = Refused NotPrepared; effects = []; events = []; changes = [] }
unfolding first_below last_below holder first_reader live_place mapping_place work_events
start_is_refused = refl

start_is_done :
    decide no_restarts K64 idle (Startfcmap (Name (codes "fcmap0")) true false) None
    ≡ record {
      reply = Done;
      effects = Triggered (pair 0 0 1 ∷ []) ∷ State (map_id 0) Copying ∷ [];
      events = Trigger (pair 0 0 1 ∷ []) ∷ Access (vol 1) Online ∷ Work (map_id 0) false true ∷ [];
      changes = SetMapping (mapping 0 (codes "fcmap0") 0 1 Copying) ∷ [];
    }
unfolding first_below last_below holder first_reader live_place mapping_place work_events
start_is_done = refl

-- an incomplete copy isn't settled
half_copied : settle (books two (mapping 0 (codes "fcmap0") 0 1 Copying ∷ []) (record { births = 3; slots = slot 0 0 0 None (true ∷ true ∷ []) ∷ slot 2 0 1 (Some 0) (true ∷ false ∷ []) ∷ [] }) []) ≡ record { reply = NoMemory; effects = []; events = []; changes = [] }
unfolding first_below last_below holder first_reader live_place mapping_place settling
half_copied = refl

-- a target that is used as a source is restored by `-restore` alone
abbrev restorable : Books
restorable =
    books two (mapping 0 (codes "fcmap0") 0 1 Copying ∷ mapping 1 (codes "fcmap1") 1 0 IdleOrCopied ∷ [])
    (record { births = 3; slots = slot 0 0 0 None (true ∷ true ∷ []) ∷ slot 2 0 1 (Some 0) (false ∷ false ∷ []) ∷ [] })
    (cleaned 0 ∷ [])

restore_is_refused : (decide no_restarts K64 restorable (Startfcmap (Id 1) true false) None).reply ≡ Refused (TargetIsSource (vol 0))
unfolding first_below last_below holder first_reader live_place mapping_place work_events
restore_is_refused = refl

restore_is_done : (decide no_restarts K64 restorable (Startfcmap (Id 1) true true) None).effects ≡ Triggered (pair 1 1 0 ∷ []) ∷ State (map_id 1) Copying ∷ []
unfolding first_below last_below holder first_reader live_place mapping_place work_events
restore_is_done = refl

-- with a restart set of all grains the new copy is complete: it isn't copied, and is cleaned
abbrev again : Mapping
again = record (mapping 0 (codes "fcmap0") 0 1 IdleOrCopied) { copy_rate = 50; incremental = true }

complete_from_the_start : (decide (λ m. true ∷ true ∷ []) K64 (books two (again ∷ []) apart []) (Startfcmap (Id 0) true false) None).events ≡ Trigger (record (pair 0 0 1) { incremental = true } ∷ []) ∷ Access (vol 1) Online ∷ Work (map_id 0) false true ∷ []
unfolding first_below last_below holder first_reader live_place mapping_place work_events
complete_from_the_start = refl

changed_from_the_start : (decide (λ m. true ∷ []) K64 (books two (again ∷ []) apart []) (Startfcmap (Id 0) true false) None).events ≡ Trigger (record (pair 0 0 1) { incremental = true } ∷ []) ∷ Access (vol 1) Online ∷ Work (map_id 0) true false ∷ []
unfolding first_below last_below holder first_reader live_place mapping_place work_events
changed_from_the_start = refl

-- ---- prepared, stopped and removed

abbrev prepared : Books
prepared = books two (mapping 0 (codes "fcmap0") 0 1 Prepared ∷ []) apart []

abbrev stopped : Books
stopped = books two (mapping 0 (codes "fcmap0") 0 1 Stopped ∷ []) apart []

prestart_is_done :
    decide no_restarts K64 idle (Prestartfcmap (Id 0) false) None
    ≡ record {
      reply = Done;
      effects = State (map_id 0) Prepared ∷ [];
      events = Access (vol 1) (NotAccessible (map_id 0)) ∷ [];
      changes = SetMapping (mapping 0 (codes "fcmap0") 0 1 Prepared) ∷ [];
    }
unfolding first_below last_below holder first_reader live_place mapping_place work_events
prestart_is_done = refl

prepared_is_refused : (decide no_restarts K64 prepared (Startfcmap (Id 0) true false) None).reply ≡ Refused (NotAllowed Prepared)
unfolding first_below last_below holder first_reader live_place mapping_place work_events
prepared_is_refused = refl

prepared_is_stopped :
    decide no_restarts K64 prepared (Stopfcmap (Id 0) Plain) None
    ≡ record {
      reply = Done;
      effects = State (map_id 0) Stopped ∷ [];
      events = Access (vol 1) (Offline (map_id 0) Stopped) ∷ [];
      changes = SetMapping (mapping 0 (codes "fcmap0") 0 1 Stopped) ∷ [];
    }
unfolding first_below last_below holder first_reader live_place mapping_place work_events stops
prepared_is_stopped = refl

stopped_needs_force : (decide no_restarts K64 stopped (Rmfcmap (Id 0) false) None).reply ≡ Refused NeedsForce
unfolding first_below last_below holder first_reader live_place mapping_place work_events
stopped_needs_force = refl

stopped_is_removed :
    decide no_restarts K64 stopped (Rmfcmap (Id 0) true) None
    ≡ record {
      reply = Done;
      effects = Gone (map_id 0) ∷ [];
      events = Access (vol 1) Online ∷ Forget (map_id 0) ∷ [];
      changes = RemoveMapping (map_id 0) ∷ [];
    }
unfolding first_below last_below holder first_reader live_place mapping_place work_events
stopped_is_removed = refl

-- a stopped mapping gives way to another one with its target, and not to itself
superseded :
    (decide no_restarts K64 (books two (mapping 0 (codes "a") 0 1 Stopped ∷ mapping 1 (codes "b") 0 1 IdleOrCopied ∷ []) apart []) (Startfcmap (Id 1) true false) None).effects
    ≡ State (map_id 0) IdleOrCopied ∷ Triggered (pair 1 0 1 ∷ []) ∷ State (map_id 1) Copying ∷ []
unfolding first_below last_below holder first_reader live_place mapping_place work_events
superseded = refl

not_by_itself : (decide no_restarts K64 stopped (Prestartfcmap (Id 0) false) None).effects ≡ State (map_id 0) Prepared ∷ []
unfolding first_below last_below holder first_reader live_place mapping_place work_events
not_by_itself = refl

-- ---- a complete copy with `-autodelete`

abbrev copied : Mapping
copied = record (mapping 0 (codes "fcmap0") 0 1 Copying) { copy_rate = 50; autodelete = true }

removed_by_itself :
    settle (books two (copied ∷ []) (record { births = 3; slots = slot 0 0 0 None (true ∷ true ∷ []) ∷ slot 2 0 1 (Some 0) (true ∷ true ∷ []) ∷ [] }) [])
    ≡ record {
      reply = NoMemory;
      effects = State (map_id 0) IdleOrCopied ∷ Gone (map_id 0) ∷ [];
      events = Detach (map_id 0) ∷ Access (vol 1) Online ∷ Forget (map_id 0) ∷ [];
      changes = RemoveMapping (map_id 0) ∷ [];
    }
unfolding first_below last_below holder first_reader live_place mapping_place settling
removed_by_itself = refl

-- ---- volumes and mappings are made

volume_is_made :
    decide no_restarts K64 idle (Mkvdisk None 1 None false) None
    ≡ record {
      reply = Answered Vdisk 4;
      effects = Made (vol 4) 16 ∷ [];
      events = Make (vol 4) 16 Flat ∷ [];
      changes = AddVolume (volume 4 (codes "vdisk4") 16) ∷ [];
    }
unfolding first_below last_below holder first_reader live_place mapping_place work_events digits
volume_is_made = refl

no_disk_is_left : (decide no_restarts K64 idle (Mkvdisk None 1 None true) None).reply ≡ Refused NoDisk
unfolding first_below last_below holder first_reader live_place mapping_place work_events digits
no_disk_is_left = refl

mapping_is_made :
    decide no_restarts K64 idle (Mkfcmap (Name (codes "B")) (Name (codes "A")) None None (Some 0) None None false false) None
    ≡ record {
      reply = Answered Fcmap 3;
      effects = [];
      events = [];
      changes = AddMapping (mapping 3 (codes "fcmap3") 1 0 IdleOrCopied) ∷ [];
    }
unfolding first_below last_below holder first_reader live_place mapping_place work_events digits
mapping_is_made = refl

same_volume : (decide no_restarts K64 idle (Mkfcmap (Id 0) (Name (codes "A")) None None (Some 151) None None false false) None).reply ≡ Refused SameVolume
unfolding first_below last_below holder first_reader live_place mapping_place work_events digits
same_volume = refl

volume_is_in_use : (decide no_restarts K64 idle (Rmvdisk (Id 1)) None).reply ≡ Refused (InUse (vol 1))
unfolding first_below last_below holder first_reader live_place mapping_place work_events
volume_is_in_use = refl

volume_is_removed :
    decide no_restarts K64 (books two [] apart []) (Rmvdisk (Id 1)) None
    ≡ record { reply = Done; effects = Removed (vol 1) ∷ []; events = Remove (vol 1) ∷ []; changes = RemoveVolume (vol 1) ∷ [] }
unfolding first_below last_below holder first_reader live_place mapping_place work_events
volume_is_removed = refl

report_is_done :
    decide no_restarts K64 idle (Lsvdisk (Some 58)) None
    ≡ record {
      reply = Listed (codes "id:name:status:capacity:fc_map_count" ∷ codes "0:A:online:131072:1" ∷ codes "1:B:online:131072:1" ∷ []);
      effects = [];
      events = [];
      changes = [];
    }
unfolding first_below last_below holder first_reader live_place mapping_place work_events report_rows digits
report_is_done = refl
