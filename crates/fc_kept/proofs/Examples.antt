-- The definitions on closed examples: A and B of two grains each, B a copy of A that holds nothing yet, and a write to A, which
-- first moves a grain to B.
use Rattle.std.proofs.Common.{arith, ◌≡◌, ℕ, zero, suc, ◌+◌, Bool, true, false, Option, Some, None, List, [], ◌∷◌, ◌++◌, map, sum, codes, refl}
use Rattle.fc_base.specs.Column.{last_below, first_below, holder, first_reader, places_by_birth, old_slots}
use Rattle.fc_base.specs.Moves.{is_in_place, asks, next_behind, write_asks, list_with_asked, list_all_with_asked, write_moves, taken, moved, after_moves}
use Rattle.fc_base.specs.Sheet.{Slot, Sheet, column, live_place, birth_place}
use Rattle.fc_base.specs.SheetFits.{FitsDrop}
use Rattle.fc_base.specs.SheetStep.{dropped}
use Rattle.fc_base.specs.Tables.{Tables}
use Rattle.fc_base.specs.declared.decision.Decision.{Decision}
use Rattle.fc_base.specs.declared.ids.GrainNo.{GrainNo}
use Rattle.fc_base.specs.declared.ids.MapId.{MapId}
use Rattle.fc_base.specs.declared.ids.SlotId.{SlotId}
use Rattle.fc_base.specs.declared.request.Effect.TheVariants.{State}
use Rattle.fc_base.specs.declared.request.Move.{Move}
use Rattle.fc_base.specs.declared.request.Place.TheVariants.{Lane}
use Rattle.fc_base.specs.declared.request.Reply.TheVariants.{Done, DiskFault}
use Rattle.fc_base.specs.declared.request.Request.TheVariants.{Write}
use Rattle.fc_base.specs.declared.request.Side.TheVariants.{Now, Under}
use Rattle.fc_base.specs.declared.request.WritePart.{WritePart}
use Rattle.fc_base.specs.declared.size.GrainSize.TheVariants.{K64}
use Rattle.fc_base.specs.declared.state.MapState.TheVariants.{Copying}
use Rattle.fc_base.specs.declared.disk.DiskKind.TheVariants.{Flat}
use Rattle.fc_bits.specs.Words.{grains_of, bit_of, bit_in}
use Rattle.fc_books.proofs.Examples.{vol, map_id, volume, mapping, slot, old}
use Rattle.fc_changed.specs.Notes.{has}
use Rattle.fc_changed.specs.Row.{Row}
use Rattle.fc_entry.specs.Picture.{Content, Bytes, Lost, PlainVolume}
use Rattle.fc_entry.specs.declared.entry.Entry.{Entry}
use Rattle.fc_image.specs.declared.image.MetaSlot.{MetaSlot}
use Rattle.fc_image.specs.declared.record.MetaRecord.{MetaRecord}
use Rattle.fc_image.specs.declared.record.MetaRecord.TheVariants.{Pair, Written, Torn, Changing}
use Rattle.fc_legal.specs.Whole.{Whole, single_lane}
use Rattle.fc_mdisk.specs.Disk.{DiskState, blank}
use Rattle.fc_moves.proofs.Readers.{reader_is}
use Rattle.fc_rules.specs.Steps.{DiskStep}
use Rattle.fc_follow.specs.Following.{rows_entry}
use Rattle.fc_kept.specs.Kept.{LostGrains, Kept, kept_after, kept_after_all}
use Rattle.fc_kept.specs.Images.{kept_in, meta_of}
use Rattle.fc_kept.specs.Drops.{DropsTo, DropsTo.same, DropsTo.drop}
use Rattle.fc_kept.specs.Marks.{AreMarked, least_asked, least_entry}
use Rattle.fc_kept.specs.OneGrain.{another, with_another, IsMarkedOne}
use Rattle.fc_kept.specs.Prefix.{AreStepsOf, moved_to, Prefix, Prefix.acknowledged, Prefix.moves}
use Rattle.fc_kept.specs.Disks.{NamedDisk, stored_on}
use Rattle.fc_kept.specs.Actions.{Action, Action.Data, Action.Note, Action.Fold, actions_of_move, actions_of_own, actions_of_stop, actions_of_command}

-- ---- parts

abbrev pub grain_no : ℕ → GrainNo
grain_no g = record { 0 = g }

abbrev pub slot_id : ℕ → SlotId
slot_id b = record { 0 = b }

abbrev pub tables : Tables
tables =
    record {
      volumes = volume 0 (codes "A") 2 ∷ volume 1 (codes "B") 2 ∷ [];
      mappings = mapping 0 (codes "fcmap0") 0 1 Copying ∷ [];
      groups = [];
    }

-- where B holds so much
abbrev pub chain_with : List Bool → Sheet
chain_with held = record { births = 3; slots = slot 0 0 0 None (true ∷ true ∷ []) ∷ slot 2 0 1 (Some 0) held ∷ [] }

abbrev pub lost_with : List Bool → List LostGrains
lost_with b = record { volume = 0; lost = false ∷ false ∷ [] } ∷ record { volume = 1; lost = b } ∷ []

abbrev pub kept_with : List Bool → Kept
kept_with held =
    record {
      tables = tables;
      next_volume = 2;
      next_mapping = 1;
      next_group = 1;
      sheet = chain_with held;
      rows = [];
      lost = lost_with (false ∷ false ∷ []);
    }

abbrev pub started : Kept
started = kept_with (false ∷ false ∷ [])

abbrev pub copied : Kept
copied = kept_with (true ∷ false ∷ [])

-- three contents
abbrev pub ones : Content
ones = Bytes (1 ∷ [])

abbrev pub twos : Content
twos = Bytes (2 ∷ [])

abbrev pub nulls : Content
nulls = Bytes (0 ∷ [])

-- ---- records

-- the record of the move: B's slot, of birth 2, holds grain 0
abbrev pair : MetaRecord
pair = Pair (slot_id 2) (vol 1) (grain_no 0) false false

behind_the_move : kept_after started pair ≡ copied
behind_the_move = refl

-- A's slot holds it all along, so that the record of the write says no more
behind_the_write : kept_after_all started (pair ∷ Written (vol 0) (grain_no 0) ∷ []) ≡ copied
behind_the_write = refl

-- a move whose write failed: B still reads at A, and B's grain is lost
behind_a_failed_move : kept_after started (Torn (vol 1) (grain_no 0) Under) ≡ record started { lost = lost_with (true ∷ false ∷ []) }
behind_a_failed_move = refl

-- a move of a lost grain copies none, and leaves B's lost
behind_an_empty_move : kept_after started (Pair (slot_id 2) (vol 1) (grain_no 0) false true) ≡ record copied { lost = lost_with (true ∷ false ∷ []) }
behind_an_empty_move = refl

-- A to B is followed, and at grain 1 both are the same
abbrev row_with : List Bool → Row
row_with grains = record { map = 0; source = 0; target = 1; into = 1; same = grains }

abbrev followed : List Bool → Kept
followed grains = record started { rows = row_with grains ∷ [] }

before_a_write : kept_after (followed (true ∷ true ∷ [])) (Changing (vol 0) (grain_no 0)) ≡ followed (false ∷ true ∷ [])
before_a_write = refl

-- ---- images

abbrev slot_words : ℕ → ℕ → Option ℕ → ℕ → MetaSlot
slot_words birth v m word = record { birth = slot_id birth; volume = vol v; live = true; map = mapped m; held = word ∷ [] }
  where
    mapped : Option ℕ → Option MapId
    mapped None = None
    mapped (Some n) = Some (map_id n)

-- grain 0 and 1 of A, grain 0 of B: bits 0 and 1 of a word
the_image :
    meta_of copied
    ≡ record {
      next_birth = 3;
      next_volume = 2;
      next_map = 1;
      next_group = 1;
      volumes = tables.volumes;
      mappings = tables.mappings;
      groups = [];
      chains = record { label = 0; slots = slot_words 0 0 None 3 ∷ slot_words 2 1 (Some 0) 1 ∷ [] } ∷ [];
      lost = record { volume = vol 0; lost = 0 ∷ [] } ∷ record { volume = vol 1; lost = 0 ∷ [] } ∷ [];
      changes = [];
    }
the_image = refl

read_again : kept_in (meta_of (followed (false ∷ true ∷ []))) ≡ followed (false ∷ true ∷ [])
unfolding grains_of bit_of bit_in
read_again = refl

-- ---- the one grain

-- B's data are written, and not yet its record: its live slot lacks the grain and reads at A, so the grain is under it
abbrev pub plain : ℕ → Content → Content → PlainVolume
plain v first under = record { volume = vol v; now = first ∷ nulls ∷ []; under = under ∷ nulls ∷ [] }

data_of_the_move :
    with_another (Some record { volume = 1; grain = 0; content = ones }) started.sheet.slots (plain 0 ones nulls ∷ plain 1 ones nulls ∷ [])
    ≡ plain 0 ones nulls ∷ plain 1 ones ones ∷ []
unfolding live_place first_below holder last_below
data_of_the_move = refl

-- A's data are written: it shows them
data_of_the_write :
    with_another (Some record { volume = 0; grain = 0; content = twos }) copied.sheet.slots (plain 0 ones nulls ∷ plain 1 ones ones ∷ [])
    ≡ plain 0 twos nulls ∷ plain 1 ones ones ∷ []
unfolding live_place first_below holder last_below
data_of_the_write = refl

-- a live slot that lacks the grain and reads at an old slot of its own volume: both at once
abbrev restarted : List Slot
restarted = old (slot 0 0 0 None (true ∷ true ∷ [])) ∷ slot 3 0 0 (Some 0) (false ∷ true ∷ []) ∷ []

both_sides : another (column restarted 0) 1 0 twos (plain 0 ones ones) ≡ plain 0 twos twos
unfolding holder last_below
both_sides = refl

-- the grain that A shows must count as changed
unmarked : IsMarkedOne (Some record { volume = 0; grain = 0; content = twos }) copied.sheet.slots (row_with (true ∷ true ∷ []) ∷ []) → ⊥
unfolding live_place first_below holder last_below
unmarked h = let e : true ≡ false = h refl zero (row_with []) (omega arith) refl in cc

-- ---- drops

-- A's old slot holds nothing
abbrev with_old : Sheet
with_old =
    record {
      births = 4;
      slots = slot 0 0 0 None (true ∷ true ∷ []) ∷ old (slot 3 0 0 None (false ∷ false ∷ [])) ∷ slot 2 0 1 (Some 0) (true ∷ false ∷ []) ∷ [];
    }

abbrev without_old : Sheet
without_old = record { births = 4; slots = slot 0 0 0 None (true ∷ true ∷ []) ∷ slot 2 0 1 (Some 0) (true ∷ false ∷ []) ∷ [] }

it_is_dropped : dropped 3 with_old ≡ without_old
unfolding birth_place first_below
it_is_dropped = refl

holds_none : (g : ℕ) → has (false ∷ false ∷ []) g ≡ true → ⊥
holds_none zero e = absurd cc
holds_none (suc zero) e = absurd cc
holds_none (suc (suc g)) e = absurd cc

nobody_needs_it : FitsDrop with_old.slots 3
unfolding birth_place first_below
nobody_needs_it =
    record {
      place = 1;
      is_there = refl;
      is_old = refl;
      unneeded = λ n. let r = reader_is (column with_old.slots n.0) 1 1 n.1 n.2 in holds_none n.0 r.reads.holds;
    }

-- metadata with it is as good as metadata without it
one_drop : DropsTo with_old without_old
unfolding birth_place first_below nobody_needs_it
one_drop = drop nobody_needs_it refl same

-- ---- the steps of the write, and where a stop may leave the history

abbrev pub whole_with : List Bool → Content → Whole
whole_with held a =
    record {
      actors = codes "main" ∷ [];
      books = record {
        tables = tables;
        next_volume = 2;
        next_mapping = 1;
        next_group = 1;
        sheet = chain_with held;
        flags = [];
        pools = record { flat = 0; thin = 0 } ∷ [];
        rooms = [];
      };
      picture = plain 0 a nulls ∷ plain 1 ones nulls ∷ [];
      rows = [];
      faults = 0 ∷ [];
      calls = 0 ∷ [];
      entries = 5;
    }

abbrev pub part : WritePart
part = record { volume = vol 0; block = 0; count = 1; byte = 34 }

abbrev pub the_move : Move
the_move = record { slot = slot_id 2; volume = vol 1; grain = grain_no 0; in_place = false }

abbrev pub move_step : DiskStep
move_step = record { volume = 1; move = Some the_move; calls = 2; side = Under }

abbrev pub own_step : DiskStep
own_step = record { volume = 0; move = None; calls = 2; side = Now }

abbrev pub before : Whole
before = whole_with (false ∷ false ∷ []) ones

pub its_steps : AreStepsOf K64 before (Write part) ((move_step ∷ []) ++ own_step ∷ [])
unfolding live_place first_below last_below holder first_reader places_by_birth old_slots is_in_place asks next_behind write_asks list_with_asked list_all_with_asked write_moves taken moved after_moves
its_steps = (refl, (refl, refl))

-- before the move's record is on the disk: the five entries
stop_before : Prefix K64 before [] (Some (Write part)) before []
stop_before = acknowledged (Some (Write part))

-- behind it: the five entries, with the move
after_the_move : moved_to K64 before (move_step ∷ []) ≡ whole_with (true ∷ false ∷ []) ones
after_the_move = refl

pub stop_behind : Prefix K64 before [] (Some (Write part)) (whole_with (true ∷ false ∷ []) ones) []
stop_behind = moves (Write part) (move_step ∷ []) (own_step ∷ []) its_steps

-- ---- marks

-- a write that failed, and tore nothing: the history's row stays, and the least row doesn't
abbrev failed : Entry
failed =
    record {
      number = 5;
      actor = 0;
      place = Lane 0;
      request = Write part;
      reply = DiskFault;
      moves = [];
      effects = [];
      torn = None;
      faults_before = 0;
      faults_after = 1;
      calls = 1;
    }

abbrev rows : List Bool → List Row
rows grains = row_with grains ∷ []

history_stays : rows_entry (single_lane K64) (rows (true ∷ true ∷ [])) failed ≡ rows (true ∷ true ∷ [])
history_stays = refl

least_falls : least_entry (single_lane K64) (rows (true ∷ true ∷ [])) failed ≡ rows (false ∷ true ∷ [])
least_falls = refl

under_way_counts : least_asked (single_lane K64) (rows (true ∷ true ∷ [])) (Some (Write part)) ≡ rows (false ∷ true ∷ [])
under_way_counts = refl

all_same : (g : ℕ) → has (false ∷ true ∷ []) g ≡ true → has (true ∷ true ∷ []) g ≡ true
all_same zero e = refl
all_same (suc zero) e = refl
all_same (suc (suc g)) e = e

-- metadata may say so much, and so little
marked_or_not : AreMarked (rows (false ∷ true ∷ [])) (rows (true ∷ true ∷ [])) (rows (false ∷ true ∷ [])) × AreMarked (rows (true ∷ true ∷ [])) (rows (true ∷ true ∷ [])) (rows (false ∷ true ∷ []))
marked_or_not = (
  (record { kept_is = refl; least_is = refl; kept_size = refl; least_size = refl; true_now = all_same; not_less = λ g e. e }, tt),
  (record { kept_is = refl; least_is = refl; kept_size = refl; least_size = refl; true_now = λ g e. e; not_less = all_same }, tt),
)

-- but no grain that the history counts as changed may be left out
mark_left_out : AreMarked (rows (true ∷ true ∷ [])) (rows (false ∷ true ∷ [])) (rows (false ∷ true ∷ [])) → ⊥
mark_left_out h = let e : false ≡ true = h.0.true_now zero refl in cc

-- ---- disks

abbrev pub disk_with : List (List ℕ) → DiskState
disk_with grains = record (blank Flat None) { grains = grains }

abbrev disks : List NamedDisk
disks = record { volume = None; disk = disk_with [] } ∷ record { volume = Some (vol 0); disk = disk_with ((2 ∷ []) ∷ (0 ∷ []) ∷ []) } ∷ []

on_the_disk : stored_on (single_lane K64) disks copied 0 0 ≡ twos
on_the_disk = refl

lost_by_metadata : stored_on (single_lane K64) disks (record copied { lost = record { volume = 0; lost = true ∷ false ∷ [] } ∷ [] }) 0 0 ≡ Lost
lost_by_metadata = refl

-- ---- actions

actions_of_the_move : actions_of_move move_step the_move ≡ Data move_step ∷ Note pair ∷ []
actions_of_the_move = refl

actions_of_the_write : actions_of_own [] own_step 0 ≡ Data own_step ∷ Note (Written (vol 0) (grain_no 0)) ∷ []
actions_of_the_write = refl

actions_of_a_first_write : actions_of_own (rows (true ∷ true ∷ [])) own_step 0 ≡ Note (Changing (vol 0) (grain_no 0)) ∷ Data own_step ∷ Note (Written (vol 0) (grain_no 0)) ∷ []
actions_of_a_first_write = refl

actions_of_a_second_write : actions_of_own (rows (false ∷ true ∷ [])) own_step 0 ≡ Data own_step ∷ Note (Written (vol 0) (grain_no 0)) ∷ []
actions_of_a_second_write = refl

-- nothing is copied where the grain is lost, nor in place
actions_of_an_empty_move : actions_of_move (record move_step { calls = 0 }) the_move ≡ Note (Pair (slot_id 2) (vol 1) (grain_no 0) false true) ∷ []
actions_of_an_empty_move = refl

actions_in_place : actions_of_move (record move_step { calls = 0 }) (record the_move { in_place = true }) ≡ Note (Pair (slot_id 2) (vol 1) (grain_no 0) true false) ∷ []
actions_in_place = refl

actions_of_a_failed_write : actions_of_stop (Some record { volume = vol 0; grain = grain_no 0; side = Now }) ≡ Note (Torn (vol 0) (grain_no 0) Now) ∷ []
actions_of_a_failed_write = refl

-- a command that only reports does nothing
abbrev says : Decision
says = record { reply = Done; effects = []; events = []; changes = [] }

abbrev starts : Decision
starts = record says { effects = State (map_id 0) Copying ∷ [] }

of_a_report : actions_of_command says says ≡ []
of_a_report = refl

of_a_start : actions_of_command says starts ≡ Fold ∷ []
of_a_start = refl

of_a_settling : actions_of_command starts says ≡ Fold ∷ []
of_a_settling = refl

-- Two volumes, a write, a mapping, its start, and the write above. Metadata is opened by four calls of its disk, a record takes four
-- more and a fold six.
abbrev calls_of : Action → ℕ
calls_of (Data step) = 0
calls_of (Note r) = 4
calls_of Fold = 6

abbrev session : List Action
session = Fold ∷ Fold ∷ (actions_of_own [] own_step 0 ++ Fold ∷ Fold ∷ (actions_of_move move_step the_move ++ actions_of_own [] own_step 0))

forty_calls : 4 + sum (map calls_of session) ≡ 40
forty_calls = refl
