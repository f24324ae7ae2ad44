-- The definitions on closed examples: the write to A of `fc_kept`'s examples, which first moves a grain to B.
use Rattle.std.proofs.Common.{◌≡◌, ◌≢◌, ℕ, zero, suc, ◌%◌, ◌/◌, true, false, cond, ◌==◌, Option, Some, None, List, [], ◌∷◌, codes, refl, sym, ap, ◌∙◌, arith, ◌⊎◌, inl, inr}
use Rattle.std.specs.List.{AllZip}
use Rattle.std.proofs.lemmas.Bool.{ne_eqb}
use Rattle.fc_base.specs.Column.{last_below, first_below, holder, first_reader, places_by_birth, old_slots}
use Rattle.fc_base.specs.Moves.{is_in_place, asks, next_behind, write_asks, list_with_asked, list_all_with_asked, write_moves, taken, moved, after_moves}
use Rattle.fc_base.specs.Sheet.{slot_at, live_place}
use Rattle.fc_base.specs.declared.request.Place.TheVariants.{Lane}
use Rattle.fc_base.specs.declared.request.Reply.TheVariants.{DiskFault}
use Rattle.fc_base.specs.declared.request.Request.TheVariants.{Write}
use Rattle.fc_base.specs.declared.request.Side.TheVariants.{Under}
use Rattle.fc_base.specs.declared.request.Torn.{Torn}
use Rattle.fc_base.specs.declared.size.GrainSize.TheVariants.{K64}
use Rattle.fc_books.proofs.Examples.{vol, volume}
use Rattle.fc_changed.specs.Notes.{has}
use Rattle.fc_changed.specs.Row.{Row}
use Rattle.fc_decided.proofs.Lists.{first_in}
use Rattle.fc_entry.specs.Picture.{Content, Bytes, Lost}
use Rattle.fc_entry.specs.declared.entry.Entry.{Entry}
use Rattle.fc_image.specs.declared.record.MetaRecord.{MetaRecord}
use Rattle.fc_image.specs.declared.record.MetaRecord.TheVariants.{Pair, Written, Changing, Torn as TornRecord}
use Rattle.fc_kept.specs.Actions.{Action, Action.Data, Action.Note, Action.Fold}
use Rattle.fc_legal.specs.Steps.{IsInside, Step, after_access}
use Rattle.fc_legal.specs.Whole.{lane_at, single_lane}
use Rattle.fc_kept.specs.Disks.{NamedDisk, disk_of, on_disk}
use Rattle.fc_kept.specs.Kept.{Kept, sheet_kept}
use Rattle.fc_kept.specs.Marks.{least_entry}
use Rattle.fc_kept.specs.OneGrain.{Another}
use Rattle.fc_kept.specs.Recoverable.{disks_at}
use Rattle.fc_kept.proofs.Examples.{grain_no, slot_id, started, copied, ones, nulls, plain, before, part, move_step, own_step, its_steps, disk_with}
use Rattle.law_crash.specs.Costs.{Sizes, calls_of_actions, calls_of_history, used_behind_all}
use Rattle.law_crash.specs.Points.{Point, on_disks, stored_by}
use Rattle.law_crash.specs.Doing.{number_of, actions_of_steps, content_of, SameDisk, StepWrites, folded, noted, with_kept, with_disks, Finds}
use Rattle.law_crash.specs.Running.{Does, Does.stopped, Stops, Stops.done}

abbrev pair : MetaRecord
pair = Pair (slot_id 2) (vol 1) (grain_no 0) false false

abbrev wrote : MetaRecord
wrote = Written (vol 0) (grain_no 0)

-- ---- the actions, in their order

the_actions : actions_of_steps [] (number_of K64 (Write part)) (move_step ∷ own_step ∷ []) ≡ Data move_step ∷ Note pair ∷ Data own_step ∷ Note wrote ∷ []
the_actions = refl

-- where A to B is followed and both are the same at the grain, the mark comes before the data of the write
abbrev followed : List Row
followed = record { map = 0; source = 0; target = 1; into = 1; same = true ∷ true ∷ [] } ∷ []

the_marked_actions : actions_of_steps followed (number_of K64 (Write part)) (move_step ∷ own_step ∷ []) ≡ Data move_step ∷ Note pair ∷ Note (Changing (vol 0) (grain_no 0)) ∷ Data own_step ∷ Note wrote ∷ []
the_marked_actions = refl

-- ---- the calls that metadata costs

-- Two volumes, a write, a mapping, its start, and the write above.
abbrev small : Sizes
small = record { batch = λ r. 28; image = 300; half = 4096 }

abbrev entries : List (Sizes × List Action)
entries =
    (small, Fold ∷ [])
    ∷ (small, Fold ∷ [])
    ∷ (small, actions_of_steps [] (number_of K64 (Write part)) (own_step ∷ []))
    ∷ (small, Fold ∷ [])
    ∷ (small, Fold ∷ [])
    ∷ (small, actions_of_steps [] (number_of K64 (Write part)) (move_step ∷ own_step ∷ []))
    ∷ []

forty_calls : calls_of_history 27 entries ≡ 40
forty_calls = refl

-- where the second batch of a write doesn't fit, there is a fold before it
abbrev full : Sizes
full = record small { half = 340 }

the_write_folds : calls_of_actions full 300 (actions_of_steps [] (number_of K64 (Write part)) (move_step ∷ own_step ∷ [])) ≡ 14
the_write_folds = refl

behind_the_write : used_behind_all full 300 (actions_of_steps [] (number_of K64 (Write part)) (move_step ∷ own_step ∷ [])) ≡ 328
behind_the_write = refl

-- ---- what they do

-- the move writes what B shows, which A's disk has
the_move_writes : content_of K64 before (Write part) move_step ≡ ones
the_move_writes = refl

abbrev disks : List ℕ → List ℕ → List (List NamedDisk)
disks a b =
    (record { volume = Some (vol 0); disk = disk_with (a ∷ (0 ∷ []) ∷ []) }
    ∷ record { volume = Some (vol 1); disk = disk_with (b ∷ (0 ∷ []) ∷ []) }
    ∷ [])
    ∷ []

abbrev first : Point
first = record { kept = started; disks = disks (1 ∷ []) (0 ∷ []) }

-- behind its data and its record B holds its own copy
behind_the_move : noted pair (with_disks (disks (1 ∷ []) (1 ∷ [])) first) ≡ record { kept = copied; disks = disks (1 ∷ []) (1 ∷ []) }
behind_the_move = refl

copied_is_stored : stored_by K64 before (noted pair (with_disks (disks (1 ∷ []) (1 ∷ [])) first)) 1 0 ≡ ones
copied_is_stored = refl

-- ---- what a stop finds

-- any bytes, and the bytes that are moved
abbrev nines : Content
nines = Bytes (9 ∷ [])

abbrev holding : ℕ → List (List NamedDisk)
holding b = disks (1 ∷ []) (b ∷ [])

-- nobody else has a disk
abbrev disk_no : ℕ → ℕ → NamedDisk
disk_no v byte = record { volume = Some (vol v); disk = disk_with ((byte ∷ []) ∷ (0 ∷ []) ∷ []) }

none_of : (b w : ℕ) → (0 == w) ≡ false → (1 == w) ≡ false → disk_of (disks_at (holding b) 0) w ≡ None
none_of b w e f = λ j. cond (e j) (Some (disk_no 0 1)) (cond (f j) (Some (disk_no 1 b)) None)

neither : (b w : ℕ) → disk_of (disks_at (holding b) 0) (suc (suc w)) ≡ None
neither b w = none_of b (suc (suc w)) (ne_eqb 0 (suc (suc w)) (λ q. omega (arith, q))) (ne_eqb 1 (suc (suc w)) (λ q. omega (arith, q)))

-- whatever B's grain got, no other grain of a disk changed
else_same : (b i w p : ℕ) → (w ≢ 1) ⊎ (p ≢ 0) → on_disk (lane_at K64 before i) (disk_of (disks_at (holding b) i) w) p ≡ on_disk (lane_at K64 before i) (disk_of (disks_at (holding 0) i) w) p
else_same b (suc i) w p other = refl
else_same b zero zero p other = refl
else_same b zero (suc (suc w)) p other = ap (λ (o : Option NamedDisk). on_disk (lane_at K64 before 0) o p) (neither b w ∙ sym (neither 0 w))
else_same b zero (suc zero) (suc p) other = refl
else_same b zero (suc zero) zero other =
    elim other [
      | inl n ↦ absurd (n refl)
      | inr n ↦ absurd (n refl)
    ]

all_same : (b i : ℕ) → AllZip SameDisk (disks_at (holding 0) i) (disks_at (holding b) i)
all_same b zero = (record { volume = refl; kind = refl; grains = refl }, (record { volume = refl; kind = refl; grains = refl }, tt))
all_same b (suc i) = tt

first_place : (y : ℕ) → (y % 1 ≡ 0) × (y / 1 ≡ y)
first_place y = (omega arith, omega arith)

writes : (b : ℕ) → StepWrites K64 before (Write part) move_step (Bytes (b ∷ [])) (holding 0) (holding b)
writes b =
    record {
      count = refl;
      same = all_same b;
      stored = record {
        here = refl;
        elsewhere = λ w y other. else_same b (y % 1) w (y / 1) (elim other [ inl n ↦ inl n | inr n ↦ inr (λ e. n (sym (first_place y).1 ∙ e)) ]);
      };
    }

abbrev in_data : Point
in_data = with_disks (holding 9) first

abbrev behind_data : Point
behind_data = with_disks (holding 1) first

abbrev copy_with : Content → Option Another
copy_with content = Some record { volume = 1; grain = 0; content = content }

abbrev FindsIn : Option Another → Point → Type 0
FindsIn one q = Finds K64 before (Write part) before.books.sheet (Data move_step ∷ Note pair ∷ Data own_step ∷ Note wrote ∷ []) first one q

before_all : FindsIn None first
before_all = inl (refl, refl, inl refl)

-- in the move's data B's grain may have any bytes, and no metadata tells of them
in_the_data : FindsIn (copy_with nines) in_data
in_the_data = inr (inl record { content = nines; writes = writes 9; kept = inl refl; one_is = refl })

-- behind them it has its copy, and still no metadata tells of it
behind_the_data : FindsIn (copy_with ones) behind_data
behind_the_data = inr (inl record { content = ones; writes = writes 1; kept = inl refl; one_is = refl })

-- and then the record does
behind_the_record : FindsIn None (noted pair behind_data)
behind_the_record = inr (inr (holding 1, writes 1, started, inl refl, inl (refl, refl, inl refl)))

-- in a fold before the record, or behind the fold, metadata has the store's chains, and still doesn't tell of the copy
in_the_fold : FindsIn (copy_with ones) (with_kept (folded before.books.sheet started) behind_data)
in_the_fold = inr (inl record { content = ones; writes = writes 1; kept = inr refl; one_is = refl })

behind_the_fold : FindsIn None (noted pair (with_kept (folded before.books.sheet started) behind_data))
behind_the_fold = inr (inr (holding 1, writes 1, folded before.books.sheet started, inr refl, inl (refl, refl, inl refl)))

-- but the record of what isn't on the disk is never found
record_alone : FindsIn None (noted pair first) → ⊥
record_alone f =
    elim f [
      | inl x ↦ elim x.2 [
        | inl y ↦ let e : true ≡ false = ap (λ (k : Kept). has (slot_at k.sheet.slots 1).held 0) y in cc
        | inr y ↦ let e : true ≡ false = ap (λ (k : Kept). has (slot_at k.sheet.slots 1).held 0) y in cc
      ]
      | inr y ↦ elim y [
        | inl x ↦ let e : (let a : Option Another = None in a) ≡ copy_with (stored_by K64 before (noted pair first) 1 0) = x.one_is in cc
        | inr x ↦ written_first x.0 x.1 x.2 x.4
      ]
    ]
  where
    written_first : (new : List (List NamedDisk)) → StepWrites K64 before (Write part) move_step ones (holding 0) new → (kept : Kept) →
        Finds K64 before (Write part) (sheet_kept before.books.sheet pair) (Data own_step ∷ Note wrote ∷ []) (noted pair (with_kept kept (with_disks new first))) None (noted pair first) → ⊥
    written_first new w kept g =
        elim g [
          | inl x ↦ let e : nulls ≡ ones = ap (λ (d : List (List NamedDisk)). on_disks K64 before d 1 0) x.1 ∙ w.stored.here in cc
          | inr y ↦ elim y [
            | inl x ↦ let e : (let a : Option Another = None in a) ≡ Some record { volume = 0; grain = 0; content = stored_by K64 before (noted pair first) 0 0 } = x.one_is in cc
            | inr x ↦ let e : nulls ≡ ones = ap (λ (d : List (List NamedDisk)). on_disks K64 before d 1 0) x.4.1 ∙ (x.1.stored.elsewhere 1 0 (inl (λ q. cc)) ∙ w.stored.here) in cc
          ]
        ]

-- ---- a stop behind the record of what a failed write tore

-- the move's write failed: B's grain has any bytes where nobody reads it
abbrev torn : Torn
torn = record { volume = vol 1; grain = grain_no 0; side = Under }

abbrev behind_the_torn : Point
behind_the_torn = noted (TornRecord (vol 1) (grain_no 0) Under) (with_disks (holding 9) first)

its_grain_is_lost : stored_by K64 before behind_the_torn 1 0 ≡ Lost
its_grain_is_lost = refl

-- and the write answers a disk fault
abbrev failed : Entry
failed =
    record {
      number = 5;
      actor = 0;
      place = Lane 0;
      request = Write part;
      reply = DiskFault;
      moves = [];
      effects = [];
      torn = Some torn;
      faults_before = 0;
      faults_after = 1;
      calls = 2;
    }

part_is_inside : IsInside K64 before.books.tables (vol 0) 0 1
part_is_inside =
    record { of = volume 0 (codes "A") 2; there = first_in (volume 0 (codes "A") 2) (volume 1 (codes "B") 2 ∷ []); id_is = refl; some = omega arith; in_one = omega arith; inside = omega arith }

it_is_right : Step K64 before failed (after_access K64 before 0 failed)
unfolding live_place first_below last_below holder first_reader places_by_birth old_slots is_in_place asks next_behind write_asks list_with_asked list_all_with_asked write_moves taken moved after_moves
it_is_right =
    record {
      number = refl;
      right = (
        part_is_inside,
        record {
          place = refl;
          faults_before = refl;
          faults_kept = omega arith;
          no_effects = refl;
          answers = (
            refl,
            record {
              step = move_step;
              extra = 2;
              stopped = record { before = []; after = own_step ∷ []; steps_are = refl; moves = refl; calls = refl; within = omega arith };
              called = omega arith;
              torn = refl;
              risen = inl (omega arith);
            },
          );
          next_is = refl;
        },
      );
    }

it_does : Does K64 before [] first failed (after_access K64 before 0 failed) (least_entry (single_lane K64) [] failed) behind_the_torn
it_does =
    stopped 0 (Write part) [] (own_step ∷ []) move_step (Some torn) behind_the_torn refl part_is_inside its_steps
    record { begun = first; marked = first; did = refl; marks = refl; tears = (refl, omega arith, nines, holding 9, writes 9, started, inl refl, refl) }
    record { request_is = refl; written = refl; moves = refl; torn_is = refl; no_effects = refl }

-- a stop behind that record, before the answer, finds what the entry leads to
behind_its_record : Stops K64 before [] first (Write part) None behind_the_torn
behind_its_record = done failed (after_access K64 before 0 failed) (least_entry (single_lane K64) [] failed) behind_the_torn it_is_right it_does

-- there B shows what it did, and what stood under it is lost
shown_behind : (after_access K64 before 0 failed).picture ≡ plain 0 ones nulls ∷ record { volume = vol 1; now = ones ∷ nulls ∷ []; under = Lost ∷ nulls ∷ [] } ∷ []
shown_behind = refl
