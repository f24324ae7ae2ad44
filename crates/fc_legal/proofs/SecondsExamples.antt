-- Seconds that pass, on closed examples.
use Rattle.std.proofs.Common.{◌≡◌, ℕ, ◌-◌, ◌^◌, Bool, true, false, Ok, Some, None, List, [], ◌∷◌, codes, refl, arith}
use Rattle.fc_agenda.specs.Goes.{GoesToEnd, GoesAsking, passes, answers, stays}
use Rattle.fc_base.specs.Column.{first_below, last_below, holder, first_reader, places_by_birth, old_slots}
use Rattle.fc_base.specs.Moves.{is_in_place, asks, list_with_asked, list_all_with_asked, fill_moves}
use Rattle.fc_base.specs.Rates.{kib_of_rate}
use Rattle.fc_base.specs.Sheet.{live_place, mapping_place}
use Rattle.fc_base.specs.declared.command.Line.TheVariants.{Blank}
use Rattle.fc_base.specs.declared.ids.GrainNo.{GrainNo}
use Rattle.fc_base.specs.declared.request.Place.TheVariants.{Lane}
use Rattle.fc_base.specs.declared.request.Reply.TheVariants.{Moved, DiskFault}
use Rattle.fc_base.specs.declared.request.Request.{Request}
use Rattle.fc_base.specs.declared.request.Request.TheVariants.{Copy, Clean}
use Rattle.fc_base.specs.declared.size.GrainSize.{GrainSize}
use Rattle.fc_base.specs.declared.size.GrainSize.TheVariants.{K64, K256}
use Rattle.fc_base.specs.declared.state.MapState.TheVariants.{Copying}
use Rattle.fc_base.specs.declared.volume.Mapping.{Mapping}
use Rattle.fc_base.specs.declared.volume.Volume.{Volume}
use Rattle.fc_books.proofs.Examples.{map_id, vol, volume, mapping, slot, books, cleaned}
use Rattle.fc_books.specs.Work.{copies, cleans}
use Rattle.fc_entry.specs.Picture.{PlainVolume, Bytes}
use Rattle.fc_entry.specs.declared.entry.Entry.{Entry}
use Rattle.fc_legal.specs.Agenda.{Reading, Session, next_asked, Seconds, session_rules}
use Rattle.fc_legal.specs.Seconds.{Work, Passing, all_work, next_grain, gained, after_fill, seconds_begun}
use Rattle.fc_legal.specs.Steps.{Step}
use Rattle.fc_legal.specs.Whole.{Whole}
use Rattle.fc_pick.specs.declared.work.WorkFlags.{WorkFlags}

-- ---- parts

abbrev three : List Volume
three = volume 0 (codes "A") 3 ∷ volume 1 (codes "B") 3 ∷ volume 2 (codes "C") 3 ∷ []

abbrev plain : ℕ → PlainVolume
plain v = record { volume = vol v; now = Bytes [] ∷ Bytes [] ∷ Bytes [] ∷ []; under = Bytes [] ∷ Bytes [] ∷ Bytes [] ∷ [] }

abbrev pub all : List Bool
all = true ∷ true ∷ true ∷ []

abbrev pub none : List Bool
none = false ∷ false ∷ false ∷ []

-- a mapping that is copying, at these rates
abbrev pub at_rates : ℕ → ℕ → Mapping → Mapping
at_rates copy clean m = record m { copy_rate = copy; clean_rate = clean }

abbrev pub a_to_b : Mapping
a_to_b = mapping 0 (codes "fcmap0") 0 1 Copying

abbrev pub b_to_c : Mapping
b_to_c = mapping 1 (codes "fcmap1") 1 2 Copying

-- The chain A, B, C in four lanes, where A to B and B to C are copying. B and C hold this, and lanes have made so many calls.
abbrev pub told : Mapping → Mapping → List WorkFlags → List Bool → List Bool → List ℕ → ℕ → Whole
told first second flags b c calls entries =
    record {
      actors = codes "main" ∷ [];
      books = books three (first ∷ second ∷ [])
          (record { births = 5; slots = slot 0 0 0 None all ∷ slot 3 0 1 (Some 0) b ∷ slot 4 0 2 (Some 1) c ∷ [] })
          flags;
      picture = plain 0 ∷ plain 1 ∷ plain 2 ∷ [];
      rows = [];
      faults = 0 ∷ 0 ∷ 0 ∷ 0 ∷ [];
      calls = calls;
      entries = entries;
    }

abbrev pub no_calls : List ℕ
no_calls = 0 ∷ 0 ∷ 0 ∷ 0 ∷ []

abbrev pub copied : ℕ → WorkFlags
copied m = record { map = map_id m; copies = true; cleans = false }

abbrev both : ℕ → WorkFlags
both m = record { map = map_id m; copies = true; cleans = true }

-- so many KiB a second, and the credit
abbrev copying : ℕ → ℕ → ℕ → Work
copying m gain credit = record { map = map_id m; cleans = false; gain = gain; credit = credit }

abbrev cleaning : ℕ → ℕ → ℕ → Work
cleaning m gain credit = record { map = map_id m; cleans = true; gain = gain; credit = credit }

abbrev pub grain_no : ℕ → GrainNo
grain_no g = record { 0 = g }

-- in the last of the seconds
abbrev last_second : List Work → Work → List Work → Passing
last_second over work left = record { seconds = 0; over = over; at_hand = Some work; left = left }

abbrev ended : List Work → Passing
ended over = record { seconds = 0; over = over; at_hand = None; left = [] }

-- a grain, in the lane of its number, of the slot with this birth of a volume was filled
abbrev pub filled : ℕ → Request → ℕ → ℕ → ℕ → ℕ → Entry
filled number request m g birth volume =
    record {
      number = number;
      actor = 0;
      place = Lane g;
      request = request;
      reply = Moved (map_id m) (grain_no g);
      moves = record { slot = record { 0 = birth }; volume = vol volume; grain = grain_no g; in_place = false } ∷ [];
      effects = [];
      torn = None;
      faults_before = 0;
      faults_after = 0;
      calls = 2;
    }

-- ---- how seconds are answered

-- no line is read while seconds pass
abbrev no_reading : Reading
no_reading b line = Ok Blank

-- these entries answer so many seconds; and the first of them, with one more fill next
abbrev AreSeconds : GrainSize → ℕ → Whole → List Entry → Whole → Type 0
AreSeconds grain n w entries last = GoesToEnd (session_rules grain no_reading) (Seconds (seconds_begun n (all_work w.books)) []) w entries last

abbrev WantMoreSeconds : GrainSize → ℕ → Whole → List Entry → Whole → Type 0
WantMoreSeconds grain n w entries last = GoesAsking (session_rules grain no_reading) (Seconds (seconds_begun n (all_work w.books)) []) w entries last

-- the next fill of a second, by `main`, and right
pub record IsNextFill (grain : GrainSize) (p : Passing) (w : Whole) (entry : Entry) (next : Whole) : Type 0 where
  pub asked : next_asked grain (Seconds p []) w ≡ Some (entry.actor, entry.request)
  pub right : Step grain w entry next

-- ---- which work there is

-- all copies by mapping id, and then all cleanings: rate 10 means 128 KiB a second, 50 means 2,048, 60 means 4,096, and 150
-- means 2,097,152
by_mapping :
    all_work (told (at_rates 10 50 a_to_b) (at_rates 60 150 b_to_c) (both 0 ∷ both 1 ∷ []) none none no_calls 0).books
    ≡ copying 0 128 0 ∷ copying 1 4096 0 ∷ cleaning 0 2048 0 ∷ cleaning 1 2097152 0 ∷ []
unfolding all_work kib_of_rate
by_mapping = refl

-- the flags that are set count: this copy has become complete since, and by now its mapping would be cleaned in its place
abbrev since_complete : Whole
since_complete = told (at_rates 10 50 a_to_b) (at_rates 0 0 b_to_c) (copied 0 ∷ []) all none no_calls 0

not_copied_by_now : copies since_complete.books (at_rates 10 50 a_to_b) ≡ false
unfolding mapping_place first_below
not_copied_by_now = refl

cleaned_by_now : cleans since_complete.books (at_rates 10 50 a_to_b) ≡ true
unfolding mapping_place first_below
cleaned_by_now = refl

by_flags : all_work since_complete.books ≡ copying 0 128 0 ∷ []
unfolding all_work kib_of_rate
by_flags = refl

-- ---- credits

credit_grows : gained (copying 0 128 64) ≡ copying 0 128 192
credit_grows = refl

credit_stops : gained (copying 0 128 (2 ^ 64 - 100)) ≡ copying 0 128 (2 ^ 64 - 1)
credit_stops = refl

-- a failed copy costs its grain too, and ends the second of its mapping
abbrev failed : Entry
failed = record (filled 9 (Copy (map_id 0) (grain_no 2)) 0 2 3 1) { reply = DiskFault; moves = []; faults_after = 1; calls = 1 }

failed_copy :
    after_fill K64 (told (at_rates 20 0 a_to_b) (at_rates 10 0 b_to_c) (copied 0 ∷ copied 1 ∷ []) (true ∷ true ∷ false ∷ []) none no_calls 10)
    (last_second [] (copying 0 256 256) (copying 1 128 0 ∷ [])) (copying 0 256 256) failed
    ≡ record { seconds = 0; over = copying 0 256 192 ∷ []; at_hand = None; left = copying 1 128 0 ∷ [] }
unfolding mapping_place first_below next_grain
failed_copy = refl

-- ---- seconds that bring nothing

-- at rate 0, whatever the flags
abbrev at_rest : Whole
at_rest = told (at_rates 0 0 a_to_b) (at_rates 0 0 b_to_c) (both 0 ∷ []) none none no_calls 9

nothing_comes : AreSeconds K64 2 at_rest [] at_rest
unfolding mapping_place first_below last_below holder first_reader next_grain all_work kib_of_rate
nothing_comes =
    record {
      end = Session [];
      goes = passes refl
          (passes refl (passes refl (passes refl (passes refl
          (passes refl (passes refl (passes refl (passes refl (passes refl (passes refl stays))))))))));
      over = refl;
    }

-- 128 KiB aren't worth a grain of 256 KiB: they stay, and the next second brings it
abbrev slow : Whole
slow = told (at_rates 10 0 a_to_b) (at_rates 0 0 b_to_c) (copied 0 ∷ []) none none no_calls 9

credit_stays : AreSeconds K256 1 slow [] slow
unfolding mapping_place first_below next_grain all_work kib_of_rate
credit_stays =
    record {
      end = Session [];
      goes = passes refl (passes refl (passes refl (passes refl stays)));
      over = refl;
    }

grain_in_two_seconds : WantMoreSeconds K256 2 slow [] slow
unfolding mapping_place first_below next_grain all_work kib_of_rate
grain_in_two_seconds =
    record {
      end = Seconds (last_second [] (copying 0 128 256) []) [];
      goes = passes refl (passes refl (passes refl (passes refl (passes refl stays))));
      wanted = (0, Copy (map_id 0) (grain_no 0));
      asks = refl;
    }

-- ---- a second that copies

-- B lacks two grains, and a second is worth four: the two are copied, the least first, and the rest of the credit is lost
abbrev pub lacking : Whole
lacking = told (at_rates 20 0 a_to_b) (at_rates 0 0 b_to_c) (copied 0 ∷ []) (false ∷ true ∷ false ∷ []) none no_calls 9

abbrev pub lacking_one : Whole
lacking_one = told (at_rates 20 0 a_to_b) (at_rates 0 0 b_to_c) (copied 0 ∷ []) (true ∷ true ∷ false ∷ []) none (2 ∷ 0 ∷ 0 ∷ 0 ∷ []) 10

abbrev lacking_none : Whole
lacking_none = told (at_rates 20 0 a_to_b) (at_rates 0 0 b_to_c) (copied 0 ∷ []) all none (2 ∷ 0 ∷ 2 ∷ 0 ∷ []) 11

abbrev pub first_copy : Entry
first_copy = filled 9 (Copy (map_id 0) (grain_no 0)) 0 0 3 1

abbrev second_copy : Entry
second_copy = filled 10 (Copy (map_id 0) (grain_no 2)) 0 2 3 1

first_is_copied : IsNextFill K64 (last_second [] (copying 0 256 256) []) lacking first_copy lacking_one
unfolding first_below last_below holder first_reader places_by_birth old_slots is_in_place asks list_with_asked list_all_with_asked fill_moves mapping_place live_place next_grain
first_is_copied =
    record {
      asked = refl;
      right = record {
        number = refl;
        right = record {
          place = refl;
          faults_before = refl;
          faults_kept = omega arith;
          no_effects = refl;
          answers = (refl, refl, record { moves = refl; calls = refl; untorn = refl });
          next_is = refl;
        };
      };
    }

second_is_copied : IsNextFill K64 (last_second [] (copying 0 256 192) []) lacking_one second_copy lacking_none
unfolding first_below last_below holder first_reader places_by_birth old_slots is_in_place asks list_with_asked list_all_with_asked fill_moves mapping_place live_place next_grain
second_is_copied =
    record {
      asked = refl;
      right = record {
        number = refl;
        right = record {
          place = refl;
          faults_before = refl;
          faults_kept = omega arith;
          no_effects = refl;
          answers = (refl, refl, record { moves = refl; calls = refl; untorn = refl });
          next_is = refl;
        };
      };
    }

all_is_copied : AreSeconds K64 1 lacking (first_copy ∷ second_copy ∷ []) lacking_none
unfolding mapping_place first_below next_grain all_work kib_of_rate
all_is_copied =
    record {
      end = Session [];
      goes = passes refl (passes refl (answers first_is_copied.asked first_is_copied.right (answers second_is_copied.asked second_is_copied.right (passes refl (passes refl stays)))));
      over = refl;
    }

-- ---- a copy and a cleaning in one second

-- The copy of B to C comes before the cleaning of B for C, though its mapping comes later. Each second is worth a grain of
-- 256 KiB to both.
abbrev pub needed : Whole
needed = told (at_rates 0 20 a_to_b) (at_rates 20 0 b_to_c) (cleaned 0 ∷ copied 1 ∷ []) all (false ∷ false ∷ true ∷ []) no_calls 9

abbrev needed_once : Whole
needed_once = told (at_rates 0 20 a_to_b) (at_rates 20 0 b_to_c) (cleaned 0 ∷ copied 1 ∷ []) all (true ∷ false ∷ true ∷ []) (2 ∷ 0 ∷ 0 ∷ 0 ∷ []) 10

abbrev not_needed : Whole
not_needed = told (at_rates 0 20 a_to_b) (at_rates 20 0 b_to_c) (cleaned 0 ∷ copied 1 ∷ []) all all (2 ∷ 2 ∷ 0 ∷ 0 ∷ []) 11

abbrev the_copy : Entry
the_copy = filled 9 (Copy (map_id 1) (grain_no 0)) 1 0 4 2

abbrev the_cleaning : Entry
the_cleaning = filled 10 (Clean (map_id 0) (grain_no 1)) 0 1 4 2

c_is_copied : IsNextFill K256 (last_second [] (copying 1 256 256) (cleaning 0 256 0 ∷ [])) needed the_copy needed_once
unfolding first_below last_below holder first_reader places_by_birth old_slots is_in_place asks list_with_asked list_all_with_asked fill_moves mapping_place live_place next_grain
c_is_copied =
    record {
      asked = refl;
      right = record {
        number = refl;
        right = record {
          place = refl;
          faults_before = refl;
          faults_kept = omega arith;
          no_effects = refl;
          answers = (refl, refl, record { moves = refl; calls = refl; untorn = refl });
          next_is = refl;
        };
      };
    }

b_is_cleaned : IsNextFill K256 (last_second (copying 1 256 0 ∷ []) (cleaning 0 256 256) []) needed_once the_cleaning not_needed
unfolding first_below last_below holder first_reader places_by_birth old_slots is_in_place asks list_with_asked list_all_with_asked fill_moves mapping_place live_place next_grain
b_is_cleaned =
    record {
      asked = refl;
      right = record {
        number = refl;
        right = record {
          place = refl;
          faults_before = refl;
          faults_kept = omega arith;
          no_effects = refl;
          answers = (refl, refl, record { moves = refl; calls = refl; untorn = refl });
          next_is = refl;
        };
      };
    }

copy_then_cleaning : AreSeconds K256 1 needed (the_copy ∷ the_cleaning ∷ []) not_needed
unfolding mapping_place first_below last_below holder first_reader next_grain all_work kib_of_rate
copy_then_cleaning =
    record {
      end = Session [];
      goes = passes refl (passes refl (answers c_is_copied.asked c_is_copied.right (passes refl (passes refl (answers b_is_cleaned.asked b_is_cleaned.right (passes refl (passes refl stays)))))));
      over = refl;
    }
