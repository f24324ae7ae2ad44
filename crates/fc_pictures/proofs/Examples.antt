-- The definitions of what is right in a lane, on small examples whose answers, moves and calls are known by hand.
use Rattle.std.proofs.Common.{◌≡◌, ℕ, Bool, true, false, Option, Some, None, List, [], ◌∷◌, ◌++◌, replicate, refl, arith, inl}
use Rattle.fc_base.specs.declared.decision.LaneEvent.TheVariants.{Trigger, Retire, Work}
use Rattle.fc_base.specs.declared.disk.DiskKind.TheVariants.{Flat}
use Rattle.fc_base.specs.declared.request.Move.{Move}
use Rattle.fc_base.specs.declared.request.Pair.{Pair}
use Rattle.fc_base.specs.declared.request.Place.TheVariants.{Lane}
use Rattle.fc_base.specs.declared.request.Reply.{Reply}
use Rattle.fc_base.specs.declared.request.Reply.TheVariants.{Done, Bytes as Gives, Moved, DiskFault, MediumError, Idle}
use Rattle.fc_base.specs.declared.request.Request.{Request}
use Rattle.fc_base.specs.declared.request.Request.TheVariants.{Read, Write, CopyTurn}
use Rattle.fc_base.specs.declared.request.Side.{Side}
use Rattle.fc_base.specs.declared.request.Side.TheVariants.{Now, Under}
use Rattle.fc_base.specs.declared.request.Torn.{Torn}
use Rattle.fc_base.specs.declared.request.WritePart.{WritePart}
use Rattle.fc_base.specs.declared.size.GrainSize.TheVariants.{K64}
use Rattle.fc_base.specs.declared.state.Access.TheVariants.{Online}
use Rattle.fc_base.specs.Column.{last_below, first_below, holder, first_reader, places_by_birth, old_slots}
use Rattle.fc_base.specs.Moves.{is_in_place, asks, next_behind, write_asks, list_with_asked, list_all_with_asked, fill_moves, write_moves, taken, moved, after_moves}
use Rattle.fc_base.specs.Sheet.{no_slots, slot_at, live_place, mapping_place, birth_place}
use Rattle.fc_base.specs.SheetStep.{made}
use Rattle.fc_entry.specs.Picture.{Content, Bytes, Lost, PlainVolume}
use Rattle.fc_entry.specs.declared.entry.Entry.{Entry}
use Rattle.fc_rules.specs.LaneRight.{IsRightInLane, record_of}
use Rattle.fc_rules.specs.LaneTold.{LaneOf, LaneVolume, LaneTold, grains_in, number_at, place_of, told_event, told_past}
use Rattle.fc_rules.specs.LaneTurn.{next_copy, next_clean}
use Rattle.fc_rules.specs.Steps.{DiskStep}
use Rattle.fc_pictures.specs.Law.{now_of}

-- ---- how the examples are written

-- one lane of grains of 64 KiB
one_lane : LaneOf
one_lane = record { lane = 0; lanes = 1; grain = K64 }

-- the bytes of a block; of a grain its first blocks are told
abbrev block : ℕ → List ℕ
block byte = replicate 512 byte

abbrev volume : ℕ → List Content → List Content → PlainVolume
volume v now under = record { volume = record { 0 = v }; now = now; under = under }

abbrev online : ℕ → LaneVolume
online v = record { volume = record { 0 = v }; kind = Flat; access = Online }

abbrev pair : ℕ → ℕ → ℕ → Pair
pair m source target = record { map = record { 0 = m }; source = record { 0 = source }; target = record { 0 = target }; incremental = false }

abbrev move : ℕ → ℕ → ℕ → Bool → Move
move slot v g in_place = record { slot = record { 0 = slot }; volume = record { 0 = v }; grain = record { 0 = g }; in_place = in_place }

abbrev part : ℕ → ℕ → ℕ → ℕ → WritePart
part v first count byte = record { volume = record { 0 = v }; block = first; count = count; byte = byte }

abbrev torn_at : ℕ → ℕ → Side → Option Torn
torn_at v g side = Some record { volume = record { 0 = v }; grain = record { 0 = g }; side = side }

-- an entry of the lane
abbrev entry : Request → Reply → List Move → Option Torn → ℕ → ℕ → ℕ → Entry
entry request reply moves torn faults_before faults_after calls =
    record {
      number = 0;
      actor = 0;
      place = Lane 0;
      request = request;
      reply = reply;
      moves = moves;
      effects = [];
      torn = torn;
      faults_before = faults_before;
      faults_after = faults_after;
      calls = calls;
    }

-- what is told after an entry
abbrev after : LaneTold → Entry → LaneTold
after told e = told_past one_lane told (record_of e)

-- all definitions open
opened : ℕ
unfolding last_below first_below holder first_reader places_by_birth old_slots is_in_place asks next_behind write_asks list_with_asked list_all_with_asked fill_moves write_moves taken moved after_moves live_place mapping_place birth_place one_lane
opened = 0

-- ---- one pair

-- two volumes of two grains; volume 0 begins with 11, volume 1 with 0
before : LaneTold
before =
    record {
      sheet = made 1 2 (made 0 2 no_slots);
      picture = volume 0 (Bytes (block 11) ∷ Bytes (block 0) ∷ []) (Bytes (block 0) ∷ Bytes (block 0) ∷ []) ∷ volume 1 (Bytes (block 0) ∷ Bytes (block 0) ∷ []) (Bytes (block 0) ∷ Bytes (block 0) ∷ []) ∷ [];
      volumes = online 0 ∷ online 1 ∷ [];
      flags = [];
      pool = record { flat = 510; thin = 512 };
      faults = 0;
      calls = 4;
    }

started : LaneTold
started = told_event one_lane before (Trigger (pair 0 0 1 ∷ []))

-- the target holds what the source does at once, without a call
target_shows : now_of started.picture 1 0 ≡ Bytes (block 11)
unfolding opened before started
target_shows = refl

-- a write of a block of the source: the target gets its own copy by two calls, and the block is written by two
source_written : Entry
source_written = entry (Write (part 0 0 1 22)) Done (move 2 1 0 false ∷ []) None 0 0 4

source_is_right : IsRightInLane one_lane started source_written
unfolding opened before started source_written
source_is_right =
    record {
      place = refl;
      faults_before = refl;
      faults_kept = omega arith;
      no_effects = refl;
      answers = (refl, record { moves = refl; calls = refl; untorn = refl });
    }

copied : LaneTold
copied = after started source_written

target_keeps : now_of copied.picture 1 0 ≡ Bytes (block 11)
unfolding opened before started source_written copied
target_keeps = refl

source_changes : now_of copied.picture 0 0 ≡ Bytes (block 22)
unfolding opened before started source_written copied
source_changes = refl

half_done : (slot_at copied.sheet.slots 1).held ≡ true ∷ false ∷ []
unfolding opened before started source_written copied
half_done = refl

-- then reads of both
target_read : IsRightInLane one_lane copied (entry (Read record { volume = record { 0 = 1 }; block = 0; count = 1 }) (Gives (record { count = 512; byte = 11 } ∷ [])) [] None 0 0 1)
unfolding opened before started source_written copied
target_read =
    record {
      place = refl;
      faults_before = refl;
      faults_kept = omega arith;
      no_effects = refl;
      answers = (((omega arith, tt, tt), refl), record { moves = refl; untorn = refl; calls_are = refl });
    }

source_read : IsRightInLane one_lane copied (entry (Read record { volume = record { 0 = 0 }; block = 0; count = 1 }) (Gives (record { count = 512; byte = 22 } ∷ [])) [] None 0 0 1)
unfolding opened before started source_written copied
source_read =
    record {
      place = refl;
      faults_before = refl;
      faults_kept = omega arith;
      no_effects = refl;
      answers = (((omega arith, tt, tt), refl), record { moves = refl; untorn = refl; calls_are = refl });
    }

-- ---- the target is written first

-- it reads the source's block and writes its own, without a move
target_written : Entry
target_written = entry (Write (part 1 1 1 33)) Done [] None 0 0 2

target_is_right : IsRightInLane one_lane started target_written
unfolding opened before started target_written
target_is_right =
    record {
      place = refl;
      faults_before = refl;
      faults_kept = omega arith;
      no_effects = refl;
      answers = (refl, record { moves = refl; calls = refl; untorn = refl });
    }

written_apart : LaneTold
written_apart = after started target_written

both_blocks : now_of written_apart.picture 1 0 ≡ Bytes (block 11 ++ block 33)
unfolding opened before started target_written written_apart
both_blocks = refl

-- then a write of the source moves nothing
source_later : IsRightInLane one_lane written_apart (entry (Write (part 0 0 1 22)) Done [] None 0 0 2)
unfolding opened before started target_written written_apart
source_later =
    record {
      place = refl;
      faults_before = refl;
      faults_kept = omega arith;
      no_effects = refl;
      answers = (refl, record { moves = refl; calls = refl; untorn = refl });
    }

-- ---- writes that fail

-- the source's own write fails after the target got its copy: what the source shows is lost, the target keeps its bytes
own_failed : Entry
own_failed = entry (Write (part 0 0 128 22)) DiskFault (move 2 1 0 false ∷ []) (torn_at 0 0 Now) 0 1 3

move_step : DiskStep
move_step = record { volume = 1; move = Some (move 2 1 0 false); calls = 2; side = Under }

own_step_of : ℕ → DiskStep
own_step_of calls = record { volume = 0; move = None; calls = calls; side = Now }

own_is_right : IsRightInLane one_lane started own_failed
unfolding opened before started own_failed move_step own_step_of
own_is_right =
    record {
      place = refl;
      faults_before = refl;
      faults_kept = omega arith;
      no_effects = refl;
      answers = (
        refl,
        record {
          step = own_step_of 1;
          extra = 1;
          stopped = record { before = move_step ∷ []; after = []; steps_are = refl; moves = refl; calls = refl; within = omega arith };
          called = omega arith;
          torn = refl;
          risen = inl (omega arith);
        },
      );
    }

lost : LaneTold
lost = after started own_failed

source_lost : now_of lost.picture 0 0 ≡ Lost
unfolding opened before started own_failed lost
source_lost = refl

target_safe : now_of lost.picture 1 0 ≡ Bytes (block 11)
unfolding opened before started own_failed lost
target_safe = refl

-- a lost grain reads as a medium error, without a call, and is written whole again
lost_read : IsRightInLane one_lane lost (entry (Read record { volume = record { 0 = 0 }; block = 0; count = 1 }) MediumError [] None 1 1 0)
unfolding opened before started own_failed lost
lost_read = record { place = refl; faults_before = refl; faults_kept = omega arith; no_effects = refl; answers = (refl, record { moves = refl; untorn = refl; calls_are = refl }) }

lost_part : IsRightInLane one_lane lost (entry (Write (part 0 0 1 33)) MediumError [] None 1 1 0)
unfolding opened before started own_failed lost
lost_part = record { place = refl; faults_before = refl; faults_kept = omega arith; no_effects = refl; answers = (refl, record { moves = refl; calls = refl; untorn = refl }) }

lost_whole : IsRightInLane one_lane lost (entry (Write (part 0 0 128 55)) Done [] None 1 1 1)
unfolding opened before started own_failed lost
lost_whole = record { place = refl; faults_before = refl; faults_kept = omega arith; no_effects = refl; answers = (refl, record { moves = refl; calls = refl; untorn = refl }) }

-- started again, the target shows the loss, and gets it by a move without a call
started_lost : LaneTold
started_lost = told_event one_lane lost (Trigger (pair 1 0 1 ∷ []))

loss_moves : IsRightInLane one_lane started_lost (entry (Write (part 0 0 128 55)) Done (move 3 1 0 false ∷ []) None 1 1 1)
unfolding opened before started own_failed lost started_lost
loss_moves = record { place = refl; faults_before = refl; faults_kept = omega arith; no_effects = refl; answers = (refl, record { moves = refl; calls = refl; untorn = refl }) }

-- the copy to the target fails at its write: what the target held before is lost, and it still shows the source
copy_failed : Entry
copy_failed = entry (Write (part 0 0 1 22)) DiskFault [] (torn_at 1 0 Under) 0 1 2

copy_is_right : IsRightInLane one_lane started copy_failed
unfolding opened before started copy_failed move_step own_step_of
copy_is_right =
    record {
      place = refl;
      faults_before = refl;
      faults_kept = omega arith;
      no_effects = refl;
      answers = (
        refl,
        record {
          step = move_step;
          extra = 2;
          stopped = record { before = []; after = own_step_of 2 ∷ []; steps_are = refl; moves = refl; calls = refl; within = omega arith };
          called = omega arith;
          torn = refl;
          risen = inl (omega arith);
        },
      );
    }

still_shows : now_of (after started copy_failed).picture 1 0 ≡ Bytes (block 11)
unfolding opened before started copy_failed
still_shows = refl

-- a part of the target that fails at its write: the target shows the source on
part_failed : Entry
part_failed = entry (Write (part 1 1 1 33)) DiskFault [] (torn_at 1 0 Under) 0 1 2

part_is_right : IsRightInLane one_lane started part_failed
unfolding opened before started part_failed
part_is_right =
    record {
      place = refl;
      faults_before = refl;
      faults_kept = omega arith;
      no_effects = refl;
      answers = (
        refl,
        record {
          step = record { volume = 1; move = None; calls = 2; side = Under };
          extra = 2;
          stopped = record { before = []; after = []; steps_are = refl; moves = refl; calls = refl; within = omega arith };
          called = omega arith;
          torn = refl;
          risen = inl (omega arith);
        },
      );
    }

-- ---- a restored volume whose copy was stopped reads its own grain under its old slot

restored : LaneTold
restored = told_event one_lane (told_event one_lane started (Trigger (pair 1 1 0 ∷ []))) (Retire record { 0 = 0 })

holds_again : now_of restored.picture 1 0 ≡ Bytes (block 0)
unfolding opened before started restored
holds_again = refl

in_place_failed : Entry
in_place_failed = entry (Write (part 0 0 128 22)) DiskFault [] (torn_at 0 0 Now) 0 1 1

in_place_is_right : IsRightInLane one_lane restored in_place_failed
unfolding opened before started restored in_place_failed own_step_of
in_place_is_right =
    record {
      place = refl;
      faults_before = refl;
      faults_kept = omega arith;
      no_effects = refl;
      answers = (
        refl,
        record {
          step = own_step_of 1;
          extra = 1;
          stopped = record { before = []; after = []; steps_are = refl; moves = refl; calls = refl; within = omega arith };
          called = omega arith;
          torn = refl;
          risen = inl (omega arith);
        },
      );
    }

-- ---- a copier's turns

-- the mapping has copies to make
copying : LaneTold
copying = told_event one_lane started (Work record { 0 = 0 } true false)

first_grain : next_copy one_lane copying ≡ Some (record { 0 = 0 }, record { 0 = 0 })
unfolding opened before started copying
first_grain = refl

no_cleaning : next_clean one_lane copying ≡ None
unfolding opened before started copying
no_cleaning = refl

abbrev turn : Reply → List Move → ℕ → Entry
turn reply moves calls = entry (CopyTurn 0) reply moves None 0 0 calls

first_turn : Entry
first_turn = turn (Moved record { 0 = 0 } record { 0 = 0 }) (move 2 1 0 false ∷ []) 2

first_is_right : IsRightInLane one_lane copying first_turn
unfolding opened before started copying first_turn
first_is_right = record { place = refl; faults_before = refl; faults_kept = omega arith; no_effects = refl; answers = (refl, refl, record { moves = refl; calls = refl; untorn = refl }) }

second_turn : Entry
second_turn = turn (Moved record { 0 = 0 } record { 0 = 1 }) (move 2 1 1 false ∷ []) 2

second_is_right : IsRightInLane one_lane (after copying first_turn) second_turn
unfolding opened before started copying first_turn second_turn
second_is_right = record { place = refl; faults_before = refl; faults_kept = omega arith; no_effects = refl; answers = (refl, refl, record { moves = refl; calls = refl; untorn = refl }) }

-- and then there is nothing to do
third_is_idle : IsRightInLane one_lane (after (after copying first_turn) second_turn) (turn Idle [] 0)
unfolding opened before started copying first_turn second_turn
third_is_idle = record { place = refl; faults_before = refl; faults_kept = omega arith; no_effects = refl; answers = (refl, record { moves = refl; calls = refl; untorn = refl }) }

-- ---- several lanes

abbrev lane_of_four : ℕ → LaneOf
lane_of_four lane = record { lane = lane; lanes = 4; grain = K64 }

-- of six grains lanes 0 and 1 have two each, the others one
shares : (grains_in (lane_of_four 0) 6 ≡ 2) × (grains_in (lane_of_four 1) 6 ≡ 2) × (grains_in (lane_of_four 2) 6 ≡ 1) × (grains_in (lane_of_four 3) 6 ≡ 1)
shares = (refl, refl, refl, refl)

-- grain 5 is the second of lane 1
fifth : (place_of (lane_of_four 1) 5 ≡ 1) × (number_at (lane_of_four 1) 1 ≡ 5)
fifth = (refl, refl)

-- a turn in lane 1 takes grain 1 first
second_lane : next_copy (lane_of_four 1) copying ≡ Some (record { 0 = 0 }, record { 0 = 1 })
unfolding opened before started copying
second_lane = refl
