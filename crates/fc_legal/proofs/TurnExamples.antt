-- Turns of workers, on closed examples: the chain A, B, C in four lanes, of volumes of three grains.
use Rattle.std.proofs.Common.{ℕ, ◌<◌, true, false, [], ◌∷◌, refl, arith}
use Rattle.fc_base.specs.Column.{first_below, last_below, holder, first_reader, places_by_birth, old_slots}
use Rattle.fc_base.specs.Moves.{is_in_place, asks, list_with_asked, list_all_with_asked, fill_moves}
use Rattle.fc_base.specs.Sheet.{live_place, mapping_place}
use Rattle.fc_base.specs.declared.request.Reply.TheVariants.{Idle}
use Rattle.fc_base.specs.declared.request.Request.{Request}
use Rattle.fc_base.specs.declared.request.Request.TheVariants.{CopyTurn, CleanTurn}
use Rattle.fc_base.specs.declared.size.GrainSize.TheVariants.{K64, K256}
use Rattle.fc_books.proofs.Examples.{cleaned}
use Rattle.fc_entry.specs.declared.entry.Entry.{Entry}
use Rattle.fc_legal.proofs.SecondsExamples.{all, none, at_rates, a_to_b, b_to_c, told, copied, filled, lacking, needed}
use Rattle.fc_legal.specs.Steps.{Step}
use Rattle.fc_legal.specs.Whole.{Whole, part_at}

-- ---- a copier

-- B lacks grains 0 and 2. A turn in lane 2 takes grain 2, the least of its lane
abbrev copied_there : Entry
copied_there = filled 9 (CopyTurn 2) 0 2 3 1

abbrev lacking_first : Whole
lacking_first = told (at_rates 20 0 a_to_b) (at_rates 0 0 b_to_c) (copied 0 ∷ []) (false ∷ true ∷ true ∷ []) none (0 ∷ 0 ∷ 2 ∷ 0 ∷ []) 10

copies_in_its_lane : Step K64 lacking copied_there lacking_first
unfolding first_below last_below holder first_reader places_by_birth old_slots is_in_place asks list_with_asked list_all_with_asked fill_moves mapping_place live_place part_at
copies_in_its_lane =
    record {
      number = refl;
      right = record {
        within = omega arith;
        step = record {
          place = refl;
          faults_before = refl;
          faults_kept = omega arith;
          no_effects = refl;
          answers = (refl, refl, record { moves = refl; calls = refl; untorn = refl });
          next_is = refl;
        };
      };
    }

-- a turn in a lane that lacks nothing is idle, whatever others lack
abbrev idle_in : ℕ → Request → ℕ → Entry
idle_in number turn lane = record (filled number turn 0 lane 0 0) { reply = Idle; moves = []; calls = 0 }

abbrev lacking_still : Whole
lacking_still = record lacking { entries = 10 }

idle_elsewhere : Step K64 lacking (idle_in 9 (CopyTurn 1) 1) lacking_still
unfolding first_below mapping_place part_at
idle_elsewhere =
    record {
      number = refl;
      right = record {
        within = omega arith;
        step = record {
          place = refl;
          faults_before = refl;
          faults_kept = omega arith;
          no_effects = refl;
          answers = (refl, record { moves = refl; calls = refl; untorn = refl });
          next_is = refl;
        };
      };
    }

-- and there alone
not_idle_here : Step K64 lacking (idle_in 9 (CopyTurn 2) 2) lacking_still → ⊥
unfolding first_below mapping_place part_at
not_idle_here step = step.right.step.answers

-- there is no turn in a fifth lane
no_fifth_lane : (next : Whole) → Step K64 lacking (idle_in 9 (CopyTurn 4) 4) next → ⊥
no_fifth_lane next step = let within : 4 < 4 = step.right.within in omega arith

-- ---- a cleaner

-- B is needed at grains 0 and 1, since C lacks them. A turn in lane 1 gives grain 1 to C
abbrev cleaned_there : Entry
cleaned_there = filled 9 (CleanTurn 1) 0 1 4 2

abbrev needed_first : Whole
needed_first = told (at_rates 0 20 a_to_b) (at_rates 20 0 b_to_c) (cleaned 0 ∷ copied 1 ∷ []) all (false ∷ true ∷ true ∷ []) (0 ∷ 2 ∷ 0 ∷ 0 ∷ []) 10

cleans_in_its_lane : Step K256 needed cleaned_there needed_first
unfolding first_below last_below holder first_reader places_by_birth old_slots is_in_place asks list_with_asked list_all_with_asked fill_moves mapping_place live_place part_at
cleans_in_its_lane =
    record {
      number = refl;
      right = record {
        within = omega arith;
        step = record {
          place = refl;
          faults_before = refl;
          faults_kept = omega arith;
          no_effects = refl;
          answers = (refl, refl, record { moves = refl; calls = refl; untorn = refl });
          next_is = refl;
        };
      };
    }
