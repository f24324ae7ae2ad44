-- Rows worked by hand: what reading gives.
use Rattle.std.proofs.Common.{◌≡◌, false, true, [], ◌∷◌, Some, None, Ok, Err, codes, refl}
use Rattle.fc_base.specs.declared.request.Effect.TheVariants.{Gone}
use Rattle.fc_base.specs.declared.request.Move.{Move}
use Rattle.fc_reading_notes.specs.Between.{between_at, reaches}
use Rattle.fc_reading_notes.specs.Told.{told_at}
use Rattle.fc_reading_notes.specs.declared.notes.Told.{Told}

abbrev gone : Told
gone = record { calls = None; notes = record { moves = []; torn = None; effects = Gone (record { 0 = 4 }) ∷ [] } }

abbrev moved : Move
moved = record { slot = record { 0 = 3 }; volume = record { 0 = 1 }; grain = record { 0 = 0 }; in_place = true }

abbrev in_lane : Told
in_lane = record {
  calls = Some (record { calls = 4; faults_before = 0; faults_after = 1 });
  notes = record { moves = moved ∷ []; torn = None; effects = [] };
}

-- an effect, and what stands behind the end
reads_effect : told_at false (codes "+ gone 4\n.\n5") ≡ Ok (gone, codes "5")
reads_effect = refl

reads_move : told_at true (codes "+ calls 4 faults 0 1\n+ move 3 1 0 in place\n.\n") ≡ Ok (in_lane, [])
reads_move = refl

-- an entry of a lane has its calls; a move stands behind no effect
wants_calls : told_at true (codes ".\n") ≡ Err 2
wants_calls = refl

wants_effect : told_at false (codes "+ gone 4\n+ move") ≡ Err 3
wants_effect = refl

-- numbers from 25 to 60
between : between_at 25 60 (codes "37,") ≡ Ok (37, codes ",")
unfolding reaches
between = refl

too_low : between_at 25 60 (codes "2\n") ≡ Err 1
unfolding reaches
too_low = refl

too_high : between_at 25 60 (codes "61") ≡ Err 1
unfolding reaches
too_high = refl

begins_none : between_at 25 60 (codes "7\n") ≡ Err 2
unfolding reaches
begins_none = refl
