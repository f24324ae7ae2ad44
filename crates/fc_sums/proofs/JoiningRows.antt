-- What is kept of incremental mappings, and which grains occupy memory: counted lane by lane, and found again from the parts.
use Rattle.std.proofs.Common.{◌≡◌, ℕ, ◌<◌, Bool, false, true, ◌==◌, cond, List, [], ◌∷◌, refl, sym}
use Rattle.std.specs.List.{sum_by}
use Rattle.fc_base.specs.Room.{Room, reached_in, used_in}
use Rattle.fc_base.specs.SheetView.{count_true}
use Rattle.fc_base.specs.declared.size.GrainSize.{GrainSize}
use Rattle.fc_changed.specs.Row.{Row, restart_in}
use Rattle.fc_legal.specs.Whole.{part, part_of_rooms}
use Rattle.fc_rules.specs.LaneTold.{LaneOf}
use Rattle.fc_parts.proofs.Numbers.{IsLane}
use Rattle.fc_parts.proofs.Rows.{restart_part}
use Rattle.fc_parts.proofs.Views.{part_nil}
use Rattle.fc_sums.specs.Parts.{parts_of_rows, joined_rows, parts_of_rooms, joined_rooms}
use Rattle.fc_sums.proofs.JoiningBits.{HaveBits, found_sum, joined_parts}

-- ---- incremental mappings

abbrev no_row : Row
no_row = record { map = 0; source = 0; target = 0; into = 0; same = [] }

abbrev same_of : Row → List Bool
same_of row = row.same

abbrev with_same : Row → List Bool → Row
with_same row same = record row { same = same }

rows_have : HaveBits same_of with_same no_row
rows_have = record { put = λ row b. refl; last = λ row a b. refl; own = λ row. refl; empty = refl }

pub restarts_sum : (grain : GrainSize) (lanes m : ℕ) (rows : List Row) → 0 < lanes →
    sum_by (λ (part : List Row). count_true (restart_in m part)) (parts_of_rows grain lanes rows) ≡ count_true (restart_in m rows)
restarts_sum grain lanes m rows above = found_sum same_of with_same no_row rows_have (restart_in m) (λ l i rs. restart_part l i m rs) grain lanes rows above

pub joined_rows_parts : (grain : GrainSize) (lanes : ℕ) (rows : List Row) → 0 < lanes → joined_rows (parts_of_rows grain lanes rows) ≡ rows
joined_rows_parts grain lanes rows above = joined_parts same_of with_same no_row rows_have grain lanes rows above

-- ---- which grains occupy memory

abbrev no_room : Room
no_room = record { volume = record { 0 = 0 }; reached = [] }

abbrev reached_of : Room → List Bool
reached_of room = room.reached

abbrev with_reached : Room → List Bool → Room
with_reached room reached = record room { reached = reached }

rooms_have : HaveBits reached_of with_reached no_room
rooms_have = record { put = λ room b. refl; last = λ room a b. refl; own = λ room. refl; empty = refl }

reached_part : (id : ℕ) (l : LaneOf) → IsLane l → (rooms : List Room) → reached_in (part_of_rooms l rooms) id ≡ part l false (reached_in rooms id)
reached_part id l i [] = sym (part_nil l i false)
reached_part id l i (room ∷ rooms) = by_test (room.volume.0 == id) _ _ (reached_part id l i rooms)
  where
    by_test : (b : Bool) (rest rest' : List Bool) → rest' ≡ part l false rest → cond b (part l false room.reached) rest' ≡ part l false (cond b room.reached rest)
    by_test true rest rest' e = refl
    by_test false rest rest' e = e

pub used_sum : (grain : GrainSize) (lanes id : ℕ) (rooms : List Room) → 0 < lanes →
    sum_by (λ (part : List Room). used_in part id) (parts_of_rooms grain lanes rooms) ≡ used_in rooms id
used_sum grain lanes id rooms above = found_sum reached_of with_reached no_room rooms_have (λ rs. reached_in rs id) (reached_part id) grain lanes rooms above

pub joined_rooms_parts : (grain : GrainSize) (lanes : ℕ) (rooms : List Room) → 0 < lanes → joined_rooms (parts_of_rooms grain lanes rooms) ≡ rooms
joined_rooms_parts grain lanes rooms above = joined_parts reached_of with_reached no_room rooms_have grain lanes rooms above
