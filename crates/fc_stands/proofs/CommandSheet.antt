-- The books that a command is decided by: what the control part has, and what the lanes tell of their chains, restart sets,
-- disks and room.
use Rattle.std.proofs.Common.{◌≡◌, ℕ, ◌<◌, List, [], ◌∷◌, length, map, slice_index_or, refl, sym, ◌∙◌, ap, arith}
use Rattle.std.specs.List.{range_with_len}
use Rattle.std.proofs.lemmas.List.FromFn.{get_or-map-range_with_len, length-map-range_with_len}
use Rattle.fc_base.specs.Pools.{Pool}
use Rattle.fc_base.specs.Room.{Room}
use Rattle.fc_base.specs.Sheet.{Sheet, no_slots}
use Rattle.fc_base.specs.declared.size.GrainSize.{GrainSize}
use Rattle.fc_changed.specs.Row.{Row, restart_in}
use Rattle.fc_desk.specs.Control.{books_of}
use Rattle.fc_grains.specs.Volumes.{rooms_of}
use Rattle.fc_lane.specs.Lane.{LaneView}
use Rattle.fc_legal.specs.Whole.{Whole, lanes, part_at, part_of_rows, part_of_rooms, pool_at}
use Rattle.fc_sums.specs.Law.{PartsLaw}
use Rattle.fc_sums.specs.Parts.{lane_of, part_of, parts_of, joined, parts_of_rows, joined_rows, parts_of_rooms, joined_rooms}
use Rattle.fc_sums.proofs.Lawful.{sum_law_holds}
use Rattle.fc_lane_sheet.specs.LaneSheet.{chains_of, pools_of, rows_of, rooms_in, all_rows, all_rooms, sheet_of, view_of}
use Rattle.fc_stands.specs.Phase.{StandsAt}
use Rattle.fc_stands.specs.Store.{StoreView, AreLanesOf}
use Rattle.fc_stands.proofs.PhaseStands.{view_in, books_are}

-- ---- lists of what each lane tells

lanes_tell : (X : Type 0) (past : X) (tells : LaneView → X) (ls : List LaneView) (xs : List X) → length ls ≡ length xs →
    ((i : ℕ) (d : LaneView) → i < length ls → tells (slice_index_or ls i d) ≡ slice_index_or xs i past) → map tells ls ≡ xs
lanes_tell X past tells [] [] n each = refl
lanes_tell X past tells [] (x ∷ xs) n each = absurd (omega (arith, n))
lanes_tell X past tells (v ∷ vs) [] n each = absurd (omega (arith, n))
lanes_tell X past tells (v ∷ vs) (x ∷ xs) n each =
    ap (λ (z : X). z ∷ map tells vs) (each 0 v (omega arith))
    ∙ ap (λ (zs : List X). x ∷ zs) (lanes_tell X past tells vs xs (omega (arith, n)) (λ i d lt. each (ℕ.suc i) d (omega (arith, lt))))

-- Each lane tells its own by its number.
own_told : (X : Type 0) (tells : LaneView → List X) (own : ℕ → List X) (n : ℕ) (ls : List LaneView) → length ls ≡ n →
    ((i : ℕ) (d : LaneView) → i < length ls → tells (slice_index_or ls i d) ≡ own i) → map tells ls ≡ map own (range_with_len 0 n)
own_told X tells own n ls count each =
    lanes_tell (List X) [] tells ls (map own (range_with_len 0 n)) (count ∙ sym (length-map-range_with_len own 0 n))
    (λ i d lt. each i d lt ∙ sym (get_or-map-range_with_len own 0 n i i [] (omega (arith, lt, count)) (omega arith)))

-- ---- what is told of them

pub sheet_of_part : (grain : GrainSize) (w : Whole) (i : ℕ) → (part_at grain w i).sheet ≡ part_of grain (lanes w) w.books.sheet i
unfolding part_at
sheet_of_part grain w i = refl

pool_of_part : (grain : GrainSize) (w : Whole) (i : ℕ) → (part_at grain w i).pool ≡ pool_at w.books.pools i
unfolding part_at
pool_of_part grain w i = refl

-- The chains of the lanes are the parts of the one sheet.
chains_are : (grain : GrainSize) (w : Whole) (ls : List LaneView) → length ls ≡ lanes w → AreLanesOf grain w ls → chains_of ls ≡ parts_of grain (lanes w) w.books.sheet
chains_are grain w ls count each =
    let law : PartsLaw grain (lanes w) w.books.sheet = sum_law_holds.parts grain (lanes w) w.books.sheet in
    lanes_tell Sheet no_slots (λ (v : LaneView). v.chains.sheet) ls (parts_of grain (lanes w) w.books.sheet) (count ∙ sym law.count)
    (λ i d lt. (each i d lt).stands.lane.parts.sheet_is ∙ (sheet_of_part grain w i ∙ sym (law.part i (omega (arith, lt, count)))))

-- What they keep of incremental mappings is the parts of the one list of rows.
pub rows_are : (grain : GrainSize) (w : Whole) (ls : List LaneView) → length ls ≡ lanes w → AreLanesOf grain w ls → rows_of ls ≡ parts_of_rows grain (lanes w) w.rows
rows_are grain w ls count each =
    own_told Row (λ (v : LaneView). v.changes.rows) (λ i. part_of_rows (lane_of grain (lanes w) i) w.rows) (lanes w) ls count (λ i d lt. (each i d lt).stands.rows)

pub all_rows_are : (decisions : ℕ) (s : StoreView) (w : Whole) → StandsAt decisions s w → all_rows s.lanes ≡ w.rows
all_rows_are decisions s w stands =
    ap joined_rows (rows_are s.control.grain w s.lanes stands.count stands.each) ∙ sum_law_holds.rows_join s.control.grain (lanes w) w.rows stands.stands.each_lane.some

-- The memory that their disks use is the parts of the one list of rooms.
pub rooms_are : (grain : GrainSize) (w : Whole) (ls : List LaneView) → length ls ≡ lanes w → AreLanesOf grain w ls → rooms_in ls ≡ parts_of_rooms grain (lanes w) w.books.rooms
rooms_are grain w ls count each =
    own_told Room (λ (v : LaneView). rooms_of v.grains.volumes) (λ i. part_of_rooms (lane_of grain (lanes w) i) w.books.rooms) (lanes w) ls count (λ i d lt. (each i d lt).stands.rooms)

-- And their pools are those of all.
pools_are : (grain : GrainSize) (w : Whole) (ls : List LaneView) → length ls ≡ lanes w → length w.books.pools ≡ lanes w → AreLanesOf grain w ls → pools_of ls ≡ w.books.pools
pools_are grain w ls count pools each =
    lanes_tell Pool (record { flat = 0; thin = 0 }) (λ (v : LaneView). v.grains.pool) ls w.books.pools (count ∙ sym pools)
    (λ i d lt. (each i d lt).stands.lane.parts.beside.pool_is ∙ pool_of_part grain w i)

-- What the lanes tell together is what is told.
pub view_is : (decisions : ℕ) (s : StoreView) (w : Whole) → StandsAt decisions s w → view_of s.lanes ≡ view_in w
view_is decisions s w stands = λ k. record { sheet = sheet_is k; restarts = λ m. restart_in m (all_rows_are decisions s w stands k); pools = pools_is k; rooms = rooms_is k }
  where
    sheet_is : sheet_of s.lanes ≡ w.books.sheet
    sheet_is = ap joined (chains_are s.control.grain w s.lanes stands.count stands.each) ∙ sum_law_holds.joins s.control.grain (lanes w) w.books.sheet stands.stands.each_lane.some

    pools_is : pools_of s.lanes ≡ w.books.pools
    pools_is = pools_are s.control.grain w s.lanes stands.count stands.stands.each_lane.pools stands.each

    rooms_is : all_rooms s.lanes ≡ w.books.rooms
    rooms_is = ap joined_rooms (rooms_are s.control.grain w s.lanes stands.count stands.each) ∙ sum_law_holds.rooms_join s.control.grain (lanes w) w.books.rooms stands.stands.each_lane.some

pub books_seen : (decisions : ℕ) (s : StoreView) (w : Whole) → StandsAt decisions s w → books_of s.control (view_of s.lanes) ≡ w.books
books_seen decisions s w stands = ap (books_of s.control) (view_is decisions s w stands) ∙ books_are s.control w stands.control
