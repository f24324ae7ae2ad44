-- The list of background work, and the least grain over the lanes of a store that stands.
use Rattle.std.proofs.Common.{◌≡◌, ℕ, ◌<◌, List, length, slice_index_or, refl, sym, ◌∙◌, ap, ap₂, arith}
use Rattle.fc_base.specs.Sheet.{Sheet}
use Rattle.fc_base.specs.Tables.{Tables}
use Rattle.fc_books.specs.Books.{Books}
use Rattle.fc_desk.specs.Control.{ControlState}
use Rattle.fc_lane.specs.Lane.{LaneView}
use Rattle.fc_legal.specs.Seconds.{Work, all_work, filled_by, next_grain}
use Rattle.fc_legal.specs.Whole.{Whole, part_at, lanes}
use Rattle.fc_rules.specs.LaneTold.{LaneOf}
use Rattle.fc_rules.specs.LaneTurn.{least_grain}
use Rattle.fc_sums.specs.Parts.{lane_of, part_of}
use Rattle.fc_stands.specs.Store.{IsControlOf, IsLaneAt, StoreView, StandsFor}
use Rattle.fc_lanes.specs.Working.{works_by, least_in, least_of, AllStand}
use Rattle.fc_stands.proofs.CommandSheet.{sheet_of_part}
use Rattle.fc_lanes.proofs.LeastGrain.{least_folded}
use Rattle.fc_stands.proofs.Turning.{same_lane}

-- ---- the list

listed_all : (b : Books) → works_by b.flags b.tables.mappings ≡ all_work b
unfolding all_work
listed_all b = refl

-- What is listed by the control part is all work by the books.
pub all_listed : (c : ControlState) (b : Books) (works : List Work) → IsControlOf c b → works ≡ works_by c.flags c.tables.mappings → works ≡ all_work b
all_listed c b works is listed = listed ∙ (ap₂ works_by is.flags (ap (λ (t : Tables). t.mappings) is.tables) ∙ listed_all b)

-- ---- the least grain

-- The lanes stand for their parts.
pub all_stand : (s : StoreView) (w : Whole) → StandsFor s w → AllStand s.lanes
all_stand s w stands i d lt = (part_at s.control.grain w i, (stands.each i d lt).stands.lane)

least_at : (s : StoreView) (w : Whole) (work : Work) → StandsFor s w → (i : ℕ) (d : LaneView) → i < length s.lanes →
    least_in work (slice_index_or s.lanes i d)
    ≡ least_grain (lane_of s.control.grain (length s.lanes) i) (part_of s.control.grain (length s.lanes) w.books.sheet i).slots
    (filled_by work.cleans (part_of s.control.grain (length s.lanes) w.books.sheet i).slots work.map.0) work.map.0
least_at s w work stands i d lt =
    let lane : IsLaneAt s.control.grain w i (slice_index_or s.lanes i d) = stands.each i d lt in
    let count : lanes w ≡ length s.lanes = sym stands.count in
    ap₂ (λ (l : LaneOf) (z : Sheet). least_grain l z.slots (filled_by work.cleans z.slots work.map.0) work.map.0)
    (same_lane s.control.grain w i (slice_index_or s.lanes i d) lane ∙ ap (λ n. lane_of s.control.grain n i) count)
    (lane.stands.lane.parts.sheet_is ∙ (sheet_of_part s.control.grain w i ∙ ap (λ n. part_of s.control.grain n w.books.sheet i) count))

pub least_is_next : (s : StoreView) (w : Whole) (work : Work) → StandsFor s w → least_of work s.lanes ≡ next_grain s.control.grain w work
unfolding next_grain
least_is_next s w work stands =
    least_folded work.cleans s.control.grain w.books.sheet.slots work.map.0 s.lanes (least_in work)
    (omega (arith, stands.count, stands.stands.each_lane.some))
    (least_at s w work stands)
