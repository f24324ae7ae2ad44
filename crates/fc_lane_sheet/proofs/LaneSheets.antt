-- What lanes tell, taken together, is what the sheet of all grains tells.
use Rattle.std.proofs.Common.{◌≡◌, ◌<◌, ℕ, ◌^◌, ◌≤◌, Option, List, [], ◌∷◌, length, map, take, get_or, refl, sym, ap, subst, ◌∙◌, Bool, Some, None, arith}
use Rattle.std.specs.Prelude.{◌↔◌, slice_index_or, sum, Result, IfOk, fold, min}
use Rattle.std.specs.List.{sum_by}
use mathlib.Core.List.{map-map}
use Rattle.std.proofs.lemmas.List.{get_or-map, take_all, length-map}
use Rattle.std.proofs.lemmas.List.FromFn.{fill_by_all}
use Rattle.std.proofs.lemmas.List.Sums.{sum-map, count_by-le-length}
use Rattle.fc_base.specs.Counts.{is_needed_at, UsedAt}
use Rattle.fc_base.specs.Pools.{of_kind, least_of_kind}
use Rattle.fc_base.specs.Room.{Room, used_in}
use Rattle.fc_base.specs.Sheet.{slot_at, Sheet, no_slots, shape_of, mapping_place}
use Rattle.fc_base.specs.SheetFacts.{IsSound}
use Rattle.fc_base.specs.SheetStep.{triggered}
use Rattle.fc_base.specs.SheetView.{held_of, needed_of, count_true, LoopAnswer, held_at, needed_at}
use Rattle.fc_base.specs.declared.disk.DiskKind.{DiskKind}
use Rattle.fc_base.specs.declared.ids.SlotId.{SlotId}
use Rattle.fc_base.specs.declared.ids.VolId.{VolId}
use Rattle.fc_base.specs.declared.outcome.NoMemory.{NoMemory}
use Rattle.fc_base.specs.declared.request.Pair.{Pair}
use Rattle.fc_base.specs.declared.size.GrainSize.{GrainSize}
use Rattle.fc_changed.specs.Row.{Row, restart_in}
use Rattle.fc_tallies.proofs.Tallying.{count_le}
use Rattle.fc_chain.specs.Chains.{Chains}
use Rattle.fc_base.specs.Column.{Shape}
use Rattle.fc_grains.specs.Volumes.{rooms_of}
use Rattle.fc_lane.specs.Lane.{LaneView}
use Rattle.fc_sums.specs.Law.{SlotsLaw}
use Rattle.fc_sums.specs.Parts.{part_of, parts_of, sheet_at, common_to, unneeded_in, joined, parts_of_rows, joined_rows, parts_of_rooms, joined_rooms}
use Rattle.fc_sums.proofs.Lawful.{sum_law_holds}
use Rattle.fc_lane_sheet.specs.LaneSheet.{chains_of, pools_of, rows_of, rooms_in, all_rows, all_rooms, restart_of, sheet_of, AreInOrder, HaveSheet}

-- ---- sums over lanes

-- of what each lane tells
sum_told : {X : Type 0} (tells : LaneView → X) (f : X → ℕ) (lanes : List LaneView) → sum_by (λ (v : LaneView). f (tells v)) lanes ≡ sum_by f (map tells lanes)
sum_told tells f lanes =
    sym (sum-map (λ (v : LaneView). f (tells v)) lanes) ∙ (ap sum (sym (map-map f tells lanes)) ∙ sum-map f (map tells lanes))

sum_of : (lanes : List LaneView) → HaveSheet lanes → (f : Sheet → ℕ) (all : ℕ) → ((h : HaveSheet lanes) → sum_by f (parts_of h.grain (length lanes) (sheet_of lanes)) ≡ all) → sum_by (λ (v : LaneView). f v.chains.sheet) lanes ≡ all
sum_of lanes h f all e = sum_told (λ (v : LaneView). v.chains.sheet) f lanes ∙ (ap (sum_by f) h.parts ∙ e h)

pub held_by_lanes : (lanes : List LaneView) → HaveSheet lanes → (m : ℕ) → sum_by (λ (v : LaneView). count_true (held_of v.chains.sheet.slots m)) lanes ≡ count_true (held_of (sheet_of lanes).slots m)
held_by_lanes lanes h m =
    sum_of lanes h (λ (p : Sheet). count_true (held_of p.slots m)) (count_true (held_of (sheet_of lanes).slots m))
    (λ x. (sum_law_holds.counts x.grain (length lanes) (sheet_of lanes) x.some).held m)

pub needed_by_lanes : (lanes : List LaneView) → HaveSheet lanes → (m : ℕ) → sum_by (λ (v : LaneView). needed_of v.chains.sheet.slots m) lanes ≡ needed_of (sheet_of lanes).slots m
needed_by_lanes lanes h m =
    sum_of lanes h (λ (p : Sheet). needed_of p.slots m) (needed_of (sheet_of lanes).slots m)
    (λ x. (sum_law_holds.counts x.grain (length lanes) (sheet_of lanes) x.some).needed m)

-- the sums can be counted
held_few : (lanes : List LaneView) → HaveSheet lanes → (o : Option ℕ) → count_true (held_at (sheet_of lanes).slots o) < 2 ^ 32
held_few lanes h None = omega arith
held_few lanes h (Some k) = omega (arith, count_by-le-length (λ (b : Bool). b) (slot_at (sheet_of lanes).slots k).held, h.countable k)

pub held_fits : (lanes : List LaneView) → HaveSheet lanes → (m : ℕ) → sum_by (λ (v : LaneView). count_true (held_of v.chains.sheet.slots m)) lanes < 2 ^ 32
held_fits lanes h m = omega (arith, held_by_lanes lanes h m, held_few lanes h (mapping_place (sheet_of lanes).slots m))

needed_few : (lanes : List LaneView) → HaveSheet lanes → (o : Option ℕ) → needed_at (sheet_of lanes).slots o < 2 ^ 32
needed_few lanes h None = omega arith
needed_few lanes h (Some k) = omega (arith, count_le (is_needed_at (sheet_of lanes).slots k) (length (slot_at (sheet_of lanes).slots k).held), h.countable k)

pub needed_fits : (lanes : List LaneView) → HaveSheet lanes → (m : ℕ) → sum_by (λ (v : LaneView). needed_of v.chains.sheet.slots m) lanes < 2 ^ 32
needed_fits lanes h m = omega (arith, needed_by_lanes lanes h m, needed_few lanes h (mapping_place (sheet_of lanes).slots m))

-- ---- restart sets

pub restart_by_lanes : (lanes : List LaneView) → HaveSheet lanes → (m : ℕ) → sum_by (λ (v : LaneView). count_true (restart_in m v.changes.rows)) lanes ≡ count_true (restart_of lanes m)
restart_by_lanes lanes h m =
    let count : List Row → ℕ = λ rows. count_true (restart_in m rows) in
    sum_told (λ (v : LaneView). v.changes.rows) count lanes ∙ (ap (sum_by count) h.row_parts ∙ sum_law_holds.restarts h.grain (length lanes) m (all_rows lanes) h.some)

pub restart_fits : (lanes : List LaneView) → HaveSheet lanes → (m : ℕ) → sum_by (λ (v : LaneView). count_true (restart_in m v.changes.rows)) lanes < 2 ^ 32
restart_fits lanes h m = omega (arith, restart_by_lanes lanes h m, count_by-le-length (λ (b : Bool). b) (restart_of lanes m), h.few_restart m)

-- ---- the room that volumes take

pub room_by_lanes : (lanes : List LaneView) → HaveSheet lanes → (id : ℕ) → sum_by (λ (v : LaneView). used_in (rooms_of v.grains.volumes) id) lanes ≡ used_in (all_rooms lanes) id
room_by_lanes lanes h id =
    let count : List Room → ℕ = λ rooms. used_in rooms id in
    sum_told (λ (v : LaneView). rooms_of v.grains.volumes) count lanes ∙ (ap (sum_by count) h.room_parts ∙ sum_law_holds.used h.grain (length lanes) id (all_rooms lanes) h.some)

-- ---- the first lane

pub lane_part : (lanes : List LaneView) → (h : HaveSheet lanes) → (i : ℕ) (d : LaneView) → i < length lanes → (slice_index_or lanes i d).chains.sheet ≡ part_of h.grain (length lanes) (sheet_of lanes) i
lane_part lanes h i d lt =
    sym (get_or-map (λ (v : LaneView). v.chains.sheet) lanes i d no_slots lt)
    ∙ (ap (λ (z : List Sheet). sheet_at z i) h.parts
    ∙ (sum_law_holds.parts h.grain (length lanes) (sheet_of lanes)).part i lt)

first_part : (lanes : List LaneView) → (h : HaveSheet lanes) → (d : LaneView) → (slice_index_or lanes 0 d).chains.sheet ≡ part_of h.grain (length lanes) (sheet_of lanes) 0
first_part lanes h d = lane_part lanes h 0 d h.some

pub slots_of_first : (lanes : List LaneView) → (h : HaveSheet lanes) → SlotsLaw (sheet_of lanes) (part_of h.grain (length lanes) (sheet_of lanes) 0)
slots_of_first lanes h = sum_law_holds.slots h.grain (length lanes) 0 (sheet_of lanes) h.some

-- as it is reached
pub first_is : (lanes : List LaneView) → (h : HaveSheet lanes) → (v : LaneView) (chains : Chains) → v ≡ get_or lanes 0 v → chains ≡ v.chains → chains.sheet ≡ part_of h.grain (length lanes) (sheet_of lanes) 0
first_is lanes h v chains e q = ap (λ (c : Chains). c.sheet) q ∙ (ap (λ (z : LaneView). z.chains.sheet) e ∙ first_part lanes h v)

pub used_from : (lanes : List LaneView) → (h : HaveSheet lanes) → (s : Sheet) → s ≡ part_of h.grain (length lanes) (sheet_of lanes) 0 → (A : Type 0) (v : ℕ) →
    (A ↔ UsedAt s.slots v) → (A ↔ UsedAt (sheet_of lanes).slots v)
used_from lanes h s e A v iff =
    let law = (slots_of_first lanes h).used v in
    let P : Sheet → Type 0 = λ z. A ↔ UsedAt z.slots v in
    let q = subst P e iff in
    (λ a. law.0 (q.0 a), λ u. q.1 (law.1 u))

pub loop_from : (lanes : List LaneView) → (h : HaveSheet lanes) → (s : Sheet) → s ≡ part_of h.grain (length lanes) (sheet_of lanes) 0 → (pairs : List Pair) (r : Result (Option (List VolId)) NoMemory) →
    IfOk r (λ found. LoopAnswer (shape_of (triggered pairs s).slots) found) → IfOk r (λ found. LoopAnswer (shape_of (triggered pairs (sheet_of lanes)).slots) found)
loop_from lanes h s e pairs r answer =
    let P : Shape → Type 0 = λ sh. IfOk r (λ found. LoopAnswer sh found) in
    subst P (ap (λ (z : Sheet). shape_of (triggered pairs z).slots) e ∙ (slots_of_first lanes h).triggered pairs) answer

-- ---- unneeded slots

pub unneeded_by_lanes : (lanes : List LaneView) → HaveSheet lanes → common_to (map (λ (v : LaneView). unneeded_in v.chains.sheet.slots) lanes) ≡ unneeded_in (sheet_of lanes).slots
unneeded_by_lanes lanes h =
    ap common_to (sym (map-map (λ (p : Sheet). unneeded_in p.slots) (λ (v : LaneView). v.chains.sheet) lanes))
    ∙ (ap (λ (z : List Sheet). common_to (map (λ (p : Sheet). unneeded_in p.slots) z)) h.parts
    ∙ (sum_law_holds.unneeded h.grain (length lanes) (sheet_of lanes) h.some h.sound.names).names)

pub unneeded_answer : (lanes : List LaneView) → HaveSheet lanes → (r : Result (List SlotId) NoMemory) →
    IfOk r (λ names. names ≡ common_to (map (λ (v : LaneView). unneeded_in v.chains.sheet.slots) lanes)) → IfOk r (λ names. names ≡ unneeded_in (sheet_of lanes).slots)
unneeded_answer lanes h r answer =
    let P : List SlotId → Type 0 = λ all. IfOk r (λ names. names ≡ all) in
    subst P (unneeded_by_lanes lanes h) answer

-- ---- pools

fold_pools : (kind : DiskKind) (a : ℕ) (lanes : List LaneView) → fold (λ least (v : LaneView). min least (of_kind kind v.grains.pool)) a lanes ≡ fold (λ least p. min least (of_kind kind p)) a (pools_of lanes)
fold_pools kind a [] = refl
fold_pools kind a (v ∷ vs) = fold_pools kind (min a (of_kind kind v.grains.pool)) vs

pub least_by_lanes : (kind : DiskKind) (lanes rest : List LaneView) (v : LaneView) (first least i : ℕ) → lanes ≡ v ∷ rest → first ≡ of_kind kind v.grains.pool → length rest ≤ i →
    least ≡ fold (λ least (v : LaneView). min least (of_kind kind v.grains.pool)) first (take i rest) → least ≡ least_of_kind kind (pools_of lanes)
least_by_lanes kind lanes rest v first least i e f le q =
    q
    ∙ (ap (fold (λ least (v : LaneView). min least (of_kind kind v.grains.pool)) first) (take_all i rest le)
    ∙ (fold_pools kind first rest
    ∙ (ap (λ a. fold (λ least p. min least (of_kind kind p)) a (pools_of rest)) f
    ∙ (sym (sum_law_holds.pools kind v.grains.pool (pools_of rest))
    ∙ ap (λ z. least_of_kind kind (pools_of z)) (sym e)))))

-- ---- lanes that have the parts of a sheet, of rows and of rooms

chains_are : (grain : GrainSize) (s : Sheet) (lanes : List LaneView) → ((i : ℕ) (d : LaneView) → i < length lanes → (slice_index_or lanes i d).chains.sheet ≡ part_of grain (length lanes) s i) →
    chains_of lanes ≡ parts_of grain (length lanes) s
chains_are grain s [] each = refl
chains_are grain s (v ∷ vs) each =
    fill_by_all (part_of grain (length (v ∷ vs)) s) (chains_of (v ∷ vs)) (length (v ∷ vs)) no_slots (length-map (v ∷ vs) (λ (x : LaneView). x.chains.sheet))
    (λ i lt. get_or-map (λ (x : LaneView). x.chains.sheet) (v ∷ vs) i v no_slots lt ∙ each i v lt)

pub have_sheet : (grain : GrainSize) (s : Sheet) (rows : List Row) (rooms : List Room) (lanes : List LaneView) → 0 < length lanes → AreInOrder lanes →
    ((i : ℕ) (d : LaneView) → i < length lanes → (slice_index_or lanes i d).chains.sheet ≡ part_of grain (length lanes) s i) →
    rows_of lanes ≡ parts_of_rows grain (length lanes) rows → rooms_in lanes ≡ parts_of_rooms grain (length lanes) rooms →
    IsSound s → ((k : ℕ) → length (slot_at s.slots k).held < 2 ^ 32) → ((m : ℕ) → length (restart_in m rows) < 2 ^ 32) → HaveSheet lanes × (sheet_of lanes ≡ s)
have_sheet grain s rows rooms lanes some in_order each parts room_parts sound countable few =
    let are : chains_of lanes ≡ parts_of grain (length lanes) s = chains_are grain s lanes each in
    let same : sheet_of lanes ≡ s = ap joined are ∙ sum_law_holds.joins grain (length lanes) s some in
    let all : all_rows lanes ≡ rows = ap joined_rows parts ∙ sum_law_holds.rows_join grain (length lanes) rows some in
    let all_room : all_rooms lanes ≡ rooms = ap joined_rooms room_parts ∙ sum_law_holds.rooms_join grain (length lanes) rooms some in
    let Few : List Row → Type 0 = λ z. (m : ℕ) → length (restart_in m z) < 2 ^ 32 in
    let Sound : Sheet → Type 0 = λ z. IsSound z in
    let Countable : Sheet → Type 0 = λ z. (k : ℕ) → length (slot_at z.slots k).held < 2 ^ 32 in (
      record {
        grain = grain;
        some = some;
        in_order = in_order;
        parts = are ∙ ap (parts_of grain (length lanes)) (sym same);
        sound = subst Sound (sym same) sound;
        countable = subst Countable (sym same) countable;
        row_parts = parts ∙ ap (parts_of_rows grain (length lanes)) (sym all);
        few_restart = subst Few (sym all) few;
        room_parts = room_parts ∙ ap (parts_of_rooms grain (length lanes)) (sym all_room);
      },
      same,
    )
