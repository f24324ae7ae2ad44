-- The lanes of a store that stands have one sheet, and its table lists the mappings of the sheet.
use Rattle.std.proofs.Common.{◌≡◌, ℕ, ◌+◌, ◌<◌, ◌≤◌, ◌^◌, ◌⊎◌, inl, inr, Option, Some, None, List, [], ◌∷◌, length, get_or, refl, sym, ap, subst, ◌∙◌, arith}
use Rattle.std.specs.Prelude.{◌==◌, slice_index_or, Contains, IsSome}
use Rattle.std.proofs.lemmas.Bool.{eqb-true}
use Rattle.fc_base.specs.Sheet.{Slot, Sheet, slot_at, no_slot}
use Rattle.fc_base.specs.Tables.{Tables, volume_with}
use Rattle.fc_base.specs.declared.ids.VolId.{VolId}
use Rattle.fc_base.specs.declared.volume.Mapping.{Mapping}
use Rattle.fc_base.specs.declared.volume.Volume.{Volume}
use Rattle.fc_books.specs.Books.{Books}
use Rattle.fc_books.specs.Sound.{AreSound}
use Rattle.fc_decided.proofs.Lists.{find_from}
use Rattle.fc_lane.specs.Lane.{LaneView}
use Rattle.fc_legal.specs.Whole.{Whole, lanes}
use Rattle.fc_sheets.proofs.Finding.{live_place_at}
use Rattle.fc_sums.specs.Parts.{part_of, parts_of_rows, parts_of_rooms}
use Rattle.fc_lane_sheet.specs.LaneSheet.{rows_of, rooms_in, AreInOrder, AreListed, IsAsked, AreCountable}
use Rattle.fc_stands.specs.Phase.{StandsAt}
use Rattle.fc_stands.specs.Store.{StoreView}
use Rattle.fc_stands.proofs.CommandSheet.{rows_are, rooms_are, sheet_of_part}
use Rattle.fc_lane_sheet.proofs.LaneSheets.{have_sheet}
use Rattle.fc_stands.proofs.Restarts.{few_restart}

-- ---- how many grains slots have

some_volume : (t : Tables) (id : VolId) → (o : Option Volume) → volume_with t id ≡ o → IsSome o → (v : Volume) × Contains t.volumes v × (v.id.0 ≡ id.0)
some_volume t id None e some = absurd cc
some_volume t id (Some v) e some =
    let f = find_from (λ (x : Volume). id.0 == x.id.0) t.volumes v e in
    (v, f.0, sym (eqb-true _ _ f.1))

past_end : (slots : List Slot) (k : ℕ) → length slots ≤ k → slot_at slots k ≡ no_slot
past_end [] k le = refl
past_end (s ∷ slots) ℕ.zero le = absurd (omega (arith, le))
past_end (s ∷ slots) (ℕ.suc k) le = past_end slots k (omega (arith, le))

slot_grains : (b : Books) → AreSound b → (k : ℕ) → k < length b.sheet.slots → (v : Volume) × Contains b.tables.volumes v × (length (slot_at b.sheet.slots k).held ≡ v.grains)
slot_grains b sound k kl =
    let id : VolId = record { 0 = (slot_at b.sheet.slots k).volume } in
    let found = some_volume b.tables id (volume_with b.tables id) refl (sound.agree.slots k kl) in
    let live = sound.agree.volumes found.0 found.1 in
    let at = live_place_at b.sheet.slots found.0.id.0 live.0 live.1 in
    (found.0, found.1, sound.sheet.sizes.of_volume k live.0 kl at.there (sym (at.of_volume ∙ found.2)) ∙ live.2)

countable : (b : Books) → AreSound b → AreCountable b.tables.volumes → (k : ℕ) → length (slot_at b.sheet.slots k).held < 2 ^ 32
countable b sound few k = by (order k (length b.sheet.slots))
  where
    order : (m n : ℕ) → (m < n) ⊎ (n ≤ m)
    order m n = grind arith

    by : (k < length b.sheet.slots) ⊎ (length b.sheet.slots ≤ k) → length (slot_at b.sheet.slots k).held < 2 ^ 32
    by (inl lt) = let f = slot_grains b sound k lt in let few_of = few f.0 f.1 in omega (arith, f.2, few_of)
    by (inr le) = let none : length (slot_at b.sheet.slots k).held ≡ 0 = ap (λ (s : Slot). length s.held) (past_end b.sheet.slots k le) in omega (arith, none)

-- ---- the lanes

in_order : (decisions : ℕ) (s : StoreView) (w : Whole) → StandsAt decisions s w → AreInOrder s.lanes
in_order decisions s w stands i d lt =
    let lane = stands.each i d lt in
    (lane.stands.lane.parts.lane_is ∙ lane.lane, lane.stands.lane.parts.lanes_are ∙ (lane.lanes_are ∙ sym stands.count), lane.lane)

lane_sheet : (decisions : ℕ) (s : StoreView) (w : Whole) → StandsAt decisions s w → (i : ℕ) (d : LaneView) → i < length s.lanes →
    (slice_index_or s.lanes i d).chains.sheet ≡ part_of s.control.grain (length s.lanes) w.books.sheet i
lane_sheet decisions s w stands i d lt =
    (stands.each i d lt).stands.lane.parts.sheet_is
    ∙ (sheet_of_part s.control.grain w i
    ∙ ap (λ n. part_of s.control.grain n w.books.sheet i) (sym stands.count))

lane_rows : (decisions : ℕ) (s : StoreView) (w : Whole) → StandsAt decisions s w → rows_of s.lanes ≡ parts_of_rows s.control.grain (length s.lanes) w.rows
lane_rows decisions s w stands = rows_are s.control.grain w s.lanes stands.count stands.each ∙ ap (λ n. parts_of_rows s.control.grain n w.rows) (sym stands.count)

lane_rooms : (decisions : ℕ) (s : StoreView) (w : Whole) → StandsAt decisions s w → rooms_in s.lanes ≡ parts_of_rooms s.control.grain (length s.lanes) w.books.rooms
lane_rooms decisions s w stands =
    rooms_are s.control.grain w s.lanes stands.count stands.each ∙ ap (λ n. parts_of_rooms s.control.grain n w.books.rooms) (sym stands.count)

-- ---- the table

listed_by : (b : Books) → AreSound b → AreListed b.sheet b.tables.mappings
listed_by b sound = record {
  rising = sound.tables.mappings.rising;
  owned = λ k n kl e. sound.agree.owned k kl n e;
}

-- What a store stands for is asked of its lanes and its table of mappings.
pub is_asked : (decisions : ℕ) (s : StoreView) (w : Whole) → StandsAt decisions s w → AreCountable s.control.tables.volumes → (mappings : List Mapping) → mappings ≡ s.control.tables.mappings → IsAsked s.lanes mappings
is_asked decisions s w stands few mappings same =
    let tables : s.control.tables ≡ w.books.tables = stands.control.tables in
    let some : 0 < lanes w = stands.stands.each_lane.some in
    let sound : AreSound w.books = stands.stands.sound in
    let Few : Tables → Type 0 = λ t. AreCountable t.volumes in
    let have = have_sheet s.control.grain w.books.sheet w.rows w.books.rooms s.lanes (omega (arith, some, stands.count)) (in_order decisions s w stands) (lane_sheet decisions s w stands)
    (lane_rows decisions s w stands) (lane_rooms decisions s w stands) sound.sheet (countable w.books sound (subst Few tables few)) (few_restart w.books.tables w.rows stands.stands.rows (subst Few tables few)) in
    let Of : Sheet → Type 0 = λ z. AreListed z mappings in
    let By : List Mapping → Type 0 = λ z. AreListed w.books.sheet z in
    record {
      have = have.0;
      listed = subst Of (sym have.1) (subst By (sym (same ∙ ap (λ (t : Tables). t.mappings) tables)) (listed_by w.books sound));
    }

pub asked_of : (s : StoreView) → (decisions : ℕ) × (w : Whole) × StandsAt decisions s w → AreCountable s.control.tables.volumes → (ls : List LaneView) (mappings : List Mapping) →
    ls ≡ s.lanes → mappings ≡ s.control.tables.mappings → IsAsked ls mappings
asked_of s stands few ls mappings e same =
    let P : List LaneView → Type 0 = λ z. IsAsked z mappings in
    subst P (sym e) (is_asked stands.0 s stands.1 stands.2 few mappings same)

-- ---- volumes that were read

abbrev pub AreRead : List Volume → ℕ → Type 0
AreRead volumes i = (k : ℕ) (d : Volume) → k < i → k < length volumes → (slice_index_or volumes k d).grains < 2 ^ 32

any_default : (volumes : List Volume) (k : ℕ) (d e : Volume) → k < length volumes → slice_index_or volumes k d ≡ slice_index_or volumes k e
any_default [] k d e lt = absurd (omega (arith, lt))
any_default (v ∷ volumes) ℕ.zero d e lt = refl
any_default (v ∷ volumes) (ℕ.suc k) d e lt = any_default volumes k d e (omega (arith, lt))

pub one_read : (volumes : List Volume) (i : ℕ) (v : Volume) → AreRead volumes i → v ≡ get_or volumes i v → v.grains < 2 ^ 32 → AreRead volumes (i + 1)
one_read volumes i v before is few k d lt there = by (order k i)
  where
    order : (m n : ℕ) → (m < n) ⊎ (n ≤ m)
    order m n = grind arith

    by : (k < i) ⊎ (i ≤ k) → (slice_index_or volumes k d).grains < 2 ^ 32
    by (inl l) = before k d l there
    by (inr le) =
        let same : k ≡ i = omega (arith, lt, le) in
        let e : slice_index_or volumes k d ≡ v = any_default volumes k d v there ∙ (ap (λ z. slice_index_or volumes z v) same ∙ sym is) in
        let P : Volume → Type 0 = λ z. z.grains < 2 ^ 32 in
        subst P (sym e) few

pub all_read : (volumes : List Volume) (i : ℕ) → AreRead volumes i → length volumes ≤ i → AreCountable volumes
all_read volumes i read le v has =
    let lt : has.0 < length volumes = has.1 in
    let P : Volume → Type 0 = λ z. z.grains < 2 ^ 32 in
    subst P has.2 (read has.0 v (omega (arith, lt, le)) lt)
