-- What slots hold after a trigger: those that started hold their restart sets, all others what they held.
use Rattle.std.proofs.Common.{◌≡◌, ◌≢◌, ◌∙◌, sym, ap, ℕ, zero, suc, ◌+◌, ◌≤◌, Bool, true, false, cond, ◌&&◌, ◌==◌, eqb, List, [], ◌∷◌, ◌++◌, length, take, replicate, fold, Option, Some, None, option_map, refl, arith}
use Rattle.std.specs.List.{find}
use Rattle.std.proofs.lemmas.Bool.{eqb-true, eq-eqb}
use Rattle.fc_base.specs.Column.{is_at}
use Rattle.fc_base.specs.Sheet.{Slot, Sheet, slot_at, no_slot, live_place, mapping_place, grains_at, volume_grains}
use Rattle.fc_base.specs.SheetStep.{at_place, aged, without, has_after, left_place, placed, started_empty, triggered}
use Rattle.fc_base.specs.SheetView.{count_true}
use Rattle.fc_base.specs.declared.request.Pair.{Pair}
use Rattle.fc_books.specs.After.{of_length, holding, begun}
use Rattle.fc_desk.proofs.Counting.{count_cons}
use Rattle.fc_desk.proofs.Slots.{is_of, is_live_of, mapping_found, live_found, found_passes, found-remove, found-set, found-insert, found-insert_new, found-set_first}
use Rattle.fc_sheets.proofs.Starting.{Apart, ApartFrom, AllApart}

-- ---- one pair

-- The live slot of the target is no mapping's and has so many grains; that of the source is there; the mapping has no slot.
pub record Ready (slots : List Slot) (grains : ℕ) (p : Pair) : Type 0 where
  pub live : Slot
  pub target : find (is_live_of p.target.0) slots ≡ Some live
  pub free : live.mapping ≡ None
  pub as_large : length live.held ≡ grains
  pub from : Slot
  pub source : find (is_live_of p.source.0) slots ≡ Some from
  pub none : find (is_of p.map.0) slots ≡ None
  pub apart : (p.target.0 == p.source.0) ≡ false

-- a slot that is found stands at a place
at_some : (slots : List Slot) (o : Option ℕ) (x : Slot) → option_map (slot_at slots) o ≡ Some x → (k : ℕ) × (o ≡ Some k) × (slot_at slots k ≡ x)
at_some slots None x e = absurd cc
at_some slots (Some k) x e = let same : slot_at slots k ≡ x = cc in (k, refl, same)

live_at : (slots : List Slot) (v : ℕ) (x : Slot) → find (is_live_of v) slots ≡ Some x → (k : ℕ) × (live_place slots v ≡ Some k) × (slot_at slots k ≡ x)
live_at slots v x e = at_some slots (live_place slots v) x (live_found slots v ∙ e)

-- what passes neither the slot nor the aged slot is found the same
left_same : (test : Slot → Bool) (s : Sheet) (k : ℕ) → test (slot_at s.slots k) ≡ false → test (record (slot_at s.slots k) { is_live = false }) ≡ false → find test (left_place k s).slots ≡ find test s.slots
left_same test s k now later = by (has_after s.slots k)
  where
    by : (b : Bool) → find test (cond b (aged k s) (without k s)).slots ≡ find test s.slots
    by true = found-set test s.slots k (record (slot_at s.slots k) { is_live = false }) no_slot now later
    by false = found-remove test s.slots k no_slot now

no_mapping : (s : Slot) (m : ℕ) → s.mapping ≡ None → is_of m s ≡ false
no_mapping s m e = ap (λ o. is_at o m) e

other_volume : (s : Slot) (v w : ℕ) → is_live_of v s ≡ true → (v == w) ≡ false → is_live_of w s ≡ false
other_volume s v w live apart = by s.is_live (eqb s.volume w) refl
  where
    parts : (a b : Bool) → (a && b) ≡ true → b ≡ true
    parts true b e = e
    parts false b e = absurd cc

    by : (a b : Bool) → eqb s.volume w ≡ b → (a && b) ≡ false
    by false b is = refl
    by true false is = refl
    by true true is = grind (arith, apart, eq-eqb v w (sym (eqb-true s.volume v (parts s.is_live (eqb s.volume v) live)) ∙ eqb-true s.volume w is))

-- the sheet as the target has left its place, and its source there
abbrev went : Sheet → Pair → ℕ → Sheet
went s p k = left_place k s

placed_same : (test : Slot → Bool) (p : Pair) (held : List Bool) (s : Sheet) (k : ℕ) → test (record { birth = s.births; chain = (slot_at s.slots k).chain; volume = p.target.0; is_live = true; mapping = Some p.map.0; held = held }) ≡ false →
    find test (placed p.target.0 p.map.0 held k s).slots ≡ find test s.slots
placed_same test p held s k e = found-insert test s.slots (k + 1) (record { birth = s.births; chain = (slot_at s.slots k).chain; volume = p.target.0; is_live = true; mapping = Some p.map.0; held = held }) e

-- where a pair's target stood and its source stands
pub record Steps (s : Sheet) (p : Pair) (grains : ℕ) : Type 0 where
  pub target : ℕ
  pub source : ℕ
  pub whole : started_empty s p ≡ placed p.target.0 p.map.0 (replicate grains false) source (left_place target s)
  pub left : Slot
  pub is_left : slot_at s.slots target ≡ left
  pub live : is_live_of p.target.0 left ≡ true
  pub free : left.mapping ≡ None

grains_of : (slots : List Slot) (v k : ℕ) (x : Slot) → live_place slots v ≡ Some k → slot_at slots k ≡ x → volume_grains slots v ≡ length x.held
grains_of slots v k x place is = ap (grains_at slots) place ∙ ap (λ (t : Slot). length t.held) is

steps : (s : Sheet) (p : Pair) (grains : ℕ) → Ready s.slots grains p → Steps s p grains
steps s p grains r =
    let t = live_at s.slots p.target.0 r.live r.target in
    let passes : is_live_of p.target.0 r.live ≡ true = found_passes (is_live_of p.target.0) s.slots r.live r.target in
    let now : is_live_of p.source.0 (slot_at s.slots t.0) ≡ false = ap (is_live_of p.source.0) t.2 ∙ other_volume r.live p.target.0 p.source.0 passes r.apart in
    let kept : find (is_live_of p.source.0) (left_place t.0 s).slots ≡ Some r.from = left_same (is_live_of p.source.0) s t.0 now refl ∙ r.source in
    let f = live_at (left_place t.0 s).slots p.source.0 r.from kept in
    let grains_are : volume_grains s.slots p.target.0 ≡ grains = grains_of s.slots p.target.0 t.0 r.live t.1 t.2 ∙ r.as_large in
    record {
      target = t.0;
      source = f.0;
      whole = ap (λ n. at_place (placed p.target.0 p.map.0 (replicate n false)) (live_place (at_place left_place (live_place s.slots p.target.0) s).slots p.source.0) (at_place left_place (live_place s.slots p.target.0) s)) grains_are
          ∙ ap (λ o. at_place (placed p.target.0 p.map.0 (replicate grains false)) (live_place (at_place left_place o s).slots p.source.0) (at_place left_place o s)) t.1
          ∙ ap (λ o. at_place (placed p.target.0 p.map.0 (replicate grains false)) o (left_place t.0 s)) f.1;
      left = r.live;
      is_left = t.2;
      live = passes;
      free = r.free;
    }

pub started_other : (s : Sheet) (p : Pair) (grains m : ℕ) → Ready s.slots grains p → (p.map.0 == m) ≡ false → find (is_of m) (started_empty s p).slots ≡ find (is_of m) s.slots
started_other s p grains m r apart =
    let w = steps s p grains r in
    ap (λ (t : Sheet). find (is_of m) t.slots) w.whole
    ∙ placed_same (is_of m) p (replicate grains false) (left_place w.target s) w.source apart
    ∙ left_same (is_of m) s w.target (ap (is_of m) w.is_left ∙ no_mapping w.left m w.free) (ap (λ (t : Slot). is_at t.mapping m) w.is_left ∙ no_mapping w.left m w.free)

pub started_live : (s : Sheet) (p : Pair) (grains v : ℕ) → Ready s.slots grains p → (p.target.0 == v) ≡ false → find (is_live_of v) (started_empty s p).slots ≡ find (is_live_of v) s.slots
started_live s p grains v r apart =
    let w = steps s p grains r in
    ap (λ (t : Sheet). find (is_live_of v) t.slots) w.whole
    ∙ placed_same (is_live_of v) p (replicate grains false) (left_place w.target s) w.source apart
    ∙ left_same (is_live_of v) s w.target (ap (is_live_of v) w.is_left ∙ other_volume w.left p.target.0 v w.live apart) refl

size_of : (n : ℕ) → length (replicate n false) ≡ n
size_of zero = refl
size_of (suc n) = ap suc (size_of n)

pub started_new : (s : Sheet) (p : Pair) (grains : ℕ) → Ready s.slots grains p → (x : Slot) × (find (is_of p.map.0) (started_empty s p).slots ≡ Some x) × (length x.held ≡ grains)
started_new s p grains r =
    let w = steps s p grains r in
    let t = left_place w.target s in
    let n : Slot = record { birth = t.births; chain = (slot_at t.slots w.source).chain; volume = p.target.0; is_live = true; mapping = Some p.map.0; held = replicate grains false } in
    let none : find (is_of p.map.0) t.slots ≡ None =
    left_same (is_of p.map.0) s w.target (ap (is_of p.map.0) w.is_left ∙ no_mapping w.left p.map.0 w.free) (ap (λ (t : Slot). is_at t.mapping p.map.0) w.is_left ∙ no_mapping w.left p.map.0 w.free) ∙ r.none in (
      n,
      ap (λ (u : Sheet). find (is_of p.map.0) u.slots) w.whole ∙ found-insert_new (is_of p.map.0) t.slots (w.source + 1) n (eq-eqb p.map.0 p.map.0 refl) none,
      size_of grains,
    )

-- ---- all pairs

abbrev pub AllReady : List Slot → (Pair → ℕ) → List Pair → Type 0
AllReady slots size [] = Unit {0}
AllReady slots size (p ∷ ps) = Ready slots (size p) p × AllReady slots size ps

apart_eqb : (a b : ℕ) → a ≢ b → (t : Bool) → (a == b) ≡ t → t ≡ false
apart_eqb a b ne false is = refl
apart_eqb a b ne true is = absurd (ne (eqb-true a b is))

ready_later : (s : Sheet) (p q : Pair) (n : ℕ) (size : Pair → ℕ) → Ready s.slots n p → Apart p q → Ready s.slots (size q) q → Ready (started_empty s p).slots (size q) q
ready_later s p q n size r a f =
    record {
      live = f.live;
      target = started_live s p n q.target.0 r (apart_eqb p.target.0 q.target.0 a.targets (p.target.0 == q.target.0) refl) ∙ f.target;
      free = f.free;
      as_large = f.as_large;
      from = f.from;
      source = started_live s p n q.source.0 r (apart_eqb p.target.0 q.source.0 a.source (p.target.0 == q.source.0) refl) ∙ f.source;
      none = started_other s p n q.map.0 r (apart_eqb p.map.0 q.map.0 a.maps (p.map.0 == q.map.0) refl) ∙ f.none;
      apart = f.apart;
    }

all_ready_later : (s : Sheet) (p : Pair) (n : ℕ) (size : Pair → ℕ) (qs : List Pair) → Ready s.slots n p → ApartFrom p qs → AllReady s.slots size qs → AllReady (started_empty s p).slots size qs
all_ready_later s p n size [] r a f = tt
all_ready_later s p n size (q ∷ qs) r a f = (ready_later s p q n size r a.0 f.0, all_ready_later s p n size qs r a.1 f.1)

-- no pair is of the mapping
abbrev pub NoneOf : ℕ → List Pair → Type 0
NoneOf m [] = Unit {0}
NoneOf m (p ∷ ps) = ((p.map.0 == m) ≡ false) × NoneOf m ps

triggered_other : (s : Sheet) (size : Pair → ℕ) (m : ℕ) (ps : List Pair) → AllReady s.slots size ps → AllApart ps → NoneOf m ps → find (is_of m) (triggered ps s).slots ≡ find (is_of m) s.slots
triggered_other s size m [] r a none = refl
triggered_other s size m (p ∷ ps) r a none =
    triggered_other (started_empty s p) size m ps (all_ready_later s p (size p) size ps r.0 a.0 r.1) a.1 none.1 ∙ started_other s p (size p) m r.0 none.0

none_apart : (p : Pair) (ps : List Pair) → ApartFrom p ps → NoneOf p.map.0 ps
none_apart p [] a = tt
none_apart p (q ∷ qs) a = (apart_eqb q.map.0 p.map.0 (λ e. a.0.maps (sym e)) (q.map.0 == p.map.0) refl, none_apart p qs a.1)

-- every pair's mapping has a slot with so many grains
abbrev pub AllStarted : List Slot → (Pair → ℕ) → List Pair → Type 0
AllStarted slots size [] = Unit {0}
AllStarted slots size (p ∷ ps) = ((x : Slot) × (find (is_of p.map.0) slots ≡ Some x) × (length x.held ≡ size p)) × AllStarted slots size ps

triggered_new : (s : Sheet) (size : Pair → ℕ) (ps : List Pair) → AllReady s.slots size ps → AllApart ps → AllStarted (triggered ps s).slots size ps
triggered_new s size [] r a = tt
triggered_new s size (p ∷ ps) r a =
    let later = all_ready_later s p (size p) size ps r.0 a.0 r.1 in
    let n = started_new s p (size p) r.0 in (
      (n.0, triggered_other (started_empty s p) size p.map.0 ps later a.1 (none_apart p ps a.0) ∙ n.1, n.2),
      triggered_new (started_empty s p) size ps later a.1,
    )

-- ---- the restart sets

mapping_at : (slots : List Slot) (m : ℕ) (x : Slot) → find (is_of m) slots ≡ Some x → (k : ℕ) × (mapping_place slots m ≡ Some k) × (slot_at slots k ≡ x)
mapping_at slots m x e = at_some slots (mapping_place slots m) x (mapping_found slots m ∙ e)

at_true : (o : Option ℕ) (m : ℕ) → is_at o m ≡ true → o ≡ Some m
at_true None m e = absurd cc
at_true (Some k) m e = ap Some (eqb-true k m e)

abbrev with_set : List Bool → Slot → Slot
with_set set x = record x { held = of_length (length x.held) set }

begun_other : (restarts : ℕ → List Bool) (s : Sheet) (p : Pair) (m : ℕ) (x : Slot) → find (is_of p.map.0) s.slots ≡ Some x → (p.map.0 == m) ≡ false → find (is_of m) (begun restarts s p).slots ≡ find (is_of m) s.slots
begun_other restarts s p m x found apart =
    let k = mapping_at s.slots p.map.0 x found in
    let of_p : x.mapping ≡ Some p.map.0 = at_true x.mapping p.map.0 (found_passes (is_of p.map.0) s.slots x found) in
    let not_m : is_of m (slot_at s.slots k.0) ≡ false = ap (is_of m) k.2 ∙ ap (λ o. is_at o m) of_p ∙ apart in
    ap (λ o. find (is_of m) (at_place (holding (restarts p.map.0)) o s).slots) k.1
    ∙ found-set (is_of m) s.slots k.0 (with_set (restarts p.map.0) (slot_at s.slots k.0)) no_slot not_m not_m

begun_new : (restarts : ℕ → List Bool) (s : Sheet) (p : Pair) (x : Slot) → find (is_of p.map.0) s.slots ≡ Some x → find (is_of p.map.0) (begun restarts s p).slots ≡ Some (with_set (restarts p.map.0) x)
begun_new restarts s p x found =
    let k = mapping_at s.slots p.map.0 x found in
    let passes : is_of p.map.0 (slot_at s.slots k.0) ≡ true = ap (is_of p.map.0) k.2 ∙ found_passes (is_of p.map.0) s.slots x found in
    ap (λ o. find (is_of p.map.0) (at_place (holding (restarts p.map.0)) o s).slots) k.1
    ∙ found-set_first s.slots p.map.0 k.0 (with_set (restarts p.map.0) (slot_at s.slots k.0)) k.1 passes
    ∙ ap (λ t. Some (with_set (restarts p.map.0) t)) k.2

started_later : (restarts : ℕ → List Bool) (s : Sheet) (p : Pair) (size : Pair → ℕ) (x : Slot) (qs : List Pair) → find (is_of p.map.0) s.slots ≡ Some x → ApartFrom p qs → AllStarted s.slots size qs → AllStarted (begun restarts s p).slots size qs
started_later restarts s p size x [] found a st = tt
started_later restarts s p size x (q ∷ qs) found a st = (
  (st.0.0, begun_other restarts s p q.map.0 x found (apart_eqb p.map.0 q.map.0 a.0.maps (p.map.0 == q.map.0) refl) ∙ st.0.1, st.0.2),
  started_later restarts s p size x qs found a.1 st.1,
)

all_begun_other : (restarts : ℕ → List Bool) (size : Pair → ℕ) (m : ℕ) (ps : List Pair) (s : Sheet) → AllStarted s.slots size ps → AllApart ps → NoneOf m ps → find (is_of m) (fold (begun restarts) s ps).slots ≡ find (is_of m) s.slots
all_begun_other restarts size m [] s st a none = refl
all_begun_other restarts size m (p ∷ ps) s st a none =
    all_begun_other restarts size m ps (begun restarts s p) (started_later restarts s p size st.0.0 ps st.0.1 a.0 st.1) a.1 none.1
    ∙ begun_other restarts s p m st.0.0 st.0.1 none.0

-- every pair's mapping has a slot that holds its restart set
abbrev pub AllBegun : (ℕ → List Bool) → List Slot → (Pair → ℕ) → List Pair → Type 0
AllBegun restarts slots size [] = Unit {0}
AllBegun restarts slots size (p ∷ ps) = ((x : Slot) × (find (is_of p.map.0) slots ≡ Some x) × (x.held ≡ of_length (size p) (restarts p.map.0))) × AllBegun restarts slots size ps

all_begun_new : (restarts : ℕ → List Bool) (size : Pair → ℕ) (ps : List Pair) (s : Sheet) → AllStarted s.slots size ps → AllApart ps → AllBegun restarts (fold (begun restarts) s ps).slots size ps
all_begun_new restarts size [] s st a = tt
all_begun_new restarts size (p ∷ ps) s st a =
    let later = started_later restarts s p size st.0.0 ps st.0.1 a.0 st.1 in (
      (
        with_set (restarts p.map.0) st.0.0,
        all_begun_other restarts size p.map.0 ps (begun restarts s p) later a.1 (none_apart p ps a.0) ∙ begun_new restarts s p st.0.0 st.0.1,
        ap (λ n. of_length n (restarts p.map.0)) st.0.2,
      ),
      all_begun_new restarts size ps (begun restarts s p) later a.1,
    )

-- Right after a trigger the slot of any other mapping is as it was, and those of the pairs hold their restart sets.
pub trigger_other : (restarts : ℕ → List Bool) (s : Sheet) (size : Pair → ℕ) (m : ℕ) (ps : List Pair) → AllReady s.slots size ps → AllApart ps → NoneOf m ps → find (is_of m) (fold (begun restarts) (triggered ps s) ps).slots ≡ find (is_of m) s.slots
trigger_other restarts s size m ps r a none = all_begun_other restarts size m ps (triggered ps s) (triggered_new s size ps r a) a none ∙ triggered_other s size m ps r a none

pub trigger_new : (restarts : ℕ → List Bool) (s : Sheet) (size : Pair → ℕ) (ps : List Pair) → AllReady s.slots size ps → AllApart ps → AllBegun restarts (fold (begun restarts) (triggered ps s) ps).slots size ps
trigger_new restarts s size ps r a = all_begun_new restarts size ps (triggered ps s) (triggered_new s size ps r a) a

-- ---- how much a restart set is

none_true : (n j : ℕ) → count_true (take n (replicate j false)) ≡ 0
none_true zero j = refl
none_true (suc n) zero = refl
none_true (suc n) (suc j) = none_true n j

pub count_of_length : (n j : ℕ) (set : List Bool) → length set ≤ n → count_true (take n (set ++ replicate j false)) ≡ count_true set
count_of_length n j [] le = none_true n j
count_of_length zero j (x ∷ xs) le = grind (arith, le)
count_of_length (suc n) j (x ∷ xs) le =
    count_cons (λ b. b) x (take n (xs ++ replicate j false)) ∙ ap (λ c. cond x (suc c) c) (count_of_length n j xs (omega (arith, le))) ∙ sym (count_cons (λ b. b) x xs)
