-- Mappings that start, and the flags after it.
use Rattle.std.proofs.Common.{◌≡◌, ◌≢◌, ◌∙◌, sym, ap, subst, ℕ, zero, suc, ◌<◌, ◌≤◌, Bool, true, false, cond, not, ◌&&◌, ◌||◌, ◌==◌, nat_le, nat_lt, List, [], ◌∷◌, ◌++◌, length, slice_index_or, map, fold, Option, Some, None, option_map, refl, arith}
use Rattle.std.specs.List.{Contains, count_by, find, filter, flat_map, list_any}
use Rattle.std.specs.Option.{option_map_or, ForSome}
use Rattle.std.specs.Prelude.{IsSome}
use Rattle.std.proofs.lemmas.Bool.{eqb-true, eq-eqb, ltb-false}
use Rattle.fc_base.specs.Sheet.{Slot, slot_at, live_place, mapping_place}
use Rattle.fc_base.specs.SheetStep.{triggered}
use Rattle.fc_base.specs.SheetView.{held_of, count_true}
use Rattle.fc_base.specs.States.{access_of}
use Rattle.fc_base.specs.Tables.{Tables, volume_with}
use Rattle.fc_base.specs.declared.decision.Decision.{Decision}
use Rattle.fc_base.specs.declared.decision.LaneEvent.{LaneEvent}
use Rattle.fc_base.specs.declared.decision.LaneEvent.TheVariants.{Trigger, Access}
use Rattle.fc_base.specs.declared.ids.VolId.{VolId}
use Rattle.fc_base.specs.declared.request.Pair.{Pair}
use Rattle.fc_base.specs.declared.request.Reply.{Reply}
use Rattle.fc_base.specs.declared.state.MapState.{MapState}
use Rattle.fc_base.specs.declared.state.MapState.TheVariants.{Empty, IdleOrCopied, Preparing, Prepared, Copying, Stopping, Stopped}
use Rattle.fc_base.specs.declared.volume.Change.TheVariants.{SetMapping}
use Rattle.fc_base.specs.declared.volume.Mapping.{Mapping}
use Rattle.fc_base.specs.declared.volume.Volume.{Volume}
use Rattle.fc_books.specs.Accesses.{is_active, is_copying, is_stopping, is_stopped}
use Rattle.fc_books.specs.After.{after_deed, after_event, after_table_change, begun, of_length}
use Rattle.fc_books.specs.Books.{Books, Deed, nothing, told, ◌then◌, all_deeds}
use Rattle.fc_books.specs.Copies.{total}
use Rattle.fc_books.specs.Deciding.{with_work}
use Rattle.fc_books.specs.Ending.{in_state}
use Rattle.fc_books.specs.Groups.{has_target}
use Rattle.fc_books.specs.RefusedStarts.{is_rival}
use Rattle.fc_books.specs.Sound.{AreSound, SlotByState}
use Rattle.fc_books.specs.Starting.{is_superseded, gives_way, begins, pair_of, triggers, start}
use Rattle.fc_books.specs.Work.{work_events}
use Rattle.fc_desk.proofs.Deeds.{then-assoc}
use Rattle.fc_desk.proofs.Flagged.{flat_none, work_by_each, told_as}
use Rattle.fc_starts.proofs.Preparing.{set_twice, set_each, accesses_keep, quiet_as, stopped_quiet, superseded_stopped, chosen_stays}
use Rattle.fc_desk.proofs.Selecting.{chosen_deeds}
use Rattle.fc_desk.proofs.Setting.{set_one, with_maps, set_pointwise, changes_set, flat_one, alone, set_kept, IsAlone, first_there, later_there}
use Rattle.fc_desk.proofs.Slots.{is_of, is_live_of, held_in, mapping_found, live_found, held_found, held_same, found_passes}
use Rattle.fc_starts.proofs.Triggered.{Ready, AllReady, NoneOf, AllBegun, trigger_other, trigger_new, count_of_length}
use Rattle.fc_desk.proofs.Counting.{count_cons}
use Rattle.fc_desk.proofs.Slots.{slot_of_target}
use Rattle.fc_desk.proofs.Working.{told_all, told_behind}
use Rattle.fc_desk.specs.ForChosen.{for_chosen}
use Rattle.fc_starts.specs.Choosing.{is_chosen, chosen_of}
use Rattle.fc_desk.specs.Background.{work_as, whole_in}
use Rattle.fc_starts.specs.Starts.{started_told, IsStartable, AreApart, HaveRoom}
use Rattle.fc_desk.specs.Telling.{work_told}
use Rattle.fc_starts.specs.declared.chosen.Chosen.{Chosen}
use Rattle.fc_sheets.proofs.Finding.{live_place_at, mapping_place_is}
use Rattle.fc_sheets.proofs.Starting.{Apart, ApartFrom, AllApart}

-- ---- what is there before

found_volume : (test : Volume → Bool) (xs : List Volume) (x : Volume) → find test xs ≡ Some x → Contains xs x
found_volume test [] x e = absurd cc
found_volume test (y ∷ ys) x e = by_volume y ys x (test y) (find test ys) e (found_volume test ys x)
  where
    by_volume : (v : Volume) (vs : List Volume) (w : Volume) (b : Bool) (o : Option Volume) → cond b (Some v) o ≡ Some w → (o ≡ Some w → Contains vs w) → Contains (v ∷ vs) w
    by_volume v vs w true o e rest = let same : v ≡ w = cc in (0, omega arith, same)
    by_volume v vs w false o e rest = let found = rest e in (suc found.0, omega (arith, found.1), found.2)

-- a volume of the table stands live at a place
pub record Stands (b : Books) (id : VolId) : Type 0 where
  pub volume : Volume
  pub place : ℕ
  pub named : volume_with b.tables id ≡ Some volume
  pub live : live_place b.sheet.slots id.0 ≡ Some place
  pub large : length (slot_at b.sheet.slots place).held ≡ volume.grains

some_of : (o : Option Volume) → IsSome o → (v : Volume) × (o ≡ Some v)
some_of None s = absurd cc
some_of (Some v) s = (v, refl)

stands : (b : Books) (id : VolId) → AreSound b → IsSome (volume_with b.tables id) → Stands b id
stands b id sound there =
    let v = some_of (volume_with b.tables id) there in
    let at = sound.agree.volumes v.0 (found_volume (λ (x : Volume). id.0 == x.id.0) b.tables.volumes v.0 v.1) in
    let same : id.0 ≡ v.0.id.0 = eqb-true id.0 v.0.id.0 (found_passes (λ (x : Volume). id.0 == x.id.0) b.tables.volumes v.0 v.1) in
    record { volume = v.0; place = at.0; named = v.1; live = ap (live_place b.sheet.slots) same ∙ at.1; large = at.2 }

live_is : (slots : List Slot) (v k : ℕ) → live_place slots v ≡ Some k → find (is_live_of v) slots ≡ Some (slot_at slots k)
live_is slots v k e = sym (live_found slots v) ∙ ap (option_map (slot_at slots)) e

no_slot_of : (s : MapState) (slots : List Slot) (m : Mapping) → is_copying s ≡ false → is_stopping s ≡ false → SlotByState s slots m → mapping_place slots m.id.0 ≡ None
no_slot_of Copying slots m c st has = absurd cc
no_slot_of Stopping slots m c st has = absurd cc
no_slot_of Empty slots m c st none = none
no_slot_of IdleOrCopied slots m c st none = none
no_slot_of Preparing slots m c st none = none
no_slot_of Prepared slots m c st none = none
no_slot_of Stopped slots m c st none = none

active_of : (s : MapState) (slots : List Slot) (m : Mapping) (k : ℕ) → SlotByState s slots m → mapping_place slots m.id.0 ≡ Some k → (is_active s ≡ true) × (is_copying s ≡ false → is_stopping s ≡ false → ⊥)
active_of Copying slots m k has e = (refl, λ c st. absurd cc)
active_of Stopping slots m k has e = (refl, λ c st. absurd cc)
active_of Empty slots m k none e = absurd cc
active_of IdleOrCopied slots m k none e = absurd cc
active_of Preparing slots m k none e = absurd cc
active_of Prepared slots m k none e = absurd cc
active_of Stopped slots m k none e = absurd cc

none_passes : (p : Mapping → Bool) (xs : List Mapping) (k : ℕ) (x : Mapping) → find p xs ≡ None → k < length xs → slice_index_or xs k x ≡ x → p x ≡ false
none_passes p [] k x e lt is = grind (arith, lt)
none_passes p (y ∷ ys) k x e lt is = passes_by p y ys k x (p y) refl e lt is (λ j f jlt jis. none_passes p ys j x f jlt jis)
  where
    passes_by : (q : Mapping → Bool) (z : Mapping) (zs : List Mapping) (j : ℕ) (w : Mapping) (b : Bool) → q z ≡ b → cond b (Some z) (find q zs) ≡ None → j < suc (length zs) → slice_index_or (z ∷ zs) j w ≡ w → ((i : ℕ) → find q zs ≡ None → i < length zs → slice_index_or zs i w ≡ w → q w ≡ false) → q w ≡ false
    passes_by q z zs j w true is_b e lt is rest = absurd cc
    passes_by q z zs zero w false is_b e lt is rest = ap q (sym is) ∙ is_b
    passes_by q z zs (suc j) w false is_b e lt is rest = rest j e (omega (arith, lt)) is

rival_is : (m other : Mapping) → other.target.0 ≡ m.target.0 → (other.id.0 == m.id.0) ≡ false → is_active other.state ≡ true → is_rival m other ≡ true
rival_is m other target id active =
    ap (λ b. b && (not (other.id.0 == m.id.0) && is_active other.state)) (eq-eqb other.target.0 m.target.0 target)
    ∙ ap (λ b. not b && is_active other.state) id
    ∙ active

both_false : (x : Bool) → x ≡ false → x ≡ true → ⊥
both_false false e f = absurd cc
both_false true e f = absurd cc

owner_apart : (xs : List Mapping) (m z : Mapping) (t : Bool) → IsAlone xs m → Contains xs z → is_copying m.state ≡ false → is_stopping m.state ≡ false → (is_copying z.state ≡ false → is_stopping z.state ≡ false → ⊥) → (z.id.0 == m.id.0) ≡ t → (z.id.0 == m.id.0) ≡ false
owner_apart xs m z false is_alone there c st busy is = is
owner_apart xs m z true is_alone there c st busy is =
    let same : z ≡ m = is_alone z there is in
    absurd (busy (ap (λ (x : Mapping). is_copying x.state) same ∙ c) (ap (λ (x : Mapping). is_stopping x.state) same ∙ st))

-- the live slot of a mapping's target is no mapping's
free_target : (b : Books) (m : Mapping) (k : ℕ) → AreSound b → Contains b.tables.mappings m → IsStartable b.tables.mappings m → live_place b.sheet.slots m.target.0 ≡ Some k → (o : Option ℕ) → (slot_at b.sheet.slots k).mapping ≡ o → (slot_at b.sheet.slots k).mapping ≡ None
free_target b m k sound there startable live None is = is
free_target b m k sound there startable live (Some n) is =
    let slots = b.sheet.slots in
    let l = live_place_at slots m.target.0 k live in
    let owner : (x : Mapping) × Contains b.tables.mappings x × (x.id.0 ≡ n) = subst (λ (o : Option ℕ). ForSome o (λ i. (x : Mapping) × Contains b.tables.mappings x × (x.id.0 ≡ i))) is (sound.agree.owned k l.there) n refl in
    let place : mapping_place slots owner.0.id.0 ≡ Some k = mapping_place_is slots owner.0.id.0 k sound.sheet.mappings l.there (is ∙ ap Some (sym owner.2)) in
    let by_state = sound.agree.by_state owner.0 owner.1 in
    let target : owner.0.target.0 ≡ m.target.0 = sym (slot_of_target owner.0.state slots owner.0 k by_state place) ∙ l.of_volume in
    let active = active_of owner.0.state slots owner.0 k by_state place in
    let apart : (owner.0.id.0 == m.id.0) ≡ false =
    owner_apart b.tables.mappings m owner.0 (owner.0.id.0 == m.id.0) (alone b.tables.mappings m sound.tables.mappings there) owner.1 startable.not_copying startable.not_stopping active.1 refl in
    absurd
    (both_false (is_rival m owner.0) (none_passes (is_rival m) b.tables.mappings owner.1.0 owner.0 startable.no_rival owner.1.1 owner.1.2)
    (rival_is m owner.0 target apart active.0))

ne_eqb : (x y : ℕ) (t : Bool) → x ≢ y → (x == y) ≡ t → (x == y) ≡ false
ne_eqb x y false ne is = is
ne_eqb x y true ne is = absurd (ne (eqb-true x y is))

pub ready : (b : Books) (m : Mapping) → AreSound b → Contains b.tables.mappings m → IsStartable b.tables.mappings m → Ready b.sheet.slots (total b m) (pair_of m)
ready b m sound there startable =
    let of_tables = sound.agree.mappings m there in
    let t = stands b m.target sound of_tables.target in
    let f = stands b m.source sound of_tables.source in
    record {
      live = slot_at b.sheet.slots t.place;
      target = live_is b.sheet.slots m.target.0 t.place t.live;
      free = free_target b m t.place sound there startable t.live (slot_at b.sheet.slots t.place).mapping refl;
      as_large = t.large ∙ sym (ap (λ o. option_map_or (λ (v : Volume). v.grains) o 0) t.named);
      from = slot_at b.sheet.slots f.place;
      source = live_is b.sheet.slots m.source.0 f.place f.live;
      none = sym (mapping_found b.sheet.slots m.id.0) ∙ ap (option_map (slot_at b.sheet.slots)) (no_slot_of m.state b.sheet.slots m startable.not_copying startable.not_stopping (sound.agree.by_state m there));
      apart = ne_eqb m.target.0 m.source.0 (m.target.0 == m.source.0) (λ e. of_tables.apart (sym e)) refl;
    }

-- ---- all of them

abbrev size_in : Tables → Pair → ℕ
size_in t p = option_map_or (λ (v : Volume). v.grains) (volume_with t p.target) 0

ready_by : (slots : List Slot) (size : Pair → ℕ) (z : Mapping) (ms : List Mapping) (c : Bool) → (c ≡ true → Ready slots (size (pair_of z)) (pair_of z)) → AllReady slots size (map pair_of ms) → AllReady slots size (map pair_of (cond c (z ∷ ms) ms))
ready_by slots size z ms true one rest = (one refl, rest)
ready_by slots size z ms false one rest = rest

all_ready : (slots : List Slot) (size : Pair → ℕ) (ch : Mapping → Bool) (zs : List Mapping) → ((z : Mapping) → Contains zs z → ch z ≡ true → Ready slots (size (pair_of z)) (pair_of z)) → AllReady slots size (map pair_of (filter ch zs))
all_ready slots size ch [] each = tt
all_ready slots size ch (z ∷ zs) each =
    ready_by slots size z (filter ch zs) (ch z) (each z (first_there z zs)) (all_ready slots size ch zs (λ x there. each x (later_there x z zs there)))

-- each pair of chosen mappings at two places is apart
abbrev pub TwoApart : (Mapping → Bool) → List Mapping → Type 0
TwoApart ch zs = (i j : ℕ) (d : Mapping) → i < j → j < length zs → ch (slice_index_or zs i d) ≡ true → ch (slice_index_or zs j d) ≡ true → Apart (pair_of (slice_index_or zs i d)) (pair_of (slice_index_or zs j d))

from_by : (p : Pair) (x : Mapping) (ms : List Mapping) (c : Bool) → (c ≡ true → Apart p (pair_of x)) → ApartFrom p (map pair_of ms) → ApartFrom p (map pair_of (cond c (x ∷ ms) ms))
from_by p x ms true one rest = (one refl, rest)
from_by p x ms false one rest = rest

apart_from : (p : Pair) (ch : Mapping → Bool) (zs : List Mapping) → ((k : ℕ) (d : Mapping) → k < length zs → ch (slice_index_or zs k d) ≡ true → Apart p (pair_of (slice_index_or zs k d))) → ApartFrom p (map pair_of (filter ch zs))
apart_from p ch [] each = tt
apart_from p ch (x ∷ xs) each = from_by p x (filter ch xs) (ch x) (each 0 x (omega arith)) (apart_from p ch xs (λ k d lt. each (suc k) d (omega (arith, lt))))

all_by : (x : Mapping) (ms : List Mapping) (c : Bool) → (c ≡ true → ApartFrom (pair_of x) (map pair_of ms)) → AllApart (map pair_of ms) → AllApart (map pair_of (cond c (x ∷ ms) ms))
all_by x ms true one rest = (one refl, rest)
all_by x ms false one rest = rest

all_apart : (ch : Mapping → Bool) (zs : List Mapping) → TwoApart ch zs → AllApart (map pair_of (filter ch zs))
all_apart ch [] two = tt
all_apart ch (x ∷ xs) two =
    all_by x (filter ch xs) (ch x) (λ passes. apart_from (pair_of x) ch xs (λ k d lt other. two 0 (suc k) d (omega arith) (omega (arith, lt)) passes other))
    (all_apart ch xs (λ i j d lt in_j a c. two (suc i) (suc j) d (omega (arith, lt)) (omega (arith, in_j)) a c))

-- ---- two places with one target

more_by : (b : Bool) (n : ℕ) → n ≤ cond b (suc n) n
more_by true n = omega arith
more_by false n = omega arith

count_more : (p : Mapping → Bool) (x : Mapping) (xs : List Mapping) (c : Bool) → count_by p xs ≤ count_by p (cond c (x ∷ xs) xs)
count_more p x xs false = omega arith
count_more p x xs true = let e = count_cons p x xs in let le = more_by (p x) (count_by p xs) in subst (λ (n : ℕ). count_by p xs ≤ n) (sym e) le

count_here : (p : Mapping → Bool) (x : Mapping) (xs : List Mapping) (c : Bool) → c ≡ true → p x ≡ true → suc (count_by p xs) ≤ count_by p (cond c (x ∷ xs) xs)
count_here p x xs true is e = let n = count_cons p x xs ∙ ap (λ b. cond b (suc (count_by p xs)) (count_by p xs)) e in omega (arith, n)
count_here p x xs false is e = absurd cc

one_count : (p ch : Mapping → Bool) (zs : List Mapping) (k : ℕ) (d : Mapping) → k < length zs → ch (slice_index_or zs k d) ≡ true → p (slice_index_or zs k d) ≡ true → 1 ≤ count_by p (filter ch zs)
one_count p ch [] k d lt c e = grind (arith, lt)
one_count p ch (x ∷ xs) zero d lt c e = let n = count_here p x (filter ch xs) (ch x) c e in omega (arith, n)
one_count p ch (x ∷ xs) (suc k) d lt c e =
    let n = count_more p x (filter ch xs) (ch x) in
    let m = one_count p ch xs k d (omega (arith, lt)) c e in omega (arith, n, m)

two_count : (p ch : Mapping → Bool) (zs : List Mapping) (i j : ℕ) (d : Mapping) → i < j → j < length zs → ch (slice_index_or zs i d) ≡ true → ch (slice_index_or zs j d) ≡ true → p (slice_index_or zs i d) ≡ true → p (slice_index_or zs j d) ≡ true → 2 ≤ count_by p (filter ch zs)
two_count p ch [] i j d lt in_j ci cj ei ej = grind (arith, in_j)
two_count p ch (x ∷ xs) i zero d lt in_j ci cj ei ej = grind (arith, lt)
two_count p ch (x ∷ xs) zero (suc j) d lt in_j ci cj ei ej =
    let n = count_here p x (filter ch xs) (ch x) ci ei in
    let m = one_count p ch xs j d (omega (arith, in_j)) cj ej in omega (arith, n, m)
two_count p ch (x ∷ xs) (suc i) (suc j) d lt in_j ci cj ei ej =
    let n = count_more p x (filter ch xs) (ch x) in
    let m = two_count p ch xs i j d (omega (arith, lt)) (omega (arith, in_j)) ci cj ei ej in omega (arith, n, m)

-- what none of the kept has
none_mapped : (q : ℕ → Bool) (f : Mapping → ℕ) (ch : Mapping → Bool) (zs : List Mapping) (k : ℕ) (d : Mapping) → filter q (map f (filter ch zs)) ≡ [] → k < length zs → ch (slice_index_or zs k d) ≡ true → q (f (slice_index_or zs k d)) ≡ false
none_mapped q f ch [] k d e lt c = grind (arith, lt)
none_mapped q f ch (x ∷ xs) zero d e lt c = first_none q f x (filter ch xs) (ch x) (q (f x)) c refl e
  where
    first_none : (r : ℕ → Bool) (g : Mapping → ℕ) (y : Mapping) (ys : List Mapping) (a t : Bool) → a ≡ true → r (g y) ≡ t → filter r (map g (cond a (y ∷ ys) ys)) ≡ [] → r (g y) ≡ false
    first_none r g y ys true false is_a is_t e = is_t
    first_none r g y ys true true is_a is_t e = let f : (g y ∷ filter r (map g ys)) ≡ [] = sym (ap (λ b. cond b (g y ∷ filter r (map g ys)) (filter r (map g ys))) is_t) ∙ e in absurd cc
    first_none r g y ys false t is_a is_t e = absurd cc
none_mapped q f ch (x ∷ xs) (suc k) d e lt c = none_mapped q f ch xs k d (rest_none q f x (filter ch xs) (ch x) (q (f x)) refl e) (omega (arith, lt)) c
  where
    rest_none : (r : ℕ → Bool) (g : Mapping → ℕ) (y : Mapping) (ys : List Mapping) (a t : Bool) → r (g y) ≡ t → filter r (map g (cond a (y ∷ ys) ys)) ≡ [] → filter r (map g ys) ≡ []
    rest_none r g y ys false t is e = e
    rest_none r g y ys true false is e = sym (ap (λ b. cond b (g y ∷ filter r (map g ys)) (filter r (map g ys))) is) ∙ e
    rest_none r g y ys true true is e = let f : (g y ∷ filter r (map g ys)) ≡ [] = sym (ap (λ b. cond b (g y ∷ filter r (map g ys)) (filter r (map g ys))) is) ∙ e in absurd cc

any_there : (p ch : Mapping → Bool) (zs : List Mapping) (k : ℕ) (d : Mapping) → k < length zs → ch (slice_index_or zs k d) ≡ true → p (slice_index_or zs k d) ≡ true → list_any p (filter ch zs) ≡ true
any_there p ch [] k d lt c e = grind (arith, lt)
any_there p ch (x ∷ xs) zero d lt c e = first_any p x (filter ch xs) (ch x) c e
  where
    first_any : (q : Mapping → Bool) (y : Mapping) (ys : List Mapping) (a : Bool) → a ≡ true → q y ≡ true → list_any q (cond a (y ∷ ys) ys) ≡ true
    first_any q y ys true is e = ap (λ b. b || list_any q ys) e
    first_any q y ys false is e = absurd cc
any_there p ch (x ∷ xs) (suc k) d lt c e = later_any p x (filter ch xs) (ch x) (p x) refl (any_there p ch xs k d (omega (arith, lt)) c e)
  where
    later_any : (q : Mapping → Bool) (y : Mapping) (ys : List Mapping) (a t : Bool) → q y ≡ t → list_any q ys ≡ true → list_any q (cond a (y ∷ ys) ys) ≡ true
    later_any q y ys false t is e = e
    later_any q y ys true true is e = ap (λ b. b || list_any q ys) is
    later_any q y ys true false is e = ap (λ b. b || list_any q ys) is ∙ e

two_apart : (b : Books) (ch : Mapping → Bool) → AreSound b → AreApart (filter ch b.tables.mappings) → TwoApart ch b.tables.mappings
two_apart b ch sound apart i j d lt in_j ci cj =
    let xs = b.tables.mappings in
    let x = slice_index_or xs i d in
    let y = slice_index_or xs j d in
    let less : x.id.0 < y.id.0 = sound.tables.mappings.rising i j d lt in_j in
    record {
      maps = λ e. absurd (omega (arith, less, e));
      targets = λ e.
          let many = two_count (has_target x.target.0) ch xs i j d lt in_j ci cj (eq-eqb x.target.0 x.target.0 refl) (eq-eqb y.target.0 x.target.0 (sym e)) in
          let few = ltb-false 1 (count_by (has_target x.target.0) (filter ch xs))
          (none_mapped (λ v. nat_lt 1 (count_by (has_target v) (filter ch xs))) (λ (m : Mapping). m.target.0) ch xs i d apart.targets (omega (arith, lt, in_j)) ci) in
          absurd (omega (arith, many, few));
      source = λ e.
          both_false (list_any (has_target y.source.0) (filter ch xs))
          (none_mapped (λ v. list_any (has_target v) (filter ch xs)) (λ (m : Mapping). m.source.0) ch xs j d apart.sources in_j cj)
          (any_there (has_target y.source.0) ch xs i d (omega (arith, lt, in_j)) ci (eq-eqb x.target.0 y.source.0 e));
    }

-- ---- what slots hold

none_by : (n : ℕ) (x : Mapping) (ms : List Mapping) (c : Bool) → (c ≡ true → (x.id.0 == n) ≡ false) → NoneOf n (map pair_of ms) → NoneOf n (map pair_of (cond c (x ∷ ms) ms))
none_by n x ms true one rest = (one refl, rest)
none_by n x ms false one rest = rest

none_of : (n : ℕ) (ch : Mapping → Bool) (zs : List Mapping) → ((z : Mapping) → Contains zs z → ch z ≡ true → (z.id.0 == n) ≡ false) → NoneOf n (map pair_of (filter ch zs))
none_of n ch [] each = tt
none_of n ch (z ∷ zs) each = none_by n z (filter ch zs) (ch z) (each z (first_there z zs)) (none_of n ch zs (λ x there. each x (later_there x z zs there)))

abbrev HeldBy : (ℕ → List Bool) → List Slot → (Pair → ℕ) → Pair → Type 0
HeldBy restarts slots size p = (x : Slot) × (find (is_of p.map.0) slots ≡ Some x) × (x.held ≡ of_length (size p) (restarts p.map.0))

begun_by : (restarts : ℕ → List Bool) (slots : List Slot) (size : Pair → ℕ) (x : Mapping) (ms : List Mapping) (c : Bool) → c ≡ true → AllBegun restarts slots size (map pair_of (cond c (x ∷ ms) ms)) → HeldBy restarts slots size (pair_of x)
begun_by restarts slots size x ms true is all = all.0
begun_by restarts slots size x ms false is all = absurd cc

begun_rest : (restarts : ℕ → List Bool) (slots : List Slot) (size : Pair → ℕ) (x : Mapping) (ms : List Mapping) (c : Bool) → AllBegun restarts slots size (map pair_of (cond c (x ∷ ms) ms)) → AllBegun restarts slots size (map pair_of ms)
begun_rest restarts slots size x ms true all = all.1
begun_rest restarts slots size x ms false all = all

begun_at : (restarts : ℕ → List Bool) (slots : List Slot) (size : Pair → ℕ) (ch : Mapping → Bool) (zs : List Mapping) (k : ℕ) (x : Mapping) → AllBegun restarts slots size (map pair_of (filter ch zs)) → k < length zs → slice_index_or zs k x ≡ x → ch x ≡ true → HeldBy restarts slots size (pair_of x)
begun_at restarts slots size ch [] k x all lt is passes = grind (arith, lt)
begun_at restarts slots size ch (z ∷ zs) zero x all lt is passes =
    subst (λ (y : Mapping). HeldBy restarts slots size (pair_of y)) is (begun_by restarts slots size z (filter ch zs) (ch z) (ap ch is ∙ passes) all)
begun_at restarts slots size ch (z ∷ zs) (suc k) x all lt is passes =
    begun_at restarts slots size ch zs k x (begun_rest restarts slots size z (filter ch zs) (ch z) all) (omega (arith, lt)) is passes

-- the chains after the trigger
abbrev pub slots_after : (ℕ → List Bool) → Books → List Mapping → List Slot
slots_after restarts b maps = (fold (begun restarts) (triggered (map pair_of maps) b.sheet) (map pair_of maps)).slots

pub held_other :
    (restarts : ℕ → List Bool) (b : Books) (ch : Mapping → Bool) (x : Mapping) → AreSound b → ((m : Mapping) → Contains b.tables.mappings m → ch m ≡ true → IsStartable b.tables.mappings m) → AreApart (filter ch b.tables.mappings) →
    Contains b.tables.mappings x → ch x ≡ false → held_of (slots_after restarts b (filter ch b.tables.mappings)) x.id.0 ≡ held_of b.sheet.slots x.id.0
held_other restarts b ch x sound startable apart there passes =
    let xs = b.tables.mappings in
    held_same b.sheet.slots (slots_after restarts b (filter ch xs)) x.id.0
    (trigger_other restarts b.sheet (size_in b.tables) x.id.0 (map pair_of (filter ch xs))
    (all_ready b.sheet.slots (size_in b.tables) ch xs (λ z z_there z_passes. ready b z sound z_there (startable z z_there z_passes)))
    (all_apart ch xs (two_apart b ch sound apart))
    (none_of x.id.0 ch xs (λ z z_there z_passes. none_one z z_there z_passes (z.id.0 == x.id.0) refl)))
  where
    none_one : (z : Mapping) → Contains b.tables.mappings z → ch z ≡ true → (t : Bool) → (z.id.0 == x.id.0) ≡ t → (z.id.0 == x.id.0) ≡ false
    none_one z z_there z_passes false is = is
    none_one z z_there z_passes true is = absurd (both_false (ch z) (ap ch (alone b.tables.mappings x sound.tables.mappings there z z_there is) ∙ passes) z_passes)

pub held_new :
    (restarts : ℕ → List Bool) (b : Books) (ch : Mapping → Bool) (x : Mapping) → AreSound b → HaveRoom b restarts → ((m : Mapping) → Contains b.tables.mappings m → ch m ≡ true → IsStartable b.tables.mappings m) → AreApart (filter ch b.tables.mappings) →
    Contains b.tables.mappings x → ch x ≡ true → count_true (held_of (slots_after restarts b (filter ch b.tables.mappings)) x.id.0) ≡ count_true (restarts x.id.0)
held_new restarts b ch x sound room startable apart there passes =
    let xs = b.tables.mappings in
    let all = trigger_new restarts b.sheet (size_in b.tables) (map pair_of (filter ch xs))
    (all_ready b.sheet.slots (size_in b.tables) ch xs (λ z z_there z_passes. ready b z sound z_there (startable z z_there z_passes)))
    (all_apart ch xs (two_apart b ch sound apart)) in
    let one = begun_at restarts (slots_after restarts b (filter ch xs)) (size_in b.tables) ch xs there.0 x all there.1 there.2 passes in
    ap count_true (held_found (slots_after restarts b (filter ch xs)) x.id.0 ∙ ap held_in one.1 ∙ one.2)
    ∙ count_of_length (total b x) (total b x) (restarts x.id.0) (room x there)

-- ---- the flags

abbrev starting : Bool → Mapping → Mapping
starting restore x = in_state Copying (record x { restoring = restore })

pub one_started :
    (restarts : ℕ → List Bool) (b other : Books) (restore : Bool) (x : Mapping) (ch : Mapping → Bool) (c s : Bool) → ch x ≡ c →
    (s ≡ true → is_stopped x.state ≡ true) → other.flags ≡ b.flags → other.tables.volumes ≡ b.tables.volumes →
    (c ≡ true → count_true (held_of other.sheet.slots x.id.0) ≡ count_true (restarts x.id.0)) → (c ≡ false → held_of other.sheet.slots x.id.0 ≡ held_of b.sheet.slots x.id.0) →
    work_told other None (cond c (starting restore x) (cond s (in_state IdleOrCopied x) x)) ≡ started_told b restarts ch x
one_started restarts b other restore x ch true s is stopped f v new same =
    told_as other b.flags b.tables.volumes other.sheet.slots (starting restore x) f v refl
    ∙ ap (λ n. work_as b.flags (nat_le (total b x) n) (starting restore x)) (new refl)
    ∙ sym (ap (λ t. cond t (work_as b.flags (nat_le (total b x) (count_true (restarts x.id.0))) (in_state Copying x)) (work_told b None x)) is)
one_started restarts b other restore x ch false true is stopped f v new same =
    let quiet = stopped_quiet x.state (stopped refl) in
    told_as other b.flags b.tables.volumes other.sheet.slots (in_state IdleOrCopied x) f v refl
    ∙ ap (λ held. work_as b.flags (nat_le (total b x) (count_true held)) (in_state IdleOrCopied x)) (same refl)
    ∙ sym (quiet_as b.flags (whole_in b.tables.volumes b.sheet.slots x) x quiet.0 quiet.1)
    ∙ sym (ap (λ t. cond t (work_as b.flags (nat_le (total b x) (count_true (restarts x.id.0))) (in_state Copying x)) (work_told b None x)) is)
one_started restarts b other restore x ch false false is stopped f v new same =
    told_as other b.flags b.tables.volumes other.sheet.slots x f v refl
    ∙ ap (λ held. work_as b.flags (nat_le (total b x) (count_true held)) x) (same refl)
    ∙ sym (ap (λ t. cond t (work_as b.flags (nat_le (total b x) (count_true (restarts x.id.0))) (in_state Copying x)) (work_told b None x)) is)

abbrev new_form : Bool → Bool → (Mapping → Bool) → (Mapping → Bool) → Mapping → Mapping
new_form prep restore sup ch x = cond (ch x) (starting restore x) (cond (prep && sup x) (in_state IdleOrCopied x) x)

-- what is told as mappings start, where their changes make these tables
pub work_by_start :
    (restarts : ℕ → List Bool) (b after : Books) (prep restore : Bool) (ch : Mapping → Bool) (h : Mapping → Mapping) → AreSound b → HaveRoom b restarts →
    ((m : Mapping) → Contains b.tables.mappings m → ch m ≡ true → IsStartable b.tables.mappings m) → AreApart (filter ch b.tables.mappings) →
    after.tables.mappings ≡ map h b.tables.mappings → after.flags ≡ b.flags → after.tables.volumes ≡ b.tables.volumes → after.sheet.slots ≡ slots_after restarts b (filter ch b.tables.mappings) →
    ((x : Mapping) → Contains b.tables.mappings x → h x ≡ new_form prep restore (is_superseded (filter ch b.tables.mappings)) ch x) →
    work_events after ≡ flat_map (started_told b restarts ch) b.tables.mappings
work_by_start restarts b after prep restore ch h sound room startable apart maps flags volumes slots each =
    let xs = b.tables.mappings in
    work_by_each after h (started_told b restarts ch) xs maps
    (λ x there.
    ap (work_told after None) (each x there)
    ∙ one_started restarts b after restore x ch (ch x) (prep && is_superseded (filter ch xs) x) refl (stopped x (prep) (is_superseded (filter ch xs) x) refl) flags volumes
    (λ passes. ap (λ (s : List Slot). count_true (held_of s x.id.0)) slots ∙ held_new restarts b ch x sound room startable apart there passes)
    (λ passes. ap (λ (s : List Slot). held_of s x.id.0) slots ∙ held_other restarts b ch x sound startable apart there passes))
  where
    stopped : (x : Mapping) (p s : Bool) → is_superseded (filter ch b.tables.mappings) x ≡ s → (p && s) ≡ true → is_stopped x.state ≡ true
    stopped x true s is e = superseded_stopped (filter ch b.tables.mappings) x (is ∙ e)
    stopped x false s is e = absurd cc

pub work_events-started :
    (restarts : ℕ → List Bool) (b : Books) (prep restore : Bool) (ch : Mapping → Bool) → AreSound b → HaveRoom b restarts →
    ((m : Mapping) → Contains b.tables.mappings m → ch m ≡ true → IsStartable b.tables.mappings m) → AreApart (filter ch b.tables.mappings) →
    work_events (after_deed restarts b (start prep restore b.tables (filter ch b.tables.mappings))) ≡ flat_map (started_told b restarts ch) b.tables.mappings
work_events-started restarts b true restore ch sound room startable apart =
    let xs = b.tables.mappings in
    let maps = filter ch xs in
    let sup = is_superseded maps in
    let f = in_state IdleOrCopied in
    let g = starting restore in
    let ys = map f (filter sup xs) ++ map g maps in
    let d = start true restore b.tables maps in
    let after = after_deed restarts b d in
    let changed = fold after_table_change b d.changes in
    let told_first : after ≡ after_event restarts changed (Trigger (map pair_of maps)) =
    ap (λ es. fold (after_event restarts) changed (es ++ (Trigger (map pair_of maps) ∷ flat_map (λ (x : Mapping). Access x.target (access_of x.id Copying x.complete) ∷ []) maps))) (flat_none (filter sup xs))
    ∙ accesses_keep restarts (after_event restarts changed (Trigger (map pair_of maps))) (λ x. x.target) (λ x. access_of x.id Copying x.complete) maps in
    let whole : after ≡ after_event restarts (with_maps b (map (λ x. fold set_one x ys) xs)) (Trigger (map pair_of maps)) =
    told_first ∙ ap (λ c. after_event restarts c (Trigger (map pair_of maps))) (set_twice b f g sup ch) in
    work_by_start restarts b after true restore ch (λ x. fold set_one x ys) sound room startable apart
    (ap (λ (c : Books). c.tables.mappings) whole) (ap (λ (c : Books). c.flags) whole) (ap (λ (c : Books). c.tables.volumes) whole) (ap (λ (c : Books). c.sheet.slots) whole)
    (λ x there. set_each f g sup ch xs x (λ m. refl) (λ m. refl) (alone xs x sound.tables.mappings there) there (chosen_stays ch xs x there))
work_events-started restarts b false restore ch sound room startable apart =
    let xs = b.tables.mappings in
    let maps = filter ch xs in
    let g = starting restore in
    let ys = map g maps in
    let d = start false restore b.tables maps in
    let after = after_deed restarts b d in
    let changed = fold after_table_change b d.changes in
    let told_first : after ≡ after_event restarts changed (Trigger (map pair_of maps)) =
    accesses_keep restarts (after_event restarts changed (Trigger (map pair_of maps))) (λ x. x.target) (λ x. access_of x.id Copying x.complete) maps in
    let sets : changed ≡ with_maps b (map (λ x. fold set_one x ys) xs) =
    ap (fold after_table_change b) (flat_one (λ x. SetMapping (g x)) maps) ∙ changes_set b g maps xs ∙ ap (with_maps b) (set_pointwise ys xs) in
    let whole : after ≡ after_event restarts (with_maps b (map (λ x. fold set_one x ys) xs)) (Trigger (map pair_of maps)) =
    told_first ∙ ap (λ c. after_event restarts c (Trigger (map pair_of maps))) sets in
    work_by_start restarts b after false restore ch (λ x. fold set_one x ys) sound room startable apart
    (ap (λ (c : Books). c.tables.mappings) whole) (ap (λ (c : Books). c.flags) whole) (ap (λ (c : Books). c.tables.volumes) whole) (ap (λ (c : Books). c.sheet.slots) whole)
    (λ x there. set_kept g ch x xs (λ m. refl) (alone xs x sound.tables.mappings there) there)

-- ---- put together

pub drafted_start :
    (t : Tables) (c : Chosen) (prep restore : Bool) (maps : List Mapping) (first second whole : Deed) →
    maps ≡ t.mappings →
    first ≡ cond prep (all_deeds (for_chosen (is_superseded (filter (is_chosen c) maps)) gives_way) maps) nothing →
    second ≡ (first then triggers (filter (is_chosen c) maps)) →
    whole ≡ (second then all_deeds (for_chosen (is_chosen c) (begins Copying restore)) maps) →
    whole ≡ start prep restore t (chosen_of t c)
drafted_start t c prep restore maps first second whole maps_are first_is second_is whole_is =
    let chosen = filter (is_chosen c) in
    whole_is
    ∙ ap (λ d. d then all_deeds (for_chosen (is_chosen c) (begins Copying restore)) maps) (second_is ∙ ap (λ d. d then triggers (chosen maps)) (first_is ∙ ap (λ d. cond prep d nothing) (chosen_deeds (is_superseded (chosen maps)) gives_way maps)))
    ∙ ap (λ d. (cond prep (all_deeds gives_way (filter (is_superseded (chosen maps)) maps)) nothing then triggers (chosen maps)) then d) (chosen_deeds (is_chosen c) (begins Copying restore) maps)
    ∙ then-assoc (cond prep (all_deeds gives_way (filter (is_superseded (chosen maps)) maps)) nothing) (triggers (chosen maps)) (all_deeds (begins Copying restore) (chosen maps))
    ∙ ap (λ ms. cond prep (all_deeds gives_way (filter (is_superseded (chosen ms)) ms)) nothing then (triggers (chosen ms) then all_deeds (begins Copying restore) (chosen ms))) maps_are

pub started :
    (restarts : ℕ → List Bool) (b : Books) (c : Chosen) (prep restore : Bool) (reply : Reply) (draft whole : Deed) (decision : Decision) → AreSound b → HaveRoom b restarts →
    ((m : Mapping) → Contains b.tables.mappings m → is_chosen c m ≡ true → IsStartable b.tables.mappings m) → AreApart (chosen_of b.tables c) →
    draft ≡ start prep restore b.tables (chosen_of b.tables c) →
    whole ≡ (draft then all_deeds (λ (m : Mapping). told (started_told b restarts (is_chosen c) m)) b.tables.mappings) →
    decision ≡ record { reply = reply; effects = whole.effects; events = whole.events; changes = whole.changes } →
    decision ≡ with_work restarts b reply (start prep restore b.tables (chosen_of b.tables c))
started restarts b c prep restore reply draft whole decision sound room startable apart draft_is whole_is decision_is =
    let tell = started_told b restarts (is_chosen c) in
    let xs = b.tables.mappings in
    let concluded : Deed → List LaneEvent → Decision = λ d work. record { reply = reply; effects = d.effects; events = d.events ++ work; changes = d.changes } in
    let decided : Deed → Decision = λ d. record { reply = reply; effects = d.effects; events = d.events; changes = d.changes } in
    let total_is : (draft then all_deeds (λ (m : Mapping). told (tell m)) xs) ≡ (record draft { events = draft.events ++ flat_map tell xs }) = ap (λ d. draft then d) (told_all tell xs) ∙ told_behind draft (flat_map tell xs) in
    decision_is
    ∙ ap decided (whole_is ∙ total_is)
    ∙ ap (λ d. concluded d (flat_map tell xs)) draft_is
    ∙ ap (concluded (start prep restore b.tables (chosen_of b.tables c))) (sym (work_events-started restarts b prep restore (is_chosen c) sound room startable apart))
