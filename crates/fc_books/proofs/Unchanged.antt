-- When the background work stays as it is.
use Rattle.std.proofs.Common.{◌≡◌, ◌∙◌, sym, ap, ℕ, zero, suc, ◌<◌, Bool, true, false, cond, not, ◌&&◌, ◌||◌, ◌==◌, nat_le, nat_lt, List, [], ◌∷◌, ◌++◌, length, map, Option, Some, None, refl, arith, length-append}
use Rattle.std.specs.List.{Contains, find, filter}
use Rattle.std.specs.Prelude.{IsSome}
use Rattle.std.specs.Option.{option_map_or}
use Rattle.std.proofs.lemmas.List.{get_or_push, get_or_append_left}
use Rattle.fc_base.specs.Column.{first_below, is_at}
use Rattle.fc_base.specs.Sheet.{Slot, slot_at, no_slot, mapping_place}
use Rattle.fc_base.specs.SheetView.{held_of, held_at, count_true}
use Rattle.fc_base.specs.Tables.{volume_with}
use Rattle.fc_base.specs.declared.decision.LaneEvent.{LaneEvent}
use Rattle.fc_base.specs.declared.decision.LaneEvent.TheVariants.{Work}
use Rattle.fc_base.specs.declared.volume.Mapping.{Mapping}
use Rattle.fc_base.specs.declared.volume.Volume.{Volume}
use Rattle.fc_books.specs.Accesses.{is_copying, is_stopping}
use Rattle.fc_books.specs.After.{after_deed}
use Rattle.fc_books.specs.Books.{Books}
use Rattle.fc_books.specs.Copies.{is_whole, held, total}
use Rattle.fc_books.specs.Making.{make_volume}
use Rattle.fc_books.specs.Work.{copies, cleans, are_same, changes_work, work_events}
use Rattle.fc_pick.specs.declared.work.WorkFlags.{WorkFlags}

-- ---- by flags and whole copies

abbrev copies_by : Bool → Mapping → Bool
copies_by whole m = is_copying m.state && (not whole && nat_lt 0 m.copy_rate)

abbrev cleans_by : Bool → Mapping → Bool
cleans_by whole m = nat_lt 0 m.clean_rate && (is_stopping m.state || (is_copying m.state && ((m.copy_rate == 0) || whole)))

abbrev changes_by : List WorkFlags → Bool → Mapping → Bool
changes_by flags whole m =
    let row = find (λ (r : WorkFlags). r.map.0 == m.id.0) flags in
    not (are_same (copies_by whole m) (option_map_or (λ (r : WorkFlags). r.copies) row false) && are_same (cleans_by whole m) (option_map_or (λ (r : WorkFlags). r.cleans) row false))

abbrev told_by : List WorkFlags → Bool → Mapping → List LaneEvent → List LaneEvent
told_by flags whole m rest = cond (changes_by flags whole m) (Work m.id (copies_by whole m) (cleans_by whole m) ∷ rest) rest

abbrev told_of : Books → List Mapping → List LaneEvent
told_of b maps = map (λ (m : Mapping). Work m.id (copies b m) (cleans b m)) (filter (changes_work b) maps)

put_told : (b : Books) (m : Mapping) (rest : List Mapping) (c : Bool) → map (λ (x : Mapping). Work x.id (copies b x) (cleans b x)) (cond c (m ∷ rest) rest) ≡ cond c (Work m.id (copies b m) (cleans b m) ∷ map (λ (x : Mapping). Work x.id (copies b x) (cleans b x)) rest) (map (λ (x : Mapping). Work x.id (copies b x) (cleans b x)) rest)
put_told b m rest true = refl
put_told b m rest false = refl

first_told : (b : Books) (m : Mapping) (ms : List Mapping) → told_of b (m ∷ ms) ≡ told_by b.flags (is_whole b m) m (told_of b ms)
first_told b m ms = put_told b m (filter (changes_work b) ms) (changes_work b m)

there_first : (m : Mapping) (ms : List Mapping) → Contains (m ∷ ms) m
there_first m ms = (0, omega arith, refl)

there_later : (x m : Mapping) (ms : List Mapping) → Contains ms x → Contains (m ∷ ms) x
there_later x m ms found = (suc found.0, omega (arith, found.1), found.2)

same_told : (b other : Books) (maps : List Mapping) → other.flags ≡ b.flags → ((m : Mapping) → Contains maps m → is_whole other m ≡ is_whole b m) → told_of other maps ≡ told_of b maps
same_told b other [] flags same = refl
same_told b other (m ∷ ms) flags same =
    first_told other m ms
    ∙ ap (λ f. told_by f (is_whole other m) m (told_of other ms)) flags
    ∙ ap (λ w. told_by b.flags w m (told_of other ms)) (same m (there_first m ms))
    ∙ ap (told_by b.flags (is_whole b m) m) (same_told b other ms flags (λ x found. same x (there_later x m ms found)))
    ∙ sym (first_told b m ms)

-- Books with the same flags and mappings, of which the same have whole copies, have the same work to tell.
pub work_events-same : (b other : Books) → other.flags ≡ b.flags → other.tables.mappings ≡ b.tables.mappings → ((m : Mapping) → Contains b.tables.mappings m → is_whole other m ≡ is_whole b m) → work_events other ≡ work_events b
unfolding work_events
work_events-same b other flags maps same = ap (told_of other) maps ∙ same_told b other b.tables.mappings flags same

-- ---- a new volume

find_in : {X : Type 0} (b : Bool) (z x : X) (o longer : Option X) → (o ≡ Some x → longer ≡ Some x) → cond b (Some z) o ≡ Some x → cond b (Some z) longer ≡ Some x
find_in true z x o longer rest e = e
find_in false z x o longer rest e = rest e

find_longer : {X : Type 0} (test : X → Bool) (xs : List X) (y x : X) → find test xs ≡ Some x → find test (xs ++ y ∷ []) ≡ Some x
find_longer test [] y x e = grind (arith, e)
find_longer test (z ∷ zs) y x e = find_in (test z) z x (find test zs) (find test (zs ++ y ∷ [])) (find_longer test zs y x) e

find_same : {X : Type 0} (test : X → Bool) (xs : List X) (y : X) (o : Option X) → find test xs ≡ o → IsSome o → find test (xs ++ y ∷ []) ≡ o
find_same test xs y None e some = grind (arith, some)
find_same test xs y (Some x) e some = find_longer test xs y x e

-- the least place that passes, place by place
next : Option ℕ → Bool → ℕ → Option ℕ
next (Some k) b n = Some k
next None b n = cond b (Some n) None

next_is : (o : Option ℕ) (b : Bool) (n : ℕ) → elim o [ Some k ↦ Some k | None ↦ cond b (Some n) None ] ≡ next o b n
unfolding next
next_is None b n = refl
next_is (Some k) b n = refl

next_none : (o : Option ℕ) (n : ℕ) → next o false n ≡ o
unfolding next
next_none None n = refl
next_none (Some k) n = refl

first_next : (test : ℕ → Bool) (n : ℕ) → first_below test (suc n) ≡ next (first_below test n) (test n) n
unfolding first_below
first_next test n = next_is (first_below test n) (test n) n

first_same : (p q : ℕ → Bool) (n : ℕ) → ((k : ℕ) → k < n → p k ≡ q k) → first_below p n ≡ first_below q n
unfolding first_below
first_same p q zero same = refl
first_same p q (suc n) same =
    first_next p n
    ∙ ap (λ o. next o (p n) n) (first_same p q n (λ k lt. same k (omega (arith, lt))))
    ∙ ap (λ b. next (first_below q n) b n) (same n (omega arith))
    ∙ sym (first_next q n)

next_bound : (o : Option ℕ) (b : Bool) (n k : ℕ) → (o ≡ Some k → k < n) → next o b n ≡ Some k → k < suc n
unfolding next
next_bound (Some j) b n k below e = omega (arith, below e)
next_bound None true n k below e = grind (arith, e)
next_bound None false n k below e = grind (arith, e)

first_bound : (test : ℕ → Bool) (n k : ℕ) → first_below test n ≡ Some k → k < n
unfolding first_below
first_bound test zero k e = grind (arith, e)
first_bound test (suc n) k e = next_bound (first_below test n) (test n) n k (first_bound test n k) (sym (first_next test n) ∙ e)

slot_left : (slots : List Slot) (new : Slot) (k : ℕ) → k < length slots → slot_at (slots ++ new ∷ []) k ≡ slot_at slots k
slot_left slots new k lt = get_or_append_left slots (new ∷ []) no_slot k lt

left_test : (slots : List Slot) (new : Slot) (m k : ℕ) → k < length slots → is_at (slot_at (slots ++ new ∷ []) k).mapping m ≡ is_at (slot_at slots k).mapping m
left_test slots new m k lt = let f : Slot → Bool = λ s. is_at s.mapping m in ap f (slot_left slots new k lt)

last_test : (slots : List Slot) (new : Slot) (m : ℕ) → new.mapping ≡ None → is_at (slot_at (slots ++ new ∷ []) (length slots)).mapping m ≡ false
last_test slots new m none =
    let f : Slot → Bool = λ s. is_at s.mapping m in
    ap f (get_or_push slots new no_slot (length slots) refl) ∙ ap (λ o. is_at o m) none

place_behind : (slots : List Slot) (new : Slot) (m : ℕ) → new.mapping ≡ None → mapping_place (slots ++ new ∷ []) m ≡ mapping_place slots m
unfolding mapping_place
place_behind slots new m none =
    let n = length slots in
    let p : ℕ → Bool = λ k. is_at (slot_at (slots ++ new ∷ []) k).mapping m in
    let q : ℕ → Bool = λ k. is_at (slot_at slots k).mapping m in
    ap (first_below p) (length-append slots (new ∷ []) ∙ omega arith)
    ∙ first_next p n
    ∙ ap (λ o. next o (p n) n) (first_same p q n (λ k lt. left_test slots new m k lt))
    ∙ ap (λ b. next (first_below q n) b n) (last_test slots new m none)
    ∙ next_none (first_below q n) n

held_left : (slots : List Slot) (new : Slot) (o : Option ℕ) → ((k : ℕ) → o ≡ Some k → k < length slots) → held_at (slots ++ new ∷ []) o ≡ held_at slots o
held_left slots new None below = refl
held_left slots new (Some k) below = let f : Slot → List Bool = λ s. s.held in ap f (slot_left slots new k (below k refl))

place_bound : (slots : List Slot) (m k : ℕ) → mapping_place slots m ≡ Some k → k < length slots
unfolding mapping_place
place_bound slots m k e = first_bound (λ j. is_at (slot_at slots j).mapping m) (length slots) k e

-- A slot that is no mapping's, behind all others, changes no mapping's.
pub held_of-behind : (slots : List Slot) (new : Slot) (m : ℕ) → new.mapping ≡ None → held_of (slots ++ new ∷ []) m ≡ held_of slots m
held_of-behind slots new m none =
    ap (held_at (slots ++ new ∷ [])) (place_behind slots new m none)
    ∙ held_left slots new (mapping_place slots m) (λ k e. place_bound slots m k e)

-- A new volume changes no background work, where the targets of all mappings are volumes of the table.
pub work_events-made :
    (restarts : ℕ → List Bool) (b : Books) (v : Volume) →
    ((m : Mapping) → Contains b.tables.mappings m → IsSome (volume_with b.tables m.target)) →
    work_events (after_deed restarts b (make_volume v)) ≡ work_events b
work_events-made restarts b v targets =
    work_events-same b (after_deed restarts b (make_volume v)) refl refl
    (λ m found.
    let size : total (after_deed restarts b (make_volume v)) m ≡ total b m =
    ap (λ o. option_map_or (λ (x : Volume). x.grains) o 0)
    (find_same (λ (x : Volume). m.target.0 == x.id.0) b.tables.volumes v (volume_with b.tables m.target) refl (targets m found)) in
    let holds : held (after_deed restarts b (make_volume v)) m ≡ held b m =
    ap count_true (held_of-behind b.sheet.slots _ m.id.0 refl) in
    ap (λ n. nat_le n (held (after_deed restarts b (make_volume v)) m)) size ∙ ap (nat_le (total b m)) holds)
