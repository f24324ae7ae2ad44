-- Births only rise, so those after all events bound those in between.
use Rattle.std.proofs.Common.{◌≡◌, ℕ, zero, suc, ◌+◌, ◌<◌, ◌≤◌, ◌^◌, Option, Some, None, List, [], ◌∷◌, length, get_or, drop, fold, refl, sym, ap, ◌∙◌, arith, add-one, drop-cons, inl, inr}
use Rattle.std.proofs.lemmas.Bool.{cases_Bool}
use Rattle.fc_base.specs.declared.ids.MapId.{MapId}
use Rattle.fc_base.specs.declared.request.Pair.{Pair}
use Rattle.fc_base.specs.declared.decision.LaneEvent.{LaneEvent}
use Rattle.fc_base.specs.declared.decision.LaneEvent.TheVariants.{Make, Remove, Trigger, Retire, Detach, Split, Force, Drop, Forget, NoteCut, Access, Work, Arm}
use Rattle.fc_base.specs.Sheet.{Sheet, slot_at, live_place, mapping_place, birth_place}
use Rattle.fc_base.specs.SheetStep.{at_place, has_after, without, left_place, placed, started_empty, retired_at, detached_at, split_at, forced_at, forced_map, sheet_step}
use Rattle.fc_events.specs.Room.{BirthsFit, slots_made}

abbrev pub Rises : (Sheet → Sheet) → Type 0
Rises f = (s : Sheet) → s.births ≤ (f s).births

le_same : (n : ℕ) → n ≤ n
le_same n = omega arith

place_rises : (f : ℕ → Sheet → Sheet) → ((k : ℕ) → Rises (f k)) → (o : Option ℕ) → Rises (at_place f o)
place_rises f r None s = le_same s.births
place_rises f r (Some k) s = r k s

pub all_rise : {A : Type 0} (f : Sheet → A → Sheet) → ((x : A) → Rises (λ s. f s x)) → (xs : List A) (s : Sheet) → s.births ≤ (fold f s xs).births
all_rise f r [] s = le_same s.births
all_rise f r (x ∷ xs) s =
    let a : s.births ≤ (f s x).births = r x s in
    let b : (f s x).births ≤ (fold f (f s x) xs).births = all_rise f r xs (f s x) in
    omega arith

left_rises : (k : ℕ) → Rises (left_place k)
left_rises k s =
    elim (cases_Bool (has_after s.slots k)) [
      | inl y ↦ (let e : (left_place k s).births ≡ s.births = rw y refl in omega arith)
      | inr n ↦ (let e : (left_place k s).births ≡ s.births = rw n refl in omega arith)
    ]

one_more : (n : ℕ) → n ≤ n + 1
one_more n = omega arith

pub start_rises : (p : Pair) → Rises (λ s. started_empty s p)
start_rises p s =
    let t : Sheet = at_place left_place (live_place s.slots p.target.0) s in
    let a : s.births ≤ t.births = place_rises left_place left_rises (live_place s.slots p.target.0) s in
    let b : t.births ≤ (started_empty s p).births = place_rises (placed p.target.0 p.map.0 _) (λ k u. one_more u.births) (live_place t.slots p.source.0) t in
    omega arith

forced_rises : (k : ℕ) → Rises (forced_at k)
forced_rises k s =
    elim (cases_Bool (slot_at s.slots k).is_live) [
      | inl y ↦ (let e : (forced_at k s).births ≡ s.births + 1 = rw y refl in omega arith)
      | inr n ↦ (let e : (forced_at k s).births ≡ s.births = rw n refl in omega arith)
    ]

pub force_rises : (m : MapId) → Rises (λ s. forced_map s m)
force_rises m s = place_rises forced_at forced_rises (mapping_place s.slots m.0) s

pub step_rises : (local : ℕ → ℕ) (e : LaneEvent) → Rises (λ s. sheet_step local s e)
step_rises local (Make volume grains kind) s = one_more s.births
step_rises local (Remove volume) s = place_rises without (λ k u. le_same u.births) (live_place s.slots volume.0) s
step_rises local (Trigger pairs) s = all_rise started_empty start_rises pairs s
step_rises local (Retire m) s = place_rises retired_at (λ k u. one_more u.births) (mapping_place s.slots m.0) s
step_rises local (Detach m) s = place_rises detached_at (λ k u. one_more u.births) (mapping_place s.slots m.0) s
step_rises local (Split m) s = place_rises split_at (λ k u. le_same u.births) (mapping_place s.slots m.0) s
step_rises local (Force m dependents) s =
    let a : s.births ≤ (forced_map s m).births = force_rises m s in
    let b : (forced_map s m).births ≤ (fold forced_map (forced_map s m) dependents).births = all_rise forced_map force_rises dependents (forced_map s m) in
    omega arith
step_rises local (Drop slot) s = place_rises without (λ k u. le_same u.births) (birth_place s.slots slot.0) s
step_rises local (Forget m) s = le_same s.births
step_rises local (NoteCut m source target) s = le_same s.births
step_rises local (Access volume access) s = le_same s.births
step_rises local (Work m copies cleans) s = le_same s.births
step_rises local (Arm volume grain calls) s = le_same s.births

-- ---- how far they rise

le_more : (n : ℕ) → n ≤ n + 0
le_more n = omega arith

place_at_most : (f : ℕ → Sheet → Sheet) (n : ℕ) → ((k : ℕ) (s : Sheet) → (f k s).births ≤ s.births + n) → (o : Option ℕ) (s : Sheet) → (at_place f o s).births ≤ s.births + n
place_at_most f n h None s = omega arith
place_at_most f n h (Some k) s = h k s

all_at_most : {A : Type 0} (f : Sheet → A → Sheet) → ((x : A) (s : Sheet) → (f s x).births ≤ s.births + 1) → (xs : List A) (s : Sheet) → (fold f s xs).births ≤ s.births + length xs
all_at_most f h [] s = omega arith
all_at_most f h (x ∷ xs) s =
    let a : (f s x).births ≤ s.births + 1 = h x s in
    let b : (fold f (f s x) xs).births ≤ (f s x).births + length xs = all_at_most f h xs (f s x) in
    omega arith

left_at_most : (k : ℕ) (s : Sheet) → (left_place k s).births ≤ s.births + 0
left_at_most k s =
    elim (cases_Bool (has_after s.slots k)) [
      | inl y ↦ (let e : (left_place k s).births ≡ s.births = rw y refl in omega arith)
      | inr n ↦ (let e : (left_place k s).births ≡ s.births = rw n refl in omega arith)
    ]

start_at_most : (p : Pair) (s : Sheet) → (started_empty s p).births ≤ s.births + 1
start_at_most p s =
    let t : Sheet = at_place left_place (live_place s.slots p.target.0) s in
    let a : t.births ≤ s.births + 0 = place_at_most left_place 0 left_at_most (live_place s.slots p.target.0) s in
    let b : (started_empty s p).births ≤ t.births + 1 = place_at_most (placed p.target.0 p.map.0 _) 1 (λ k u. le_same (u.births + 1)) (live_place t.slots p.source.0) t in
    omega arith

forced_at_most : (k : ℕ) (s : Sheet) → (forced_at k s).births ≤ s.births + 1
forced_at_most k s =
    elim (cases_Bool (slot_at s.slots k).is_live) [
      | inl y ↦ (let e : (forced_at k s).births ≡ s.births + 1 = rw y refl in omega arith)
      | inr n ↦ (let e : (forced_at k s).births ≡ s.births = rw n refl in omega arith)
    ]

force_at_most : (m : MapId) (s : Sheet) → (forced_map s m).births ≤ s.births + 1
force_at_most m s = place_at_most forced_at 1 forced_at_most (mapping_place s.slots m.0) s

-- an event gives at most a birth for each slot that it can make
pub step_at_most : (local : ℕ → ℕ) (e : LaneEvent) (s : Sheet) → (sheet_step local s e).births ≤ s.births + slots_made e
step_at_most local (Make volume grains kind) s = le_same (s.births + 1)
step_at_most local (Remove volume) s = place_at_most without 0 (λ k u. le_more u.births) (live_place s.slots volume.0) s
step_at_most local (Trigger pairs) s = all_at_most started_empty start_at_most pairs s
step_at_most local (Retire m) s = place_at_most retired_at 1 (λ k u. le_same (u.births + 1)) (mapping_place s.slots m.0) s
step_at_most local (Detach m) s = place_at_most detached_at 1 (λ k u. le_same (u.births + 1)) (mapping_place s.slots m.0) s
step_at_most local (Split m) s = place_at_most split_at 0 (λ k u. le_more u.births) (mapping_place s.slots m.0) s
step_at_most local (Force m dependents) s =
    let a : (forced_map s m).births ≤ s.births + 1 = force_at_most m s in
    let b : (fold forced_map (forced_map s m) dependents).births ≤ (forced_map s m).births + length dependents = all_at_most forced_map force_at_most dependents (forced_map s m) in
    omega arith
step_at_most local (Drop slot) s = place_at_most without 0 (λ k u. le_more u.births) (birth_place s.slots slot.0) s
step_at_most local (Forget m) s = le_more s.births
step_at_most local (NoteCut m source target) s = le_more s.births
step_at_most local (Access volume access) s = le_more s.births
step_at_most local (Work m copies cleans) s = le_more s.births
step_at_most local (Arm volume grain calls) s = le_more s.births

-- ---- one of a list of changes

-- the rest of the items, where the next is done
pub fold_next : {A B : Type 0} (f : B → A → B) (b : B) (xs : List A) (i : ℕ) (x : A) → i < length xs → x ≡ get_or xs i x → fold f b (drop i xs) ≡ fold f (f b x) (drop (i + 1) xs)
fold_next f b xs i x lt e =
    ap (fold f b) (drop-cons xs i x lt) ∙ (ap (λ z. fold f (f b z) (drop (suc i) xs)) (sym e) ∙ ap (λ z. fold f (f b x) (drop z xs)) (sym (add-one i)))

-- the births after the next fit where those after all do
pub next_fits : {A : Type 0} (f : Sheet → A → Sheet) → ((x : A) → Rises (λ s. f s x)) → (s end : Sheet) (xs : List A) (i : ℕ) (x : A) → i < length xs → x ≡ get_or xs i x → fold f s (drop i xs) ≡ end → BirthsFit end → BirthsFit (f s x)
next_fits f r s end xs i x lt e rest fit =
    let a : (f s x).births ≤ (fold f (f s x) (drop (i + 1) xs)).births = all_rise f r (drop (i + 1) xs) (f s x) in
    let b : (fold f (f s x) (drop (i + 1) xs)).births ≡ end.births = ap (λ (z : Sheet). z.births) (sym (fold_next f s xs i x lt e) ∙ rest) in
    let c : end.births < 2 ^ 64 = fit in
    omega arith

pub next_fits_at : {A : Type 0} (f : Sheet → A → Sheet) → ((x : A) → Rises (λ s. f s x)) → (s end : Sheet) (xs : List A) (i : ℕ) (d : A) → i < length xs → fold f s (drop i xs) ≡ end → BirthsFit end → BirthsFit (f s (get_or xs i d))
next_fits_at f r s end xs i d lt rest fit = next_fits f r s end xs i (get_or xs i d) lt (read xs i d lt) rest fit
  where
    read : {A : Type 0} (xs : List A) (i : ℕ) (d : A) → i < length xs → get_or xs i d ≡ get_or xs i (get_or xs i d)
    read [] i d lt = absurd (omega arith)
    read (x ∷ xs) zero d lt = refl
    read (x ∷ xs) (suc i) d lt = read xs i d (omega arith)

-- the births after a first change fit where those after the others do
pub first_fits : {A : Type 0} (f : Sheet → A → Sheet) → ((x : A) → Rises (λ s. f s x)) → (s : Sheet) (x : A) (xs : List A) → BirthsFit (fold f (f s x) xs) → BirthsFit (f s x)
first_fits f r s x xs fit =
    let a : (f s x).births ≤ (fold f (f s x) xs).births = all_rise f r xs (f s x) in
    let c : (fold f (f s x) xs).births < 2 ^ 64 = fit in
    omega arith

-- ---- all events of a command

-- births never fall with the events
pub events_rise : (local : ℕ → ℕ) (es : List LaneEvent) → Rises (λ s. fold (sheet_step local) s es)
events_rise local es s = all_rise (sheet_step local) (step_rises local) es s

-- those after the first event fit where those after all do
pub event_fits : (local : ℕ → ℕ) (s : Sheet) (e : LaneEvent) (es : List LaneEvent) → BirthsFit (fold (sheet_step local) (sheet_step local s e) es) → BirthsFit (sheet_step local s e)
event_fits local s e es fit = first_fits (sheet_step local) (step_rises local) s e es fit
