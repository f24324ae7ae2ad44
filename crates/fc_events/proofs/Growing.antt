-- How many slots the events of a command leave.
use Rattle.std.proofs.Common.{◌≡◌, ℕ, zero, suc, ◌+◌, ◌≤◌, Bool, true, false, Option, Some, None, List, [], ◌∷◌, length, map, take, drop, fold, replicate, refl, ap, arith, inl, inr, length-append, length-take, length-drop, length-set}
use Rattle.std.specs.List.{remove, insert}
use Rattle.std.proofs.lemmas.Bool.{cases_Bool}
use Rattle.fc_base.specs.declared.ids.MapId.{MapId}
use Rattle.fc_base.specs.declared.request.Pair.{Pair}
use Rattle.fc_base.specs.declared.decision.LaneEvent.{LaneEvent}
use Rattle.fc_base.specs.declared.decision.LaneEvent.TheVariants.{Make, Remove, Trigger, Retire, Detach, Split, Force, Drop, Forget, NoteCut, Access, Work, Arm}
use Rattle.fc_base.specs.Sheet.{Slot, Sheet, slot_at, live_place, mapping_place, birth_place, volume_grains}
use Rattle.fc_base.specs.SheetStep.{with_chain, without, aged, at_place, has_after, left_place, placed, started_empty, retired_at, detached_at, relabelled, split_at, forced_at, forced_map, sheet_step}
use Rattle.fc_events.specs.Room.{slots_made}

-- a step that leaves at most so many slots more
abbrev Grows : ℕ → (Sheet → Sheet) → Type 0
Grows n f = (s : Sheet) → length (f s).slots ≤ length s.slots + n

remove_length : (xs : List Slot) (k : ℕ) → length (remove xs k) ≤ length xs
remove_length xs k = omega (arith, length-append (take k xs) (drop (suc k) xs), length-take k xs, length-drop (suc k) xs)

insert_length : (xs : List Slot) (k : ℕ) (t : Slot) → length (insert xs k t) ≡ suc (length xs)
insert_length xs k t = omega (arith, length-append (take k xs) (t ∷ drop k xs), length-take k xs, length-drop k xs)

map_length : (f : Slot → Slot) (xs : List Slot) → length (map f xs) ≡ length xs
map_length f [] = refl
map_length f (x ∷ xs) = ap suc (map_length f xs)

relabelled_length : (f : Slot → Slot) (k : ℕ) (xs : List Slot) → length (relabelled f k xs) ≡ length xs
relabelled_length f k [] = refl
relabelled_length f zero (x ∷ xs) = ap suc (map_length f xs)
relabelled_length f (suc k) (x ∷ xs) = ap suc (relabelled_length f k xs)

chain_grows : (v grains : ℕ) → Grows 1 (with_chain v grains)
chain_grows v grains s = omega (arith, length-append s.slots (record { birth = s.births; chain = s.births; volume = v; is_live = true; mapping = None; held = replicate grains true } ∷ []))

without_grows : (k : ℕ) → Grows 0 (without k)
without_grows k s = omega (arith, remove_length s.slots k)

aged_grows : (k : ℕ) → Grows 0 (aged k)
aged_grows k s = omega (arith, length-set s.slots k (record (slot_at s.slots k) { is_live = false }))

placed_grows : (v m : ℕ) (held : List Bool) (k : ℕ) → Grows 1 (placed v m held k)
placed_grows v m held k s =
    omega (arith, insert_length s.slots (k + 1) (record { birth = s.births; chain = (slot_at s.slots k).chain; volume = v; is_live = true; mapping = Some m; held = held }))

split_grows : (k : ℕ) → Grows 0 (split_at k)
split_grows k s = let e : length (split_at k s).slots ≡ length s.slots = relabelled_length _ k s.slots in omega arith

place_grows : (n : ℕ) (f : ℕ → Sheet → Sheet) → ((k : ℕ) → Grows n (f k)) → (o : Option ℕ) → Grows n (at_place f o)
place_grows n f g None s = omega arith
place_grows n f g (Some k) s = g k s

left_grows : (k : ℕ) → Grows 0 (left_place k)
left_grows k s =
    elim (cases_Bool (has_after s.slots k)) [
      | inl y ↦ let e : left_place k s ≡ aged k s = rw y refl in let x : length (aged k s).slots ≤ length s.slots + 0 = aged_grows k s in let q : length (left_place k s).slots ≡ length (aged k s).slots = ap (λ (z : Sheet). length z.slots) e in omega arith
      | inr n ↦ let e : left_place k s ≡ without k s = rw n refl in let x : length (without k s).slots ≤ length s.slots + 0 = without_grows k s in let q : length (left_place k s).slots ≡ length (without k s).slots = ap (λ (z : Sheet). length z.slots) e in omega arith
    ]

then_grows : (a b : ℕ) (f h : Sheet → Sheet) → Grows a f → Grows b h → Grows (a + b) (λ s. h (f s))
then_grows a b f h x y s = let p : length (f s).slots ≤ length s.slots + a = x s in let q : length (h (f s)).slots ≤ length (f s).slots + b = y (f s) in omega arith

start_grows : (p : Pair) → Grows 1 (λ s. started_empty s p)
start_grows p s =
    let t : Sheet = at_place left_place (live_place s.slots p.target.0) s in
    let x : length t.slots ≤ length s.slots + 0 = place_grows 0 left_place left_grows (live_place s.slots p.target.0) s in
    let y : length (started_empty s p).slots ≤ length t.slots + 1 = place_grows 1 (placed p.target.0 p.map.0 (replicate (volume_grains s.slots p.target.0) false)) (placed_grows p.target.0 p.map.0 (replicate (volume_grains s.slots p.target.0) false)) (live_place t.slots p.source.0) t in
    omega arith

all_grow : {A : Type 0} (f : Sheet → A → Sheet) → ((x : A) → Grows 1 (λ s. f s x)) → (xs : List A) (s : Sheet) → length (fold f s xs).slots ≤ length s.slots + length xs
all_grow f g [] s = omega arith
all_grow f g (x ∷ xs) s =
    let a : length (f s x).slots ≤ length s.slots + 1 = g x s in
    let b : length (fold f (f s x) xs).slots ≤ length (f s x).slots + length xs = all_grow f g xs (f s x) in
    omega arith

retired_grows : (k : ℕ) → Grows 1 (retired_at k)
retired_grows k s =
    let a : length (aged k s).slots ≤ length s.slots + 0 = aged_grows k s in
    let b : length (retired_at k s).slots ≤ length (aged k s).slots + 1 = chain_grows (slot_at s.slots k).volume (length (slot_at s.slots k).held) (aged k s) in omega arith

detached_grows : (k : ℕ) → Grows 1 (detached_at k)
detached_grows k s =
    let a : length (without k s).slots ≤ length s.slots + 0 = without_grows k s in
    let b : length (detached_at k s).slots ≤ length (without k s).slots + 1 = chain_grows (slot_at s.slots k).volume (length (slot_at s.slots k).held) (without k s) in omega arith

forced_grows : (k : ℕ) → Grows 1 (forced_at k)
forced_grows k s =
    elim (cases_Bool (slot_at s.slots k).is_live) [
      | inl y ↦ let e : forced_at k s ≡ detached_at k s = rw y refl in let x : length (detached_at k s).slots ≤ length s.slots + 1 = detached_grows k s in let q : length (forced_at k s).slots ≡ length (detached_at k s).slots = ap (λ (z : Sheet). length z.slots) e in omega arith
      | inr n ↦ let e : forced_at k s ≡ without k s = rw n refl in let x : length (without k s).slots ≤ length s.slots + 0 = without_grows k s in let q : length (forced_at k s).slots ≡ length (without k s).slots = ap (λ (z : Sheet). length z.slots) e in omega arith
    ]

force_grows : (m : MapId) → Grows 1 (λ s. forced_map s m)
force_grows m s = place_grows 1 forced_at forced_grows (mapping_place s.slots m.0) s

pub step_grows : (local : ℕ → ℕ) (e : LaneEvent) → Grows (slots_made e) (λ s. sheet_step local s e)
step_grows local (Make volume grains kind) s = chain_grows volume.0 (local grains) s
step_grows local (Remove volume) s = place_grows 0 without without_grows (live_place s.slots volume.0) s
step_grows local (Trigger pairs) s = all_grow started_empty start_grows pairs s
step_grows local (Retire m) s = place_grows 1 retired_at retired_grows (mapping_place s.slots m.0) s
step_grows local (Detach m) s = place_grows 1 detached_at detached_grows (mapping_place s.slots m.0) s
step_grows local (Split m) s = place_grows 0 split_at split_grows (mapping_place s.slots m.0) s
step_grows local (Force m dependents) s =
    let a : length (forced_map s m).slots ≤ length s.slots + 1 = force_grows m s in
    let b : length (fold forced_map (forced_map s m) dependents).slots ≤ length (forced_map s m).slots + length dependents = all_grow forced_map force_grows dependents (forced_map s m) in
    omega arith
step_grows local (Drop slot) s = place_grows 0 without without_grows (birth_place s.slots slot.0) s
step_grows local (Forget m) s = omega arith
step_grows local (NoteCut m source target) s = omega arith
step_grows local (Access volume access) s = omega arith
step_grows local (Work m copies cleans) s = omega arith
step_grows local (Arm volume grain calls) s = omega arith
