-- What an event does to a lane's part of the chains is the part of what it does to all.
use Rattle.std.proofs.Common.{◌≡◌, ℕ, ◌+◌, Bool, true, false, cond, ◌&&◌, eqb, ltb, is_some, Option, Some, None, List, [], ◌∷◌, ◌++◌, length, map, fold, set, take, drop, replicate, remove, insert, refl, sym, ap, ap₂, ◌∙◌}
use Rattle.std.proofs.lemmas.List.{map-append, take-map, drop-map, map-set}
use Rattle.fc_base.specs.Column.{last_below}
use Rattle.fc_base.specs.Sheet.{Slot, Sheet, slot_at, live_place, volume_grains}
use Rattle.fc_base.specs.SheetStep.{with_chain, without, aged, has_after, at_place, left_place, placed, started, started_empty, triggered, retired_at, detached_at, split_from, relabelled, split_at, forced_at, forced_map, sheet_step}
use Rattle.fc_base.specs.declared.decision.LaneEvent.{LaneEvent}
use Rattle.fc_base.specs.declared.decision.LaneEvent.TheVariants.{Make, Remove, Trigger, Retire, Detach, Split, Force, Drop}
use Rattle.fc_base.specs.declared.ids.MapId.{MapId}
use Rattle.fc_base.specs.declared.request.Pair.{Pair}
use Rattle.fc_legal.specs.Whole.{part, part_of_slot, part_of_sheet}
use Rattle.fc_rules.specs.LaneTold.{LaneOf, grains_in}
use Rattle.fc_parts.proofs.Lists.{all_seen}
use Rattle.fc_parts.proofs.Numbers.{IsLane, part_replicate}
use Rattle.fc_parts.proofs.Views.{sheet_of, parts, slot_parts, size_parts, same_view, live_parts, mapping_parts, birth_parts, grains_parts}

-- ---- lists

map_remove : {X Y : Type 0} (f : X → Y) (xs : List X) (k : ℕ) → map f (remove xs k) ≡ remove (map f xs) k
map_remove f xs k = map-append f (take k xs) (drop (ℕ.suc k) xs) ∙ ap₂ (λ a b. a ++ b) (sym (take-map f k xs)) (sym (drop-map f (ℕ.suc k) xs))

map_insert : {X Y : Type 0} (f : X → Y) (xs : List X) (k : ℕ) (x : X) → map f (insert xs k x) ≡ insert (map f xs) k (f x)
map_insert f xs k x = map-append f (take k xs) (x ∷ drop k xs) ∙ ap₂ (λ a b. a ++ f x ∷ b) (sym (take-map f k xs)) (sym (drop-map f k xs))

part_cond : (l : LaneOf) (b : Bool) (s t : Sheet) → part_of_sheet l (cond b s t) ≡ cond b (part_of_sheet l s) (part_of_sheet l t)
part_cond l true s t = refl
part_cond l false s t = refl

-- ---- parts of the steps

-- a step that does to the part what it does to all
abbrev pub Agrees : LaneOf → (Sheet → Sheet) → (Sheet → Sheet) → Sheet → Type 0
Agrees l f f' s = part_of_sheet l (f s) ≡ f' (part_of_sheet l s)

chain_agrees : (l : LaneOf) → IsLane l → (v grains : ℕ) (s : Sheet) → Agrees l (with_chain v grains) (with_chain v (grains_in l grains)) s
chain_agrees l i v grains s =
    let new = λ (held : List Bool). let t : Slot = record { birth = s.births; chain = s.births; volume = v; is_live = true; mapping = None; held = held } in t in
    ap (sheet_of (s.births + 1))
    (map-append (part_of_slot l) s.slots (new (replicate grains true) ∷ [])
    ∙ ap (λ held. parts l s.slots ++ new held ∷ []) (sym (part_replicate l i false grains true)))

without_agrees : (l : LaneOf) (k : ℕ) (s : Sheet) → Agrees l (without k) (without k) s
without_agrees l k s = ap (sheet_of s.births) (map_remove (part_of_slot l) s.slots k)

abbrev as_old : Slot → Slot
as_old t = record t { is_live = false }

aged_agrees : (l : LaneOf) → IsLane l → (k : ℕ) (s : Sheet) → Agrees l (aged k) (aged k) s
aged_agrees l i k s =
    ap (sheet_of s.births)
    (map-set (part_of_slot l) s.slots k (as_old (slot_at s.slots k))
    ∙ ap (λ (t : Slot). set (parts l s.slots) k (as_old t)) (sym (slot_parts l i s.slots k)))

after_parts : (l : LaneOf) → IsLane l → (slots : List Slot) (k : ℕ) → has_after (parts l slots) k ≡ has_after slots k
after_parts l i slots k = same_view l i slots (λ n f. is_some (last_below (λ j. ltb k j && eqb (f j).chain (f k).chain) n))

left_agrees : (l : LaneOf) → IsLane l → (k : ℕ) (s : Sheet) → Agrees l (left_place k) (left_place k) s
left_agrees l i k s =
    part_cond l (has_after s.slots k) (aged k s) (without k s)
    ∙ (ap₂ (cond (has_after s.slots k)) (aged_agrees l i k s) (without_agrees l k s)
    ∙ ap (λ b. cond b (aged k (part_of_sheet l s)) (without k (part_of_sheet l s))) (sym (after_parts l i s.slots k)))

placed_agrees : (l : LaneOf) → IsLane l → (target m k : ℕ) (held : List Bool) (s : Sheet) → Agrees l (placed target m held k) (placed target m (part l false held) k) s
placed_agrees l i target m k held s =
    let new = λ (chain : ℕ) (h : List Bool). let t : Slot = record { birth = s.births; chain = chain; volume = target; is_live = true; mapping = Some m; held = h } in t in
    ap (sheet_of (s.births + 1))
    (map_insert (part_of_slot l) s.slots (k + 1) (new (slot_at s.slots k).chain held)
    ∙ ap (λ (t : Slot). insert (parts l s.slots) (k + 1) (new t.chain (part l false held))) (sym (slot_parts l i s.slots k)))

-- at the place that is found
pub found_agrees : (l : LaneOf) (f f' : ℕ → Sheet → Sheet) → ((k : ℕ) (s : Sheet) → Agrees l (f k) (f' k) s) → (o o' : Option ℕ) (s : Sheet) → o' ≡ o → part_of_sheet l (at_place f o s) ≡ at_place f' o' (part_of_sheet l s)
found_agrees l f f' agrees o o' s e = at_found o ∙ ap (λ z. at_place f' z (part_of_sheet l s)) (sym e)
  where
    at_found : (o : Option ℕ) → part_of_sheet l (at_place f o s) ≡ at_place f' o (part_of_sheet l s)
    at_found None = refl
    at_found (Some k) = agrees k s

started_agrees : (l : LaneOf) → IsLane l → (m source target : ℕ) (held : List Bool) (s : Sheet) → Agrees l (started m source target held) (started m source target (part l false held)) s
started_agrees l i m source target held s =
    let t : Sheet = at_place left_place (live_place s.slots target) s in
    let left : part_of_sheet l t ≡ at_place left_place (live_place (parts l s.slots) target) (part_of_sheet l s) = found_agrees l left_place left_place (left_agrees l i) _ _ s (live_parts l i s.slots target) in
    found_agrees l (placed target m held) (placed target m (part l false held)) (λ k. placed_agrees l i target m k held) _ _ t (live_parts l i t.slots source)
    ∙ ap (λ (z : Sheet). at_place (placed target m (part l false held)) (live_place z.slots source) z) left

pair_agrees : (l : LaneOf) → IsLane l → (s : Sheet) (p : Pair) → part_of_sheet l (started_empty s p) ≡ started_empty (part_of_sheet l s) p
pair_agrees l i s p =
    started_agrees l i p.map.0 p.source.0 p.target.0 (replicate (volume_grains s.slots p.target.0) false) s
    ∙ ap (λ held. started p.map.0 p.source.0 p.target.0 held (part_of_sheet l s))
    (sym (part_replicate l i false (volume_grains s.slots p.target.0) false) ∙ ap (λ n. replicate n false) (sym (grains_parts l i s.slots p.target.0)))

-- one after the other
pub fold_agrees : {X : Type 0} → (l : LaneOf) (f f' : Sheet → X → Sheet) → ((s : Sheet) (x : X) → part_of_sheet l (f s x) ≡ f' (part_of_sheet l s) x) → (s : Sheet) (xs : List X) → part_of_sheet l (fold f s xs) ≡ fold f' (part_of_sheet l s) xs
fold_agrees l f f' agrees s [] = refl
fold_agrees l f f' agrees s (x ∷ xs) = fold_agrees l f f' agrees (f s x) xs ∙ ap (λ z. fold f' z xs) (agrees s x)

pub triggered_agrees : (l : LaneOf) → IsLane l → (pairs : List Pair) (s : Sheet) → Agrees l (triggered pairs) (triggered pairs) s
triggered_agrees l i pairs s = fold_agrees l started_empty started_empty (pair_agrees l i) s pairs

retired_agrees : (l : LaneOf) → IsLane l → (k : ℕ) (s : Sheet) → Agrees l (retired_at k) (retired_at k) s
retired_agrees l i k s =
    chain_agrees l i (slot_at s.slots k).volume (length (slot_at s.slots k).held) (aged k s)
    ∙ (ap (with_chain (slot_at s.slots k).volume (grains_in l (length (slot_at s.slots k).held))) (aged_agrees l i k s)
    ∙ ap₂ (λ v n. with_chain v n (aged k (part_of_sheet l s))) (ap (λ (t : Slot). t.volume) (sym (slot_parts l i s.slots k))) (sym (size_parts l i s.slots k)))

detached_agrees : (l : LaneOf) → IsLane l → (k : ℕ) (s : Sheet) → Agrees l (detached_at k) (detached_at k) s
detached_agrees l i k s =
    chain_agrees l i (slot_at s.slots k).volume (length (slot_at s.slots k).held) (without k s)
    ∙ (ap (with_chain (slot_at s.slots k).volume (grains_in l (length (slot_at s.slots k).held))) (without_agrees l k s)
    ∙ ap₂ (λ v n. with_chain v n (without k (part_of_sheet l s))) (ap (λ (t : Slot). t.volume) (sym (slot_parts l i s.slots k))) (sym (size_parts l i s.slots k)))

split_slot : (l : LaneOf) (chain birth : ℕ) (t : Slot) → part_of_slot l (split_from chain birth t) ≡ split_from chain birth (part_of_slot l t)
split_slot l chain birth t = by_test (eqb t.chain chain)
  where
    by_test : (b : Bool) → part_of_slot l (cond b (record t { chain = birth }) t) ≡ cond b (record (part_of_slot l t) { chain = birth }) (part_of_slot l t)
    by_test true = refl
    by_test false = refl

relabelled_parts : (l : LaneOf) (chain birth k : ℕ) (slots : List Slot) → parts l (relabelled (split_from chain birth) k slots) ≡ relabelled (split_from chain birth) k (parts l slots)
relabelled_parts l chain birth k [] = refl
relabelled_parts l chain birth ℕ.zero (t ∷ ts) = ap (λ z. record (part_of_slot l t) { chain = t.birth; mapping = None } ∷ z) (all_seen (part_of_slot l) (split_from chain birth) (split_from chain birth) (split_slot l chain birth) ts)
relabelled_parts l chain birth (ℕ.suc k) (t ∷ ts) = ap (λ z. part_of_slot l t ∷ z) (relabelled_parts l chain birth k ts)

split_agrees : (l : LaneOf) → IsLane l → (k : ℕ) (s : Sheet) → Agrees l (split_at k) (split_at k) s
split_agrees l i k s =
    ap (sheet_of s.births)
    (relabelled_parts l (slot_at s.slots k).chain (slot_at s.slots k).birth k s.slots
    ∙ ap (λ (t : Slot). relabelled (split_from t.chain t.birth) k (parts l s.slots)) (sym (slot_parts l i s.slots k)))

forced_agrees : (l : LaneOf) → IsLane l → (k : ℕ) (s : Sheet) → Agrees l (forced_at k) (forced_at k) s
forced_agrees l i k s =
    part_cond l (slot_at s.slots k).is_live (detached_at k s) (without k s)
    ∙ (ap₂ (cond (slot_at s.slots k).is_live) (detached_agrees l i k s) (without_agrees l k s)
    ∙ ap (λ (t : Slot). cond t.is_live (detached_at k (part_of_sheet l s)) (without k (part_of_sheet l s))) (sym (slot_parts l i s.slots k)))

forced_map_agrees : (l : LaneOf) → IsLane l → (s : Sheet) (m : MapId) → part_of_sheet l (forced_map s m) ≡ forced_map (part_of_sheet l s) m
forced_map_agrees l i s m = found_agrees l forced_at forced_at (forced_agrees l i) _ _ s (mapping_parts l i s.slots m.0)

-- ---- the events

pub step_agrees : (l : LaneOf) → IsLane l → (s : Sheet) (e : LaneEvent) → part_of_sheet l (sheet_step (λ g. g) s e) ≡ sheet_step (grains_in l) (part_of_sheet l s) e
step_agrees l i s (Make volume grains kind) = chain_agrees l i volume.0 grains s
step_agrees l i s (Remove volume) = found_agrees l without without (without_agrees l) _ _ s (live_parts l i s.slots volume.0)
step_agrees l i s (Trigger pairs) = triggered_agrees l i pairs s
step_agrees l i s (Retire m) = found_agrees l retired_at retired_at (retired_agrees l i) _ _ s (mapping_parts l i s.slots m.0)
step_agrees l i s (Detach m) = found_agrees l detached_at detached_at (detached_agrees l i) _ _ s (mapping_parts l i s.slots m.0)
step_agrees l i s (Split m) = found_agrees l split_at split_at (split_agrees l i) _ _ s (mapping_parts l i s.slots m.0)
step_agrees l i s (Force m dependents) =
    fold_agrees l forced_map forced_map (forced_map_agrees l i) (forced_map s m) dependents ∙ ap (λ z. fold forced_map z dependents) (forced_map_agrees l i s m)
step_agrees l i s (Drop slot) = found_agrees l without without (without_agrees l) _ _ s (birth_parts l i s.slots slot.0)
step_agrees l i s e = refl
