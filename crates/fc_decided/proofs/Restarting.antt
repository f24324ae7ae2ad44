-- The new slots of a trigger hold nothing until restart sets are put in, so that the chains after it are only fuller than
-- those that the step of chains leaves.
use Rattle.std.proofs.Common.{◌≡◌, ◌≢◌, ℕ, suc, ◌+◌, ◌<◌, Bool, true, false, cond, List, [], ◌∷◌, ◌++◌, length, fold, set, replicate, Option, Some, None, refl, sym, ap, subst, ◌∙◌, arith, Contains, ◌⊎◌, inl, inr, length-set, length-append, get_or-set_same, get_or-set_other}
use Rattle.std.proofs.lemmas.Bool.{cases_eq}
use Rattle.std.proofs.lemmas.List.{length-take-le, length-replicate}
use Rattle.fc_base.specs.declared.decision.LaneEvent.{LaneEvent}
use Rattle.fc_base.specs.declared.decision.LaneEvent.TheVariants.{Trigger}
use Rattle.fc_base.specs.declared.request.Pair.{Pair}
use Rattle.fc_base.specs.Sheet.{Slot, Sheet, slot_at, no_slot, live_place, mapping_place, volume_grains}
use Rattle.fc_base.specs.SheetFits.{FitsTrigger}
use Rattle.fc_base.specs.SheetStep.{sheet_step, at_place, without, aged, left_place, has_after, placed, started_empty, triggered}
use Rattle.fc_base.specs.Tables.{Tables}
use Rattle.fc_books.specs.After.{of_length, holding, begun, sheet_after}
use Rattle.fc_decided.proofs.Fuller.{IsFuller, AreFuller, all_same}
use Rattle.fc_decided.proofs.Sparing.{Spares}
use Rattle.fc_sheets.proofs.Places.{remove_is, insert_is, insert_here, all_of_big, all_of_small}
use Rattle.fc_sheets.proofs.Aging.{aged_is, length_full}
use Rattle.fc_sheets.proofs.Finding.{live_place_at, mapping_place_at, mapping_place_none}

-- The slot holds nothing if it is one of these mappings'.
abbrev IsBlank : List Pair → Slot → Type 0
IsBlank pairs t = (p : Pair) → Contains pairs p → t.mapping ≡ Some p.map.0 → t.held ≡ replicate (length t.held) false

abbrev AreBlank : List Pair → List Slot → Type 0
AreBlank pairs slots = (k : ℕ) → k < length slots → IsBlank pairs (slot_at slots k)

-- ---- a trigger keeps it

blank_without : (pairs : List Pair) (k : ℕ) (s : Sheet) → k < length s.slots → AreBlank pairs s.slots → AreBlank pairs (without k s).slots
blank_without pairs k s kl blank = all_of_small _ _ k (remove_is s.slots k kl) (IsBlank pairs) blank

blank_from : (pairs : List Pair) (t u : Slot) → u.mapping ≡ t.mapping → u.held ≡ t.held → IsBlank pairs t → IsBlank pairs u
blank_from pairs t u m h blank p found e = h ∙ blank p found (sym m ∙ e) ∙ ap (λ z. replicate (length z) false) (sym h)

blank_aged : (pairs : List Pair) (k : ℕ) (s : Sheet) → k < length s.slots → AreBlank pairs s.slots → AreBlank pairs (aged k s).slots
blank_aged pairs k s kl blank j jl =
    let a = aged_is s.slots k kl in
    let c : length (aged k s).slots ≡ length s.slots = a.count in
    blank_from pairs (slot_at s.slots j) (slot_at (aged k s).slots j) (a.mapping j) (a.held j) (blank j (omega arith))

blank_left : (pairs : List Pair) (k : ℕ) (s : Sheet) → k < length s.slots → AreBlank pairs s.slots → AreBlank pairs (left_place k s).slots
blank_left pairs k s kl blank = by (has_after s.slots k)
  where
    by : (b : Bool) → AreBlank pairs (cond b (aged k s) (without k s)).slots
    by true = blank_aged pairs k s kl blank
    by false = blank_without pairs k s kl blank

blank_placed : (pairs : List Pair) (target m n k : ℕ) (s : Sheet) → k < length s.slots → AreBlank pairs s.slots → AreBlank pairs (placed target m (replicate n false) k s).slots
blank_placed pairs target m n k s kl blank =
    let new : Slot = record { birth = s.births; chain = (slot_at s.slots k).chain; volume = target; is_live = true; mapping = Some m; held = replicate n false } in
    let empty : IsBlank pairs new = λ p found e. ap (λ z. replicate z false) (sym (length_full n false)) in
    all_of_big _ _ (k + 1) (insert_is s.slots (k + 1) new (omega (arith, kl))) (IsBlank pairs) (subst (IsBlank pairs) (sym (insert_here s.slots (k + 1) new (omega (arith, kl)))) empty) blank

blank_where : (pairs : List Pair) (f : ℕ → Sheet → Sheet) (o : Option ℕ) (s : Sheet) → ((k : ℕ) → o ≡ Some k → AreBlank pairs (f k s).slots) → AreBlank pairs s.slots → AreBlank pairs (at_place f o s).slots
blank_where pairs f None s there blank = blank
blank_where pairs f (Some k) s there blank = there k refl

blank_started : (pairs : List Pair) (p : Pair) (s : Sheet) → AreBlank pairs s.slots → AreBlank pairs (started_empty s p).slots
blank_started pairs p s blank =
    let t = at_place left_place (live_place s.slots p.target.0) s in
    let kept : AreBlank pairs t.slots = blank_where pairs left_place (live_place s.slots p.target.0) s (λ k e. blank_left pairs k s (live_place_at s.slots p.target.0 k e).there blank) blank in
    blank_where pairs (placed p.target.0 p.map.0 (replicate (volume_grains s.slots p.target.0) false)) (live_place t.slots p.source.0) t
    (λ k e. blank_placed pairs p.target.0 p.map.0 (volume_grains s.slots p.target.0) k t (live_place_at t.slots p.source.0 k e).there kept) kept

blank_triggered : (pairs more : List Pair) (s : Sheet) → AreBlank pairs s.slots → AreBlank pairs (triggered more s).slots
blank_triggered pairs [] s blank = blank
blank_triggered pairs (p ∷ ps) s blank = blank_triggered pairs ps (started_empty s p) (blank_started pairs p s blank)

-- ---- what is put in

take_sized : (n : ℕ) (set : List Bool) → length (of_length n set) ≡ n
take_sized n held = length-take-le n (held ++ replicate n false) (let a = length-append held (replicate n false) in let b = length-replicate n false in omega (arith, a, b))

-- The slot at a place holds a set.
pub filled : List Bool → Slot → Slot
filled held t = record t { held = of_length (length t.held) held }

filled_at : (held : List Bool) (slots : List Slot) (k j : ℕ) → k < length slots → (slot_at (set slots k (filled held (slot_at slots k))) j ≡ slot_at slots j) ⊎ ((j ≡ k) × (slot_at (set slots k (filled held (slot_at slots k))) j ≡ filled held (slot_at slots j)))
filled_at held slots k j lt =
    elim (cases_eq j k) [
      | inl e ↦ inr (e, (let P : ℕ → Type 0 = λ z. slot_at (set slots k (filled held (slot_at slots k))) z ≡ filled held (slot_at slots z) in subst P (sym e) (get_or-set_same slots k (filled held (slot_at slots k)) no_slot lt)))
      | inr ne ↦ inl (let ne' : j ≢ k = ne in rw get_or-set_other refl)
    ]

-- a slot that was blank, and one that became fuller already
refilled : (old new : Slot) (held : List Bool) (m : ℕ) → old.mapping ≡ Some m → old.held ≡ replicate (length old.held) false → IsFuller old new → IsFuller old (filled held new)
unfolding filled
refilled old new held m mine blank f =
    record {
      birth = f.birth;
      chain = f.chain;
      volume = f.volume;
      is_live = f.is_live;
      mapping = f.mapping;
      size = take_sized (length new.held) held ∙ f.size;
      held = inr (m, mine, blank);
    }

holding_fuller : (pairs : List Pair) (p : Pair) (held : List Bool) (k : ℕ) (s t : Sheet) → Contains pairs p → AreBlank pairs s.slots → AreFuller s t → k < length t.slots → (slot_at t.slots k).mapping ≡ Some p.map.0 → AreFuller s (holding held k t)
unfolding filled
holding_fuller pairs p held k s t found blank f kl mine =
    let c = f.count in
    let was : (slot_at s.slots k).mapping ≡ Some p.map.0 = sym (f.each k).mapping ∙ mine in
    let put : IsFuller (slot_at s.slots k) (filled held (slot_at t.slots k)) = refilled (slot_at s.slots k) (slot_at t.slots k) held p.map.0 was (blank k (omega (arith, kl, c)) p found was) (f.each k) in
    record {
      births = f.births;
      count = length-set t.slots k (filled held (slot_at t.slots k)) ∙ f.count;
      each = λ j. elim (filled_at held t.slots k j kl) [
        | inl same ↦ subst (IsFuller (slot_at s.slots j)) (sym same) (f.each j)
        | inr here ↦ subst (IsFuller (slot_at s.slots j)) (sym here.1) (subst (λ (i : ℕ). IsFuller (slot_at s.slots i) (filled held (slot_at t.slots i))) (sym here.0) put)
      ];
    }

begun_fuller : (restarts : ℕ → List Bool) (pairs : List Pair) (p : Pair) (s t : Sheet) → Contains pairs p → AreBlank pairs s.slots → AreFuller s t → AreFuller s (begun restarts t p)
begun_fuller restarts pairs p s t found blank f = by (mapping_place t.slots p.map.0) (λ k e. mapping_place_at t.slots p.map.0 k e)
  where
    by : (o : Option ℕ) → ((k : ℕ) → o ≡ Some k → (k < length t.slots) × ((slot_at t.slots k).mapping ≡ Some p.map.0)) → AreFuller s (at_place (holding (restarts p.map.0)) o t)
    by None at = f
    by (Some k) at = let a = at k refl in holding_fuller pairs p (restarts p.map.0) k s t found blank f a.0 a.1

all_begun : (restarts : ℕ → List Bool) (pairs more : List Pair) (s t : Sheet) → ((p : Pair) → Contains more p → Contains pairs p) → AreBlank pairs s.slots → AreFuller s t → AreFuller s (fold (begun restarts) t more)
all_begun restarts pairs [] s t among blank f = f
all_begun restarts pairs (p ∷ ps) s t among blank f =
    all_begun restarts pairs ps s (begun restarts t p) (λ q found. among q (suc found.0, omega (arith, found.1), found.2)) blank
    (begun_fuller restarts pairs p s t (among p (0, omega arith, refl)) blank f)

-- The chains of all grains after a trigger that fits are fuller than those where the new slots hold nothing.
pub triggered_fuller : (restarts : ℕ → List Bool) (s : Sheet) (pairs : List Pair) → FitsTrigger s pairs → AreFuller (triggered pairs s) (sheet_after restarts s (Trigger pairs))
triggered_fuller restarts s pairs f =
    all_begun restarts pairs pairs (triggered pairs s) (triggered pairs s) (λ p found. found)
    (blank_triggered pairs pairs s (λ k kl p found e. absurd (mapping_place_none s.slots p.map.0 (f.each p found).no_slot_yet k kl e)))
    (all_same (triggered pairs s))

-- After any other event they are as the step of chains says.
pub sheet_after-plain : (t : Tables) (restarts : ℕ → List Bool) (s : Sheet) (e : LaneEvent) → Spares t e → sheet_after restarts s e ≡ sheet_step (λ grains. grains) s e
sheet_after-plain t restarts s (Trigger pairs) f = absurd f
sheet_after-plain t restarts s e f = refl
