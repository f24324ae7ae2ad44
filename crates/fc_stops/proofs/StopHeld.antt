-- What the slot of a mapping holds stays as the slots of others leave.
use Rattle.std.proofs.Common.{◌≡◌, ◌∙◌, sym, ap, ℕ, zero, suc, Bool, true, false, cond, ◌||◌, ◌==◌, eqb, List, [], ◌∷◌, map, fold, remove, set, Option, Some, None, refl, arith}
use Rattle.std.specs.List.{list_any, find}
use Rattle.std.proofs.lemmas.Bool.{eqb-true, eq-eqb}
use Rattle.fc_base.specs.Column.{is_at}
use Rattle.fc_base.specs.Sheet.{Slot, Sheet, slot_at, mapping_place}
use Rattle.fc_base.specs.SheetStep.{at_place, retired_at, detached_at, split_at, split_from, relabelled, forced_at, forced_map, without, aged}
use Rattle.fc_base.specs.SheetView.{held_of}
use Rattle.fc_base.specs.declared.decision.LaneEvent.{LaneEvent}
use Rattle.fc_base.specs.declared.decision.LaneEvent.TheVariants.{Make, Remove, Trigger, Retire, Detach, Split, Force, Drop, Forget, NoteCut, Access, Work, Arm}
use Rattle.fc_base.specs.declared.ids.MapId.{MapId}
use Rattle.fc_books.specs.After.{sheet_after}
use Rattle.fc_books.proofs.Unchanged.{held_of-behind}
use Rattle.fc_desk.proofs.Slots.{is_of, held_in as found_held, held_found}
use Rattle.fc_sheets.proofs.Finding.{mapping_place_at}
use Rattle.fc_stops.specs.Stops.{leaves_in, leaves_some, IsStopEvent, AreStopEvents}

-- ---- what it holds, slot by slot

held_in : List Slot → ℕ → List Bool
held_in [] m = []
held_in (s ∷ ss) m = cond (is_at s.mapping m) s.held (held_in ss m)

held_first : (b : Bool) (s : Slot) (o : Option Slot) → found_held (cond b (Some s) o) ≡ cond b s.held (found_held o)
held_first true s o = refl
held_first false s o = refl

found_in : (slots : List Slot) (m : ℕ) → found_held (find (is_of m) slots) ≡ held_in slots m
unfolding held_in
found_in [] m = refl
found_in (s ∷ ss) m = held_first (is_at s.mapping m) s (find (is_of m) ss) ∙ ap (cond (is_at s.mapping m) s.held) (found_in ss m)

held_of-in : (slots : List Slot) (m : ℕ) → held_of slots m ≡ held_in slots m
held_of-in slots m = held_found slots m ∙ found_in slots m

-- ---- one slot changes

skipped : (b : Bool) (xs ys : List Bool) → b ≡ false → cond b xs ys ≡ ys
skipped true xs ys e = grind (arith, e)
skipped false xs ys e = refl

removed_in : (slots : List Slot) (k m : ℕ) → is_at (slot_at slots k).mapping m ≡ false → held_in (remove slots k) m ≡ held_in slots m
unfolding held_in
removed_in [] zero m other = refl
removed_in [] (suc k) m other = refl
removed_in (s ∷ ss) zero m other = sym (skipped (is_at s.mapping m) s.held (held_in ss m) other)
removed_in (s ∷ ss) (suc k) m other = ap (cond (is_at s.mapping m) s.held) (removed_in ss k m other)

set_in : (slots : List Slot) (k m : ℕ) (t : Slot) → t.mapping ≡ (slot_at slots k).mapping → t.held ≡ (slot_at slots k).held → held_in (set slots k t) m ≡ held_in slots m
unfolding held_in
set_in [] k m t mapping holds = refl
set_in (s ∷ ss) zero m t mapping holds = ap (λ o. cond (is_at o m) t.held (held_in ss m)) mapping ∙ ap (λ h. cond (is_at s.mapping m) h (held_in ss m)) holds
set_in (s ∷ ss) (suc k) m t mapping holds = ap (cond (is_at s.mapping m) s.held) (set_in ss k m t mapping holds)

split_mapping : (chain birth : ℕ) (t : Slot) (b : Bool) → (cond b (record t { chain = birth }) t).mapping ≡ t.mapping
split_mapping chain birth t true = refl
split_mapping chain birth t false = refl

split_held : (chain birth : ℕ) (t : Slot) (b : Bool) → (cond b (record t { chain = birth }) t).held ≡ t.held
split_held chain birth t true = refl
split_held chain birth t false = refl

mapped_in : (chain birth : ℕ) (slots : List Slot) (m : ℕ) → held_in (map (split_from chain birth) slots) m ≡ held_in slots m
unfolding held_in
mapped_in chain birth [] m = refl
mapped_in chain birth (s ∷ ss) m =
    ap (λ o. cond (is_at o m) (split_from chain birth s).held (held_in (map (split_from chain birth) ss) m)) (split_mapping chain birth s (eqb s.chain chain))
    ∙ ap (λ h. cond (is_at s.mapping m) h (held_in (map (split_from chain birth) ss) m)) (split_held chain birth s (eqb s.chain chain))
    ∙ ap (cond (is_at s.mapping m) s.held) (mapped_in chain birth ss m)

relabelled_in : (chain birth : ℕ) (slots : List Slot) (k m : ℕ) → is_at (slot_at slots k).mapping m ≡ false → held_in (relabelled (split_from chain birth) k slots) m ≡ held_in slots m
unfolding held_in
relabelled_in chain birth [] k m other = refl
relabelled_in chain birth (s ∷ ss) zero m other = mapped_in chain birth ss m ∙ sym (skipped (is_at s.mapping m) s.held (held_in ss m) other)
relabelled_in chain birth (s ∷ ss) (suc k) m other = ap (cond (is_at s.mapping m) s.held) (relabelled_in chain birth ss k m other)

-- ---- at the place of another mapping

retired_holds : (s : Sheet) (k m : ℕ) → held_of (retired_at k s).slots m ≡ held_of s.slots m
retired_holds s k m =
    held_of-behind (aged k s).slots _ m refl
    ∙ held_of-in (aged k s).slots m
    ∙ set_in s.slots k m (record (slot_at s.slots k) { is_live = false }) refl refl
    ∙ sym (held_of-in s.slots m)

without_holds : (s : Sheet) (k m : ℕ) → is_at (slot_at s.slots k).mapping m ≡ false → held_of (without k s).slots m ≡ held_of s.slots m
without_holds s k m other = held_of-in (remove s.slots k) m ∙ removed_in s.slots k m other ∙ sym (held_of-in s.slots m)

detached_holds : (s : Sheet) (k m : ℕ) → is_at (slot_at s.slots k).mapping m ≡ false → held_of (detached_at k s).slots m ≡ held_of s.slots m
detached_holds s k m other = held_of-behind (without k s).slots _ m refl ∙ without_holds s k m other

split_holds : (s : Sheet) (k m : ℕ) → is_at (slot_at s.slots k).mapping m ≡ false → held_of (split_at k s).slots m ≡ held_of s.slots m
split_holds s k m other =
    held_of-in (split_at k s).slots m
    ∙ relabelled_in (slot_at s.slots k).chain (slot_at s.slots k).birth s.slots k m other
    ∙ sym (held_of-in s.slots m)

forced_by : (s : Sheet) (k m : ℕ) (b : Bool) → is_at (slot_at s.slots k).mapping m ≡ false → held_of (cond b (detached_at k s) (without k s)).slots m ≡ held_of s.slots m
forced_by s k m true other = detached_holds s k m other
forced_by s k m false other = without_holds s k m other

forced_holds : (s : Sheet) (k m : ℕ) → is_at (slot_at s.slots k).mapping m ≡ false → held_of (forced_at k s).slots m ≡ held_of s.slots m
forced_holds s k m other = forced_by s k m (slot_at s.slots k).is_live other

-- the slot at the place of a mapping isn't another one's
pub place_at : (slots : List Slot) (x k : ℕ) → mapping_place slots x ≡ Some k → is_at (slot_at slots k).mapping x ≡ true
place_at slots x k e = ap (λ o. is_at o x) (mapping_place_at slots x k e).1 ∙ eq-eqb x x refl

apart_at : (o : Option ℕ) (x m : ℕ) → is_at o x ≡ true → (x == m) ≡ false → is_at o m ≡ false
apart_at None x m e other = refl
apart_at (Some h) x m e other = ap (λ z. z == m) (eqb-true h x e) ∙ other

other_at : (slots : List Slot) (x m k : ℕ) → mapping_place slots x ≡ Some k → (x == m) ≡ false → is_at (slot_at slots k).mapping m ≡ false
other_at slots x m k e other = apart_at (slot_at slots k).mapping x m (place_at slots x k e) other

-- ---- the events

at_holds : (f : ℕ → Sheet → Sheet) (s : Sheet) (m : ℕ) (o : Option ℕ) → ((k : ℕ) → o ≡ Some k → held_of (f k s).slots m ≡ held_of s.slots m) → held_of (at_place f o s).slots m ≡ held_of s.slots m
at_holds f s m None each = refl
at_holds f s m (Some k) each = each k refl

forced_map_holds : (s : Sheet) (x : MapId) (m : ℕ) → (x.0 == m) ≡ false → held_of (forced_map s x).slots m ≡ held_of s.slots m
forced_map_holds s x m other =
    at_holds forced_at s m (mapping_place s.slots x.0) (λ k e. forced_holds s k m (other_at s.slots x.0 m k e other))

either : (a b : Bool) → (a || b) ≡ false → (a ≡ false) × (b ≡ false)
either true b e = grind (arith, e)
either false b e = (refl, e)

all_forced : (s : Sheet) (xs : List MapId) (m : ℕ) → list_any (λ (x : MapId). x.0 == m) xs ≡ false → held_of (fold forced_map s xs).slots m ≡ held_of s.slots m
all_forced s [] m other = refl
all_forced s (x ∷ xs) m other =
    let parts = either (x.0 == m) (list_any (λ (y : MapId). y.0 == m) xs) other in
    all_forced (forced_map s x) xs m parts.1 ∙ forced_map_holds s x m parts.0

-- An event of a stop changes nothing of a mapping that doesn't leave by it.
pub event_holds : (restarts : ℕ → List Bool) (s : Sheet) (e : LaneEvent) (m : ℕ) → IsStopEvent e → leaves_in m e ≡ false → held_of (sheet_after restarts s e).slots m ≡ held_of s.slots m
event_holds restarts s (Make volume grains kind) m is other = absurd is
event_holds restarts s (Remove volume) m is other = absurd is
event_holds restarts s (Trigger pairs) m is other = absurd is
event_holds restarts s (Drop slot) m is other = absurd is
event_holds restarts s (Work x copies cleans) m is other = absurd is
event_holds restarts s (Arm volume grain calls) m is other = absurd is
event_holds restarts s (Retire x) m is other = at_holds retired_at s m (mapping_place s.slots x.0) (λ k e. retired_holds s k m)
event_holds restarts s (Detach x) m is other = at_holds detached_at s m (mapping_place s.slots x.0) (λ k e. detached_holds s k m (other_at s.slots x.0 m k e other))
event_holds restarts s (Split x) m is other = at_holds split_at s m (mapping_place s.slots x.0) (λ k e. split_holds s k m (other_at s.slots x.0 m k e other))
event_holds restarts s (Force x ds) m is other =
    let parts = either (x.0 == m) (list_any (λ (y : MapId). y.0 == m) ds) other in
    all_forced (forced_map s x) ds m parts.1 ∙ forced_map_holds s x m parts.0
event_holds restarts s (Forget x) m is other = refl
event_holds restarts s (NoteCut x source target) m is other = refl
event_holds restarts s (Access volume access) m is other = refl

-- Nor do all events of a stop.
pub events_hold : (restarts : ℕ → List Bool) (s : Sheet) (es : List LaneEvent) (m : ℕ) → AreStopEvents es → leaves_some m es ≡ false → held_of (fold (sheet_after restarts) s es).slots m ≡ held_of s.slots m
events_hold restarts s [] m are other = refl
events_hold restarts s (e ∷ es) m are other =
    let parts = either (leaves_in m e) (leaves_some m es) other in
    events_hold restarts (sheet_after restarts s e) es m are.1 parts.1 ∙ event_holds restarts s e m are.0 parts.0
