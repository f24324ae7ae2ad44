-- Deeds one after the other, and the tables and what is held after stops.
use Rattle.std.proofs.Common.{◌≡◌, ◌∙◌, sym, ap, ℕ, zero, suc, ◌<◌, Bool, true, false, cond, ◌||◌, ◌==◌, List, [], ◌∷◌, ◌++◌, fold, Option, Some, None, Contains, refl, arith}
use Rattle.std.specs.List.{list_any, find}
use Rattle.std.specs.Option.{option_and_then}
use Rattle.std.proofs.lemmas.Bool.{eq-eqb}
use Rattle.std.proofs.lemmas.Bool.Decides.{nat_tests}
use Rattle.fc_base.specs.SheetView.{held_of}
use Rattle.fc_base.specs.declared.decision.LaneEvent.{LaneEvent}
use Rattle.fc_base.specs.declared.ids.MapId.{MapId}
use Rattle.fc_base.specs.declared.volume.Change.{Change}
use Rattle.fc_base.specs.declared.volume.Change.TheVariants.{AddVolume, RemoveVolume, AddMapping, RemoveMapping, SetMapping, AddGroup, RemoveGroup}
use Rattle.fc_base.specs.declared.volume.Mapping.{Mapping}
use Rattle.fc_books.specs.After.{after_table_change, after_event, after_deed}
use Rattle.fc_books.specs.Books.{Books, Deed, ◌then◌}
use Rattle.fc_books.specs.Stopping.{one_by_one}
use Rattle.fc_registry.proofs.Places.{IsAbove, Rises}
use Rattle.fc_desk.proofs.Deeds.{then-assoc, then-nothing}
use Rattle.fc_stops.proofs.StopHeld.{events_hold}
use Rattle.fc_stops.proofs.StopWork.{list_of, all_after, stopped, after_kept}
use Rattle.fc_stops.specs.Stops.{set_by, mapping_after, changes_in, changes_some, leaves_some, IsStop, AreStopChanges, is_among, those}

-- ---- the books after one deed and then another

abbrev pub no_sets : ℕ → List Bool
no_sets m = []

change_event : (r : ℕ → List Bool) (b : Books) (c : Change) (e : LaneEvent) → after_event r (after_table_change b c) e ≡ after_table_change (after_event r b e) c
change_event r b (AddVolume volume) e = refl
change_event r b (RemoveVolume id) e = refl
change_event r b (AddMapping mapping) e = refl
change_event r b (RemoveMapping id) e = refl
change_event r b (SetMapping mapping) e = refl
change_event r b (AddGroup group) e = refl
change_event r b (RemoveGroup id) e = refl

change_events : (r : ℕ → List Bool) (b : Books) (c : Change) (es : List LaneEvent) → fold (after_event r) (after_table_change b c) es ≡ after_table_change (fold (after_event r) b es) c
change_events r b c [] = refl
change_events r b c (e ∷ es) = ap (λ x. fold (after_event r) x es) (change_event r b c e) ∙ change_events r (after_event r b e) c es

changes_events : (r : ℕ → List Bool) (b : Books) (cs : List Change) (es : List LaneEvent) → fold after_table_change (fold (after_event r) b es) cs ≡ fold (after_event r) (fold after_table_change b cs) es
changes_events r b [] es = refl
changes_events r b (c ∷ cs) es = ap (λ x. fold after_table_change x cs) (sym (change_events r b c es)) ∙ changes_events r (after_table_change b c) cs es

fold_then : {A B : Type 0} (f : B → A → B) (b : B) (xs ys : List A) → fold f b (xs ++ ys) ≡ fold f (fold f b xs) ys
fold_then f b [] ys = refl
fold_then f b (x ∷ xs) ys = fold_then f (f b x) xs ys

pub after_then : (r : ℕ → List Bool) (b : Books) (d e : Deed) → after_deed r b (d then e) ≡ after_deed r (after_deed r b d) e
after_then r b d e =
    ap (λ x. fold (after_event r) x (d.events ++ e.events)) (fold_then after_table_change b d.changes e.changes)
    ∙ fold_then (after_event r) (fold after_table_change (fold after_table_change b d.changes) e.changes) d.events e.events
    ∙ ap (λ x. fold (after_event r) x e.events) (sym (changes_events r (fold after_table_change b d.changes) e.changes d.events))

pub one_more : (r : ℕ → List Bool) (deed : Books → MapId → Deed) (b : Books) (ids : List MapId) (id : MapId) → one_by_one r deed b (ids ++ id ∷ []) ≡ (one_by_one r deed b ids then deed (after_deed r b (one_by_one r deed b ids)) id)
one_more r deed b [] id = then-nothing (deed b id)
one_more r deed b (x ∷ xs) id =
    let first = deed b x in
    let next = after_deed r b first in
    let rest = one_by_one r deed next xs in
    ap (λ d. first then d) (one_more r deed next xs id)
    ∙ sym (then-assoc first rest (deed (after_deed r next rest) id))
    ∙ ap (λ y. (first then rest) then deed y id) (sym (after_then r b first rest))

-- ---- what is held

by_false : (b c : Bool) → (b ≡ true → c ≡ true) → c ≡ false → b ≡ false
by_false true c f e = grind (arith, f refl, e)
by_false false c f e = refl

pub held_same : (r : ℕ → List Bool) (b : Books) (d : Deed) (n : ℕ) → IsStop d → changes_some n d.changes ≡ false → held_of (after_deed r b d).sheet.slots n ≡ held_of b.sheet.slots n
held_same r b d n stop same =
    ap (λ s. held_of s.slots n) (stopped r b d stop).sheet
    ∙ events_hold r b.sheet d.events n stop.events (by_false (leaves_some n d.events) (changes_some n d.changes) (stop.left n) same)

-- ---- the tables

either : (a b : Bool) → (a || b) ≡ false → (a ≡ false) × (b ≡ false)
either true b e = grind (arith, e)
either false b e = (refl, e)

set_other : (c : Change) (m : Mapping) → changes_in m.id.0 c ≡ false → set_by c m ≡ Some m
set_other (SetMapping n) m e = ap (λ b. cond b (Some n) (Some m)) e
set_other (RemoveMapping id) m e = ap (λ b. cond b None (Some m)) e
set_other (AddVolume volume) m e = refl
set_other (RemoveVolume id) m e = refl
set_other (AddMapping mapping) m e = refl
set_other (AddGroup group) m e = refl
set_other (RemoveGroup id) m e = refl

pub after_same : (cs : List Change) (m : Mapping) → changes_some m.id.0 cs ≡ false → mapping_after cs m ≡ Some m
after_same [] m e = refl
after_same (c ∷ cs) m e =
    let parts = either (changes_in m.id.0 c) (changes_some m.id.0 cs) e in
    ap (λ o. option_and_then (mapping_after cs) o) (set_other c m parts.0) ∙ after_same cs m parts.1

apart_by : (x n : ℕ) → x < n → (n == x) ≡ false
apart_by x n lt = grind (arith, nat_tests)

-- a mapping with another id isn't found
skip_one : (cs : List Change) (k : ℕ) (y : Mapping) (rest : List Mapping) (o : Option Mapping) → AreStopChanges cs → o ≡ mapping_after cs y → (k == y.id.0) ≡ false → find (λ (x : Mapping). k == x.id.0) (list_of o ++ rest) ≡ find (λ (x : Mapping). k == x.id.0) rest
skip_one cs k y rest None are is other = refl
skip_one cs k y rest (Some n) are is other =
    let same : (k == n.id.0) ≡ false = ap (λ z. k == z) (after_kept cs y n are is).same_id ∙ other in
    ap (λ b. cond b (Some n) (find (λ (x : Mapping). k == x.id.0) rest)) same

none_above : (cs : List Change) (k j : ℕ) (maps : List Mapping) → AreStopChanges cs → k ≡ j → IsAbove (λ (x : Mapping). x.id.0) j maps → find (λ (x : Mapping). k == x.id.0) (all_after cs maps) ≡ None
none_above cs k j [] are same above = refl
none_above cs k j (y ∷ ys) are same above =
    let lt : j < y.id.0 = above.0 in
    let other : (k == y.id.0) ≡ false = grind (arith, nat_tests, lt, same) in
    skip_one cs k y (all_after cs ys) (mapping_after cs y) are refl other ∙ none_above cs k j ys are same above.1

here_one : (cs : List Change) (m : Mapping) (rest : List Mapping) (o : Option Mapping) → AreStopChanges cs → o ≡ mapping_after cs m → find (λ (x : Mapping). m.id.0 == x.id.0) rest ≡ None → find (λ (x : Mapping). m.id.0 == x.id.0) (list_of o ++ rest) ≡ o
here_one cs m rest None are is none = none
here_one cs m rest (Some n) are is none =
    let same : (m.id.0 == n.id.0) ≡ true = eq-eqb m.id.0 n.id.0 (sym (after_kept cs m n are is).same_id) in
    ap (λ b. cond b (Some n) (find (λ (x : Mapping). m.id.0 == x.id.0) rest)) same

above_in : (j : ℕ) (maps : List Mapping) (m : Mapping) → IsAbove (λ (x : Mapping). x.id.0) j maps → Contains maps m → j < m.id.0
above_in j [] m above (k, lt, e) = absurd (omega arith)
above_in j (y ∷ ys) m above (zero, lt, e) = let same : y.id.0 ≡ m.id.0 = ap (λ (x : Mapping). x.id.0) e in let below : j < y.id.0 = above.0 in omega arith
above_in j (y ∷ ys) m above (suc k, lt, e) = above_in j ys m above.1 (k, omega arith, e)

pub found_after : (cs : List Change) (maps : List Mapping) (m : Mapping) → AreStopChanges cs → Rises (λ (x : Mapping). x.id.0) maps → Contains maps m → find (λ (x : Mapping). m.id.0 == x.id.0) (all_after cs maps) ≡ mapping_after cs m
found_after cs [] m are up (k, lt, e) = absurd (omega arith)
found_after cs (y ∷ ys) m are up (zero, lt, e) =
    let same : mapping_after cs y ≡ mapping_after cs m = ap (mapping_after cs) e in
    let low : m.id.0 ≡ y.id.0 = ap (λ (x : Mapping). x.id.0) (sym e) in
    ap (λ o. find (λ (x : Mapping). m.id.0 == x.id.0) (list_of o ++ all_after cs ys)) same
    ∙ here_one cs m (all_after cs ys) (mapping_after cs m) are refl (none_above cs m.id.0 y.id.0 ys are low up.0)
found_after cs (y ∷ ys) m are up (suc k, lt, e) =
    let in' : Contains ys m = (k, omega arith, e) in
    skip_one cs m.id.0 y (all_after cs ys) (mapping_after cs y) are refl (apart_by y.id.0 m.id.0 (above_in y.id.0 ys m up.0 in'))
    ∙ found_after cs ys m are up.1 in'

-- mappings that aren't changed are the same after the changes
one_those : (cs : List Change) (ids : List MapId) (y : Mapping) (rest : List Mapping) (o : Option Mapping) (b : Bool) → AreStopChanges cs → o ≡ mapping_after cs y → is_among ids y ≡ b → (b ≡ true → o ≡ Some y) → those ids (list_of o ++ rest) ≡ cond b (y ∷ those ids rest) (those ids rest)
one_those cs ids y rest None true are is among same = let bad : None ≡ Some y = same refl in grind (arith, bad)
one_those cs ids y rest None false are is among same = refl
one_those cs ids y rest (Some n) true are is among same =
    let here : Some n ≡ Some y = same refl in
    let e : n ≡ y = grind (arith, here) in
    ap (λ x. cond (is_among ids x) (x ∷ those ids rest) (those ids rest)) e ∙ ap (λ b. cond b (y ∷ those ids rest) (those ids rest)) among
one_those cs ids y rest (Some n) false are is among same =
    let e : is_among ids n ≡ false = ap (λ k. list_any (λ (id : MapId). id.0 == k) ids) (after_kept cs y n are is).same_id ∙ among in
    ap (λ b. cond b (n ∷ those ids rest) (those ids rest)) e

pub those_after : (cs : List Change) (ids : List MapId) (maps : List Mapping) → AreStopChanges cs → ((n : ℕ) → list_any (λ (id : MapId). id.0 == n) ids ≡ true → changes_some n cs ≡ false) → those ids (all_after cs maps) ≡ those ids maps
those_after cs ids [] are same = refl
those_after cs ids (y ∷ ys) are same =
    one_those cs ids y (all_after cs ys) (mapping_after cs y) (is_among ids y) are refl refl (λ among. after_same cs y (same y.id.0 among))
    ∙ ap (λ rest. cond (is_among ids y) (y ∷ rest) rest) (those_after cs ids ys are same)
