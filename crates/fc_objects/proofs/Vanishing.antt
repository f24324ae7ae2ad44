-- The background work as a volume goes.
use Rattle.std.proofs.Common.{◌≡◌, ◌∙◌, sym, ap, ℕ, zero, suc, ◌<◌, Bool, true, false, not, ◌||◌, ◌==◌, nat_le, List, [], ◌∷◌, ◌++◌, length, remove, slice_index_or, Option, Some, None, refl, arith}
use Rattle.std.specs.List.{Contains, list_any}
use Rattle.std.specs.Option.{option_map_or}
use Rattle.std.proofs.lemmas.Bool.{eqb-true, eq-eqb}
use Rattle.fc_base.specs.Sheet.{Slot, Sheet, slot_at, no_slot, live_place}
use Rattle.fc_base.specs.SheetStep.{at_place, without}
use Rattle.fc_base.specs.SheetView.{held_of, count_true}
use Rattle.fc_base.specs.SheetFacts.{HasMappings}
use Rattle.fc_base.specs.declared.decision.Decision.{Decision}
use Rattle.fc_base.specs.declared.request.Reply.{Reply}
use Rattle.fc_base.specs.declared.volume.Mapping.{Mapping}
use Rattle.fc_base.specs.declared.volume.Volume.{Volume}
use Rattle.fc_books.proofs.Unchanged.{work_events-same}
use Rattle.fc_books.specs.After.{after_deed}
use Rattle.fc_books.specs.Books.{Books, Deed}
use Rattle.fc_books.specs.Copies.{held, total}
use Rattle.fc_books.specs.Deciding.{with_work}
use Rattle.fc_books.specs.Making.{remove_volume}
use Rattle.fc_books.specs.Refused.{names_volume}
use Rattle.fc_books.specs.Sound.{AreSound, SlotByState}
use Rattle.fc_books.specs.Work.{work_events}
use Rattle.fc_desk.proofs.Slots.{is_of, held_same, found-remove, found-filter}
use Rattle.fc_desk.proofs.Slots.{slot_of_target}
use Rattle.fc_sheets.proofs.Finding.{at_true, live_place_at, mapping_place_is}

-- a slot of another volume isn't the mapping's
pub not_of : (slots : List Slot) (m : Mapping) (k : ℕ) → HasMappings slots → SlotByState m.state slots m → k < length slots → ((slot_at slots k).volume == m.target.0) ≡ false → is_of m.id.0 (slot_at slots k) ≡ false
not_of slots m k maps by_state lt apart = by (is_of m.id.0 (slot_at slots k)) refl
  where
    by : (b : Bool) → is_of m.id.0 (slot_at slots k) ≡ b → is_of m.id.0 (slot_at slots k) ≡ false
    by false is = is
    by true is =
        let place = mapping_place_is slots m.id.0 k maps lt (at_true (slot_at slots k).mapping m.id.0 is) in
        grind (arith, apart, eq-eqb (slot_at slots k).volume m.target.0 (slot_of_target m.state slots m k by_state place))

apart_false : (v : Volume) (m : Mapping) → names_volume v m ≡ false → (m.target.0 == v.id.0) ≡ false
apart_false v m e = by (m.source.0 == v.id.0) (m.target.0 == v.id.0) e
  where
    by : (a b : Bool) → (a || b) ≡ false → b ≡ false
    by false b e = e
    by true b e = grind (arith, e)

swap_false : (a b c : ℕ) → (a == c) ≡ false → b ≡ c → (b == a) ≡ false
swap_false a b c e same = by (b == a) refl
  where
    by : (t : Bool) → (b == a) ≡ t → (b == a) ≡ false
    by false is = is
    by true is = grind (arith, e, eq-eqb a c (sym (eqb-true b a is) ∙ same))

held_left : (s : Sheet) (v : Volume) (m : Mapping) (o : Option ℕ) → live_place s.slots v.id.0 ≡ o → HasMappings s.slots → SlotByState m.state s.slots m → (m.target.0 == v.id.0) ≡ false → held_of (at_place without o s).slots m.id.0 ≡ held_of s.slots m.id.0
held_left s v m None e maps by_state apart = refl
held_left s v m (Some k) e maps by_state apart =
    let l = live_place_at s.slots v.id.0 k e in
    held_same s.slots (remove s.slots k) m.id.0
    (found-remove (is_of m.id.0) s.slots k no_slot
    (not_of s.slots m k maps by_state l.there (swap_false m.target.0 (slot_at s.slots k).volume v.id.0 apart l.of_volume)))

total_left : (b : Books) (restarts : ℕ → List Bool) (v : Volume) (m : Mapping) → (m.target.0 == v.id.0) ≡ false → total (after_deed restarts b (remove_volume v)) m ≡ total b m
total_left b restarts v m apart =
    ap (λ o. option_map_or (λ (x : Volume). x.grains) o 0)
    (found-filter (λ (x : Volume). m.target.0 == x.id.0) (λ (x : Volume). not (v.id.0 == x.id.0)) b.tables.volumes
    (λ x e. ap not (kept x e)))
  where
    kept : (x : Volume) → (m.target.0 == x.id.0) ≡ true → (v.id.0 == x.id.0) ≡ false
    kept x e = by (v.id.0 == x.id.0) refl
      where
        by : (t : Bool) → (v.id.0 == x.id.0) ≡ t → (v.id.0 == x.id.0) ≡ false
        by false is = is
        by true is = grind (arith, apart, eq-eqb m.target.0 v.id.0 (eqb-true m.target.0 x.id.0 e ∙ sym (eqb-true v.id.0 x.id.0 is)))

unnamed_one : (v : Volume) (m : Mapping) (maps : List Mapping) → list_any (names_volume v) maps ≡ false → Contains maps m → names_volume v m ≡ false
unnamed_one v m maps e found = at_place_of maps found.0 found.1 found.2 e
  where
    first_false : (x y : Bool) → (x || y) ≡ false → x ≡ false
    first_false false y e = refl
    first_false true y e = e

    last_false : (x y : Bool) → (x || y) ≡ false → y ≡ false
    last_false false y e = e
    last_false true y e = grind (arith, e)

    at_place_of : (xs : List Mapping) (k : ℕ) → k < length xs → slice_index_or xs k m ≡ m → list_any (names_volume v) xs ≡ false → names_volume v m ≡ false
    at_place_of [] k lt is e = grind (arith, lt)
    at_place_of (x ∷ xs) zero lt is e = ap (names_volume v) (sym is) ∙ first_false (names_volume v x) (list_any (names_volume v) xs) e
    at_place_of (x ∷ xs) (suc k) lt is e = at_place_of xs k (omega (arith, lt)) is (last_false (names_volume v x) (list_any (names_volume v) xs) e)

pub work_events-vanished :
    (restarts : ℕ → List Bool) (b : Books) (v : Volume) → AreSound b → list_any (names_volume v) b.tables.mappings ≡ false →
    work_events (after_deed restarts b (remove_volume v)) ≡ work_events b
work_events-vanished restarts b v sound unnamed =
    work_events-same b (after_deed restarts b (remove_volume v)) refl refl
    (λ m found.
    let apart = apart_false v m (unnamed_one v m b.tables.mappings unnamed found) in
    let after = after_deed restarts b (remove_volume v) in
    let size = total_left b restarts v m apart in
    let holds : held after m ≡ held b m = ap count_true (held_left b.sheet v m (live_place b.sheet.slots v.id.0) refl sound.sheet.mappings (sound.agree.by_state m found) apart) in
    ap (λ n. nat_le n (held after m)) size ∙ ap (nat_le (total b m)) holds)

pub volume_gone :
    (restarts : ℕ → List Bool) (b : Books) (v : Volume) (reply : Reply) (draft : Deed) (decision : Decision) →
    AreSound b → list_any (names_volume v) b.tables.mappings ≡ false →
    draft ≡ remove_volume v →
    decision ≡ record { reply = reply; effects = draft.effects; events = draft.events ++ work_events b; changes = draft.changes } →
    decision ≡ with_work restarts b reply (remove_volume v)
volume_gone restarts b v reply draft decision sound unnamed draft_is decision_is =
    let concluded : Deed → List _ → Decision = λ d work. record { reply = reply; effects = d.effects; events = d.events ++ work; changes = d.changes } in
    decision_is ∙ ap (λ d. concluded d (work_events b)) draft_is ∙ ap (concluded (remove_volume v)) (sym (work_events-vanished restarts b v sound unnamed))
