-- After a trigger each pair has a new slot, also once the slots of other pairs have begun.
use Rattle.std.proofs.Common.{◌≡◌, ◌≢◌, ℕ, ◌+◌, ◌<◌, Bool, true, false, Some, List, [], ◌∷◌, ◌++◌, length, get_or, take, drop, fold, insert, replicate, refl, sym, ap, subst, ◌∙◌, arith, inl, inr}
use Rattle.std.proofs.lemmas.List.{drop_more, take-append-drop}
use Rattle.fc_base.specs.Sheet.{Slot, Sheet, slot_at, live_place, mapping_place, volume_grains, grains_at}
use Rattle.fc_base.specs.SheetFacts.{IsSound}
use Rattle.fc_base.specs.SheetFits.{FitsPair, FitsTrigger}
use Rattle.fc_base.specs.SheetStep.{at_place, left_place, placed, started_empty, triggered}
use Rattle.fc_base.specs.declared.request.Pair.{Pair}
use Rattle.fc_books.specs.After.{begun, holding}
use Rattle.fc_moves.proofs.Search.{cases_option}
use Rattle.fc_sheets.proofs.Finding.{live_place_at, live_place_is, mapping_place_at, mapping_place_is}
use Rattle.fc_sheets.proofs.Places.{insert_is, insert_here}
use Rattle.fc_sheets.proofs.Starting.{new_slot, Placed, started_is, started_placed, Apart, AllFit, ApartFrom, AllApart, HoldsSheet, all_later, all_fit, all_apart, triggered_sound}
use Rattle.fc_sheets.proofs.Steps.{holds_from}
use Rattle.fc_alike.specs.Law.{NewSlot, IsNext, SlotsStay}
use Rattle.fc_pictures.proofs.Slots.{SheetStays, sheet_stays, sheet_stays_then, live_stay, mapping_stay}
use Rattle.fc_alike.proofs.Slots.{slots_stay}
use Rattle.fc_alike.proofs.Holding.{Begins, holding_stay, holding_begins, begins_sound}

-- ---- the slot of a pair

-- A pair's live slot, with so many grains, of which it holds none.
record OwnSlot (slots : List Slot) (p : Pair) (grains : ℕ) : Type 0 where
  place : ℕ
  there : place < length slots
  mapping : (slot_at slots place).mapping ≡ Some p.map.0
  is_live : (slot_at slots place).is_live ≡ true
  volume : (slot_at slots place).volume ≡ p.target.0
  nothing : (slot_at slots place).held ≡ replicate grains false

own_placed : (t : Sheet) (p : Pair) (x grains : ℕ) → x < length t.slots → OwnSlot (placed p.target.0 p.map.0 (replicate grains false) x t).slots p grains
own_placed t p x grains xl =
    let n : Slot = new_slot t.births (slot_at t.slots x).chain p.target.0 p.map.0 grains in
    let here : slot_at (insert t.slots (x + 1) n) (x + 1) ≡ n = insert_here t.slots (x + 1) n (omega (arith, xl)) in
    record {
      place = x + 1;
      there = (insert_is t.slots (x + 1) n (omega (arith, xl))).there;
      mapping = ap (λ (z : Slot). z.mapping) here;
      is_live = ap (λ (z : Slot). z.is_live) here;
      volume = ap (λ (z : Slot). z.volume) here;
      nothing = ap (λ (z : Slot). z.held) here;
    }

own_started : (s : Sheet) (p : Pair) → HoldsSheet s → FitsPair s.slots p → p.target.0 ≢ p.source.0 → OwnSlot (started_empty s p).slots p (volume_grains s.slots p.target.0)
own_started s p h f ne =
    let grains : ℕ = volume_grains s.slots p.target.0 in
    let i = started_is s p h f ne in
    subst (λ (z : Sheet). OwnSlot z.slots p grains) (sym i.whole) (own_placed (left_place f.target s) p i.place grains i.source.there)

own_later : (s t : Sheet) (p q : Pair) (grains : ℕ) → Placed s p t → p.target.0 ≢ q.target.0 → OwnSlot s.slots q grains → OwnSlot t.slots q grains
own_later s t p q grains pl apart own =
    let x = pl.stays own.place own.there own.is_live (λ e. apart (sym e ∙ own.volume)) in
    record {
      place = x.0;
      there = x.1;
      mapping = ap (λ (z : Slot). z.mapping) x.2 ∙ own.mapping;
      is_live = ap (λ (z : Slot). z.is_live) x.2 ∙ own.is_live;
      volume = ap (λ (z : Slot). z.volume) x.2 ∙ own.volume;
      nothing = ap (λ (z : Slot). z.held) x.2 ∙ own.nothing;
    }

-- ---- of all pairs

abbrev AllOwn : List Slot → (Pair → ℕ) → List Pair → Type 0
AllOwn slots grains [] = Unit {0}
AllOwn slots grains (p ∷ ps) = OwnSlot slots p (grains p) × AllOwn slots grains ps

-- the slot of an earlier pair stays
own_through : (ps : List Pair) (s : Sheet) (q : Pair) (grains : ℕ) → HoldsSheet s → AllFit s ps → AllApart ps → ApartFrom q ps → OwnSlot s.slots q grains → OwnSlot (triggered ps s).slots q grains
own_through [] s q grains h f a apart own = own
own_through (p ∷ ps) s q grains h f a apart own =
    let pl = started_placed s p h f.0 f.1 in
    own_through ps (started_empty s p) q grains pl.holds (all_later s (started_empty s p) p ps pl a.0 f.2) a.1 apart.1
    (own_later s (started_empty s p) p q grains pl (λ e. apart.0.targets (sym e)) own)

-- another target has as many grains after a pair
same_grains : (s t : Sheet) (p q : Pair) → Placed s p t → Apart p q → FitsPair s.slots q → volume_grains t.slots q.target.0 ≡ volume_grains s.slots q.target.0
same_grains s t p q pl apart f =
    let at = live_place_at s.slots q.target.0 f.target f.target_there in
    let x = pl.stays f.target at.there at.is_live (λ e. apart.targets (sym e ∙ at.of_volume)) in
    let place : live_place t.slots q.target.0 ≡ Some x.0 =
    live_place_is t.slots q.target.0 x.0 pl.holds.one_live (record { there = x.1; is_live = ap (λ (z : Slot). z.is_live) x.2 ∙ at.is_live; of_volume = ap (λ (z : Slot). z.volume) x.2 ∙ at.of_volume }) in
    ap (grains_at t.slots) place ∙ ap (λ (z : Slot). length z.held) x.2 ∙ sym (ap (grains_at s.slots) f.target_there)

all_same_grains : (s t : Sheet) (p : Pair) (slots : List Slot) (qs : List Pair) → Placed s p t → ApartFrom p qs → AllFit s qs →
    AllOwn slots (λ q. volume_grains t.slots q.target.0) qs → AllOwn slots (λ q. volume_grains s.slots q.target.0) qs
all_same_grains s t p slots [] pl apart fit own = tt
all_same_grains s t p slots (q ∷ qs) pl apart fit own = (
  subst (OwnSlot slots q) (same_grains s t p q pl apart.0 fit.0) own.0,
  all_same_grains s t p slots qs pl apart.1 fit.2 own.1,
)

all_own : (pairs : List Pair) (s : Sheet) → HoldsSheet s → AllFit s pairs → AllApart pairs → AllOwn (triggered pairs s).slots (λ q. volume_grains s.slots q.target.0) pairs
all_own [] s h f a = tt
all_own (p ∷ ps) s h f a =
    let pl = started_placed s p h f.0 f.1 in
    let next : Sheet = started_empty s p in
    let later = all_later s next p ps pl a.0 f.2 in (
      own_through ps next p (volume_grains s.slots p.target.0) pl.holds later a.1 a.0 (own_started s p h f.0 f.1),
      all_same_grains s next p (triggered ps next).slots ps pl a.0 f.2 (all_own ps next pl.holds later a.1),
    )

-- by their places, on sound chains
abbrev pub AllNew : List Slot → (Pair → ℕ) → List Pair → Type 0
AllNew slots grains [] = Unit {0}
AllNew slots grains (p ∷ ps) = ((k : ℕ) × NewSlot slots p (grains p) k) × AllNew slots grains ps

all_new_from : (t : Sheet) (grains : Pair → ℕ) (ps : List Pair) → IsSound t → AllOwn t.slots grains ps → AllNew t.slots grains ps
all_new_from t grains [] sound own = tt
all_new_from t grains (p ∷ ps) sound (own, rest) = (
  (
    own.place,
    record {
      there = own.there;
      of_mapping = mapping_place_is t.slots p.map.0 own.place sound.mappings own.there own.mapping;
      of_target = live_place_is t.slots p.target.0 own.place sound.one_live (record { there = own.there; is_live = own.is_live; of_volume = own.volume });
      is_live = own.is_live;
      volume = own.volume;
      nothing = own.nothing;
    },
  ),
  all_new_from t grains ps sound rest,
)

-- All new slots of a trigger.
abbrev pub grains_of : Sheet → Pair → ℕ
grains_of s p = volume_grains s.slots p.target.0

pub all_new : (s : Sheet) (pairs : List Pair) → IsSound s → FitsTrigger s pairs → AllNew (triggered pairs s).slots (grains_of s) pairs
all_new s pairs sound f =
    all_new_from (triggered pairs s) (grains_of s) pairs (triggered_sound s pairs sound f)
    (all_own pairs s (holds_from s sound) (all_fit s pairs f.each f.apart) (all_apart pairs f.maps f.targets f.apart))

-- ---- the slots begin

pub begun_is : (restarts : ℕ → List Bool) (t : Sheet) (p : Pair) (grains k : ℕ) → NewSlot t.slots p grains k → begun restarts t p ≡ holding (restarts p.map.0) k t
begun_is restarts t p grains k new = ap (λ o. at_place (holding (restarts p.map.0)) o t) new.of_mapping

pub begun_begins : (restarts : ℕ → List Bool) (t : Sheet) (p : Pair) (grains k : ℕ) → NewSlot t.slots p grains k → Begins t.slots (holding (restarts p.map.0) k t).slots k
begun_begins restarts t p grains k new = holding_begins t k grains (restarts p.map.0) new.there new.nothing

pub begun_sound : (restarts : ℕ → List Bool) (t : Sheet) (p : Pair) (grains k : ℕ) → IsSound t → NewSlot t.slots p grains k → IsSound (begun restarts t p)
begun_sound restarts t p grains k sound new =
    subst IsSound (sym (begun_is restarts t p grains k new))
    (begins_sound t k p.map.0 (holding (restarts p.map.0) k t).slots (begun_begins restarts t p grains k new) sound (mapping_place_at t.slots p.map.0 k new.of_mapping).1)

-- slots stay where they are
one_stays : (restarts : ℕ → List Bool) (t : Sheet) (p : Pair) → SheetStays t (begun restarts t p)
one_stays restarts t p =
    elim (cases_option (mapping_place t.slots p.map.0)) [
      | inl none ↦ subst (SheetStays t) (sym (ap (λ o. at_place (holding (restarts p.map.0)) o t) none)) (sheet_stays t)
      | inr k ↦ subst (SheetStays t) (sym (ap (λ o. at_place (holding (restarts p.map.0)) o t) k.1))
          (record { births = refl; slots = holding_stay t k.0 (restarts p.map.0) (mapping_place_at t.slots p.map.0 k.0 k.1).0 })
    ]

all_stays : (restarts : ℕ → List Bool) (pairs : List Pair) (t : Sheet) → SheetStays t (fold (begun restarts) t pairs)
all_stays restarts [] t = sheet_stays t
all_stays restarts (p ∷ ps) t =
    let next : Sheet = begun restarts t p in
    sheet_stays_then t next (fold (begun restarts) next ps) (one_stays restarts t p) (all_stays restarts ps next)

pub begun_stays : (restarts : ℕ → List Bool) (s : Sheet) (pairs : List Pair) → SlotsStay s (fold (begun restarts) s pairs)
begun_stays restarts s pairs = slots_stay s (fold (begun restarts) s pairs) (all_stays restarts pairs s)

-- the slot of another pair stays new
other_new : (old new : List Slot) (p q : Pair) (n m k j : ℕ) → Begins old new k → NewSlot old p n k → p.map.0 ≢ q.map.0 → NewSlot old q m j → NewSlot new q m j
other_new old new p q n m k j b first apart own =
    let s = b.stay in
    let other : j ≢ k = λ e. apart (let f : Some p.map.0 ≡ Some q.map.0 =
    sym (mapping_place_at old p.map.0 k first.of_mapping).1 ∙ ap (λ z. (slot_at old z).mapping) (sym e) ∙ (mapping_place_at old q.map.0 j own.of_mapping).1 in cc) in
    let same = b.other j other in
    record {
      there = (let c = s.count in let l = own.there in omega (arith, c, l));
      of_mapping = mapping_stay old new s q.map.0 ∙ own.of_mapping;
      of_target = live_stay old new s q.target.0 ∙ own.of_target;
      is_live = s.is_live j ∙ own.is_live;
      volume = s.volume j ∙ own.volume;
      nothing = ap (λ (z : Slot). z.held) same ∙ own.nothing;
    }

others_new : (old new : List Slot) (p : Pair) (grains : Pair → ℕ) (n k : ℕ) (qs : List Pair) → Begins old new k → NewSlot old p n k → ApartFrom p qs → AllNew old grains qs → AllNew new grains qs
others_new old new p grains n k [] b first apart own = tt
others_new old new p grains n k (q ∷ qs) b first apart own = (
  (own.0.0, other_new old new p q n (grains q) k own.0.0 b first apart.0.maps own.0.1),
  others_new old new p grains n k qs b first apart.1 own.1,
)

pub later_new : (restarts : ℕ → List Bool) (t : Sheet) (p : Pair) (grains : Pair → ℕ) (n k : ℕ) (qs : List Pair) → NewSlot t.slots p n k → ApartFrom p qs → AllNew t.slots grains qs → AllNew (begun restarts t p).slots grains qs
later_new restarts t p grains n k qs new apart own =
    subst (λ (z : Sheet). AllNew z.slots grains qs) (sym (begun_is restarts t p n k new))
    (others_new t.slots (holding (restarts p.map.0) k t).slots p grains n k qs (begun_begins restarts t p n k new) new apart own)

-- after the first pairs
begun_first : (restarts : ℕ → List Bool) (grains : Pair → ℕ) (before rest : List Pair) (t : Sheet) → IsSound t → AllNew t.slots grains (before ++ rest) → AllApart (before ++ rest) →
    IsSound (fold (begun restarts) t before) × AllNew (fold (begun restarts) t before).slots grains rest
begun_first restarts grains [] rest t sound own apart = (sound, own)
begun_first restarts grains (p ∷ ps) rest t sound own apart =
    begun_first restarts grains ps rest (begun restarts t p) (begun_sound restarts t p (grains p) own.0.0 sound own.0.1)
    (later_new restarts t p grains (grains p) own.0.0 (ps ++ rest) own.0.1 apart.0 own.1) apart.1

pub is_next : (restarts : ℕ → List Bool) (s : Sheet) (before rest : List Pair) (p : Pair) → IsSound s → FitsTrigger s (before ++ p ∷ rest) →
    IsNext restarts s (fold (begun restarts) (triggered (before ++ p ∷ rest) s) before) p
is_next restarts s before rest p sound f =
    let pairs : List Pair = before ++ p ∷ rest in
    let t : Sheet = triggered pairs s in
    let r = begun_first restarts (grains_of s) before (p ∷ rest) t (triggered_sound s pairs sound f) (all_new s pairs sound f) (all_apart pairs f.maps f.targets f.apart) in
    let own = r.1.0 in
    record {
      sound = r.0;
      place = own.0;
      slot = own.1;
      begins = begun_is restarts (fold (begun restarts) t before) p (grains_of s p) own.0 own.1;
    }

pub is_next_at : (restarts : ℕ → List Bool) (s : Sheet) (pairs : List Pair) (i : ℕ) (d : Pair) → IsSound s → FitsTrigger s pairs → i < length pairs →
    IsNext restarts s (fold (begun restarts) (triggered pairs s) (take i pairs)) (get_or pairs i d)
is_next_at restarts s pairs i d sound f lt =
    let p : Pair = get_or pairs i d in
    let split : take i pairs ++ p ∷ drop (i + 1) pairs ≡ pairs = ap (λ (z : List Pair). take i pairs ++ z) (sym (drop_more pairs i d lt)) ∙ take-append-drop i pairs in
    subst (λ (z : List Pair). IsNext restarts s (fold (begun restarts) (triggered z s) (take i pairs)) p) split
    (is_next restarts s (take i pairs) (drop (i + 1) pairs) p sound (subst (FitsTrigger s) (sym split) f))

all_begun : (restarts : ℕ → List Bool) (grains : Pair → ℕ) (pairs : List Pair) (t : Sheet) → IsSound t → AllNew t.slots grains pairs → AllApart pairs → IsSound (fold (begun restarts) t pairs)
all_begun restarts grains [] t sound own apart = sound
all_begun restarts grains (p ∷ ps) t sound own apart =
    all_begun restarts grains ps (begun restarts t p) (begun_sound restarts t p (grains p) own.0.0 sound own.0.1)
    (later_new restarts t p grains (grains p) own.0.0 ps own.0.1 apart.0 own.1) apart.1

pub all_begun_sound : (restarts : ℕ → List Bool) (s : Sheet) (pairs : List Pair) → IsSound s → FitsTrigger s pairs → IsSound (fold (begun restarts) (triggered pairs s) pairs)
all_begun_sound restarts s pairs sound f =
    all_begun restarts (grains_of s) pairs (triggered pairs s) (triggered_sound s pairs sound f) (all_new s pairs sound f) (all_apart pairs f.maps f.targets f.apart)
