-- What a trigger does to slots: all stay but the live ones of its targets, and each pair gets a live slot.
use Rattle.std.proofs.Common.{◌≡◌, ◌≢◌, ℕ, ◌+◌, ◌<◌, true, false, Some, List, [], ◌∷◌, length, insert, replicate, Contains, refl, sym, ap, subst, ◌∙◌, arith, ◌⊎◌, inl, inr}
use Rattle.fc_base.specs.declared.request.Pair.{Pair}
use Rattle.fc_base.specs.Sheet.{Slot, Sheet, slot_at, volume_grains, grains_at}
use Rattle.fc_base.specs.SheetFits.{FitsPair, FitsTrigger}
use Rattle.fc_base.specs.SheetFacts.{IsSound}
use Rattle.fc_base.specs.SheetStep.{left_place, placed, started_empty, triggered}
use Rattle.fc_sheets.proofs.Places.{up, up_in, down, removed_at, big_at, insert_is, insert_here}
use Rattle.fc_sheets.proofs.Aging.{length_full}
use Rattle.fc_sheets.proofs.Finding.{live_place_at}
use Rattle.fc_sheets.proofs.Steps.{holds_from}
use Rattle.fc_sheets.proofs.Starting.{LeftSheet, new_slot, Placed, started_is, started_placed, Apart, AllFit, ApartFrom, AllApart, all_later, HoldsSheet, all_fit, all_apart}
use Rattle.fc_decided.proofs.Carrying.{StaysIn, live_carried}
use Rattle.fc_decided.proofs.Lists.{first_in, later_in, in_cases, none_in}

-- The live slot of a pair, which has so many grains.
pub record OwnSlot (slots : List Slot) (p : Pair) (grains : ℕ) : Type 0 where
  pub place : ℕ
  pub there : place < length slots
  pub mapping : (slot_at slots place).mapping ≡ Some p.map.0
  pub is_live : (slot_at slots place).is_live ≡ true
  pub volume : (slot_at slots place).volume ≡ p.target.0
  pub size : length (slot_at slots place).held ≡ grains

-- The slot comes from a pair, or had its mapping and volume before.
abbrev pub Came : List Slot → List Pair → Slot → Type 0
Came slots pairs t =
    ((p : Pair) × Contains pairs p × (t.mapping ≡ Some p.map.0) × (t.volume ≡ p.target.0))
    ⊎ ((i : ℕ) × (i < length slots) × (t.mapping ≡ (slot_at slots i).mapping) × (t.volume ≡ (slot_at slots i).volume))

-- What all pairs do.
pub record Through (s : Sheet) (pairs : List Pair) (t : Sheet) : Type 0 where
  pub births : t.births ≡ s.births + length pairs
  pub stays : (i : ℕ) → i < length s.slots → ((slot_at s.slots i).is_live ≡ true → (p : Pair) → Contains pairs p → (slot_at s.slots i).volume ≢ p.target.0) → StaysIn t.slots (slot_at s.slots i)
  pub own : (p : Pair) → Contains pairs p → OwnSlot t.slots p (volume_grains s.slots p.target.0)
  pub comes : (j : ℕ) → j < length t.slots → Came s.slots pairs (slot_at t.slots j)

-- ---- one pair

through_new : (s t : Sheet) (p : Pair) (k x grains : ℕ) → LeftSheet s k t → (slot_at s.slots k).is_live ≡ true → (slot_at s.slots k).volume ≡ p.target.0 → x < length t.slots → grains ≡ volume_grains s.slots p.target.0 →
    Through s (p ∷ []) (placed p.target.0 p.map.0 (replicate grains false) x t)
through_new s t p k x grains lf live kv xl size =
    let n : Slot = new_slot t.births (slot_at t.slots x).chain p.target.0 p.map.0 grains in
    let big : List Slot = insert t.slots (x + 1) n in
    let r = insert_is t.slots (x + 1) n (omega (arith, xl)) in
    let here : slot_at big (x + 1) ≡ n = insert_here t.slots (x + 1) n (omega (arith, xl)) in
    record {
      births = ap (λ b. b + 1) lf.0;
      stays = λ i il other.
          let a = lf.1.stays i il (λ e. other (ap (λ z. (slot_at s.slots z).is_live) e ∙ live) p (first_in p []) (ap (λ z. (slot_at s.slots z).volume) e ∙ kv)) in
          (up (x + 1) a.0, up_in big t.slots (x + 1) r a.0 a.1, sym (removed_at big t.slots (x + 1) r a.0) ∙ a.2);
      own = λ q found. elim (in_cases p q [] found) [
        | inr none ↦ absurd (none_in q none)
        | inl same ↦ subst (λ (y : Pair). OwnSlot big y (volume_grains s.slots y.target.0)) same (record {
          place = x + 1;
          there = r.there;
          mapping = ap (λ (z : Slot). z.mapping) here;
          is_live = ap (λ (z : Slot). z.is_live) here;
          volume = ap (λ (z : Slot). z.volume) here;
          size = ap (λ (z : Slot). length z.held) here ∙ length_full grains false ∙ size;
        })
      ];
      comes = λ j jl. elim (down big t.slots (x + 1) r j jl) [
        | inl same ↦ inl (p, first_in p [], ap (λ z. (slot_at big z).mapping) same ∙ ap (λ (z : Slot). z.mapping) here, ap (λ z. (slot_at big z).volume) same ∙ ap (λ (z : Slot). z.volume) here)
        | inr d ↦
            let c = lf.1.comes d.0 d.1 in
            let e = big_at big t.slots (x + 1) r d.0 j d.2 in
            inr (c.0, c.1, ap (λ (z : Slot). z.mapping) e ∙ c.2, ap (λ (z : Slot). z.volume) e ∙ c.3)
      ];
    }

through_one : (s : Sheet) (p : Pair) → HoldsSheet s → FitsPair s.slots p → p.target.0 ≢ p.source.0 → Through s (p ∷ []) (started_empty s p)
through_one s p h f ne =
    let i = started_is s p h f ne in
    subst (λ (z : Sheet). Through s (p ∷ []) z) (sym i.whole)
    (through_new s (left_place f.target s) p f.target i.place (volume_grains s.slots p.target.0) i.left i.target.is_live i.target.of_volume i.source.there refl)

-- ---- pair by pair

apart_in : (p q : Pair) (ps : List Pair) → ApartFrom p ps → Contains ps q → Apart p q
apart_in p q [] apart found = absurd (none_in q found)
apart_in p q (r ∷ rs) apart found = elim (in_cases r q rs found) [ inl same ↦ subst (Apart p) same apart.0 | inr rest ↦ apart_in p q rs apart.1 rest ]

fit_in : (s : Sheet) (ps : List Pair) (q : Pair) → AllFit s ps → Contains ps q → FitsPair s.slots q
fit_in s [] q fit found = absurd (none_in q found)
fit_in s (p ∷ ps) q fit found = elim (in_cases p q ps found) [ inl same ↦ subst (FitsPair s.slots) same fit.0 | inr rest ↦ fit_in s ps q fit.2 rest ]

own_stays : (s t : Sheet) (p : Pair) (grains : ℕ) (own : OwnSlot s.slots p grains) → StaysIn t.slots (slot_at s.slots own.place) → OwnSlot t.slots p grains
own_stays s t p grains own stays =
    record {
      place = stays.0;
      there = stays.1;
      mapping = ap (λ (z : Slot). z.mapping) stays.2 ∙ own.mapping;
      is_live = ap (λ (z : Slot). z.is_live) stays.2 ∙ own.is_live;
      volume = ap (λ (z : Slot). z.volume) stays.2 ∙ own.volume;
      size = ap (λ (z : Slot). length z.held) stays.2 ∙ own.size;
    }

-- another target has as many grains after a pair
same_grains : (s t : Sheet) (p q : Pair) → Placed s p t → Apart p q → FitsPair s.slots q → volume_grains t.slots q.target.0 ≡ volume_grains s.slots q.target.0
same_grains s t p q pl apart f =
    let at = live_place_at s.slots q.target.0 f.target f.target_there in
    let c = live_carried s.slots t.slots q.target.0 f.target (length (slot_at s.slots f.target).held) pl.holds.one_live f.target_there refl
    (pl.stays f.target at.there at.is_live (λ e. apart.targets (sym e ∙ at.of_volume))) in
    ap (grains_at t.slots) c.1 ∙ c.2 ∙ sym (ap (grains_at s.slots) f.target_there)

through_more : (s m t : Sheet) (p : Pair) (ps : List Pair) → Placed s p m → ApartFrom p ps → AllFit s ps → Through s (p ∷ []) m → Through m ps t → Through s (p ∷ ps) t
through_more s m t p ps pl apart fit a b =
    record {
      births = (let x = a.births in let y = b.births in omega (arith, x, y));
      stays = λ i il other.
          let x = a.stays i il (λ l q found. elim (in_cases p q [] found) [ inl same ↦ other l q (subst (λ (z : Pair). Contains (p ∷ ps) z) same (first_in p ps)) | inr none ↦ absurd (none_in q none) ]) in
          let y = b.stays x.0 x.1 (λ l q found e. other (ap (λ (z : Slot). z.is_live) (sym x.2) ∙ l) q (later_in p q ps found) (ap (λ (z : Slot). z.volume) (sym x.2) ∙ e)) in
          (y.0, y.1, y.2 ∙ x.2);
      own = λ q found. elim (in_cases p q ps found) [
        | inl same ↦ subst (λ (z : Pair). OwnSlot t.slots z (volume_grains s.slots z.target.0)) same
            (let o = a.own p (first_in p []) in own_stays m t p (volume_grains s.slots p.target.0) o (b.stays o.place o.there (λ l r there e. (apart_in p r ps apart there).targets (sym o.volume ∙ e))))
        | inr rest ↦ subst (OwnSlot t.slots q) (same_grains s m p q pl (apart_in p q ps apart rest) (fit_in s ps q fit rest)) (b.own q rest)
      ];
      comes = λ j jl. elim (b.comes j jl) [
        | inl new ↦ inl (new.0, later_in p new.0 ps new.1, new.2, new.3)
        | inr old ↦ elim (a.comes old.0 old.1) [
          | inl first ↦ elim (in_cases p first.0 [] first.1) [
            | inl same ↦ inl (p, first_in p ps, old.2 ∙ first.2 ∙ ap (λ (z : Pair). Some z.map.0) (sym same), old.3 ∙ first.3 ∙ ap (λ (z : Pair). z.target.0) (sym same))
            | inr none ↦ absurd (none_in first.0 none)
          ]
          | inr before ↦ inr (before.0, before.1, old.2 ∙ before.2, old.3 ∙ before.3)
        ]
      ];
    }

through_none : (s : Sheet) → Through s [] s
through_none s =
    record {
      births = omega arith;
      stays = λ i il other. (i, il, refl);
      own = λ p found. absurd (none_in p found);
      comes = λ j jl. inr (j, jl, refl, refl);
    }

through_all : (pairs : List Pair) (s : Sheet) → HoldsSheet s → AllFit s pairs → AllApart pairs → Through s pairs (triggered pairs s)
through_all [] s h f a = through_none s
through_all (p ∷ ps) s h f a =
    let pl = started_placed s p h f.0 f.1 in
    through_more s (started_empty s p) (triggered ps (started_empty s p)) p ps pl a.0 f.2 (through_one s p h f.0 f.1)
    (through_all ps (started_empty s p) pl.holds (all_later s (started_empty s p) p ps pl a.0 f.2) a.1)

pub triggered_through : (s : Sheet) (pairs : List Pair) → IsSound s → FitsTrigger s pairs → Through s pairs (triggered pairs s)
triggered_through s pairs sound f = through_all pairs s (holds_from s sound) (all_fit s pairs f.each f.apart) (all_apart pairs f.maps f.targets f.apart)
