-- A trigger keeps the facts, pair by pair.
use Rattle.std.proofs.Common.{◌≡◌, ◌≢◌, ℕ, zero, suc, ◌+◌, ◌<◌, ◌≤◌, true, false, cond, ◌&&◌, eqb, ltb, Some, None, List, [], ◌∷◌, length, get_or, set, remove, insert, replicate, Contains, slice_index_or, refl, sym, ap, subst, ◌∙◌, arith, ◌⊎◌, inl, inr}
use Rattle.std.proofs.lemmas.Bool.{cases_Bool, both_ways, cases_eq, and_from, lt-ltb, eq-eqb}
use Rattle.fc_base.specs.declared.request.Pair.{Pair}
use Rattle.fc_base.specs.Column.{last_below}
use Rattle.fc_base.specs.Sheet.{Slot, Sheet, slot_at, column, live_place, mapping_place, volume_grains, grains_at}
use Rattle.fc_base.specs.SheetFacts.{IsSound}
use Rattle.fc_base.specs.SheetStep.{without, aged, has_after, at_place, left_place, placed, started_empty, triggered}
use Rattle.fc_base.specs.SheetFits.{FitsPair, FitsTrigger}
use Rattle.fc_base.specs.Need.{is_complete}
use Rattle.fc_moves.proofs.Search.{last_none, cases_option}
use Rattle.fc_moves.proofs.Readers.{IsHolder}
use Rattle.fc_sheets.proofs.Places.{up, up_in, up_low, down, removed_at, big_at, remove_is, insert_is, insert_here}
use Rattle.fc_sheets.proofs.Removing.{HeldFor, held_for, held_big, names_big, sizes_big, mappings_big, one_live_big}
use Rattle.fc_sheets.proofs.Aging.{age, aged_is, aged_other, length_full}
use Rattle.fc_sheets.proofs.Finding.{LiveAt, live_place_at, live_place_is, mapping_place_none, no_mapping_place}
use Rattle.fc_sheets.proofs.Steps.{Holds, Nobody, Only, holds_from, sound_from, without_live, without_no_live, aged_holds, aged_no_live}

-- ---- a target leaves its place

-- the slots after the live slot at `k` has left its place
pub record Left (b : ℕ) (slots left : List Slot) (k : ℕ) : Type 0 where
  pub holds : Holds b left (Only (slot_at slots k).volume) Nobody
  pub no_live : (i : ℕ) → i < length left → (slot_at left i).is_live ≡ true → (slot_at left i).volume ≢ (slot_at slots k).volume
  pub stays : (i : ℕ) → i < length slots → i ≢ k → (j : ℕ) × (j < length left) × (slot_at left j ≡ slot_at slots i)
  pub comes : (j : ℕ) → j < length left → (i : ℕ) × (i < length slots) × ((slot_at left j).mapping ≡ (slot_at slots i).mapping) × ((slot_at left j).volume ≡ (slot_at slots i).volume) × ((slot_at left j).held ≡ (slot_at slots i).held)

left_aged : (b : ℕ) (slots : List Slot) (k : ℕ) → Holds b slots Nobody Nobody → k < length slots → (slot_at slots k).is_live ≡ true → Left b slots (set slots k (age (slot_at slots k))) k
left_aged b slots k h kl l =
    let a = aged_is slots k kl in
    let c : length (set slots k (age (slot_at slots k))) ≡ length slots = a.count in
    record {
      holds = aged_holds b slots Nobody k h kl;
      no_live = aged_no_live slots k kl l h.one_live;
      stays = λ i il ne. (i, omega arith, aged_other slots k i kl ne);
      comes = λ j jl. (j, omega arith, a.mapping j, a.volume j, a.held j);
    }

-- where no slot stands after a slot in its chain, it is nobody's holder but its own
pub nobody_after : (slots : List Slot) (k : ℕ) → has_after slots k ≡ false → (g j : ℕ) → j < length slots → IsHolder (column slots g) j k → (j ≡ k) ⊎ ((m : ℕ) × ((slot_at slots j).mapping ≡ Some m) × Nobody m)
nobody_after slots k last g j jl i =
    elim (cases_option (last_below (λ x. ltb k x && eqb (slot_at slots x).chain (slot_at slots k).chain) (length slots))) [
      | inr some ↦ absurd (let f : has_after slots k ≡ true = rw some.1 refl in both_ways _ last f)
      | inl none ↦ elim (cases_eq j k) [
        | inl e ↦ inl e
        | inr ne ↦ absurd (both_ways _ (last_none (λ x. ltb k x && eqb (slot_at slots x).chain (slot_at slots k).chain) (length slots) none j jl)
            (and_from _ _ (lt-ltb k j (let b : k ≤ j = i.before in omega arith)) (eq-eqb _ _ (sym i.one_chain))))
      ]
    ]

left_removed : (b : ℕ) (slots : List Slot) (k : ℕ) → Holds b slots Nobody Nobody → k < length slots → (slot_at slots k).is_live ≡ true → has_after slots k ≡ false → Left b slots (remove slots k) k
left_removed b slots k h kl l last =
    let r = remove_is slots k kl in
    record {
      holds = without_live b slots Nobody k h kl (λ g j jl v i. nobody_after slots k last g j jl i);
      no_live = without_no_live slots k kl l h.one_live;
      stays = λ i il ne. elim (down slots (remove slots k) k r i il) [ inl e ↦ absurd (ne e) | inr d ↦ (d.0, d.1, sym (big_at slots (remove slots k) k r d.0 i d.2)) ];
      comes = λ j jl. let e = removed_at slots (remove slots k) k r j in
          (up k j, up_in slots (remove slots k) k r j jl, ap (λ (t : Slot). t.mapping) e, ap (λ (t : Slot). t.volume) e, ap (λ (t : Slot). t.held) e);
    }

abbrev pub LeftSheet : Sheet → ℕ → Sheet → Type 0
LeftSheet s k t = (t.births ≡ s.births) × Left s.births s.slots t.slots k

pub left_is : (s : Sheet) (k : ℕ) → Holds s.births s.slots Nobody Nobody → k < length s.slots → (slot_at s.slots k).is_live ≡ true → LeftSheet s k (left_place k s)
left_is s k h kl l =
    elim (cases_Bool (has_after s.slots k)) [
      | inl t ↦ let e : left_place k s ≡ aged k s = ap (λ z. cond z (aged k s) (without k s)) t in
          subst (λ (z : Sheet). LeftSheet s k z) (sym e) (refl, left_aged s.births s.slots k h kl l)
      | inr f ↦ let e : left_place k s ≡ without k s = ap (λ z. cond z (aged k s) (without k s)) f in
          subst (λ (z : Sheet). LeftSheet s k z) (sym e) (refl, left_removed s.births s.slots k h kl l f)
    ]

-- ---- its new slot

abbrev pub new_slot : ℕ → ℕ → ℕ → ℕ → ℕ → Slot
new_slot b chain v m grains = record { birth = b; chain = chain; volume = v; is_live = true; mapping = Some m; held = replicate grains false }

placed_holds : (b : ℕ) (slots left : List Slot) (k : ℕ) → Left b slots left k → (x m grains : ℕ) → x < length left → (slot_at left x).is_live ≡ true →
    ((j : ℕ) → j < length left → (slot_at left j).mapping ≡ Some m → ⊥) → length (slot_at left x).held ≡ grains →
    ((j : ℕ) → j < length left → (slot_at left j).volume ≡ (slot_at slots k).volume → length (slot_at left j).held ≡ grains) →
    Holds (b + 1) (insert left (x + 1) (new_slot b (slot_at left x).chain (slot_at slots k).volume m grains)) Nobody Nobody
placed_holds b slots left k lf x m grains xl live none size volume_size =
    let v : ℕ = (slot_at slots k).volume in
    let n : Slot = new_slot b (slot_at left x).chain v m grains in
    let big : List Slot = insert left (x + 1) n in
    let h = lf.holds in
    let r = insert_is left (x + 1) n (omega arith) in
    let here : slot_at big (x + 1) ≡ n = insert_here left (x + 1) n (omega arith) in
    let xc : (slot_at left x).chain < b = h.names.chains x xl in
    let hc : (slot_at big (x + 1)).chain ≡ (slot_at left x).chain = ap (λ (t : Slot). t.chain) here in
    let hs : length (slot_at big (x + 1)).held ≡ grains = ap (λ (t : Slot). length t.held) here ∙ length_full grains false in
    let hv : (slot_at big (x + 1)).volume ≡ v = ap (λ (t : Slot). t.volume) here in
    record {
      names = names_big b (b + 1) big left (x + 1) r h.names (omega arith) (ap (λ (t : Slot). t.birth) here) (omega (arith, hc))
          (λ i q il e f. h.names.fresh i x q il xl e (sym hc ∙ f)) (λ q e f. omega (arith, hc, f));
      sizes = sizes_big big left (x + 1) r h.sizes
          (λ i il e. h.sizes.of_chain i x il xl (e ∙ hc) ∙ (size ∙ sym hs)) (λ i il e. volume_size i il (e ∙ hv) ∙ sym hs);
      mappings = mappings_big big left (x + 1) r h.mappings
          (λ i q il e f. none i il (e ∙ (sym f ∙ ap (λ (t : Slot). t.mapping) here)))
          (λ l e. let f : None ≡ Some m = sym e ∙ ap (λ (t : Slot). t.mapping) here in absurd cc);
      one_live = one_live_big big left (x + 1) r h.one_live (λ i il l e. lf.no_live i il l (e ∙ hv));
      lives = λ j jl. elim (down big left (x + 1) r j jl) [
        | inl same ↦ inl (j, jl, ap (λ z. (slot_at big z).is_live) same ∙ ap (λ (t : Slot). t.is_live) here, refl)
        | inr d ↦ let e = big_at big left (x + 1) r d.0 j d.2 in
            elim (h.lives d.0 d.1) [
              | inr orphan ↦ inl (x + 1, r.there, ap (λ (t : Slot). t.is_live) here, hv ∙ (sym orphan ∙ ap (λ (t : Slot). t.volume) (sym e)))
              | inl y ↦ let f = removed_at big left (x + 1) r y.0 in
                  inl (up (x + 1) y.0, up_in big left (x + 1) r y.0 y.1, ap (λ (t : Slot). t.is_live) (sym f) ∙ y.2, ap (λ (t : Slot). t.volume) (sym f) ∙ (y.3 ∙ ap (λ (t : Slot). t.volume) (sym e)))
            ]
      ];
      holders = λ g j jl l gl. elim (down big left (x + 1) r j jl) [
        | inr d ↦ let e = big_at big left (x + 1) r d.0 j d.2 in
            elim (h.holders g d.0 d.1 (ap (λ (t : Slot). t.is_live) (sym e) ∙ l) (let q : length (slot_at big j).held ≡ length (slot_at left d.0).held = ap (λ (t : Slot). length t.held) e in omega arith)) [
              | inl y ↦ inl (subst (λ (z : ℕ). HeldFor big g z) d.2 (held_big big left (x + 1) r g d.0 y))
              | inr z ↦ absurd z.2
            ]
        | inl same ↦ elim (h.holders g x xl live (let q : length (slot_at big j).held ≡ grains = ap (λ z. length (slot_at big z).held) same ∙ hs in omega (arith, size))) [
          | inr z ↦ absurd z.2
          | inl y ↦ let i = y.1 in
              let yx : y.0 ≤ x = i.before in
              let f = removed_at big left (x + 1) r y.0 in
              let ue : up (x + 1) y.0 ≡ y.0 = up_low (x + 1) y.0 (omega arith) in
              inl (subst (λ (z : ℕ). HeldFor big g z) (sym same)
              (held_for big g (x + 1) (up (x + 1) y.0) (omega (arith, ue))
              (ap (λ (t : Slot). t.chain) (sym f) ∙ (i.one_chain ∙ sym hc)) (ap (λ (t : Slot). get_or t.held g false) (sym f) ∙ i.holds)))
        ]
      ];
    }

-- ---- one pair

-- the sheet after a pair: the facts hold, every live slot but the target's is there as it was, and of mappings only the pair's came
pub record Placed (s : Sheet) (p : Pair) (t : Sheet) : Type 0 where
  pub holds : Holds t.births t.slots Nobody Nobody
  pub stays : (i : ℕ) → i < length s.slots → (slot_at s.slots i).is_live ≡ true → (slot_at s.slots i).volume ≢ p.target.0 → (j : ℕ) × (j < length t.slots) × (slot_at t.slots j ≡ slot_at s.slots i)
  pub comes : (j m : ℕ) → j < length t.slots → (slot_at t.slots j).mapping ≡ Some m → (m ≡ p.map.0) ⊎ ((i : ℕ) × (i < length s.slots) × ((slot_at s.slots i).mapping ≡ Some m))

place_new : (s t : Sheet) (p : Pair) (k x grains : ℕ) → LeftSheet s k t → (slot_at s.slots k).volume ≡ p.target.0 → x < length t.slots → (slot_at t.slots x).is_live ≡ true →
    mapping_place s.slots p.map.0 ≡ None → length (slot_at t.slots x).held ≡ grains → ((i : ℕ) → i < length s.slots → (slot_at s.slots i).volume ≡ p.target.0 → length (slot_at s.slots i).held ≡ grains) →
    Placed s p (placed p.target.0 p.map.0 (replicate grains false) x t)
place_new s t p k x grains lf kv xl live none size volume_size =
    let left = lf.1 in
    let n : Slot = new_slot t.births (slot_at t.slots x).chain p.target.0 p.map.0 grains in
    let r = insert_is t.slots (x + 1) n (omega arith) in
    let hold : Holds (t.births + 1) (insert t.slots (x + 1) n) Nobody Nobody =
    subst (λ (b : ℕ). Holds (b + 1) (insert t.slots (x + 1) (new_slot b (slot_at t.slots x).chain p.target.0 p.map.0 grains)) Nobody Nobody) (sym lf.0)
    (subst (λ (v : ℕ). Holds (s.births + 1) (insert t.slots (x + 1) (new_slot s.births (slot_at t.slots x).chain v p.map.0 grains)) Nobody Nobody) kv
    (placed_holds s.births s.slots t.slots k left x p.map.0 grains xl live
    (λ j jl e. let c = left.comes j jl in mapping_place_none s.slots p.map.0 none c.0 c.1 (sym c.2 ∙ e))
    size (λ j jl e. let c = left.comes j jl in ap length c.4 ∙ volume_size c.0 c.1 (sym c.3 ∙ (e ∙ kv))))) in
    record {
      holds = hold;
      stays = λ i il l ne. let a = left.stays i il (λ e. ne (ap (λ z. (slot_at s.slots z).volume) e ∙ kv)) in
          (up (x + 1) a.0, up_in (insert t.slots (x + 1) n) t.slots (x + 1) r a.0 a.1, sym (removed_at (insert t.slots (x + 1) n) t.slots (x + 1) r a.0) ∙ a.2);
      comes = λ j m jl e. elim (down (insert t.slots (x + 1) n) t.slots (x + 1) r j jl) [
        | inl same ↦ inl (let f : Some p.map.0 ≡ Some m = sym (ap (λ z. (slot_at (insert t.slots (x + 1) n) z).mapping) same ∙ ap (λ (z : Slot). z.mapping) (insert_here t.slots (x + 1) n (omega arith))) ∙ e in let q : p.map.0 ≡ m = cc in sym q)
        | inr d ↦ let c = left.comes d.0 d.1 in inr (c.0, c.1, sym c.2 ∙ (ap (λ (z : Slot). z.mapping) (sym (big_at (insert t.slots (x + 1) n) t.slots (x + 1) r d.0 j d.2)) ∙ e))
      ];
    }

-- What a pair that fits does: its target's live slot leaves its place, and the new slot comes behind its source's, which stays.
pub record Started (s : Sheet) (p : Pair) (f : FitsPair s.slots p) : Type 0 where
  pub target : LiveAt s.slots p.target.0 f.target
  pub left : LeftSheet s f.target (left_place f.target s)
  pub place : ℕ
  pub source : LiveAt (left_place f.target s).slots p.source.0 place
  pub same : slot_at (left_place f.target s).slots place ≡ slot_at s.slots f.source
  pub whole : started_empty s p ≡ placed p.target.0 p.map.0 (replicate (volume_grains s.slots p.target.0) false) place (left_place f.target s)

pub started_is : (s : Sheet) (p : Pair) → Holds s.births s.slots Nobody Nobody → (f : FitsPair s.slots p) → p.target.0 ≢ p.source.0 → Started s p f
started_is s p h f ne =
    let grains : ℕ = volume_grains s.slots p.target.0 in
    let tl = live_place_at s.slots p.target.0 f.target f.target_there in
    let sl = live_place_at s.slots p.source.0 f.source f.source_there in
    let t : Sheet = left_place f.target s in
    let lf = left_is s f.target h tl.there tl.is_live in
    let apart : f.source ≢ f.target = λ e. ne (sym tl.of_volume ∙ (ap (λ z. (slot_at s.slots z).volume) (sym e) ∙ sl.of_volume)) in
    let x = lf.1.stays f.source sl.there apart in
    let at_x : LiveAt t.slots p.source.0 x.0 = record { there = x.1; is_live = ap (λ (z : Slot). z.is_live) x.2 ∙ sl.is_live; of_volume = ap (λ (z : Slot). z.volume) x.2 ∙ sl.of_volume } in
    let found : live_place t.slots p.source.0 ≡ Some x.0 = live_place_is t.slots p.source.0 x.0 lf.1.holds.one_live at_x in
    record {
      target = tl;
      left = lf;
      place = x.0;
      source = at_x;
      same = x.2;
      whole = ap (λ o. at_place (placed p.target.0 p.map.0 (replicate grains false)) (live_place (at_place left_place o s).slots p.source.0) (at_place left_place o s)) f.target_there
          ∙ ap (λ o. at_place (placed p.target.0 p.map.0 (replicate grains false)) o t) found;
    }

pub started_placed : (s : Sheet) (p : Pair) → Holds s.births s.slots Nobody Nobody → FitsPair s.slots p → p.target.0 ≢ p.source.0 → Placed s p (started_empty s p)
started_placed s p h f ne =
    let grains : ℕ = volume_grains s.slots p.target.0 in
    let i = started_is s p h f ne in
    let gs : grains ≡ length (slot_at s.slots f.target).held = ap (grains_at s.slots) f.target_there in
    subst (λ (z : Sheet). Placed s p z) (sym i.whole)
    (place_new s (left_place f.target s) p f.target i.place grains i.left i.target.of_volume i.source.there i.source.is_live f.no_slot_yet
    (ap (λ (z : Slot). length z.held) i.same ∙ (f.as_large ∙ sym gs))
    (λ j jl e. h.sizes.of_volume j f.target jl i.target.there (e ∙ sym i.target.of_volume) ∙ sym gs))

-- ---- all pairs

pub record Apart (p q : Pair) : Type 0 where
  pub maps : p.map.0 ≢ q.map.0
  pub targets : p.target.0 ≢ q.target.0
  pub source : p.target.0 ≢ q.source.0

fits_later : (s t : Sheet) (p q : Pair) → Placed s p t → Apart p q → FitsPair s.slots q → FitsPair t.slots q
fits_later s t p q pl a f =
    let tl = live_place_at s.slots q.target.0 f.target f.target_there in
    let sl = live_place_at s.slots q.source.0 f.source f.source_there in
    let x = pl.stays f.source sl.there sl.is_live (λ e. a.source (sym e ∙ sl.of_volume)) in
    let y = pl.stays f.target tl.there tl.is_live (λ e. a.targets (sym e ∙ tl.of_volume)) in
    record {
      source = x.0;
      target = y.0;
      source_there = live_place_is t.slots q.source.0 x.0 pl.holds.one_live (record { there = x.1; is_live = ap (λ (z : Slot). z.is_live) x.2 ∙ sl.is_live; of_volume = ap (λ (z : Slot). z.volume) x.2 ∙ sl.of_volume });
      target_there = live_place_is t.slots q.target.0 y.0 pl.holds.one_live (record { there = y.1; is_live = ap (λ (z : Slot). z.is_live) y.2 ∙ tl.is_live; of_volume = ap (λ (z : Slot). z.volume) y.2 ∙ tl.of_volume });
      as_large = ap (λ (z : Slot). length z.held) x.2 ∙ (f.as_large ∙ ap (λ (z : Slot). length z.held) (sym y.2));
      complete = ap is_complete y.2 ∙ f.complete;
      no_slot_yet = no_mapping_place t.slots q.map.0 (λ k kl e. elim (pl.comes k q.map.0 kl e) [ inl same ↦ a.maps (sym same) | inr c ↦ mapping_place_none s.slots q.map.0 f.no_slot_yet c.0 c.1 c.2 ]);
    }

abbrev pub AllFit : Sheet → List Pair → Type 0
AllFit s [] = Unit {0}
AllFit s (p ∷ ps) = FitsPair s.slots p × (p.target.0 ≢ p.source.0) × AllFit s ps

abbrev pub ApartFrom : Pair → List Pair → Type 0
ApartFrom p [] = Unit {0}
ApartFrom p (q ∷ qs) = Apart p q × ApartFrom p qs

abbrev pub AllApart : List Pair → Type 0
AllApart [] = Unit {0}
AllApart (p ∷ ps) = ApartFrom p ps × AllApart ps

pub all_later : (s t : Sheet) (p : Pair) (qs : List Pair) → Placed s p t → ApartFrom p qs → AllFit s qs → AllFit t qs
all_later s t p [] pl a f = tt
all_later s t p (q ∷ qs) pl a f = (fits_later s t p q pl a.0 f.0, f.1, all_later s t p qs pl a.1 f.2)

abbrev pub HoldsSheet : Sheet → Type 0
HoldsSheet s = Holds s.births s.slots Nobody Nobody

triggered_holds : (pairs : List Pair) (s : Sheet) → HoldsSheet s → AllFit s pairs → AllApart pairs → HoldsSheet (triggered pairs s)
triggered_holds [] s h f a = h
triggered_holds (p ∷ ps) s h f a =
    let pl = started_placed s p h f.0 f.1 in
    triggered_holds ps (started_empty s p) pl.holds (all_later s (started_empty s p) p ps pl a.0 f.2) a.1

-- from the words of the fit to the two lists
later_contains : (p q : Pair) (ps : List Pair) → Contains ps q → Contains (p ∷ ps) q
later_contains p q ps (k, lt, e) = (suc k, omega arith, e)

first_contains : (p : Pair) (ps : List Pair) → Contains (p ∷ ps) p
first_contains p ps = (zero, omega arith, refl)

pub all_fit : (s : Sheet) (pairs : List Pair) → ((p : Pair) → Contains pairs p → FitsPair s.slots p) → ((p q : Pair) → Contains pairs p → Contains pairs q → p.target.0 ≢ q.source.0) → AllFit s pairs
all_fit s [] f a = tt
all_fit s (p ∷ ps) f a = (
  f p (first_contains p ps),
  a p p (first_contains p ps) (first_contains p ps),
  all_fit s ps (λ q c. f q (later_contains p q ps c)) (λ q r c d. a q r (later_contains p q ps c) (later_contains p r ps d)),
)

apart_from : (p : Pair) (ps : List Pair) → ((i : ℕ) (d : Pair) → i < length ps → p.map.0 ≢ (slice_index_or ps i d).map.0) → ((i : ℕ) (d : Pair) → i < length ps → p.target.0 ≢ (slice_index_or ps i d).target.0) →
    ((q : Pair) → Contains ps q → p.target.0 ≢ q.source.0) → ApartFrom p ps
apart_from p [] m t a = tt
apart_from p (q ∷ qs) m t a = (
  record { maps = m 0 q (omega arith); targets = t 0 q (omega arith); source = a q (first_contains q qs) },
  apart_from p qs (λ i d il. m (suc i) d (omega arith)) (λ i d il. t (suc i) d (omega arith)) (λ r c. a r (later_contains q r qs c)),
)

pub all_apart : (pairs : List Pair) → ((i j : ℕ) (d : Pair) → i < length pairs → j < length pairs → (slice_index_or pairs i d).map.0 ≡ (slice_index_or pairs j d).map.0 → i ≡ j) →
    ((i j : ℕ) (d : Pair) → i < length pairs → j < length pairs → (slice_index_or pairs i d).target.0 ≡ (slice_index_or pairs j d).target.0 → i ≡ j) →
    ((p q : Pair) → Contains pairs p → Contains pairs q → p.target.0 ≢ q.source.0) → AllApart pairs
all_apart [] m t a = tt
all_apart (p ∷ ps) m t a = (
  apart_from p ps
      (λ i d il e. let q : 0 ≡ suc i = m 0 (suc i) d (omega arith) (omega arith) e in omega arith)
      (λ i d il e. let q : 0 ≡ suc i = t 0 (suc i) d (omega arith) (omega arith) e in omega arith)
      (λ q c. a p q (first_contains p ps) (later_contains p q ps c)),
  all_apart ps
      (λ i j d il jl e. let q : suc i ≡ suc j = m (suc i) (suc j) d (omega arith) (omega arith) e in omega arith)
      (λ i j d il jl e. let q : suc i ≡ suc j = t (suc i) (suc j) d (omega arith) (omega arith) e in omega arith)
      (λ q r c d. a q r (later_contains p q ps c) (later_contains p r ps d)),
)

pub triggered_sound : (s : Sheet) (pairs : List Pair) → IsSound s → FitsTrigger s pairs → IsSound (triggered pairs s)
triggered_sound s pairs i f =
    sound_from (triggered pairs s).births (triggered pairs s).slots
    (triggered_holds pairs s (holds_from s i) (all_fit s pairs f.each f.apart) (all_apart pairs f.maps f.targets f.apart)) f.no_loop
