-- One slot taken out, put in, made old or split off, on a sheet whose facts hold up to what is under way.
use Rattle.std.proofs.Common.{◌≡◌, ◌≢◌, ℕ, ◌+◌, ◌<◌, true, false, Some, List, length, get_or, set, remove, refl, sym, ap, subst, ◌∙◌, arith, ◌⊎◌, inl, inr}
use Rattle.std.proofs.lemmas.Bool.{both_ways, cases_eq}
use Rattle.fc_base.specs.Sheet.{Slot, Sheet, slot_at, shape_of, column}
use Rattle.fc_base.specs.SheetFacts.{HasNames, HasSizes, HasMappings, IsSound}
use Rattle.fc_base.specs.RestoreGraph.{HasOneLive, HasNoLoop}
use Rattle.fc_moves.proofs.Readers.{IsHolder, holder_is, is_holder}
use Rattle.fc_sheets.proofs.Places.{up, up_in, up_apart, down, removed_at, big_at, remove_is, push_is, push_here}
use Rattle.fc_sheets.proofs.Removing.{HeldFor, held_for, held_small, held_big, names_small, sizes_small, mappings_small, one_live_small}
use Rattle.fc_sheets.proofs.Aging.{age, aged_is, aged_here, aged_other, names_aged, sizes_aged, mappings_aged, one_live_aged, held_aged, alone, with_alone, full_at, length_full, names_alone, sizes_alone, mappings_alone, one_live_alone}

-- The facts but those on loops. Of some volumes no live slot may be there, and the slots of some mappings may have no holder.
pub record Holds (b : ℕ) (slots : List Slot) (orphan loose : ℕ → Type 0) : Type 0 where
  pub names : HasNames (record { births = b; slots = slots })
  pub sizes : HasSizes slots
  pub mappings : HasMappings slots
  pub one_live : HasOneLive (shape_of slots)
  pub lives : (k : ℕ) → k < length slots → ((j : ℕ) × (j < length slots) × ((slot_at slots j).is_live ≡ true) × ((slot_at slots j).volume ≡ (slot_at slots k).volume)) ⊎ orphan (slot_at slots k).volume
  pub holders : (g k : ℕ) → k < length slots → (slot_at slots k).is_live ≡ true → g < length (slot_at slots k).held → HeldFor slots g k ⊎ ((m : ℕ) × ((slot_at slots k).mapping ≡ Some m) × loose m)

abbrev pub Nobody : ℕ → Type 0
Nobody x = ⊥

abbrev pub Only : ℕ → ℕ → Type 0
Only v x = x ≡ v

pub holds_from : (s : Sheet) → IsSound s → Holds s.births s.slots Nobody Nobody
holds_from s i =
    record {
      names = i.names;
      sizes = i.sizes;
      mappings = i.mappings;
      one_live = i.one_live;
      lives = λ k kl. inl (i.lives k kl);
      holders = λ g k kl l gl. let h = i.holders g k kl l gl in inl (h.0, holder_is (column s.slots g) k h.0 h.1);
    }

pub sound_from : (b : ℕ) (slots : List Slot) → Holds b slots Nobody Nobody → HasNoLoop (shape_of slots) → IsSound (record { births = b; slots = slots })
sound_from b slots h free =
    record {
      names = h.names;
      sizes = h.sizes;
      mappings = h.mappings;
      one_live = h.one_live;
      no_loop = free;
      lives = λ k kl. elim (h.lives k kl) [ inl x ↦ x | inr n ↦ absurd n ];
      holders = λ g k kl l gl. elim (h.holders g k kl l gl) [ inl x ↦ (x.0, is_holder (column slots g) k x.0 x.1) | inr n ↦ absurd n.2 ];
    }

pub holds_more : (b : ℕ) (slots : List Slot) (o p l m : ℕ → Type 0) → ((x : ℕ) → o x → p x) → ((x : ℕ) → l x → m x) → Holds b slots o l → Holds b slots p m
holds_more b slots o p l m f g h =
    record {
      names = h.names;
      sizes = h.sizes;
      mappings = h.mappings;
      one_live = h.one_live;
      lives = λ k kl. elim (h.lives k kl) [ inl x ↦ inl x | inr n ↦ inr (f (slot_at slots k).volume n) ];
      holders = λ i k kl v il. elim (h.holders i k kl v il) [ inl x ↦ inl x | inr n ↦ inr (n.0, n.1, g n.0 n.2) ];
    }

-- ---- a slot is taken out, that is nobody's holder

-- whoever reads at `p` is `p` or of a loose mapping
abbrev pub NoReader : List Slot → ℕ → (ℕ → Type 0) → Type 0
NoReader slots p loose =
    (g k : ℕ) → k < length slots → (slot_at slots k).is_live ≡ true → IsHolder (column slots g) k p → (k ≡ p) ⊎ ((m : ℕ) × ((slot_at slots k).mapping ≡ Some m) × loose m)

pub without_live : (b : ℕ) (slots : List Slot) (loose : ℕ → Type 0) (p : ℕ) → Holds b slots Nobody loose → p < length slots → NoReader slots p loose →
    Holds b (remove slots p) (Only (slot_at slots p).volume) loose
without_live b slots loose p h pl free =
    let r = remove_is slots p pl in
    record {
      names = names_small b slots (remove slots p) p r h.names;
      sizes = sizes_small slots (remove slots p) p r h.sizes;
      mappings = mappings_small slots (remove slots p) p r h.mappings;
      one_live = one_live_small slots (remove slots p) p r h.one_live;
      lives = λ k kl. without_lives b slots loose p h pl k kl;
      holders = λ g k kl l gl. without_holders b slots loose p h pl free g k kl l gl;
    }
  where
    without_lives : (b : ℕ) (slots : List Slot) (loose : ℕ → Type 0) (p : ℕ) → Holds b slots Nobody loose → p < length slots → (k : ℕ) → k < length (remove slots p) →
        ((j : ℕ) × (j < length (remove slots p)) × ((slot_at (remove slots p) j).is_live ≡ true) × ((slot_at (remove slots p) j).volume ≡ (slot_at (remove slots p) k).volume)) ⊎ ((slot_at (remove slots p) k).volume ≡ (slot_at slots p).volume)
    without_lives b slots loose p h pl k kl =
        let r = remove_is slots p pl in
        let e = removed_at slots (remove slots p) p r k in
        elim (h.lives (up p k) (up_in slots (remove slots p) p r k kl)) [
          | inr n ↦ absurd n
          | inl x ↦ elim (down slots (remove slots p) p r x.0 x.1) [
            | inl same ↦ inr (ap (λ (t : Slot). t.volume) e ∙ (sym x.3 ∙ ap (λ z. (slot_at slots z).volume) same))
            | inr d ↦ let a = big_at slots (remove slots p) p r d.0 x.0 d.2 in
                inl (d.0, d.1, ap (λ (t : Slot). t.is_live) (sym a) ∙ x.2, ap (λ (t : Slot). t.volume) (sym a) ∙ (x.3 ∙ ap (λ (t : Slot). t.volume) (sym e)))
          ]
        ]

    without_holders : (b : ℕ) (slots : List Slot) (loose : ℕ → Type 0) (p : ℕ) → Holds b slots Nobody loose → p < length slots → NoReader slots p loose → (g k : ℕ) → k < length (remove slots p) →
        (slot_at (remove slots p) k).is_live ≡ true → g < length (slot_at (remove slots p) k).held → HeldFor (remove slots p) g k ⊎ ((m : ℕ) × ((slot_at (remove slots p) k).mapping ≡ Some m) × loose m)
    without_holders b slots loose p h pl free g k kl l gl =
        let r = remove_is slots p pl in
        let e = removed_at slots (remove slots p) p r k in
        let kb : up p k < length slots = up_in slots (remove slots p) p r k kl in
        let live : (slot_at slots (up p k)).is_live ≡ true = ap (λ (t : Slot). t.is_live) (sym e) ∙ l in
        let size : length (slot_at (remove slots p) k).held ≡ length (slot_at slots (up p k)).held = ap (λ (t : Slot). length t.held) e in
        elim (h.holders g (up p k) kb live (omega arith)) [
          | inr n ↦ inr (n.0, ap (λ (t : Slot). t.mapping) e ∙ n.1, n.2)
          | inl x ↦ elim (cases_eq x.0 p) [
            | inr ne ↦ inl (held_small slots (remove slots p) p r g k x.0 kl x.1 ne)
            | inl same ↦ elim (free g (up p k) kb live (subst (λ (z : ℕ). IsHolder (column slots g) (up p k) z) same x.1)) [
              | inl self ↦ absurd (up_apart p k self)
              | inr n ↦ inr (n.0, ap (λ (t : Slot). t.mapping) e ∙ n.1, n.2)
            ]
          ]
        ]

-- where the slot was old, its volume keeps its live slot
pub without_old : (b : ℕ) (slots : List Slot) (loose : ℕ → Type 0) (p : ℕ) → Holds b slots Nobody loose → p < length slots → (slot_at slots p).is_live ≡ false → NoReader slots p loose →
    Holds b (remove slots p) Nobody loose
without_old b slots loose p h pl old free =
    let w = without_live b slots loose p h pl free in
    let r = remove_is slots p pl in
    record {
      names = w.names;
      sizes = w.sizes;
      mappings = w.mappings;
      one_live = w.one_live;
      holders = w.holders;
      lives = λ k kl. elim (h.lives (up p k) (up_in slots (remove slots p) p r k kl)) [
        | inr n ↦ absurd n
        | inl x ↦ elim (down slots (remove slots p) p r x.0 x.1) [
          | inl same ↦ absurd (both_ways _ old (ap (λ z. (slot_at slots z).is_live) (sym same) ∙ x.2))
          | inr d ↦ let a = big_at slots (remove slots p) p r d.0 x.0 d.2 in
              inl (d.0, d.1, ap (λ (t : Slot). t.is_live) (sym a) ∙ x.2, ap (λ (t : Slot). t.volume) (sym a) ∙ (x.3 ∙ ap (λ (t : Slot). t.volume) (sym (removed_at slots (remove slots p) p r k))))
        ]
      ];
    }

-- no live slot of its volume is left where it was live
pub without_no_live : (slots : List Slot) (p : ℕ) → p < length slots → (slot_at slots p).is_live ≡ true → HasOneLive (shape_of slots) →
    (i : ℕ) → i < length (remove slots p) → (slot_at (remove slots p) i).is_live ≡ true → (slot_at (remove slots p) i).volume ≢ (slot_at slots p).volume
without_no_live slots p pl live one i il l v =
    let r = remove_is slots p pl in
    let e = removed_at slots (remove slots p) p r i in
    up_apart p i (one (up p i) p (up_in slots (remove slots p) p r i il) pl (ap (λ (t : Slot). t.is_live) (sym e) ∙ l) live (ap (λ (t : Slot). t.volume) (sym e) ∙ v))

-- ---- a live slot becomes old

pub aged_holds : (b : ℕ) (slots : List Slot) (loose : ℕ → Type 0) (p : ℕ) → Holds b slots Nobody loose → p < length slots →
    Holds b (set slots p (age (slot_at slots p))) (Only (slot_at slots p).volume) loose
aged_holds b slots loose p h pl =
    let a = aged_is slots p pl in
    let new : List Slot = set slots p (age (slot_at slots p)) in
    let c : length new ≡ length slots = a.count in
    record {
      names = names_aged b slots new a h.names;
      sizes = sizes_aged slots new a h.sizes;
      mappings = mappings_aged slots new a h.mappings;
      one_live = one_live_aged slots new a h.one_live;
      lives = λ k kl. elim (h.lives k (omega arith)) [
        | inr n ↦ absurd n
        | inl x ↦ elim (cases_eq x.0 p) [
          | inl same ↦ inr (a.volume k ∙ (sym x.3 ∙ ap (λ z. (slot_at slots z).volume) same))
          | inr ne ↦ inl (x.0, omega (arith, x.1), ap (λ (t : Slot). t.is_live) (aged_other slots p x.0 pl ne) ∙ x.2, a.volume x.0 ∙ (x.3 ∙ sym (a.volume k)))
        ]
      ];
      holders = λ g k kl l gl. elim (h.holders g k (omega arith) (a.live k l) (let q : length (slot_at new k).held ≡ length (slot_at slots k).held = ap length (a.held k) in omega arith)) [
        | inl x ↦ inl (held_aged slots new a g k x)
        | inr n ↦ inr (n.0, a.mapping k ∙ n.1, n.2)
      ];
    }

pub aged_no_live : (slots : List Slot) (p : ℕ) → p < length slots → (slot_at slots p).is_live ≡ true → HasOneLive (shape_of slots) →
    (i : ℕ) → i < length (set slots p (age (slot_at slots p))) → (slot_at (set slots p (age (slot_at slots p))) i).is_live ≡ true → (slot_at (set slots p (age (slot_at slots p))) i).volume ≢ (slot_at slots p).volume
aged_no_live slots p pl live one i il l v =
    let a = aged_is slots p pl in
    let c : length (set slots p (age (slot_at slots p))) ≡ length slots = a.count in
    let same : i ≡ p = one i p (omega arith) pl (a.live i l) live (sym (a.volume i) ∙ v) in
    both_ways _ (aged_here slots p pl) (ap (λ z. (slot_at (set slots p (age (slot_at slots p))) z).is_live) (sym same) ∙ l)

-- ---- a volume gets a chain of its own

pub alone_holds : (b : ℕ) (slots : List Slot) (loose : ℕ → Type 0) (v grains : ℕ) → Holds b slots (Only v) loose →
    ((i : ℕ) → i < length slots → (slot_at slots i).is_live ≡ true → (slot_at slots i).volume ≢ v) →
    ((i : ℕ) → i < length slots → (slot_at slots i).volume ≡ v → length (slot_at slots i).held ≡ grains) → Holds (b + 1) (with_alone slots b v grains) Nobody loose
alone_holds b slots loose v grains h apart size =
    let new : List Slot = with_alone slots b v grains in
    let r = push_is slots (alone b v grains) in
    let here : slot_at new (length slots) ≡ alone b v grains = push_here slots (alone b v grains) in
    record {
      names = names_alone b slots v grains h.names;
      sizes = sizes_alone b slots v grains h.names h.sizes size;
      mappings = mappings_alone b slots v grains h.mappings;
      one_live = one_live_alone b slots v grains h.one_live apart;
      lives = λ k kl. elim (down new slots (length slots) r k kl) [
        | inl same ↦ inl (k, kl, ap (λ z. (slot_at new z).is_live) same ∙ ap (λ (t : Slot). t.is_live) here, refl)
        | inr d ↦ let e = big_at new slots (length slots) r d.0 k d.2 in
            elim (h.lives d.0 d.1) [
              | inr orphan ↦ inl (length slots, r.there, ap (λ (t : Slot). t.is_live) here, ap (λ (t : Slot). t.volume) here ∙ (sym orphan ∙ ap (λ (t : Slot). t.volume) (sym e)))
              | inl x ↦ let f = removed_at new slots (length slots) r x.0 in
                  inl (up (length slots) x.0, up_in new slots (length slots) r x.0 x.1, ap (λ (t : Slot). t.is_live) (sym f) ∙ x.2, ap (λ (t : Slot). t.volume) (sym f) ∙ (x.3 ∙ ap (λ (t : Slot). t.volume) (sym e)))
            ]
      ];
      holders = λ g k kl l gl. elim (down new slots (length slots) r k kl) [
        | inl same ↦ inl (held_for new g k k (omega arith) refl
            (ap (λ z. get_or (slot_at new z).held g false) same ∙ (ap (λ (t : Slot). get_or t.held g false) here ∙ full_at grains g
            (let q : length (slot_at new k).held ≡ grains = ap (λ z. length (slot_at new z).held) same ∙ (ap (λ (t : Slot). length t.held) here ∙ length_full grains true) in omega arith))))
        | inr d ↦ let e = big_at new slots (length slots) r d.0 k d.2 in
            elim (h.holders g d.0 d.1 (ap (λ (t : Slot). t.is_live) (sym e) ∙ l) (let q : length (slot_at new k).held ≡ length (slot_at slots d.0).held = ap (λ (t : Slot). length t.held) e in omega arith)) [
              | inl x ↦ inl (subst (λ (z : ℕ). HeldFor new g z) d.2 (held_big new slots (length slots) r g d.0 x))
              | inr n ↦ inr (n.0, ap (λ (t : Slot). t.mapping) e ∙ n.1, n.2)
            ]
      ];
    }
