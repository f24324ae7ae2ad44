-- A live slot that held nothing begins with a set of grains: the chains stay sound, and show what they showed where its volume's
-- own grains are what it shows.
use Rattle.std.proofs.Common.{◌≡◌, ◌≢◌, ℕ, ◌<◌, ◌≤◌, Bool, true, false, Some, None, IsSome, List, length, get_or, set, replicate, refl, sym, ap, subst, ◌∙◌, arith, ◌⊎◌, inl, inr}
use Rattle.std.proofs.lemmas.Bool.{both_ways, cases_eq, cases_lt, cases_Bool, false_from_ne_true}
use Rattle.std.proofs.lemmas.List.{length-set, get_or-set_same, get_or-set_other}
use Rattle.fc_base.specs.Need.{is_complete}
use Rattle.fc_base.specs.Sheet.{Slot, Sheet, no_slot, slot_at, column}
use Rattle.fc_base.specs.SheetFacts.{HasAllHolders, IsSound}
use Rattle.fc_books.specs.After.{of_length, holding}
use Rattle.fc_entry.specs.Picture.{Picture, volume_in, content_at, now_at}
use Rattle.fc_pictures.proofs.Volumes.{id_of}
use Rattle.fc_pictures.specs.Law.{now_of}
use Rattle.fc_rules.specs.Shows.{Stored, Shows}
use Rattle.fc_moves.proofs.Readers.{IsHolder, holder_is, is_holder, holder_from, holder_between}
use Rattle.fc_alike.proofs.Sets.{length_of}
use Rattle.fc_pictures.proofs.Slots.{Stay, none_held, live_stay, below_stay, stay_sound}

-- All slots stay but for what the one at `k` holds, and it holds more.
pub record Begins (old new : List Slot) (k : ℕ) : Type 0 where
  pub stay : Stay old new
  pub other : (j : ℕ) → j ≢ k → slot_at new j ≡ slot_at old j
  pub more : (g : ℕ) → get_or (slot_at old k).held g false ≡ true → get_or (slot_at new k).held g false ≡ true

abbrev with_set : Slot → List Bool → Slot
with_set t grains = record t { held = of_length (length t.held) grains }

set_here : (slots : List Slot) (k : ℕ) (t : Slot) → k < length slots → slot_at (set slots k t) k ≡ t
set_here slots k t kl = get_or-set_same slots k t no_slot kl

pub begins_at : (s : Sheet) (k : ℕ) (grains : List Bool) → k < length s.slots → slot_at (holding grains k s).slots k ≡ with_set (slot_at s.slots k) grains
begins_at s k grains kl = set_here s.slots k (with_set (slot_at s.slots k) grains) kl

pub begins_other : (s : Sheet) (k j : ℕ) (grains : List Bool) → j ≢ k → slot_at (holding grains k s).slots j ≡ slot_at s.slots j
begins_other s k j grains ne = get_or-set_other s.slots k j (with_set (slot_at s.slots k) grains) no_slot ne

-- a fact of each slot that it keeps with the set
kept_field : {X : Type 0} (f : Slot → X) (s : Sheet) (k : ℕ) (grains : List Bool) → k < length s.slots → f (with_set (slot_at s.slots k) grains) ≡ f (slot_at s.slots k) → (j : ℕ) →
    f (slot_at (holding grains k s).slots j) ≡ f (slot_at s.slots j)
kept_field f s k grains kl same j =
    elim (cases_eq j k) [
      | inl e ↦ ap (λ z. f (slot_at (holding grains k s).slots z)) e ∙ ap f (begins_at s k grains kl) ∙ same ∙ ap (λ z. f (slot_at s.slots z)) (sym e)
      | inr ne ↦ ap f (begins_other s k j grains ne)
    ]

pub holding_stay : (s : Sheet) (k : ℕ) (grains : List Bool) → k < length s.slots → Stay s.slots (holding grains k s).slots
holding_stay s k grains kl =
    record {
      count = length-set s.slots k (with_set (slot_at s.slots k) grains);
      birth = kept_field (λ (t : Slot). t.birth) s k grains kl refl;
      chain = kept_field (λ (t : Slot). t.chain) s k grains kl refl;
      volume = kept_field (λ (t : Slot). t.volume) s k grains kl refl;
      is_live = kept_field (λ (t : Slot). t.is_live) s k grains kl refl;
      mapping = kept_field (λ (t : Slot). t.mapping) s k grains kl refl;
      size = kept_field (λ (t : Slot). length t.held) s k grains kl (length_of (length (slot_at s.slots k).held) grains);
    }

pub holding_begins : (s : Sheet) (k n : ℕ) (grains : List Bool) → k < length s.slots → (slot_at s.slots k).held ≡ replicate n false → Begins s.slots (holding grains k s).slots k
holding_begins s k n grains kl nothing =
    record {
      stay = holding_stay s k grains kl;
      other = λ j ne. begins_other s k j grains ne;
      more = λ g t. absurd (both_ways (get_or (slot_at s.slots k).held g false) (ap (λ z. get_or z g false) nothing ∙ none_held n g) t);
    }

-- ---- holders

grows : (old new : List Slot) (k : ℕ) → Begins old new k → (g j : ℕ) → get_or (slot_at old j).held g false ≡ true → get_or (slot_at new j).held g false ≡ true
grows old new k b g j t =
    elim (cases_eq j k) [
      | inl e ↦ subst (λ (z : ℕ). get_or (slot_at old z).held g false ≡ true → get_or (slot_at new z).held g false ≡ true) (sym e) (b.more g) t
      | inr ne ↦ ap (λ (z : Slot). get_or z.held g false) (b.other j ne) ∙ t
    ]

all_holders : (old new : List Slot) (k : ℕ) → Begins old new k → HasAllHolders old → HasAllHolders new
all_holders old new k b holders g j jl l gl =
    let s = b.stay in
    let o = holders g j (below_stay old new s j jl) (sym (s.is_live j) ∙ l) (let z = s.size j in omega (arith, z, gl)) in
    let i = holder_is (column old g) j o.0 o.1 in
    let h = holder_from (column new g) j o.0 i.before (s.chain o.0 ∙ i.one_chain ∙ sym (s.chain j)) (grows old new k b g o.0 i.holds) in
    (h.0, is_holder (column new g) j h.0 h.2)

pub begins_sound : (s : Sheet) (k m : ℕ) (new : List Slot) → Begins s.slots new k → IsSound s → (slot_at s.slots k).mapping ≡ Some m → IsSound record { births = s.births; slots = new }
begins_sound s k m new b i owned =
    stay_sound s.births s.slots new b.stay i
    (λ j jl l none. elim (cases_eq j k) [
      | inl e ↦ absurd (let f : Some m ≡ None = sym owned ∙ ap (λ z. (slot_at s.slots z).mapping) (sym e) ∙ none in cc)
      | inr ne ↦ ap is_complete (b.other j ne) ∙ i.mappings.complete j jl l none
    ])
    (all_holders s.slots new k b i.holders)

-- the holder of a slot is the one that it had, or the slot that began, which had the same holder
abbrev TakesOver : List Slot → ℕ → ℕ → ℕ → ℕ → Type 0
TakesOver old k g j h = (h ≡ k) × ((o : ℕ) → IsHolder (column old g) j o → IsHolder (column old g) k o)

holder_begun : (old new : List Slot) (k g j h : ℕ) → Begins old new k → IsHolder (column new g) j h → IsHolder (column old g) j h ⊎ TakesOver old k g j h
holder_begun old new k g j h b i =
    let s = b.stay in
    let one : (slot_at old h).chain ≡ (slot_at old j).chain = sym (s.chain h) ∙ i.one_chain ∙ s.chain j in
    elim (cases_Bool (get_or (slot_at old h).held g false)) [
      | inl t ↦ inl (record { before = i.before; one_chain = one; holds = t; nearest = λ y hy yj q u. i.nearest y hy yj (s.chain y ∙ q ∙ sym (s.chain j)) (grows old new k b g y u) })
      | inr f ↦ elim (cases_eq h k) [
        | inr ne ↦ absurd (both_ways (get_or (slot_at old h).held g false) f (ap (λ (z : Slot). get_or z.held g false) (sym (b.other h ne)) ∙ i.holds))
        | inl e ↦ inr (
          e,
          λ o io. elim (cases_lt h o) [
            | inl lt ↦ absurd (i.nearest o lt io.before (s.chain o ∙ io.one_chain ∙ sym (s.chain j)) (grows old new k b g o io.holds))
            | inr le ↦ subst (λ (z : ℕ). IsHolder (column old g) z o) e (holder_between (column old g) j o h io le i.before one)
          ],
        )
      ]
    ]

-- ---- what is shown

-- where the slot holds a grain, its volume's own grain is what the volume shows
abbrev pub OwnIsShown : List Slot → ℕ → Picture → Stored → Type 0
OwnIsShown new k picture stored =
    (g : ℕ) → get_or (slot_at new k).held g false ≡ true → stored (slot_at new k).volume g ≡ now_of picture (slot_at new k).volume g

pub begins_shows : (s : Sheet) (new : List Slot) (k : ℕ) (picture : Picture) (stored : Stored) → IsSound s → Begins s.slots new k → k < length s.slots → (slot_at s.slots k).is_live ≡ true →
    OwnIsShown new k picture stored → Shows s.slots picture stored → Shows new picture stored
begins_shows s new k picture stored sound b kl live own w =
    let old : List Slot = s.slots in
    let t = b.stay in
    let shown_k = w.each k kl live in
    record {
      apart = w.apart;
      only = λ p c. subst IsSome (sym (live_stay old new t p.volume.0)) (w.only p c);
      each = λ j jl l.
          let jo : j < length old = below_stay old new t j jl in
          let jv : (slot_at old j).is_live ≡ true = sym (t.is_live j) ∙ l in
          let x = w.each j jo jv in
          record {
            plain = x.plain;
            there = ap (λ z. volume_in picture (id_of z)) (t.volume j) ∙ x.there;
            nows = x.nows ∙ sym (t.size j);
            unders = x.unders ∙ sym (t.size j);
            under = λ g gl e. x.under g (let z = t.size j in omega (arith, z, gl)) (false_from_ne_true (get_or (slot_at old j).held g false) (λ u. both_ways (get_or (slot_at new j).held g false) e (grows old new k b g j u)))
                ∙ ap (λ z. stored z g) (sym (t.volume j));
            now = λ g h gl e.
                let go : g < length (slot_at old j).held = (let z = t.size j in omega (arith, z, gl)) in
                let i : IsHolder (column new g) j h = holder_is (column new g) j h e in
                elim (holder_begun old new k g j h b i) [
                  | inl same ↦ x.now g h go (is_holder (column old g) j h same) ∙ ap (λ z. stored z g) (sym (t.volume h))
                  | inr over ↦
                      let o = sound.holders g j jo jv go in
                      let hk : h ≡ k = over.0 in
                      let hj : h ≤ j = i.before in
                      let size : length (slot_at old h).held ≡ length (slot_at old j).held = sound.sizes.of_chain h j (omega (arith, hj, jo)) jo (sym (t.chain h) ∙ i.one_chain ∙ t.chain j) in
                      let gk : g < length (slot_at old k).held = subst (λ (z : ℕ). g < length (slot_at old z).held) hk (omega (arith, size, go)) in
                      let holds : get_or (slot_at new k).held g false ≡ true = subst (λ (z : ℕ). get_or (slot_at new z).held g false ≡ true) hk i.holds in
                      let at_k : now_of picture (slot_at new k).volume g ≡ content_at shown_k.plain.now g =
                      ap (λ z. now_of picture z g) (t.volume k) ∙ ap (λ o. now_at o g) shown_k.there in
                      x.now g o.0 go o.1
                      ∙ sym (shown_k.now g o.0 gk (is_holder (column old g) k o.0 (over.1 o.0 (holder_is (column old g) j o.0 o.1))))
                      ∙ sym at_k ∙ sym (own g holds) ∙ ap (λ z. stored (slot_at new z).volume g) (sym hk)
                ];
          };
    }
