-- Chains where slots that held nothing hold something: all that stood still stands.
use Rattle.std.proofs.Common.{◌≡◌, ℕ, ◌+◌, ◌<◌, Bool, true, false, eqb, ◌&&◌, List, length, get_or, replicate, Some, None, refl, sym, ap, subst, ◌∙◌, arith, ◌⊎◌, inl, inr}
use Rattle.std.specs.Prelude.{IsSome}
use Rattle.std.specs.List.{list_all}
use Rattle.std.proofs.lemmas.Bool.{both_ways, and_parts, and_from}
use Rattle.fc_base.specs.Column.{last_below, holder}
use Rattle.fc_base.specs.Need.{is_complete}
use Rattle.fc_base.specs.Sheet.{Slot, Sheet, slot_at, live_place, mapping_place}
use Rattle.fc_base.specs.SheetFacts.{HasAllHolders, IsSound}
use Rattle.fc_base.specs.Tables.{volume_with}
use Rattle.fc_base.specs.declared.state.MapState.{MapState}
use Rattle.fc_base.specs.declared.state.MapState.TheVariants.{Copying, Stopping}
use Rattle.fc_base.specs.declared.volume.Mapping.{Mapping}
use Rattle.fc_books.specs.Books.{Books}
use Rattle.fc_books.specs.Sound.{Agree, SlotByState}
use Rattle.fc_legal.specs.Stands.{AreFirst}
use Rattle.fc_pictures.proofs.Slots.{Stay, none_held, live_stay, mapping_stay, stay_sound}
use Rattle.fc_moves.proofs.Search.{cases_option, last_none, last_some}

-- ---- slots

-- As it was, or it is a mapping's that held nothing.
pub record IsFuller (old new : Slot) : Type 0 where
  pub birth : new.birth ≡ old.birth
  pub chain : new.chain ≡ old.chain
  pub volume : new.volume ≡ old.volume
  pub is_live : new.is_live ≡ old.is_live
  pub mapping : new.mapping ≡ old.mapping
  pub size : length new.held ≡ length old.held
  pub held : (new.held ≡ old.held) ⊎ ((m : ℕ) × (old.mapping ≡ Some m) × (old.held ≡ replicate (length old.held) false))

pub fuller_same : (t : Slot) → IsFuller t t
fuller_same t = record { birth = refl; chain = refl; volume = refl; is_live = refl; mapping = refl; size = refl; held = inl refl }

-- All slots, each at its place.
pub record AreFuller (old new : Sheet) : Type 0 where
  pub births : new.births ≡ old.births
  pub count : length new.slots ≡ length old.slots
  pub each : (k : ℕ) → IsFuller (slot_at old.slots k) (slot_at new.slots k)

pub all_same : (s : Sheet) → AreFuller s s
all_same s = record { births = refl; count = refl; each = λ k. fuller_same (slot_at s.slots k) }

-- ---- what it holds

still_held : (old new : Slot) (g : ℕ) → IsFuller old new → get_or old.held g false ≡ true → get_or new.held g false ≡ true
still_held old new g f e = elim f.held [
  | inl same ↦ ap (λ (h : List Bool). get_or h g false) same ∙ e
  | inr blank ↦ absurd (both_ways _ (none_held (length old.held) g) (ap (λ (h : List Bool). get_or h g false) (sym blank.2) ∙ e))
]

still_complete : (old new : Slot) → IsFuller old new → old.mapping ≡ None → is_complete old ≡ true → is_complete new ≡ true
still_complete old new f none full = elim f.held [
  | inl same ↦ ap (list_all (λ b. b)) same ∙ full
  | inr blank ↦ absurd (let e : None ≡ Some blank.0 = sym none ∙ blank.1 in cc)
]

-- ---- the facts of chains

some_last : (test : ℕ → Bool) (n k : ℕ) → k < n → test k ≡ true → (h : ℕ) × (last_below test n ≡ Some h)
some_last test n k kl passes = elim (cases_option (last_below test n)) [
  | inl none ↦ absurd (both_ways (test k) (last_none test n none k kl) passes)
  | inr some ↦ some
]

module _ (s t : Sheet) (f : AreFuller s t) where
  stay : Stay s.slots t.slots
  stay =
      record {
        count = f.count;
        birth = λ k. (f.each k).birth;
        chain = λ k. (f.each k).chain;
        volume = λ k. (f.each k).volume;
        is_live = λ k. (f.each k).is_live;
        mapping = λ k. (f.each k).mapping;
        size = λ k. (f.each k).size;
      }

  pub same_live_place : (v : ℕ) → live_place t.slots v ≡ live_place s.slots v
  same_live_place v = live_stay s.slots t.slots stay v

  pub same_mapping_place : (m : ℕ) → mapping_place t.slots m ≡ mapping_place s.slots m
  same_mapping_place m = mapping_stay s.slots t.slots stay m

  holders : HasAllHolders s.slots → HasAllHolders t.slots
  unfolding holder
  holders n g k kl live gl =
      let c = f.count in
      let size = (f.each k).size in
      let h = n g k (omega (arith, kl, c)) (sym (f.each k).is_live ∙ live) (omega (arith, gl, size)) in
      let last = last_some (λ j. eqb (slot_at s.slots j).chain (slot_at s.slots k).chain && get_or (slot_at s.slots j).held g false) (k + 1) h.0 h.1 in
      let parts = and_parts (eqb (slot_at s.slots h.0).chain (slot_at s.slots k).chain) (get_or (slot_at s.slots h.0).held g false) last.passes in
      some_last (λ j. eqb (slot_at t.slots j).chain (slot_at t.slots k).chain && get_or (slot_at t.slots j).held g false) (k + 1) h.0 last.below
      (and_from (eqb (slot_at t.slots h.0).chain (slot_at t.slots k).chain) (get_or (slot_at t.slots h.0).held g false)
      ((λ i. eqb ((f.each h.0).chain i) ((f.each k).chain i)) ∙ parts.0)
      (still_held (slot_at s.slots h.0) (slot_at t.slots h.0) g (f.each h.0) parts.1))

  pub fuller_sound : IsSound s → IsSound t
  fuller_sound i =
      subst (λ (b : ℕ). IsSound record { births = b; slots = t.slots }) (sym f.births)
      (stay_sound s.births s.slots t.slots stay i
      (λ k kl live none. still_complete (slot_at s.slots k) (slot_at t.slots k) (f.each k) none (i.mappings.complete k kl live none))
      (holders i.holders))

  pub fuller_firsts : AreFirst s.slots → AreFirst t.slots
  fuller_firsts n j k jl kl live none chain =
      let c = f.count in
      n j k (omega (arith, jl, c)) (omega (arith, kl, c)) (sym (f.each k).is_live ∙ live) (sym (f.each k).mapping ∙ none) (sym (f.each j).chain ∙ chain ∙ (f.each k).chain)

  -- ---- they agree with the tables

  slot_by_state : (state : MapState) (m : Mapping) → SlotByState state s.slots m → SlotByState state t.slots m
  slot_by_state Copying m by =
      record { place = by.place; is_there = same_mapping_place m.id.0 ∙ by.is_there; of_target = (f.each by.place).volume ∙ by.of_target; liveness = (f.each by.place).is_live ∙ by.liveness }
  slot_by_state Stopping m by =
      record { place = by.place; is_there = same_mapping_place m.id.0 ∙ by.is_there; of_target = (f.each by.place).volume ∙ by.of_target; liveness = (f.each by.place).is_live ∙ by.liveness }
  slot_by_state state m by = same_mapping_place m.id.0 ∙ by

  pub fuller_agree : (b : Books) → Agree (record b { sheet = s }) → Agree (record b { sheet = t })
  fuller_agree b a =
      let c = f.count in
      record {
        volumes = λ v found. let l = a.volumes v found in (l.0, same_live_place v.id.0 ∙ l.1, (f.each l.0).size ∙ l.2);
        slots = λ k kl. subst (λ (v : ℕ). IsSome (volume_with b.tables record { 0 = v })) (sym (f.each k).volume) (a.slots k (omega (arith, kl, c)));
        owned = λ k kl n e. a.owned k (omega (arith, kl, c)) n (sym (f.each k).mapping ∙ e);
        mappings = a.mappings;
        by_state = λ m found. slot_by_state m.state m (a.by_state m found);
        one_busy = a.one_busy;
      }
