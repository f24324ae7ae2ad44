-- Which mapping's slot reads from which, as slots leave.
use Rattle.std.proofs.Common.{◌≡◌, ◌∙◌, sym, ap, subst, ℕ, ◌+◌, ◌<◌, ◌≤◌, Bool, true, false, Some, None, List, [], ◌∷◌, ◌++◌, length, set, get_or, inl, inr, arith}
use Rattle.fc_base.specs.Sheet.{Slot, slot_at, column}
use Rattle.fc_moves.proofs.Readers.{IsHolder, holder_from, one_holder}
use Rattle.fc_sheets.proofs.Aging.{Aged, age, aged_is, aged_here, aged_other}
use Rattle.fc_sheets.proofs.Forcing.{held_exact}
use Rattle.fc_sheets.proofs.Places.{Removed, up, le_up, up_in, down, removed_at, push_is, push_here}

-- The live slot of mapping `n` has the slot of mapping `m` as holder at some grain.
pub record Reads (slots : List Slot) (m n : ℕ) : Type 0 where
  pub from : ℕ
  pub reader : ℕ
  pub grain : ℕ
  pub there : reader < length slots
  pub from_is : (slot_at slots from).mapping ≡ Some m
  pub reader_is : (slot_at slots reader).mapping ≡ Some n
  pub live : (slot_at slots reader).is_live ≡ true
  pub holds : IsHolder (column slots grain) reader from

-- ---- a slot is taken out, or put in

-- nobody of mapping `n` reads from place `p`
abbrev pub Quiet : List Slot → ℕ → ℕ → Type 0
Quiet big p n = (g j : ℕ) → j < length big → (slot_at big j).is_live ≡ true → (slot_at big j).mapping ≡ Some n → IsHolder (column big g) j p → ⊥

pub reads_small : (big small : List Slot) (p m n : ℕ) → Removed big small p → ((slot_at big p).mapping ≡ Some m → ⊥) → ((slot_at big p).mapping ≡ Some n → ⊥) → Reads big m n → Reads small m n
reads_small big small p m n r not_m not_n x =
    let before : x.from ≤ x.reader = x.holds.before in
    let there : x.reader < length big = x.there in
    elim (down big small p r x.reader x.there) [
      | inl same ↦ absurd (not_n (let P : ℕ → Type 0 = λ z. (slot_at big z).mapping ≡ Some n in subst P same x.reader_is))
      | inr i ↦ elim (down big small p r x.from (omega (arith, before, there))) [
        | inl same ↦ absurd (not_m (let P : ℕ → Type 0 = λ z. (slot_at big z).mapping ≡ Some m in subst P same x.from_is))
        | inr h ↦ record {
          from = h.0;
          reader = i.0;
          grain = x.grain;
          there = i.1;
          from_is = ap (λ (t : Slot). t.mapping) (removed_at big small p r h.0) ∙ (ap (λ z. (slot_at big z).mapping) h.2 ∙ x.from_is);
          reader_is = ap (λ (t : Slot). t.mapping) (removed_at big small p r i.0) ∙ (ap (λ z. (slot_at big z).mapping) i.2 ∙ x.reader_is);
          live = ap (λ (t : Slot). t.is_live) (removed_at big small p r i.0) ∙ (ap (λ z. (slot_at big z).is_live) i.2 ∙ x.live);
          holds = held_exact big small p r x.grain i.0 h.0
              (let P : ℕ → Type 0 = λ z. IsHolder (column big x.grain) z (up p h.0) in subst P (sym i.2)
              (let Q : ℕ → Type 0 = λ z. IsHolder (column big x.grain) x.reader z in subst Q (sym h.2) x.holds));
        }
      ]
    ]

pub reads_big : (big small : List Slot) (p m n : ℕ) → Removed big small p → Quiet big p n → Reads small m n → Reads big m n
reads_big big small p m n r quiet x =
    let e = removed_at big small p r x.reader in
    let a = removed_at big small p r x.from in
    let there : up p x.reader < length big = up_in big small p r x.reader x.there in
    let live : (slot_at big (up p x.reader)).is_live ≡ true = ap (λ (t : Slot). t.is_live) (sym e) ∙ x.live in
    let named : (slot_at big (up p x.reader)).mapping ≡ Some n = ap (λ (t : Slot). t.mapping) (sym e) ∙ x.reader_is in
    let h = holder_from (column big x.grain) (up p x.reader) (up p x.from) (le_up p x.from x.reader x.holds.before)
    (ap (λ (t : Slot). t.chain) (sym a) ∙ (x.holds.one_chain ∙ ap (λ (t : Slot). t.chain) e)) (ap (λ (t : Slot). get_or t.held x.grain false) (sym a) ∙ x.holds.holds) in
    let before : h.0 ≤ up p x.reader = h.2.before in
    elim (down big small p r h.0 (omega (arith, before, there))) [
      | inl same ↦ absurd (quiet x.grain (up p x.reader) there live named (let P : ℕ → Type 0 = λ z. IsHolder (column big x.grain) (up p x.reader) z in subst P same h.2))
      | inr y ↦
          let small_holder : IsHolder (column small x.grain) x.reader y.0 = held_exact big small p r x.grain x.reader y.0 (let P : ℕ → Type 0 = λ z. IsHolder (column big x.grain) (up p x.reader) z in subst P (sym y.2) h.2) in
          let same : y.0 ≡ x.from = one_holder (column small x.grain) x.reader y.0 x.from small_holder x.holds in
          record {
            from = up p x.from;
            reader = up p x.reader;
            grain = x.grain;
            there = there;
            from_is = ap (λ (t : Slot). t.mapping) (sym a) ∙ x.from_is;
            reader_is = named;
            live = live;
            holds = (let P : ℕ → Type 0 = λ z. IsHolder (column big x.grain) (up p x.reader) z in subst P (sym y.2 ∙ ap (up p) same) h.2);
          }
    ]

-- a slot that is no mapping's, behind all others
quiet_last : (slots : List Slot) (t : Slot) (n : ℕ) → t.mapping ≡ None → Quiet (slots ++ t ∷ []) (length slots) n
quiet_last slots t n none g j lt live named h =
    let count : length slots + 1 ≡ length (slots ++ t ∷ []) = (push_is slots t).count in
    let before : length slots ≤ j = h.before in
    let same : j ≡ length slots = omega (arith, count, before, lt) in
    let last : (slot_at (slots ++ t ∷ []) j).mapping ≡ None = ap (λ z. (slot_at (slots ++ t ∷ []) z).mapping) same ∙ (ap (λ (s : Slot). s.mapping) (push_here slots t) ∙ none) in
    let bad : None ≡ Some n = sym last ∙ named in
    grind (arith, bad)

last_none : (slots : List Slot) (t : Slot) (n : ℕ) → t.mapping ≡ None → (slot_at (slots ++ t ∷ []) (length slots)).mapping ≡ Some n → ⊥
last_none slots t n none e =
    let bad : None ≡ Some n = sym none ∙ (ap (λ (s : Slot). s.mapping) (sym (push_here slots t)) ∙ e) in
    grind (arith, bad)

pub reads_push : (slots : List Slot) (t : Slot) (m n : ℕ) → t.mapping ≡ None → Reads slots m n → Reads (slots ++ t ∷ []) m n
reads_push slots t m n none x = reads_big (slots ++ t ∷ []) slots (length slots) m n (push_is slots t) (quiet_last slots t n none) x

pub push_reads : (slots : List Slot) (t : Slot) (m n : ℕ) → t.mapping ≡ None → Reads (slots ++ t ∷ []) m n → Reads slots m n
push_reads slots t m n none x = reads_small (slots ++ t ∷ []) slots (length slots) m n (push_is slots t) (last_none slots t m none) (last_none slots t n none) x

-- ---- a slot becomes old

aged_holder : (old new : List Slot) (g j h : ℕ) → Aged old new → IsHolder (column old g) j h → IsHolder (column new g) j h
aged_holder old new g j h a x =
    record {
      before = x.before;
      one_chain = a.chain h ∙ (x.one_chain ∙ sym (a.chain j));
      holds = ap (λ (bits : List Bool). get_or bits g false) (a.held h) ∙ x.holds;
      nearest = λ i hi ij c t. x.nearest i hi ij (sym (a.chain i) ∙ (c ∙ a.chain j)) (ap (λ (bits : List Bool). get_or bits g false) (sym (a.held i)) ∙ t);
    }

holder_aged : (old new : List Slot) (g j h : ℕ) → Aged old new → IsHolder (column new g) j h → IsHolder (column old g) j h
holder_aged old new g j h a x =
    record {
      before = x.before;
      one_chain = sym (a.chain h) ∙ (x.one_chain ∙ a.chain j);
      holds = ap (λ (bits : List Bool). get_or bits g false) (sym (a.held h)) ∙ x.holds;
      nearest = λ i hi ij c t. x.nearest i hi ij (a.chain i ∙ (c ∙ sym (a.chain j))) (ap (λ (bits : List Bool). get_or bits g false) (a.held i) ∙ t);
    }

-- whoever reads does so in another list where the slots are their mappings' too
reads_there : (old new : List Slot) (m n : ℕ) (x : Reads old m n) → length new ≡ length old → ((j : ℕ) → (slot_at new j).mapping ≡ (slot_at old j).mapping) → (slot_at new x.reader).is_live ≡ true →
    IsHolder (column new x.grain) x.reader x.from → Reads new m n
reads_there old new m n x count mapping live holds =
    record {
      from = x.from;
      reader = x.reader;
      grain = x.grain;
      there = (let there : x.reader < length old = x.there in omega (arith, count, there));
      from_is = mapping x.from ∙ x.from_is;
      reader_is = mapping x.reader ∙ x.reader_is;
      live = live;
      holds = holds;
    }

pub aged_reads : (slots : List Slot) (k m n : ℕ) → k < length slots → Reads (set slots k (age (slot_at slots k))) m n → Reads slots m n
aged_reads slots k m n lt x =
    let new : List Slot = set slots k (age (slot_at slots k)) in
    let a = aged_is slots k lt in
    reads_there new slots m n x (sym a.count) (λ j. sym (a.mapping j)) (a.live x.reader x.live) (holder_aged slots new x.grain x.reader x.from a x.holds)

pub reads_aged : (slots : List Slot) (k m n : ℕ) → k < length slots → ((slot_at slots k).mapping ≡ Some n → ⊥) → Reads slots m n → Reads (set slots k (age (slot_at slots k))) m n
reads_aged slots k m n lt other x =
    let new : List Slot = set slots k (age (slot_at slots k)) in
    let a = aged_is slots k lt in
    let same = aged_other slots k x.reader lt (λ here. other (let P : ℕ → Type 0 = λ z. (slot_at slots z).mapping ≡ Some n in subst P here x.reader_is)) in
    reads_there slots new m n x a.count a.mapping (ap (λ (t : Slot). t.is_live) same ∙ x.live) (aged_holder slots new x.grain x.reader x.from a x.holds)

-- no live slot is its mapping's any more
pub aged_quiet : (slots : List Slot) (k m n : ℕ) → k < length slots → ((j : ℕ) → j < length slots → (slot_at slots j).mapping ≡ Some n → j ≡ k) → Reads (set slots k (age (slot_at slots k))) m n → ⊥
aged_quiet slots k m n lt one x =
    let new : List Slot = set slots k (age (slot_at slots k)) in
    let a = aged_is slots k lt in
    let count : length new ≡ length slots = a.count in
    let there : x.reader < length new = x.there in
    let same : x.reader ≡ k = one x.reader (omega (arith, count, there)) (sym (a.mapping x.reader) ∙ x.reader_is) in
    let old : (slot_at new x.reader).is_live ≡ false = ap (λ z. (slot_at new z).is_live) same ∙ aged_here slots k lt in
    let bad : true ≡ false = sym x.live ∙ old in
    grind (arith, bad)
