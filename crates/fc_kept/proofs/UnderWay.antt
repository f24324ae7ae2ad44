-- One physical grain changed, and no metadata tells of it.
use Rattle.std.proofs.Common.{◌≡◌, ◌≢◌, ℕ, ◌<◌, Bool, true, false, cond, Some, IsSome, List, length, get_or, set, refl, sym, ap, subst, ◌∙◌, arith, inl, inr, length-set, get_or-set_same, get_or-set_other}
use Rattle.std.proofs.lemmas.Bool.{cases_Bool, cases_eq, eqb-true}
use Rattle.fc_base.specs.Column.{Column, holder}
use Rattle.fc_base.specs.Safety.{IsFree}
use Rattle.fc_base.specs.Sheet.{Slot, Sheet, slot_at, column, live_place}
use Rattle.fc_base.specs.SheetFacts.{IsSound}
use Rattle.fc_base.specs.declared.ids.VolId.{VolId}
use Rattle.fc_entry.specs.Picture.{Content, Lost, PlainVolume, Picture, changed_at, content_at}
use Rattle.fc_rules.specs.Shows.{Stored, Shown, Shows}
use Rattle.fc_rules.specs.Steps.{is_of_volume, reads_own}
use Rattle.fc_pictures.specs.Law.{StoredAt}
use Rattle.fc_pictures.proofs.Volumes.{id_of, KeepsIds, map_from, apart_map, at_id, at_id_keeps, changed_here, changed_other}
use Rattle.fc_pictures.proofs.Grains.{not_own}
use Rattle.fc_kept.specs.OneGrain.{another}

-- ---- one grain of a list, if it is set

pick_length : (b : Bool) (xs : List Content) (g : ℕ) (x : Content) → length (cond b (set xs g x) xs) ≡ length xs
pick_length true xs g x = length-set xs g x
pick_length false xs g x = refl

spare_length : (b : Bool) (xs : List Content) (g : ℕ) (x : Content) → length (cond b xs (set xs g x)) ≡ length xs
spare_length true xs g x = refl
spare_length false xs g x = length-set xs g x

pick_other : (b : Bool) (xs : List Content) (g y : ℕ) (x : Content) → y ≢ g → content_at (cond b (set xs g x) xs) y ≡ content_at xs y
pick_other true xs g y x ne = get_or-set_other xs g y x Lost ne
pick_other false xs g y x ne = refl

spare_other : (b : Bool) (xs : List Content) (g y : ℕ) (x : Content) → y ≢ g → content_at (cond b xs (set xs g x)) y ≡ content_at xs y
spare_other true xs g y x ne = refl
spare_other false xs g y x ne = get_or-set_other xs g y x Lost ne

pick_here : (b : Bool) (xs : List Content) (g : ℕ) (x : Content) → b ≡ true → g < length xs → content_at (cond b (set xs g x) xs) g ≡ x
pick_here b xs g x e lt = ap (λ (z : Bool). content_at (cond z (set xs g x) xs) g) e ∙ get_or-set_same xs g x Lost lt

pick_none : (b : Bool) (xs : List Content) (g : ℕ) (x : Content) → b ≡ false → content_at (cond b (set xs g x) xs) g ≡ content_at xs g
pick_none b xs g x e = ap (λ (z : Bool). content_at (cond z (set xs g x) xs) g) e

spare_here : (b : Bool) (xs : List Content) (g : ℕ) (x : Content) → b ≡ false → g < length xs → content_at (cond b xs (set xs g x)) g ≡ x
spare_here b xs g x e lt = ap (λ (z : Bool). content_at (cond z xs (set xs g x)) g) e ∙ get_or-set_same xs g x Lost lt

own_volume : (c : Column) (t h : ℕ) → reads_own c t ≡ true → holder c t ≡ Some h → c.volume h ≡ c.volume t
own_volume c t h own e = eqb-true (c.volume h) (c.volume t) (sym (ap (is_of_volume c (c.volume t)) e) ∙ own)

-- ---- the volume itself, and all others

keeps_id : (c : Column) (t g : ℕ) (content : Content) → KeepsIds (another c t g content)
keeps_id c t g content p = refl

shown_own : (slots : List Slot) (picture : Picture) (stored after : Stored) (t g : ℕ) (content : Content) → Shown slots picture stored t →
    StoredAt stored (slot_at slots t).volume g content after →
    Shown slots (changed_at (id_of (slot_at slots t).volume) (another (column slots g) t g content) picture) after t
shown_own slots picture stored after t g content x st =
    let c : Column = column slots g in
    let v : ℕ = (slot_at slots t).volume in
    let nows : length x.plain.now ≡ length (slot_at slots t).held = x.nows in
    let unders : length x.plain.under ≡ length (slot_at slots t).held = x.unders in
    record {
      plain = another c t g content x.plain;
      there = changed_here (id_of v) (another c t g content) (keeps_id c t g content) picture (id_of v) x.plain x.there refl;
      nows = pick_length (reads_own c t) x.plain.now g content ∙ x.nows;
      unders = spare_length (c.held t) x.plain.under g content ∙ x.unders;
      now = λ y h yl e. elim (cases_eq y g) [
        | inr ne ↦ pick_other (reads_own c t) x.plain.now g y content ne ∙ (x.now y h yl e ∙ sym (st.elsewhere (slot_at slots h).volume y (inr ne)))
        | inl q ↦
            let gl : g < length x.plain.now = omega arith in
            let here : holder c t ≡ Some h = ap (λ (z : ℕ). holder (column slots z) t) (sym q) ∙ e in
            let there : content_at (another c t g content x.plain).now g ≡ after (slot_at slots h).volume g = elim (cases_Bool (reads_own c t)) [
              | inl own ↦ pick_here (reads_own c t) x.plain.now g content own gl ∙ (sym st.here ∙ ap (λ (z : ℕ). after z g) (sym (own_volume c t h own here)))
              | inr other ↦ pick_none (reads_own c t) x.plain.now g content other
                  ∙ (x.now g h (omega arith) here ∙ sym (st.elsewhere (slot_at slots h).volume g (inl (not_own c t h other here))))
            ] in
            subst (λ (z : ℕ). content_at (another c t g content x.plain).now z ≡ after (slot_at slots h).volume z) (sym q) there
      ];
      under = λ y yl e. elim (cases_eq y g) [
        | inr ne ↦ spare_other (c.held t) x.plain.under g y content ne ∙ (x.under y yl e ∙ sym (st.elsewhere v y (inr ne)))
        | inl q ↦
            let gl : g < length x.plain.under = omega arith in
            let lacks : c.held t ≡ false = ap (λ (z : ℕ). get_or (slot_at slots t).held z false) (sym q) ∙ e in
            let there : content_at (another c t g content x.plain).under g ≡ after v g = spare_here (c.held t) x.plain.under g content lacks gl ∙ sym st.here in
            subst (λ (z : ℕ). content_at (another c t g content x.plain).under z ≡ after v z) (sym q) there
      ];
    }

shown_other : (slots : List Slot) (picture : Picture) (stored after : Stored) (t g k : ℕ) (content : Content) → Shown slots picture stored k →
    (slot_at slots k).volume ≢ (slot_at slots t).volume → ((h : ℕ) → holder (column slots g) k ≡ Some h → (slot_at slots h).volume ≢ (slot_at slots t).volume) →
    StoredAt stored (slot_at slots t).volume g content after →
    Shown slots (changed_at (id_of (slot_at slots t).volume) (another (column slots g) t g content) picture) after k
shown_other slots picture stored after t g k content x apart free st =
    let c : Column = column slots g in
    let v : ℕ = (slot_at slots t).volume in
    record {
      plain = x.plain;
      there = changed_other (id_of v) (another c t g content) (keeps_id c t g content) picture (id_of (slot_at slots k).volume) x.plain x.there apart;
      nows = x.nows;
      unders = x.unders;
      now = λ y h yl e. x.now y h yl e ∙ sym (elim (cases_eq y g) [
        | inr ne ↦ st.elsewhere (slot_at slots h).volume y (inr ne)
        | inl q ↦ st.elsewhere (slot_at slots h).volume y (inl (free h (ap (λ (z : ℕ). holder (column slots z) k) (sym q) ∙ e)))
      ]);
      under = λ y yl e. x.under y yl e ∙ sym (st.elsewhere (slot_at slots k).volume y (inl apart));
    }

pub under_way : (s : Sheet) (picture : Picture) (stored after : Stored) (t g : ℕ) (content : Content) → IsSound s → t < length s.slots → (slot_at s.slots t).is_live ≡ true →
    IsFree (column s.slots g) t → Shows s.slots picture stored → StoredAt stored (slot_at s.slots t).volume g content after →
    Shows s.slots (changed_at (id_of (slot_at s.slots t).volume) (another (column s.slots g) t g content) picture) after
under_way s picture stored after t g content sound tl tv free w st =
    let slots : List Slot = s.slots in
    let c : Column = column slots g in
    let id : VolId = id_of (slot_at slots t).volume in
    let edit : PlainVolume → PlainVolume = another c t g content in
    let next : Picture = changed_at id edit picture in
    let keeps = at_id_keeps id edit (keeps_id c t g content) in
    record {
      apart = apart_map (at_id id edit) keeps picture w.apart;
      only = λ q cq.
          let p = map_from (at_id id edit) picture q cq in
          let same : p.0.volume.0 ≡ q.volume.0 = sym (keeps p.0) ∙ ap (λ (z : PlainVolume). z.volume.0) p.2 in
          subst (λ (z : ℕ). IsSome (live_place slots z)) same (w.only p.0 p.1);
      each = λ k kl l. elim (cases_eq k t) [
        | inl q ↦ subst (λ (z : ℕ). Shown slots next after z) (sym q) (shown_own slots picture stored after t g content (w.each t tl tv) st)
        | inr ne ↦ shown_other slots picture stored after t g k content (w.each k kl l) (λ e. ne (sound.one_live k t kl tl l tv e)) (λ h e. free k h kl l ne e) st
      ];
    }
