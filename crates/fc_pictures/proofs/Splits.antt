-- A split changes nothing that is shown: who reads behind the split slot reads at it or behind it, since it is complete.
use Rattle.std.proofs.Common.{◌≡◌, ◌≢◌, ℕ, ◌<◌, ◌≤◌, true, false, Some, List, length, get_or, refl, sym, ap, ◌∙◌, arith, inl, inr}
use Rattle.std.proofs.lemmas.Bool.{cases_lt, cases_eq}
use Rattle.fc_base.specs.Need.{is_complete}
use Rattle.fc_base.specs.Sheet.{Slot, Sheet, slot_at, column}
use Rattle.fc_base.specs.SheetFacts.{HasSizes, IsSound}
use Rattle.fc_base.specs.SheetStep.{split_at}
use Rattle.fc_entry.specs.Picture.{Picture}
use Rattle.fc_rules.specs.Shows.{Stored, Shows}
use Rattle.fc_moves.proofs.Readers.{IsHolder}
use Rattle.fc_sheets.proofs.Splitting.{CanSplit, split_list, split_count, split_same, split_chain, split_refines, split_keeps, complete_at}
use Rattle.fc_sheets.proofs.Holding.{held_in_range}
use Rattle.fc_pictures.proofs.Staying.{Stays, stays_shown, only_from}

-- slots of one chain stay of one chain, where they stand on one side of the split slot or aren't of its chain
still_one : (b : ℕ) (slots : List Slot) (k i j : ℕ) → CanSplit b slots k → i < length slots → j < length slots → (slot_at slots i).chain ≡ (slot_at slots j).chain →
    (slot_at slots j).chain ≢ (slot_at slots k).chain → (slot_at (split_list slots k) i).chain ≡ (slot_at (split_list slots k) j).chain
still_one b slots k i j c il jl e ne =
    elim (split_chain slots k i c.there il) [
      | inl x ↦ absurd (ne (sym e ∙ x.1))
      | inr x ↦ elim (split_chain slots k j c.there jl) [ inl y ↦ absurd (ne y.1) | inr y ↦ x.1 ∙ (e ∙ sym y.1) ]
    ]

split_holder : (b : ℕ) (slots : List Slot) (k : ℕ) → CanSplit b slots k → is_complete (slot_at slots k) ≡ true → HasSizes slots → (g j h : ℕ) → j < length slots →
    IsHolder (column (split_list slots k) g) j h → IsHolder (column slots g) j h
split_holder b slots k c full sizes g j h jl i =
    let new : List Slot = split_list slots k in
    let hj : h ≤ j = i.before in
    let hl : h < length slots = omega arith in
    let kl : k < length slots = c.there in
    let same = λ (y : ℕ) (yl : y < length slots). ap (λ z. get_or z g false) (split_same slots k y kl yl).held in
    let one : (slot_at slots h).chain ≡ (slot_at slots j).chain = split_refines b slots k h j c hl jl i.one_chain in
    let holds : get_or (slot_at slots h).held g false ≡ true = sym (same h hl) ∙ i.holds in
    let inside : g < length (slot_at slots h).held = held_in_range (slot_at slots h).held g holds in
    record {
      before = hj;
      one_chain = one;
      holds = holds;
      nearest = λ y hy yj q t.
          let yl : y < length slots = omega arith in
          let t' : get_or (slot_at new y).held g false ≡ true = same y yl ∙ t in
          elim (cases_lt j k) [
            | inl jk ↦ i.nearest y hy yj (split_keeps b slots k y j c yl jl q (inr (omega arith, jk))) t'
            | inr kj ↦ elim (cases_lt y k) [
              | inr ky ↦ i.nearest y hy yj (split_keeps b slots k y j c yl jl q (inl (ky, kj))) t'
              | inl yk ↦ elim (cases_eq (slot_at slots j).chain (slot_at slots k).chain) [
                | inr ne ↦ i.nearest y hy yj (still_one b slots k y j c yl jl q ne) t'
                | inl e ↦ let size : length (slot_at slots h).held ≡ length (slot_at slots k).held = sizes.of_chain h k hl kl (one ∙ e) in
                    i.nearest k (omega arith) kj (split_keeps b slots k k j c kl jl (sym e) (inl (omega arith, kj)))
                    (same k kl ∙ complete_at (slot_at slots k).held g full (omega arith))
              ]
            ]
          ];
    }

pub split_shows : (s : Sheet) (picture : Picture) (stored : Stored) (m k : ℕ) → IsSound s → Shows s.slots picture stored → k < length s.slots → (slot_at s.slots k).mapping ≡ Some m →
    is_complete (slot_at s.slots k) ≡ true → Shows (split_at k s).slots picture stored
split_shows s picture stored m k sound w kl e full =
    let c : CanSplit s.births s.slots k = record { there = kl; names = sound.names; label = λ j jl. sound.names.fresh k j m kl jl e } in
    let new : List Slot = split_list s.slots k in
    let count : length new ≡ length s.slots = split_count s.slots k in
    record {
      apart = w.apart;
      only = λ q d. only_from s.slots new picture stored w q (q, d, refl) (λ i v a.
          let il : i < length s.slots = a.there in
          let f = split_same s.slots k i kl il in
          (i, record { there = omega arith; is_live = f.is_live ∙ a.is_live; of_volume = f.volume ∙ a.of_volume }));
      each = λ j jl jv.
          let jo : j < length s.slots = omega arith in
          let f = split_same s.slots k j kl jo in
          let t : Stays s.slots new j j = record {
            there = jo;
            is_live = sym f.is_live ∙ jv;
            volume = f.volume;
            held = f.held;
            holder = λ g h i. let b : h ≤ j = i.before in (h, split_holder s.births s.slots k c full sound.sizes g j h jo i, sym (split_same s.slots k h kl (omega arith)).volume);
          } in
          stays_shown s.slots new picture picture stored j j t (w.each j jo t.is_live) (λ p x. x);
    }
