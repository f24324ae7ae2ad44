-- Whose needs change where a volume's pairs change at one grain: its own slots, and the holder of its live slot.
use Rattle.std.proofs.Common.{◌≡◌, ◌≢◌, ℕ, ◌<◌, ◌≤◌, Bool, true, false, is_some, refl, sym, ap, ◌∙◌, arith, inl, inr}
use Rattle.std.proofs.lemmas.Bool.{cases_Bool, both_ways, cases_eq}
use Rattle.fc_base.specs.Column.{Column, needer}
use Rattle.fc_moves.proofs.Search.{cases_option}
use Rattle.fc_moves.proofs.Readers.{IsHolder, reader_is, reader_none, reader_from, holder_from, holder_between}

abbrev pub with_pairs : Column → (ℕ → Bool) → Column
with_pairs c held = record { shape = c.shape; held = held }

-- pairs of one volume change: a live slot keeps its pair, an old one gets none, and a live slot whose holder loses its pair
-- gets one itself
pub record Change (c : Column) (held : ℕ → Bool) (v : ℕ) : Type 0 where
  pub other : (j : ℕ) → c.volume j ≢ v → held j ≡ c.held j
  pub live_keeps : (j : ℕ) → c.is_live j ≡ true → c.held j ≡ true → held j ≡ true
  pub old_loses : (j : ℕ) → c.is_live j ≡ false → held j ≡ true → c.held j ≡ true
  pub fits : (a x : ℕ) → a < c.count → c.is_live a ≡ true → IsHolder c a x → c.is_live x ≡ false → held x ≡ false → held a ≡ true

-- no slot of the volume, and no live slot of it has it as holder
pub record IsUntouched (c : Column) (v k : ℕ) : Type 0 where
  pub apart : c.volume k ≢ v
  pub unread : (j : ℕ) → j < c.count → c.is_live j ≡ true → c.volume j ≡ v → IsHolder c j k → ⊥

still_reads : (c : Column) (held : ℕ → Bool) (v k a : ℕ) → Change c held v → IsUntouched c v k → a < c.count → IsHolder c a k → IsHolder (with_pairs c held) a k
still_reads c held v k a ch u al i =
    record {
      before = i.before;
      one_chain = i.one_chain;
      holds = ch.other k u.apart ∙ i.holds;
      nearest = λ j kj ja q t. elim (cases_Bool (c.is_live j)) [
        | inr old ↦ i.nearest j kj ja q (ch.old_loses j old t)
        | inl live ↦ elim (cases_eq (c.volume j) v) [
          | inr ne ↦ i.nearest j kj ja q (sym (ch.other j ne) ∙ t)
          | inl same ↦ u.unread j (omega arith) live same (holder_between c a k j i (omega arith) ja q)
        ]
      ];
    }

did_read : (c : Column) (held : ℕ → Bool) (v k a : ℕ) → Change c held v → IsUntouched c v k → a < c.count → c.is_live a ≡ true → a ≢ k → IsHolder (with_pairs c held) a k → IsHolder c a k
did_read c held v k a ch u al live ne i =
    let before : k ≤ a = i.before in
    let differ : a ≢ k = ne in
    record {
      before = i.before;
      one_chain = i.one_chain;
      holds = sym (ch.other k u.apart) ∙ i.holds;
      nearest = λ j kj ja q t.
          let h = holder_from c a j ja q t in
          let hb : h.0 ≤ a = h.2.before in
          elim (cases_Bool (held h.0)) [
            | inl has ↦ i.nearest h.0 (omega (arith, h.1)) hb h.2.one_chain has
            | inr lost ↦ elim (cases_Bool (c.is_live h.0)) [
              | inl l ↦ both_ways (held h.0) lost (ch.live_keeps h.0 l h.2.holds)
              | inr old ↦ i.nearest a (omega arith) (omega arith) refl (ch.fits a h.0 al live h.2 old lost)
            ]
          ];
    }

-- its need stays
pub same_need : (c : Column) (held : ℕ → Bool) (v k : ℕ) → Change c held v → IsUntouched c v k → is_some (needer (with_pairs c held) k) ≡ is_some (needer c k)
same_need c held v k ch u =
    elim (cases_option (needer c k)) [
      | inr s ↦
          let r = reader_is c k k s.0 s.1 in
          let n = reader_from (with_pairs c held) k k s.0 r.there r.is_live r.other (still_reads c held v k s.0 ch u r.there r.reads) in
          let x : is_some (needer (with_pairs c held) k) ≡ true = ap is_some n.2 in
          x ∙ sym (ap is_some s.1)
      | inl none ↦
          elim (cases_option (needer (with_pairs c held) k)) [
            | inl e ↦ ap is_some e ∙ sym (ap is_some none)
            | inr s ↦
                let r = reader_is (with_pairs c held) k k s.0 s.1 in
                absurd (reader_none c k k none s.0 r.there r.is_live r.other (did_read c held v k s.0 ch u r.there r.is_live r.other r.reads))
          ]
    ]
