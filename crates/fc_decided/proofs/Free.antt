-- Slots that nobody needs: taking one out makes no other needed.
use Rattle.std.proofs.Common.{◌≡◌, ℕ, ◌+◌, ◌<◌, ◌≤◌, true, false, List, length, get_or, remove, sym, ap, subst, ◌∙◌, arith, inl, inr}
use Rattle.std.proofs.lemmas.Bool.{cases_eq, cases_order}
use Rattle.fc_base.specs.Need.{IsNeeded}
use Rattle.fc_base.specs.Sheet.{Slot, slot_at, column}
use Rattle.fc_base.specs.SheetFacts.{HasNames}
use Rattle.fc_moves.proofs.Readers.{IsHolder, holder_from, reader_is, reader_from}
use Rattle.fc_sheets.proofs.Places.{Removed, up, up_in, up_le, le_up, up_apart, up_same, down, removed_at, big_at, push_is, push_here, remove_is}
use Rattle.fc_sheets.proofs.Aging.{alone, with_alone}

-- A slot that stands on the list and that nobody needs.
pub record FreeSlot (slots : List Slot) (t : Slot) : Type 0 where
  pub place : ℕ
  pub there : place < length slots
  pub is : slot_at slots place ≡ t
  pub free : IsNeeded slots place → ⊥

-- ---- a free slot is taken out

-- who reads from a slot of the small list did so in the big one
reads_big : (big small : List Slot) (p : ℕ) → Removed big small p → (IsNeeded big p → ⊥) → (g a i : ℕ) → a < length small → (slot_at small a).is_live ≡ true → IsHolder (column small g) a i → IsHolder (column big g) (up p a) (up p i)
reads_big big small p r free g a i al live h =
    let ea = removed_at big small p r a in
    let ei = removed_at big small p r i in
    let inside : up p a < length big = up_in big small p r a al in
    let x = holder_from (column big g) (up p a) (up p i) (le_up p i a h.before)
    (ap (λ (t : Slot). t.chain) (sym ei) ∙ (h.one_chain ∙ ap (λ (t : Slot). t.chain) ea)) (ap (λ (t : Slot). get_or t.held g false) (sym ei) ∙ h.holds) in
    let before : x.0 ≤ up p a = x.2.before in
    elim (down big small p r x.0 (omega arith)) [
      | inl same ↦ absurd (
          let at_p : IsHolder (column big g) (up p a) p = subst (λ (z : ℕ). IsHolder (column big g) (up p a) z) same x.2 in
          let n = reader_from (column big g) p p (up p a) inside (ap (λ (t : Slot). t.is_live) (sym ea) ∙ live) (up_apart p a) at_p in
          free (g, n.0, n.2))
      | inr d ↦
          let ed = removed_at big small p r d.0 in
          let at_d : IsHolder (column big g) (up p a) (up p d.0) = subst (λ (z : ℕ). IsHolder (column big g) (up p a) z) (sym d.2) x.2 in
          let behind : up p i ≤ up p d.0 = (let le : up p i ≤ x.0 = x.1 in omega (arith, d.2)) in
          let i_d : i ≤ d.0 = up_le p i d.0 behind in
          let d_a : d.0 ≤ a = up_le p d.0 a at_d.before in
          elim (cases_order i d.0) [
            | inl e ↦ subst (λ (z : ℕ). IsHolder (column big g) (up p a) (up p z)) (sym e) at_d
            | inr other ↦ elim other [
              | inl lt ↦ absurd (h.nearest d.0 lt d_a (ap (λ (t : Slot). t.chain) ed ∙ (at_d.one_chain ∙ ap (λ (t : Slot). t.chain) (sym ea))) (ap (λ (t : Slot). get_or t.held g false) ed ∙ at_d.holds))
              | inr gt ↦ absurd (omega (arith, gt, i_d))
            ]
          ]
    ]

free_small : (big small : List Slot) (p : ℕ) → Removed big small p → (IsNeeded big p → ⊥) → (i : ℕ) → (IsNeeded big (up p i) → ⊥) → IsNeeded small i → ⊥
free_small big small p r free i own (g, a, e) =
    let n = reader_is (column small g) i i a e in
    let al : a < length small = n.there in
    let ea = removed_at big small p r a in
    let h = reads_big big small p r free g a i al n.is_live n.reads in
    let found = reader_from (column big g) (up p i) (up p i) (up p a) (up_in big small p r a al) (ap (λ (t : Slot). t.is_live) (sym ea) ∙ n.is_live) (λ q. n.other (up_same p a i q)) h in
    own (g, found.0, found.2)

pub free_without : (slots : List Slot) (p : ℕ) (t : Slot) → p < length slots → (IsNeeded slots p → ⊥) → (slot_at slots p ≡ t → ⊥) → FreeSlot slots t → FreeSlot (remove slots p) t
free_without slots p t pl free other f =
    let small : List Slot = remove slots p in
    let r = remove_is slots p pl in
    elim (down slots small p r f.place f.there) [
      | inl same ↦ absurd (other (ap (slot_at slots) (sym same) ∙ f.is))
      | inr d ↦ record {
        place = d.0;
        there = d.1;
        is = sym (big_at slots small p r d.0 f.place d.2) ∙ f.is;
        free = free_small slots small p r free d.0 (λ n. f.free (subst (λ (z : ℕ). IsNeeded slots z) d.2 n));
      }
    ]

-- ---- a volume gets a chain of its own

low_holder : (big small : List Slot) → Removed big small (length small) → (g a i : ℕ) → a < length small → IsHolder (column big g) a i → IsHolder (column small g) a i
low_holder big small r g a i al h =
    let before : i ≤ a = h.before in
    record {
      before = before;
      one_chain = ap (λ (t : Slot). t.chain) (r.low i (omega arith)) ∙ (h.one_chain ∙ ap (λ (t : Slot). t.chain) (sym (r.low a al)));
      holds = ap (λ (t : Slot). get_or t.held g false) (r.low i (omega arith)) ∙ h.holds;
      nearest = λ j lt le q t. h.nearest j lt le
          (ap (λ (z : Slot). z.chain) (sym (r.low j (omega arith))) ∙ (q ∙ ap (λ (z : Slot). z.chain) (r.low a al)))
          (ap (λ (z : Slot). get_or z.held g false) (sym (r.low j (omega arith))) ∙ t);
    }

pub free_alone : (b : ℕ) (slots : List Slot) (v grains : ℕ) (t : Slot) → HasNames (record { births = b; slots = slots }) → FreeSlot slots t → FreeSlot (with_alone slots b v grains) t
free_alone b slots v grains t names f =
    let new : List Slot = with_alone slots b v grains in
    let r = push_is slots (alone b v grains) in
    let here : slot_at new (length slots) ≡ alone b v grains = push_here slots (alone b v grains) in
    let count : length slots + 1 ≡ length new = r.count in
    let fl : f.place < length slots = f.there in
    record {
      place = f.place;
      there = omega arith;
      is = sym (r.low f.place fl) ∙ f.is;
      free = λ n.
          let x = reader_is (column new n.0) f.place f.place n.1 n.2 in
          let xl : n.1 < length new = x.there in
          elim (cases_eq n.1 (length slots)) [
            | inl last ↦
                let c : (slot_at slots f.place).chain < b = names.chains f.place fl in
                let q : (slot_at slots f.place).chain ≡ b = ap (λ (z : Slot). z.chain) (r.low f.place fl) ∙ (x.reads.one_chain ∙ (ap (λ z. (slot_at new z).chain) last ∙ ap (λ (z : Slot). z.chain) here)) in
                omega arith
            | inr ne ↦
                let low : n.1 < length slots = omega arith in
                let h = low_holder new slots r n.0 n.1 f.place low x.reads in
                let found = reader_from (column slots n.0) f.place f.place n.1 low (ap (λ (z : Slot). z.is_live) (r.low n.1 low) ∙ x.is_live) x.other h in
                f.free (n.0, found.0, found.2)
          ];
    }
