-- Old slots that are needed: taking out a slot that reads from no other leaves them needed.
use Rattle.std.proofs.Common.{◌≡◌, ◌≢◌, ℕ, zero, suc, ◌+◌, ◌<◌, ◌≤◌, Bool, true, false, cond, is_some, Option, Some, None, List, ◌∷◌, length, get_or, remove, refl, sym, ap, subst, ◌∙◌, arith, Contains, ◌⊎◌, inl, inr}
use Rattle.std.specs.List.{list_all}
use Rattle.std.proofs.lemmas.Bool.{cases_eq, both_ways}
use Rattle.fc_base.specs.Column.{needer}
use Rattle.fc_base.specs.Counts.{count_below, is_needed_at, is_unneeded}
use Rattle.fc_base.specs.Need.{IsNeeded}
use Rattle.fc_base.specs.Sheet.{Slot, Sheet, slot_at, slot_id, column}
use Rattle.fc_base.specs.SheetFacts.{HasSizes, IsSound}
use Rattle.fc_base.specs.declared.ids.SlotId.{SlotId}
use Rattle.fc_moves.proofs.Readers.{IsHolder, reader_is, reader_from, one_holder, own_holder}
use Rattle.fc_sheets.proofs.Places.{Removed, up, up_in, up_apart, down, removed_at, remove_is, push_is, push_here}
use Rattle.fc_sheets.proofs.Aging.{alone, with_alone}
use Rattle.fc_sheets.proofs.Forcing.{held_exact}
use Rattle.fc_decided.proofs.Counting.{held_below, uncounted_old}
use Rattle.fc_decided.proofs.Forced.{all_held}
use Rattle.fc_decided.proofs.Lists.{in_cases}

-- Every old slot is needed.
abbrev pub AreNeeded : List Slot → Type 0
AreNeeded slots = (k : ℕ) → k < length slots → (slot_at slots k).is_live ≡ false → IsNeeded slots k

-- A slot from which nobody at all reads through: it is old, or it holds every grain.
abbrev pub ReadsNone : Slot → Type 0
ReadsNone t = (t.is_live ≡ false) ⊎ (list_all (λ b. b) t.held ≡ true)

-- ---- one is taken out

-- a live slot that holds every grain is nobody's reader but its own
reader_apart : (slots : List Slot) (p g i a : ℕ) → HasSizes slots → p < length slots → ReadsNone (slot_at slots p) → (slot_at slots a).is_live ≡ true → IsHolder (column slots g) a i → i ≢ p → a ≢ p
reader_apart slots p g i a sizes pl none live h other e =
    elim none [
      | inl old ↦ both_ways (slot_at slots p).is_live old (ap (λ z. (slot_at slots z).is_live) (sym e) ∙ live)
      | inr full ↦
          let before : i ≤ a = h.before in
          let held : g < length (slot_at slots i).held = held_below (slot_at slots i).held g h.holds in
          let size : length (slot_at slots i).held ≡ length (slot_at slots p).held = sizes.of_chain i p (omega (arith, before, e, pl)) pl (h.one_chain ∙ ap (λ z. (slot_at slots z).chain) e) in
          let own = own_holder (column slots g) p (all_held (slot_at slots p).held g full (omega arith)) in
          other (one_holder (column slots g) p i p (subst (λ (z : ℕ). IsHolder (column slots g) z i) e h) own)
    ]

needed_small : (big small : List Slot) (p : ℕ) → Removed big small p → HasSizes big → ReadsNone (slot_at big p) → (i : ℕ) → IsNeeded big (up p i) → IsNeeded small i
needed_small big small p r sizes none i (g, a, e) =
    let n = reader_is (column big g) (up p i) (up p i) a e in
    let apart : a ≢ p = reader_apart big p g (up p i) a sizes r.there none n.is_live n.reads (up_apart p i) in
    elim (down big small p r a n.there) [
      | inl same ↦ absurd (apart same)
      | inr d ↦
          let h : IsHolder (column small g) d.0 i = held_exact big small p r g d.0 i (subst (λ (z : ℕ). IsHolder (column big g) z (up p i)) (sym d.2) n.reads) in
          let live : (slot_at small d.0).is_live ≡ true = ap (λ (t : Slot). t.is_live) (removed_at big small p r d.0) ∙ (ap (λ z. (slot_at big z).is_live) d.2 ∙ n.is_live) in
          let found = reader_from (column small g) i i d.0 d.1 live (λ q. n.other (sym d.2 ∙ ap (up p) q)) h in
          (g, found.0, found.2)
    ]

pub needed_without : (slots : List Slot) (p : ℕ) → HasSizes slots → p < length slots → ReadsNone (slot_at slots p) → (i : ℕ) → IsNeeded slots (up p i) → IsNeeded (remove slots p) i
needed_without slots p sizes pl none i n = needed_small slots (remove slots p) p (remove_is slots p pl) sizes none i n

-- ---- a volume gets a chain of its own

needed_more : (big small : List Slot) → Removed big small (length small) → (i : ℕ) → IsNeeded small i → IsNeeded big i
needed_more big small r i (g, a, e) =
    let n = reader_is (column small g) i i a e in
    let al : a < length small = n.there in
    let before : i ≤ a = n.reads.before in
    let count : length small + 1 ≡ length big = r.count in
    let h : IsHolder (column big g) a i = record {
      before = before;
      one_chain = ap (λ (t : Slot). t.chain) (sym (r.low i (omega arith))) ∙ (n.reads.one_chain ∙ ap (λ (t : Slot). t.chain) (r.low a al));
      holds = ap (λ (t : Slot). get_or t.held g false) (sym (r.low i (omega arith))) ∙ n.reads.holds;
      nearest = λ j ij ja q t. n.reads.nearest j ij ja
          (ap (λ (z : Slot). z.chain) (r.low j (omega (arith, ja, al))) ∙ (q ∙ ap (λ (z : Slot). z.chain) (sym (r.low a al))))
          (ap (λ (z : Slot). get_or z.held g false) (r.low j (omega (arith, ja, al))) ∙ t);
    } in
    let found = reader_from (column big g) i i a (omega arith) (ap (λ (t : Slot). t.is_live) (sym (r.low a al)) ∙ n.is_live) n.other h in
    (g, found.0, found.2)

pub needed_alone : (slots : List Slot) (b v grains : ℕ) → AreNeeded slots → AreNeeded (with_alone slots b v grains)
needed_alone slots b v grains all k kl old =
    let big : List Slot = with_alone slots b v grains in
    let r = push_is slots (alone b v grains) in
    let count : length slots + 1 ≡ length big = r.count in
    elim (cases_eq k (length slots)) [
      | inl last ↦ absurd (both_ways (slot_at big k).is_live old (ap (λ z. (slot_at big z).is_live) last ∙ ap (λ (t : Slot). t.is_live) (push_here slots (alone b v grains))))
      | inr ne ↦
          let low : k < length slots = omega arith in
          needed_more big slots r k (all k low (ap (λ (t : Slot). t.is_live) (r.low k low) ∙ old))
    ]

-- A live slot that holds every grain is taken out, and its volume gets a chain of its own.
pub needed_detached : (b : ℕ) (slots : List Slot) (p : ℕ) → HasSizes slots → p < length slots → list_all (λ b. b) (slot_at slots p).held ≡ true → AreNeeded slots →
    AreNeeded (with_alone (remove slots p) b (slot_at slots p).volume (length (slot_at slots p).held))
needed_detached b slots p sizes pl full all =
    let r = remove_is slots p pl in
    needed_alone (remove slots p) b (slot_at slots p).volume (length (slot_at slots p).held)
    (λ k kl old. needed_without slots p sizes pl (inr full) k (all (up p k) (up_in slots (remove slots p) p r k kl) (ap (λ (t : Slot). t.is_live) (sym (removed_at slots (remove slots p) p r k)) ∙ old)))

-- ---- the drops

-- Each old slot is needed, or named.
abbrev pub NeededOr : List Slot → List SlotId → Type 0
NeededOr slots names = (k : ℕ) → k < length slots → (slot_at slots k).is_live ≡ false → IsNeeded slots k ⊎ Contains names (slot_id slots k)

-- An old slot that is named first is taken out.
pub one_less : (s : Sheet) (y : SlotId) (ys : List SlotId) (p : ℕ) → IsSound s → p < length s.slots → (slot_at s.slots p).birth ≡ y.0 → (slot_at s.slots p).is_live ≡ false → NeededOr s.slots (y ∷ ys) → NeededOr (remove s.slots p) ys
one_less s y ys p i pl named old all k kl is_old =
    let slots = s.slots in
    let small = remove slots p in
    let r = remove_is slots p pl in
    let at = removed_at slots small p r k in
    let inside = up_in slots small p r k kl in
    elim (all (up p k) inside (ap (λ (t : Slot). t.is_live) (sym at) ∙ is_old)) [
      | inl n ↦ inl (needed_without slots p i.sizes pl (inl old) k n)
      | inr found ↦ elim (in_cases y (slot_id slots (up p k)) ys found) [
        | inl same ↦ absurd (up_apart p k (i.names.apart (up p k) p inside pl (ap (λ (z : SlotId). z.0) (sym same) ∙ sym named)))
        | inr later ↦ inr (subst (λ (z : SlotId). Contains ys z) (ap (λ (t : Slot). let x : SlotId = record { 0 = t.birth } in x) (sym at)) later)
      ]
    ]

-- ---- by the test

some_below : (test : ℕ → Bool) (n : ℕ) → (count_below test n ≡ 0 → ⊥) → (i : ℕ) × (test i ≡ true)
some_below test zero e = absurd (e refl)
some_below test (suc n) e = by (test n) refl e (λ d. some_below test n d)
  where
    by : (t : Bool) → test n ≡ t → (cond t (count_below test n + 1) (count_below test n) ≡ 0 → ⊥) → ((count_below test n ≡ 0 → ⊥) → (i : ℕ) × (test i ≡ true)) → (i : ℕ) × (test i ≡ true)
    by true is e rest = (n, is)
    by false is e rest = rest e

some_needer : (o : Option ℕ) → is_some o ≡ true → (a : ℕ) × (o ≡ Some a)
some_needer None e = absurd cc
some_needer (Some a) e = (a, refl)

-- An old slot that isn't unneeded by the test is needed.
pub needed_by_test : (slots : List Slot) (k : ℕ) → (slot_at slots k).is_live ≡ false → is_unneeded slots k ≡ false → IsNeeded slots k
needed_by_test slots k old e =
    let i = some_below (is_needed_at slots k) (length (slot_at slots k).held) (λ none. both_ways (is_unneeded slots k) e (uncounted_old slots k old none)) in
    let a = some_needer (needer (column slots i.0) k) i.1 in
    (i.0, a.0, a.1)
