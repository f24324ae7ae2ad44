-- A volume is used as a source where the test says so.
use Rattle.std.proofs.Common.{◌≡◌, ◌∙◌, sym, ap, ℕ, zero, suc, ◌<◌, Bool, true, false, ◌&&◌, ◌||◌, ◌==◌, nat_lt, List, length, inl, inr, refl, arith}
use Rattle.std.specs.Prelude.{IsTrue, ◌↔◌}
use Rattle.std.proofs.lemmas.Bool.{cases_eq, or_left, or_right, eq-eqb, eqb-true, ltb-true, lt-ltb}
use Rattle.fc_base.specs.Counts.{any_below, UsedAt, LiveBehind}
use Rattle.fc_base.specs.Sheet.{Slot, slot_at}
use Rattle.fc_base.specs.declared.ids.VolId.{VolId}
use Rattle.fc_books.specs.Copies.{is_used, is_live_behind}

-- both sides of a conjunction
pub first_of_both : (a b : Bool) → (a && b) ≡ true → a ≡ true
first_of_both true b e = refl
first_of_both false b e = e

pub second_of_both : (a b : Bool) → (a && b) ≡ true → b ≡ true
second_of_both true b e = e
second_of_both false b e = grind (arith, e)

pub both : (a b : Bool) → a ≡ true → b ≡ true → (a && b) ≡ true
both a b p q = rw p q

-- the number below a bound that passes
found_last : (test : ℕ → Bool) (n : ℕ) (before now : Bool) → (before ≡ true → (k : ℕ) × (k < n) × (test k ≡ true)) → (now ≡ true → test n ≡ true) → (before || now) ≡ true → (k : ℕ) × (k < suc n) × (test k ≡ true)
found_last test n true now rest last e =
    let found = rest refl in
    (found.0, omega (arith, found.1), found.2)
found_last test n false now rest last e = (n, omega arith, last e)

pub any_below-found : (test : ℕ → Bool) (n : ℕ) → any_below test n ≡ true → (k : ℕ) × (k < n) × (test k ≡ true)
any_below-found test zero e = grind (arith, e)
any_below-found test (suc n) e = found_last test n (any_below test n) (test n) (any_below-found test n) (λ now. now) e

pub any_below-there : (test : ℕ → Bool) (n k : ℕ) → k < n → test k ≡ true → any_below test n ≡ true
any_below-there test zero k lt e = grind (arith, lt)
any_below-there test (suc n) k lt e =
    elim (cases_eq k n) [
      | inl same ↦ or_right (any_below test n) (test n) (ap test (sym same) ∙ e)
      | inr other ↦ or_left (any_below test n) (test n) (any_below-there test n k (omega (arith, lt, other)) e)
    ]

-- ---- used

behind_found : (slots : List Slot) (k : ℕ) → any_below (is_live_behind slots k) (length slots) ≡ true → LiveBehind slots k
behind_found slots k e =
    let found = any_below-found (is_live_behind slots k) (length slots) e in
    behind found.0 found.1 found.2
  where
    behind : (j : ℕ) → j < length slots → is_live_behind slots k j ≡ true → LiveBehind slots k
    behind j lt h =
        let rest = second_of_both (nat_lt k j) ((slot_at slots j).is_live && ((slot_at slots j).chain == (slot_at slots k).chain)) h in (
          j,
          lt,
          ltb-true k j (first_of_both (nat_lt k j) ((slot_at slots j).is_live && ((slot_at slots j).chain == (slot_at slots k).chain)) h),
          first_of_both (slot_at slots j).is_live ((slot_at slots j).chain == (slot_at slots k).chain) rest,
          eqb-true (slot_at slots j).chain (slot_at slots k).chain (second_of_both (slot_at slots j).is_live ((slot_at slots j).chain == (slot_at slots k).chain) rest),
        )

used_found : (slots : List Slot) (v : VolId) → is_used slots v ≡ true → UsedAt slots v.0
used_found slots v e =
    let found = any_below-found (λ k. ((slot_at slots k).volume == v.0) && any_below (is_live_behind slots k) (length slots)) (length slots) e in (
      found.0,
      found.1,
      eqb-true (slot_at slots found.0).volume v.0 (first_of_both ((slot_at slots found.0).volume == v.0) (any_below (is_live_behind slots found.0) (length slots)) found.2),
      behind_found slots found.0 (second_of_both ((slot_at slots found.0).volume == v.0) (any_below (is_live_behind slots found.0) (length slots)) found.2),
    )

used_there : (slots : List Slot) (v : VolId) → UsedAt slots v.0 → is_used slots v ≡ true
used_there slots v used =
    any_below-there (λ k. ((slot_at slots k).volume == v.0) && any_below (is_live_behind slots k) (length slots)) (length slots) used.0 used.1
    (both ((slot_at slots used.0).volume == v.0) (any_below (is_live_behind slots used.0) (length slots)) (eq-eqb (slot_at slots used.0).volume v.0 used.2)
    (any_below-there (is_live_behind slots used.0) (length slots) used.3.0 used.3.1
    (both (nat_lt used.0 used.3.0) ((slot_at slots used.3.0).is_live && ((slot_at slots used.3.0).chain == (slot_at slots used.0).chain)) (lt-ltb used.0 used.3.0 used.3.2)
    (both (slot_at slots used.3.0).is_live ((slot_at slots used.3.0).chain == (slot_at slots used.0).chain) used.3.3 (eq-eqb (slot_at slots used.3.0).chain (slot_at slots used.0).chain used.3.4)))))

by_test : (r u : Bool) → (r ≡ true → u ≡ true) → (u ≡ true → r ≡ true) → r ≡ u
by_test true u there back = sym (there refl)
by_test false true there back = back refl
by_test false false there back = refl

pub is_used-whole : (slots : List Slot) (v : VolId) (r : Bool) → IsTrue r ↔ UsedAt slots v.0 → r ≡ is_used slots v
is_used-whole slots v r used =
    by_test r (is_used slots v) (λ yes_r. used_there slots v (used.0 yes_r)) (λ yes_u. used.1 (used_found slots v yes_u))
