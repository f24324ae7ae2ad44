-- Counts: when a slot holds every grain, when it is needed, and which old slots aren't.
use Rattle.std.proofs.Common.{◌≡◌, ◌≢◌, ℕ, zero, suc, ◌+◌, ◌<◌, ◌≤◌, Bool, true, false, not, cond, eqb, nat_lt, is_some, List, [], ◌∷◌, length, get_or, refl, sym, ap, ◌∙◌, arith, inl, inr}
use Rattle.std.specs.List.{list_all}
use Rattle.std.proofs.lemmas.Bool.{cases_Bool, both_ways, eqb-true, eq-eqb, and_parts, and_from, not-true, not_from_false}
use Rattle.std.proofs.lemmas.List.Sums.{count_by-le-length, sum_by-cons}
use Rattle.fc_base.specs.Counts.{count_below, is_needed_at, need_count_of, is_unneeded}
use Rattle.fc_base.specs.Need.{IsNeeded}
use Rattle.fc_base.specs.Sheet.{Slot, slot_at, column}
use Rattle.fc_base.specs.SheetView.{count_true}
use Rattle.fc_moves.proofs.Readers.{reader_is}

-- ---- all of them

count_more : (b : Bool) (bits : List Bool) → count_true (b ∷ bits) ≡ cond b 1 0 + count_true bits
count_more b bits = sum_by-cons (λ (x : Bool). cond x 1 0) b bits

pub all_counted : (bits : List Bool) → length bits ≤ count_true bits → list_all (λ b. b) bits ≡ true
all_counted [] le = refl
all_counted (true ∷ bits) le = all_counted bits (omega (arith, le, count_more true bits))
all_counted (false ∷ bits) le =
    let most : count_true bits ≤ length bits = count_by-le-length (λ (b : Bool). b) bits in absurd (omega (arith, le, count_more false bits, most))

-- ---- needs

none_below : (test : ℕ → Bool) (n i : ℕ) → count_below test n ≡ 0 → i < n → test i ≡ true → ⊥
none_below test zero i e lt t = omega (arith, lt)
none_below test (suc n) i e lt t =
    elim (cases_Bool (test n)) [
      | inl y ↦ let q : count_below test (suc n) ≡ count_below test n + 1 = rw y refl in omega (arith, q, e)
      | inr f ↦ let q : count_below test (suc n) ≡ count_below test n = rw f refl in
          let ne : i ≢ n = λ same. both_ways (test n) f (ap test (sym same) ∙ t) in
          none_below test n i (sym q ∙ e) (omega (arith, lt, ne)) t
    ]

pub held_below : (held : List Bool) (g : ℕ) → get_or held g false ≡ true → g < length held
held_below [] g e = absurd cc
held_below (b ∷ bits) zero e = omega arith
held_below (b ∷ bits) (suc g) e = omega (arith, held_below bits g e)

pub uncounted_free : (slots : List Slot) (k : ℕ) → need_count_of slots k ≡ 0 → IsNeeded slots k → ⊥
uncounted_free slots k e n =
    let r = reader_is (column slots n.0) k k n.1 n.2 in
    none_below (is_needed_at slots k) (length (slot_at slots k).held) n.0 e (held_below (slot_at slots k).held n.0 r.reads.holds) (ap is_some n.2)

-- An old slot is unneeded by the test exactly where its count is 0.
pub old_uncounted : (slots : List Slot) (k : ℕ) → is_unneeded slots k ≡ true → ((slot_at slots k).is_live ≡ false) × (need_count_of slots k ≡ 0)
old_uncounted slots k e =
    let p = and_parts (not (slot_at slots k).is_live) (eqb (need_count_of slots k) 0) e in
    (not-true (slot_at slots k).is_live p.0, eqb-true (need_count_of slots k) 0 p.1)

pub uncounted_old : (slots : List Slot) (k : ℕ) → (slot_at slots k).is_live ≡ false → need_count_of slots k ≡ 0 → is_unneeded slots k ≡ true
uncounted_old slots k old e =
    and_from (not (slot_at slots k).is_live) (eqb (need_count_of slots k) 0) (not_from_false (slot_at slots k).is_live old) (eq-eqb (need_count_of slots k) 0 e)

pub not_counted : (n : ℕ) → nat_lt 0 n ≡ false → n ≡ 0
not_counted zero e = refl
not_counted (suc n) e = grind (arith, e)
