-- Rows of words that are made in place, and how many of their bits are set together.
use Rattle.std.proofs.Common.{◌≡◌, ◌≢◌, ℕ, zero, suc, ◌+◌, ◌-◌, ◌*◌, ◌/◌, ◌%◌, ◌^◌, ◌<◌, ◌≤◌, Bool, true, false, not, ◌&&◌, cond, eqb, List, length, get_or, set, count_ones, refl, sym, ap, ◌∙◌, ⊎_elim, arith, bit_and, add-zero}
use Rattle.std.specs.Int.{bit_at}
use Rattle.std.specs.Int.Count.{ones-ones}
use Rattle.std.proofs.Math.Nat.{mod-eq_of_lt}
use Rattle.std.proofs.lemmas.Bool.{cases_eq, eq-eqb, ne_eqb}
use Rattle.std.proofs.lemmas.List.{get_or-set_same, get_or-set_other}
use Rattle.std.proofs.lemmas.Nat.{mod-pow-add, ones_cat, ones_le_self, mod_below, pow_pos, and_le_r}
use Rattle.std.proofs.lemmas.Nat.Bits.{bit_at-lt, bit_at-zero}
use Rattle.fc_bits.specs.Words.{is_set, bit_in, bit_of}
use Rattle.fc_bits.proofs.Pairs.{is_set-and, is_set-and_not, is_set-not}
use Rattle.fc_base.specs.Counts.{count_below}

-- ---- rows that are made in place, word by word

-- the words below `i` are made, and those from `i` on are as they were
pub record IsMadeUpTo (row : ℕ → ℕ) (a c : List ℕ) (i : ℕ) : Type 0 where
  pub done : (k : ℕ) → k < i → get_or c k 0 ≡ row k
  pub ahead : (k : ℕ) → i ≤ k → get_or c k 0 ≡ get_or a k 0

pub made_none : (row : ℕ → ℕ) (a : List ℕ) → IsMadeUpTo row a a 0
made_none row a = record { done = λ k lt. absurd (omega arith); ahead = λ k le. refl }

pub made_more : (row : ℕ → ℕ) (a c : List ℕ) (i w : ℕ) → i < length c → w ≡ row i → IsMadeUpTo row a c i → IsMadeUpTo row a (set c i w) (i + 1)
made_more row a c i w lt e m = record {
  done = λ k low. ⊎_elim
      (λ (same : k ≡ i). ap (λ z. get_or (set c i w) z 0) same ∙ (get_or-set_same c i w 0 lt ∙ (e ∙ ap row (sym same))))
      (λ ne. let other : k ≢ i = ne in get_or-set_other c i k w 0 other ∙ m.done k (omega arith))
      (cases_eq k i);
  ahead = λ k high. let other : k ≢ i = omega arith in get_or-set_other c i k w 0 other ∙ m.ahead k (omega arith);
}

row_bit : (row : ℕ → ℕ) (a c : List ℕ) (n g : ℕ) → IsMadeUpTo row a c n → g < 64 * n → bit_of c g ≡ is_set (row (g / 64)) (g % 64)
unfolding bit_of bit_in
row_bit row a c n g m lt = let low : g / 64 < n = omega arith in ap (λ z. is_set z (g % 64)) (m.done (g / 64) low)

word_bit : (a : List ℕ) (g : ℕ) → bit_of a g ≡ is_set (get_or a (g / 64) 0) (g % 64)
unfolding bit_of bit_in
word_bit a g = refl

-- ---- the three rows

abbrev pub zeros : ℕ → ℕ
zeros k = 0

abbrev pub left_of : List ℕ → List ℕ → ℕ → ℕ
left_of a b k = bit_and (get_or a k 0) (2 ^ 64 - 1 - get_or b k 0)

abbrev pub others_of : List ℕ → ℕ → ℕ
others_of b k = 2 ^ 64 - 1 - get_or b k 0

pub cleared_bits : (a c : List ℕ) (n g : ℕ) → IsMadeUpTo zeros a c n → g < 64 * n → bit_of c g ≡ false
cleared_bits a c n g m lt =
    row_bit zeros a c n g m lt ∙ ne_eqb _ 1 (λ (is : bit_at 0 (g % 64) ≡ 1). absurd (omega (arith, bit_at-zero (g % 64))))

pub left_bits : (a b c : List ℕ) (n g : ℕ) → ((k : ℕ) → get_or b k 0 < 2 ^ 64) → IsMadeUpTo (left_of a b) a c n → g < 64 * n → bit_of c g ≡ (bit_of a g && not (bit_of b g))
left_bits a b c n g fits m lt =
    row_bit (left_of a b) a c n g m lt ∙ (is_set-and_not (get_or a (g / 64) 0) (get_or b (g / 64) 0) (g % 64) (fits (g / 64)) (omega arith)
    ∙ (ap (λ z. z && not (is_set (get_or b (g / 64) 0) (g % 64))) (sym (word_bit a g)) ∙ ap (λ z. bit_of a g && not z) (sym (word_bit b g))))

pub others_bits : (a b c : List ℕ) (n g : ℕ) → ((k : ℕ) → get_or b k 0 < 2 ^ 64) → IsMadeUpTo (others_of b) a c n → g < 64 * n → bit_of c g ≡ not (bit_of b g)
others_bits a b c n g fits m lt =
    row_bit (others_of b) a c n g m lt ∙ (is_set-not (get_or b (g / 64) 0) (g % 64) (fits (g / 64)) (omega arith) ∙ ap not (sym (word_bit b g)))

-- ---- bits of a word that are counted

ones_bit : (b : ℕ) → b < 2 → count_ones b ≡ cond (eqb b 1) 1 0
ones_bit b low =
    ⊎_elim
    (λ (on : b ≡ 1). ap count_ones on ∙ ones-ones 1 ∙ ap (λ (t : Bool). cond {A = ℕ} t 1 0) (sym (eq-eqb b 1 on)))
    (λ ne. let off : b ≡ 0 = omega arith in
    ap count_ones off ∙ omega (arith, ones_le_self 0) ∙ ap (λ (t : Bool). cond {A = ℕ} t 1 0) (sym (ne_eqb b 1 ne)))
    (cases_eq b 1)

ones_more : (w j : ℕ) → count_ones (w % 2 ^ (1 + j)) ≡ count_ones (w % 2 ^ j) + cond (is_set w j) 1 0
ones_more w j =
    ap count_ones (mod-pow-add w 1 j) ∙ ones_cat j (bit_at w j) (w % 2 ^ j) (mod_below w (2 ^ j) (pow_pos j))
    ∙ omega (arith, ones_bit (bit_at w j) (bit_at-lt w j))

count_step : (test : ℕ → Bool) (n : ℕ) → count_below test (n + 1) ≡ count_below test n + cond (test n) 1 0
count_step test n = let e : n + 1 ≡ suc n = omega arith in ap (count_below test) e ∙ at_suc (test n) (count_below test n)
  where
    at_suc : (b : Bool) (x : ℕ) → cond b (x + 1) x ≡ x + cond b 1 0
    at_suc true x = refl
    at_suc false x = sym (add-zero x)

-- the tests from `n` on are the bits of a word
pub record TestsWord (test : ℕ → Bool) (n w : ℕ) : Type 0 where
  pub bits : (j : ℕ) → j < 64 → test (n + j) ≡ is_set w j

count_part : (test : ℕ → Bool) (n w j : ℕ) → TestsWord test n w → j ≤ 64 → count_below test (n + j) ≡ count_below test n + count_ones (w % 2 ^ j)
count_part test n w zero t le =
    let low : w % 1 ≡ 0 = omega arith in
    let none : count_ones (w % 1) ≡ 0 = ap count_ones low ∙ omega (arith, ones_le_self 0) in
    ap (count_below test) (add-zero n) ∙ omega arith
count_part test n w (suc j) t le =
    let digit : count_ones (w % 2 ^ suc j) ≡ count_ones (w % 2 ^ j) + cond (is_set w j) 1 0 = ap (λ (x : ℕ). count_ones (w % 2 ^ x)) (omega arith) ∙ ones_more w j in
    let step : count_below test (n + suc j) ≡ count_below test (n + j) + cond (is_set w j) 1 0 =
    ap (count_below test) (omega arith) ∙ (count_step test (n + j) ∙ ap (λ (b : Bool). count_below test (n + j) + cond b 1 0) (t.bits j (omega arith))) in
    let before : count_below test (n + j) ≡ count_below test n + count_ones (w % 2 ^ j) = count_part test n w j t (omega arith) in
    omega arith

count_word : (test : ℕ → Bool) (n w : ℕ) → TestsWord test n w → w < 2 ^ 64 → count_below test (n + 64) ≡ count_below test n + count_ones w
count_word test n w t fits = count_part test n w 64 t (omega arith) ∙ ap (λ (x : ℕ). count_below test n + count_ones x) (mod-eq_of_lt fits)

-- one more word of two rows
abbrev pub both_set : List ℕ → List ℕ → ℕ → Bool
both_set a b g = bit_of a g && bit_of b g

both_word : (a b : List ℕ) (i : ℕ) → TestsWord (both_set a b) (64 * i) (bit_and (get_or a i 0) (get_or b i 0))
both_word a b i = record {
  bits = λ j lt.
      let word : (64 * i + j) / 64 ≡ i = omega arith in
      let place : (64 * i + j) % 64 ≡ j = omega arith in
      let at : (c : List ℕ) → bit_of c (64 * i + j) ≡ is_set (get_or c i 0) j = λ c. word_bit c (64 * i + j) ∙ (ap (λ z. is_set (get_or c z 0) ((64 * i + j) % 64)) word ∙ ap (λ z. is_set (get_or c i 0) z) place) in
      ap (λ z. z && bit_of b (64 * i + j)) (at a) ∙ (ap (λ z. is_set (get_or a i 0) j && z) (at b) ∙ sym (is_set-and (get_or a i 0) (get_or b i 0) j));
}

pub count_more : (a b : List ℕ) (i w : ℕ) → w ≡ bit_and (get_or a i 0) (get_or b i 0) → w < 2 ^ 64 → count_below (both_set a b) (64 * (i + 1)) ≡ count_below (both_set a b) (64 * i) + count_ones w
count_more a b i w e fits =
    ap (count_below (both_set a b)) (omega arith) ∙ count_word (both_set a b) (64 * i) w (record { bits = λ j lt. (both_word a b i).bits j lt ∙ ap (λ z. is_set z j) (sym e) }) fits

-- counts rise with the bound
pub count_rises : (test : ℕ → Bool) (n d : ℕ) → count_below test n ≤ count_below test (n + d)
count_rises test n zero = let e : count_below test (n + 0) ≡ count_below test n = ap (count_below test) (add-zero n) in omega arith
count_rises test n (suc d) =
    let r : count_below test n ≤ count_below test (n + d) = count_rises test n d in
    let e : count_below test (n + suc d) ≡ count_below test (n + d) + cond (test (n + d)) 1 0 = ap (count_below test) (omega arith) ∙ count_step test (n + d) in
    omega arith

pub count_next : (a b c : List ℕ) (i n : ℕ) → get_or b i 0 < 2 ^ 64 → get_or c i 0 ≡ get_or a i 0 → n ≡ count_below (both_set a b) (64 * i) →
    n + count_ones (bit_and (get_or c i 0) (get_or b i 0)) ≡ count_below (both_set a b) (64 * (i + 1))
count_next a b c i n fits same e =
    let w : ℕ = bit_and (get_or c i 0) (get_or b i 0) in
    let is : w ≡ bit_and (get_or a i 0) (get_or b i 0) = ap (λ z. bit_and z (get_or b i 0)) same in
    let low : w < 2 ^ 64 = omega (arith, and_le_r (get_or a i 0) (get_or b i 0)) in
    let r : count_below (both_set a b) (64 * (i + 1)) ≡ count_below (both_set a b) (64 * i) + count_ones w = count_more a b i w is low in
    omega arith

pub next_fits : (a b : List ℕ) (i m n : ℕ) → n ≡ count_below (both_set a b) (64 * (i + 1)) → i < m → count_below (both_set a b) (64 * m) < 2 ^ 32 → n < 2 ^ 32
next_fits a b i m n e lt few =
    let d : 64 * m ≡ 64 * (i + 1) + (64 * m - 64 * (i + 1)) = omega arith in
    let x : count_below (both_set a b) (64 * m) ≡ count_below (both_set a b) (64 * (i + 1) + (64 * m - 64 * (i + 1))) = ap (count_below (both_set a b)) d in
    let r : count_below (both_set a b) (64 * (i + 1)) ≤ count_below (both_set a b) (64 * (i + 1) + (64 * m - 64 * (i + 1))) = count_rises (both_set a b) (64 * (i + 1)) (64 * m - 64 * (i + 1)) in
    omega arith
