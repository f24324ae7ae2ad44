-- Two rows of words bit by bit, and two sets grain by grain.
use Rattle.std.proofs.Common.{◌≡◌, ◌≢◌, ℕ, ◌+◌, ◌-◌, ◌/◌, ◌%◌, ◌^◌, ◌<◌, ◌≤◌, Bool, false, not, ◌&&◌, ◌||◌, List, eqb, length, get_or, set, refl, sym, ap, ap₂, ◌∙◌, subst, ⊎_elim, ◌⊎◌, inl, inr, arith, bit_and, bit_or}
use Rattle.std.specs.Int.{bit_at, w64}
use Rattle.std.specs.Simd.Lanes.{zip2}
use Rattle.std.proofs.lemmas.Bool.{cases_lt, cases_eq, eq-eqb, ne_eqb, and_left, or_left}
use Rattle.std.proofs.lemmas.List.{get_or_past, get_or-set_same, get_or-set_other}
use Rattle.std.proofs.lemmas.Simd.{get_or-zip2, length-zip2}
use Rattle.std.proofs.lemmas.Nat.Bits.{bit_at-lt, bit_at_not, bit_at_and, bit_at_or}
use Rattle.fc_bits.specs.Grains.{has}
use Rattle.fc_bits.specs.Words.{is_set, bit_in, bit_of, grains_of, IsTidy}
use Rattle.fc_bits.proofs.Bridge.{length-grains_of, has-grains_of, grains_of_is}

-- ---- the bits of one word

bit_cases : (x i : ℕ) → (bit_at x i ≡ 0) ⊎ (bit_at x i ≡ 1)
bit_cases x i = ⊎_elim (λ e. inl e) (λ ne. inr (omega (arith, bit_at-lt x i))) (cases_eq (bit_at x i) 0)

pub is_set-not : (y i : ℕ) → y < 2 ^ 64 → i < 64 → is_set (2 ^ 64 - 1 - y) i ≡ not (is_set y i)
is_set-not y i fits in_word =
    ⊎_elim
    (λ (off : bit_at y i ≡ 0). eq-eqb _ 1 (omega (arith, bit_at_not w64 y i fits in_word)) ∙ ap not (sym (ne_eqb (bit_at y i) 1 (omega arith))))
    (λ (on : bit_at y i ≡ 1). ne_eqb _ 1 (omega (arith, bit_at_not w64 y i fits in_word)) ∙ ap not (sym (eq-eqb (bit_at y i) 1 on)))
    (bit_cases y i)

pub is_set-and : (x y i : ℕ) → is_set (bit_and x y) i ≡ (is_set x i && is_set y i)
is_set-and x y i =
    ⊎_elim
    (λ (off : bit_at x i ≡ 0). ne_eqb _ 1 (omega (arith, bit_at_and x y i)) ∙ sym (and_left _ _ (ne_eqb (bit_at x i) 1 (omega arith))))
    (λ (on : bit_at x i ≡ 1). ap (λ (z : ℕ). eqb z 1) (omega (arith, bit_at_and x y i, bit_at-lt y i)) ∙ ap (λ (b : Bool). b && is_set y i) (sym (eq-eqb (bit_at x i) 1 on)))
    (bit_cases x i)

pub is_set-and_not : (x y i : ℕ) → y < 2 ^ 64 → i < 64 → is_set (bit_and x (2 ^ 64 - 1 - y)) i ≡ (is_set x i && not (is_set y i))
is_set-and_not x y i fits in_word = is_set-and x (2 ^ 64 - 1 - y) i ∙ ap (λ (b : Bool). is_set x i && b) (is_set-not y i fits in_word)

pub is_set-or : (x y i : ℕ) → is_set (bit_or x y) i ≡ (is_set x i || is_set y i)
is_set-or x y i =
    ⊎_elim
    (λ (off : bit_at x i ≡ 0). ap (λ (z : ℕ). eqb z 1) (omega (arith, bit_at_or x y i)) ∙ ap (λ (b : Bool). b || is_set y i) (sym (ne_eqb (bit_at x i) 1 (omega arith))))
    (λ (on : bit_at x i ≡ 1). eq-eqb _ 1 (omega (arith, bit_at_or x y i, bit_at-lt y i)) ∙ sym (or_left _ _ (eq-eqb (bit_at x i) 1 on)))
    (bit_cases x i)

-- ---- rows that are made of others

-- the row of the words a[k] & !b[k]
abbrev pub apart : List ℕ → List ℕ → ℕ → ℕ
apart a b k = bit_and (get_or a k 0) (2 ^ 64 - 1 - get_or b k 0)

pub bit_in-apart : (a b : List ℕ) → ((k : ℕ) → get_or b k 0 < 2 ^ 64) → (g : ℕ) → bit_in (apart a b) g ≡ (bit_of a g && not (bit_of b g))
unfolding bit_of bit_in
bit_in-apart a b fits g = is_set-and_not (get_or a (g / 64) 0) (get_or b (g / 64) 0) (g % 64) (fits (g / 64)) (omega arith)

-- the row of the words !a[k]
pub bit_in-not : (a : List ℕ) → ((k : ℕ) → get_or a k 0 < 2 ^ 64) → (g : ℕ) → bit_in (λ k. 2 ^ 64 - 1 - get_or a k 0) g ≡ not (bit_of a g)
unfolding bit_of bit_in
bit_in-not a fits g = is_set-not (get_or a (g / 64) 0) (g % 64) (fits (g / 64)) (omega arith)

-- the row of the words a[k] & b[k]
pub bit_in-both : (a b : List ℕ) (g : ℕ) → bit_in (λ k. bit_and (get_or a k 0) (get_or b k 0)) g ≡ (bit_of a g && bit_of b g)
unfolding bit_of bit_in
bit_in-both a b g = is_set-and (get_or a (g / 64) 0) (get_or b (g / 64) 0) (g % 64)

-- the row of the words a[k]
pub bit_in-words : (a : List ℕ) (g : ℕ) → bit_in (λ k. get_or a k 0) g ≡ bit_of a g
unfolding bit_of
bit_in-words a g = refl

-- ---- words that are made in place, each of its old value and the word of another row, as by `|=`

module _ (make : ℕ → ℕ → ℕ) (a b : List ℕ) where
  abbrev pub made_of : ℕ → ℕ
  made_of k = make (get_or a k 0) (get_or b k 0)

  -- the words below i are made, and the words from i on are as they were
  abbrev pub MadeUpTo : List ℕ → ℕ → Type 0
  MadeUpTo c i = ((k : ℕ) → k < i → get_or c k 0 ≡ made_of k) × ((k : ℕ) → i ≤ k → get_or c k 0 ≡ get_or a k 0)

  pub made_more : (c : List ℕ) (i : ℕ) → i < length c → MadeUpTo c i → MadeUpTo (set c i (make (get_or c i 0) (get_or b i 0))) (i + 1)
  made_more c i within made = (done, ahead)
    where
      done : (k : ℕ) → k < i + 1 → get_or (set c i (make (get_or c i 0) (get_or b i 0))) k 0 ≡ made_of k
      done k low = ⊎_elim
          (λ below. let other : k ≢ i = omega arith in get_or-set_other c i k _ 0 other ∙ made.0 k below)
          (λ at. let same : k ≡ i = omega arith in
          subst (λ (x : ℕ). get_or (set c i (make (get_or c i 0) (get_or b i 0))) x 0 ≡ made_of x) (sym same)
          (get_or-set_same c i _ 0 within ∙ ap (λ (x : ℕ). make x (get_or b i 0)) (made.1 i (omega arith))))
          (cases_lt k i)

      ahead : (k : ℕ) → i + 1 ≤ k → get_or (set c i (make (get_or c i 0) (get_or b i 0))) k 0 ≡ get_or a k 0
      ahead k high = let other : k ≢ i = omega arith in get_or-set_other c i k _ 0 other ∙ made.1 k (omega arith)

  -- past the last word nothing is made of nothing
  pub made_all : make 0 0 ≡ 0 → (c : List ℕ) → length c ≡ length a → length a ≡ length b → ((k : ℕ) → k < length c → get_or c k 0 ≡ made_of k) → (k : ℕ) → get_or c k 0 ≡ made_of k
  made_all nothing c same_c same_b made k =
      ⊎_elim (made k)
      (λ past. get_or_past c k 0 past ∙ sym (ap₂ make (get_or_past a k 0 (omega arith)) (get_or_past b k 0 (omega arith)) ∙ nothing))
      (cases_lt k (length c))

bit_of-row : (c : List ℕ) (row : ℕ → ℕ) → ((k : ℕ) → get_or c k 0 ≡ row k) → (g : ℕ) → bit_of c g ≡ bit_in row g
unfolding bit_of bit_in
bit_of-row c row made g = ap (λ (x : ℕ). is_set x (g % 64)) (made (g / 64))

pub bit_of-removed : (a b c : List ℕ) → ((k : ℕ) → get_or b k 0 < 2 ^ 64) → ((k : ℕ) → get_or c k 0 ≡ apart a b k) → (g : ℕ) → bit_of c g ≡ (bit_of a g && not (bit_of b g))
bit_of-removed a b c fits made g = bit_of-row c (apart a b) made g ∙ bit_in-apart a b fits g

bit_in-either : (a b : List ℕ) (g : ℕ) → bit_in (λ k. bit_or (get_or a k 0) (get_or b k 0)) g ≡ (bit_of a g || bit_of b g)
unfolding bit_of bit_in
bit_in-either a b g = is_set-or (get_or a (g / 64) 0) (get_or b (g / 64) 0) (g % 64)

pub bit_of-added : (a b c : List ℕ) → ((k : ℕ) → get_or c k 0 ≡ bit_or (get_or a k 0) (get_or b k 0)) → (g : ℕ) → bit_of c g ≡ (bit_of a g || bit_of b g)
bit_of-added a b c made g = bit_of-row c _ made g ∙ bit_in-either a b g

pub bit_of-kept : (a b c : List ℕ) → ((k : ℕ) → get_or c k 0 ≡ bit_and (get_or a k 0) (get_or b k 0)) → (g : ℕ) → bit_of c g ≡ (bit_of a g && bit_of b g)
bit_of-kept a b c made g = bit_of-row c _ made g ∙ bit_in-both a b g

-- ---- two sets grain by grain, where no grain comes of none

module _ (pick : Bool → Bool → Bool) (none : pick false false ≡ false) where
  pub has-zip : (xs ys : List Bool) → length xs ≡ length ys → (g : ℕ) → has (zip2 pick xs ys) g ≡ pick (has xs g) (has ys g)
  has-zip xs ys long g =
      ⊎_elim
      (λ within. get_or-zip2 pick xs ys g false false false within (omega arith))
      (λ past. get_or_past (zip2 pick xs ys) g false (omega (arith, length-zip2 pick xs ys long))
      ∙ sym (ap₂ pick (get_or_past xs g false past) (get_or_past ys g false (omega arith)) ∙ none))
      (cases_lt g (length xs))

  pub grains_of-zip : (n : ℕ) (a b c : List ℕ) → ((g : ℕ) → bit_of c g ≡ pick (bit_of a g) (bit_of b g)) → grains_of n c ≡ zip2 pick (grains_of n a) (grains_of n b)
  grains_of-zip n a b c made =
      grains_of_is n c (zip2 pick (grains_of n a) (grains_of n b)) (length-zip2 pick _ _ same_length ∙ length-grains_of n a)
      (λ g within. made g ∙ sym (has-zip (grains_of n a) (grains_of n b) same_length g ∙ ap₂ pick (has-grains_of n a g within) (has-grains_of n b g within)))
    where
      same_length : length (grains_of n a) ≡ length (grains_of n b)
      same_length = length-grains_of n a ∙ sym (length-grains_of n b)

  pub tidy-zip : (n : ℕ) (a b c : List ℕ) → IsTidy n a → IsTidy n b → length c ≡ length a → ((g : ℕ) → bit_of c g ≡ pick (bit_of a g) (bit_of b g)) → IsTidy n c
  tidy-zip n a b c tidy_a tidy_b same made = record {
    numbered = tidy_a.numbered;
    enough = same ∙ tidy_a.enough;
    spare_clear = λ g past. made g ∙ ap₂ pick (tidy_a.spare_clear g past) (tidy_b.spare_clear g past) ∙ none;
  }
