-- Sums over lanes: the numbers below a bound that pass a test, counted lane by lane.
use Rattle.std.proofs.Common.{◌≡◌, ◌≢◌, ℕ, zero, suc, ◌+◌, ◌-◌, ◌*◌, ◌/◌, ◌%◌, ◌<◌, ◌≤◌, Bool, true, false, cond, List, length, get_or, map, take, refl, sym, ap, ap₂, ◌∙◌, arith, inl, inr, add-zero}
use Rattle.std.specs.List.{sum_by, count_by, range_with_len}
use Rattle.std.proofs.lemmas.Bool.{cases_lt, cases_eq}
use Rattle.std.proofs.lemmas.List.{take_all}
use Rattle.std.proofs.lemmas.List.FromFn.{sum_by-map-range_with_len_more}
use Rattle.std.proofs.lemmas.List.Sums.{sum_by_more}
use Rattle.std.proofs.lemmas.Nat.{div-add-mod', div-mul-add, mod_below}
use Rattle.fc_base.specs.Counts.{count_below}

-- ---- sums of numbers below a bound

abbrev pub total : (ℕ → ℕ) → ℕ → ℕ
total f zero = 0
total f (suc n) = total f n + f n

pub total_same : (f h : ℕ → ℕ) (n : ℕ) → ((i : ℕ) → i < n → f i ≡ h i) → total f n ≡ total h n
total_same f h zero e = refl
total_same f h (suc n) e = ap₂ (λ a b. a + b) (total_same f h n (λ i lt. e i (omega arith))) (e n (omega arith))

-- all the same but one, which is so much more
pub total_more : (f h : ℕ → ℕ) (n j d : ℕ) → j < n → f j ≡ h j + d → ((i : ℕ) → i < n → i ≢ j → f i ≡ h i) → total f n ≡ total h n + d
total_more f h zero j d lt e same = absurd (omega arith)
total_more f h (suc n) j d lt e same =
    elim (cases_eq j n) [
      | inl last ↦ (
          let before : total f n ≡ total h n = total_same f h n (λ i below. same i (omega arith) (omega arith)) in
          let here : f n ≡ h n + d = ap f (sym last) ∙ (e ∙ ap (λ z. h z + d) last) in
          omega arith
          )
      | inr other ↦ (
          let before : total f n ≡ total h n + d = total_more f h n j d (omega arith) e (λ i below. same i (omega arith)) in
          let here : f n ≡ h n = same n (omega arith) (λ q. other (sym q)) in
          omega arith
          )
    ]

pub total_none : (f : ℕ → ℕ) (n : ℕ) → ((i : ℕ) → i < n → f i ≡ 0) → total f n ≡ 0
total_none f zero e = refl
total_none f (suc n) e =
    let before : total f n ≡ 0 = total_none f n (λ i lt. e i (omega arith)) in
    let here : f n ≡ 0 = e n (omega arith) in
    omega arith

-- a sum over a list by numbers
pub sum_total : {X : Type 0} → (f : X → ℕ) (at : ℕ → X) (n : ℕ) → sum_by f (map at (range_with_len 0 n)) ≡ total (λ i. f (at i)) n
sum_total f at zero = refl
sum_total f at (suc n) =
    let e : suc n ≡ n + 1 = omega arith in
    ap (λ z. sum_by f (map at (range_with_len 0 z))) e
    ∙ (sum_by-map-range_with_len_more f at 0 n n (omega arith)
    ∙ ap (λ z. z + f (at n)) (sum_total f at n))

-- ---- how many a lane has of the numbers below a bound

-- the numbers of lane `i` of `n`
abbrev pub share : ℕ → ℕ → ℕ → ℕ
share n i x = (x + n - 1 - i) / n

row_more : (q n : ℕ) → suc q * n ≡ q * n + n
row_more q n = grind arith

rounds : (a n q r : ℕ) → r < n → a ≡ q * n + r → a / n ≡ q
rounds a n q r lt e = ap (λ z. z / n) e ∙ div-mul-add q n r lt

share_own : (n q r x : ℕ) → r < n → x ≡ q * n + r → share n r x ≡ q
share_own n q r x lt e = rounds (x + n - 1 - r) n q (n - 1) (omega arith) (omega arith)

share_next : (n q r x : ℕ) → r < n → x ≡ q * n + r → share n r (suc x) ≡ suc q
share_next n q r x lt e =
    let row : suc q * n ≡ q * n + n = row_more q n in
    rounds (suc x + n - 1 - r) n (suc q) 0 (omega arith) (omega arith)

share_stays : (n q r i x : ℕ) → r < n → i < n → i ≢ r → x ≡ q * n + r → share n i (suc x) ≡ share n i x
share_stays n q r i x lt below other e =
    elim (cases_lt r i) [
      | inl before ↦ rounds (suc x + n - 1 - i) n q (r + n - i) (omega arith) (omega arith) ∙ sym (rounds (x + n - 1 - i) n q (r + n - 1 - i) (omega arith) (omega arith))
      | inr behind ↦ (
          let row : suc q * n ≡ q * n + n = row_more q n in
          rounds (suc x + n - 1 - i) n (suc q) (r - i) (omega arith) (omega arith) ∙ sym (rounds (x + n - 1 - i) n (suc q) (r - 1 - i) (omega arith) (omega arith))
          )
    ]

share_none : (n i : ℕ) → i < n → share n i 0 ≡ 0
share_none n i lt = rounds (0 + n - 1 - i) n 0 (n - 1 - i) (omega arith) (omega arith)

-- ---- counts

one_if : Bool → ℕ
one_if b = cond b 1 0

count_step : (test : ℕ → Bool) (n : ℕ) → count_below test (suc n) ≡ count_below test n + cond (test n) 1 0
count_step test n = at_suc (test n) (count_below test n)
  where
    at_suc : (b : Bool) (x : ℕ) → cond b (x + 1) x ≡ x + cond b 1 0
    at_suc true x = refl
    at_suc false x = sym (add-zero x)

-- those of a lane that pass
abbrev pub passed : (ℕ → Bool) → ℕ → ℕ → ℕ → ℕ
passed test n x i = count_below (λ p. test (p * n + i)) (share n i x)

pub passed_by_lanes : (test : ℕ → Bool) (n : ℕ) → 0 < n → (x : ℕ) → total (passed test n x) n ≡ count_below test x
passed_by_lanes test n above zero = total_none (passed test n 0) n (λ i lt. ap (count_below (λ p. test (p * n + i))) (share_none n i lt))
passed_by_lanes test n above (suc x) =
    let q : ℕ = x / n in
    let r : ℕ = x % n in
    let lt : r < n = mod_below x n above in
    let e : x ≡ q * n + r = sym (div-add-mod' x n) in
    let own : passed test n (suc x) r ≡ passed test n x r + cond (test x) 1 0 =
    ap (count_below (λ p. test (p * n + r))) (share_next n q r x lt e)
    ∙ (count_step (λ p. test (p * n + r)) q
    ∙ ap₂ (λ a b. count_below (λ p. test (p * n + r)) a + cond (test b) 1 0) (sym (share_own n q r x lt e)) (sym e)) in
    total_more (passed test n (suc x)) (passed test n x) n r (cond (test x) 1 0) lt own
    (λ i below other. ap (count_below (λ p. test (p * n + i))) (share_stays n q r i x lt below other e))
    ∙ (ap (λ z. z + cond (test x) 1 0) (passed_by_lanes test n above x)
    ∙ sym (count_step test x))

pub count_all : (n : ℕ) → count_below (λ p. true) n ≡ n
count_all zero = refl
count_all (suc n) = let before : count_below (λ p. true) n ≡ n = count_all n in omega arith

pub shares : (n : ℕ) → 0 < n → (x : ℕ) → total (λ i. share n i x) n ≡ x
shares n above x =
    total_same (λ i. share n i x) (passed (λ p. true) n x) n (λ i lt. sym (count_all (share n i x)))
    ∙ (passed_by_lanes (λ p. true) n above x ∙ count_all x)

pub count_same : (test other : ℕ → Bool) (n : ℕ) → ((i : ℕ) → i < n → test i ≡ other i) → count_below test n ≡ count_below other n
count_same test other zero e = refl
count_same test other (suc n) e = ap₂ (λ (b : Bool) x. cond b (x + 1) x) (e n (omega arith)) (count_same test other n (λ i lt. e i (omega arith)))

-- a list counted by its places
counted_first : (bits : List Bool) (i : ℕ) → i ≤ length bits → count_by (λ b. b) (take i bits) ≡ count_below (λ g. get_or bits g false) i
counted_first bits zero le = refl
counted_first bits (suc i) le =
    let e : suc i ≡ i + 1 = omega arith in
    ap (λ z. count_by (λ (b : Bool). b) (take z bits)) e
    ∙ (sum_by_more (λ (b : Bool). cond b 1 0) bits i false (omega arith)
    ∙ (ap (λ z. z + cond (get_or bits i false) 1 0) (counted_first bits i (omega arith))
    ∙ sym (count_step (λ g. get_or bits g false) i)))

pub counted : (bits : List Bool) → count_by (λ b. b) bits ≡ count_below (λ g. get_or bits g false) (length bits)
counted bits = ap (count_by (λ (b : Bool). b)) (sym (take_all (length bits) bits (omega arith))) ∙ counted_first bits (length bits) (omega arith)
