-- Loops over places that keep what was found so far answer what the definitions say.
use Rattle.std.proofs.Common.{◌≡◌, ℕ, zero, suc, ◌+◌, ◌-◌, ◌<◌, ◌≤◌, Bool, true, false, not, cond, is_some, is_none, Option, Some, None, List, [], ◌∷◌, ◌++◌, length, length-append, refl, sym, ap, ◌∙◌, arith}
use Rattle.fc_base.specs.Column.{last_below}
use Rattle.fc_drawing.specs.Places.{places_below}

abbrev pub kept_with : List ℕ → ℕ → Bool → List ℕ
kept_with places n passes = cond passes (places ++ n ∷ []) places

pub last_step : (test : ℕ → Bool) (n : ℕ) → last_below test (suc n) ≡ cond (test n) (Some n) (last_below test n)
unfolding last_below
last_step test n = refl

pub places_step : (test : ℕ → Bool) (n : ℕ) → places_below test (suc n) ≡ kept_with (places_below test n) n (test n)
unfolding places_below
places_step test n = refl

pub last_none : (test : ℕ → Bool) → None ≡ last_below test 0
unfolding last_below
last_none test = refl

-- from the end downwards: the place below the bound passes, or it doesn't, or there is none
pub last_hit : (test : ℕ → Bool) (n end : ℕ) (passes : Bool) → zero < n → passes ≡ test (n - 1) → passes ≡ true → last_below test n ≡ last_below test end → Some (n - 1) ≡ last_below test end
last_hit test n end passes above answered passed so =
    let s : n ≡ suc (n - 1) = omega arith in
    let e : test (n - 1) ≡ true = sym answered ∙ passed in
    sym (ap (λ b. cond b (Some (n - 1)) (last_below test (n - 1))) e) ∙ (sym (last_step test (n - 1)) ∙ (ap (last_below test) (sym s) ∙ so))

pub last_miss : (test : ℕ → Bool) (n end : ℕ) (passes : Bool) → zero < n → passes ≡ test (n - 1) → passes ≡ false → last_below test n ≡ last_below test end → last_below test (n - 1) ≡ last_below test end
last_miss test n end passes above answered missed so =
    let s : n ≡ suc (n - 1) = omega arith in
    let e : test (n - 1) ≡ false = sym answered ∙ missed in
    sym (ap (λ b. cond b (Some (n - 1)) (last_below test (n - 1))) e) ∙ (sym (last_step test (n - 1)) ∙ (ap (last_below test) (sym s) ∙ so))

pub last_left : (test : ℕ → Bool) (n end : ℕ) → n ≤ zero → last_below test n ≡ last_below test end → None ≡ last_below test end
last_left test n end none so = let z : n ≡ zero = omega arith in last_none test ∙ (sym (ap (last_below test) z) ∙ so)

pub places_none : (test : ℕ → Bool) → [] ≡ places_below test 0
unfolding places_below
places_none test = refl

-- how many
abbrev pub counted_with : ℕ → ℕ → Bool → ℕ
counted_with count n passes = cond passes (count + 1) count

pub count_none : (test : ℕ → Bool) → zero ≡ length (places_below test 0)
unfolding places_below
count_none test = refl

pub count_step : (test : ℕ → Bool) (n : ℕ) → length (places_below test (suc n)) ≡ counted_with (length (places_below test n)) n (test n)
count_step test n = ap length (places_step test n) ∙ by_cases (test n)
  where
    by_cases : (b : Bool) → length (kept_with (places_below test n) n b) ≡ counted_with (length (places_below test n)) n b
    by_cases true = length-append (places_below test n) (n ∷ [])
    by_cases false = refl

pub count_within : (n count new : ℕ) (passes : Bool) → count ≤ n → new ≡ counted_with count n passes → new ≤ n + 1
count_within n count new true le made = let e : new ≡ count + 1 = made in omega arith
count_within n count new false le made = let e : new ≡ count = made in omega arith

-- one place more
pub so_far_more : {X : Type 0} (f : ℕ → X) (keep : X → ℕ → Bool → X) (test : ℕ → Bool) → ((n : ℕ) → f (suc n) ≡ keep (f n) n (test n)) →
    (n : ℕ) (found new : X) (passes : Bool) → found ≡ f n → passes ≡ test n → new ≡ keep found n passes → new ≡ f (n + 1)
so_far_more f keep test step n found new passes so answered made =
    let s : n + 1 ≡ suc n = omega arith in
    made ∙ (ap (λ x. keep x n passes) so ∙ (ap (λ b. keep (f n) n b) answered ∙ (sym (step n) ∙ ap f (sym s))))

-- all places
pub so_far_all : {X : Type 0} (f : ℕ → X) (n end : ℕ) (found : X) → found ≡ f n → n ≤ end → end ≤ n → found ≡ f end
so_far_all f n end found so below above = let e : n ≡ end = omega arith in so ∙ ap f e

-- an answer that isn't there
pub none_by : (o : Option ℕ) (b : Bool) → is_some o ≡ not b → b ≡ is_none o
none_by None true e = refl
none_by None false e = let f : false ≡ true = e in cc
none_by (Some k) true e = let f : true ≡ false = e in cc
none_by (Some k) false e = refl
