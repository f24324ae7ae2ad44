-- Loops over lists.
use Rattle.std.proofs.Common.{◌≡◌, ℕ, zero, suc, ◌+◌, ◌<◌, Bool, true, false, cond, List, [], ◌∷◌, ◌++◌, map, take, drop, set, get_or, length, refl, sym, ap, ◌∙◌, arith, add-one}
use Rattle.std.specs.List.{filter}
use Rattle.std.proofs.lemmas.List.{take_more}

map_step : {X : Type 0} (f : X → X) (xs : List X) (i : ℕ) (t : X) → i < length xs → t ≡ get_or (map f (take i xs) ++ drop i xs) i t →
    set (map f (take i xs) ++ drop i xs) i (f t) ≡ map f (take (suc i) xs) ++ drop (suc i) xs
map_step f [] i t lt e = absurd (omega arith)
map_step f (x ∷ xs) zero t lt e = ap (λ z. f z ∷ xs) e
map_step f (x ∷ xs) (suc i) t lt e = ap (λ z. f x ∷ z) (map_step f xs i t (omega arith) e)

pub mapped_more : {X : Type 0} (f : X → X) (xs now : List X) (i : ℕ) (t u : X) → now ≡ map f (take i xs) ++ drop i xs → i < length xs → t ≡ get_or now i t → u ≡ f t →
    set now i u ≡ map f (take (i + 1) xs) ++ drop (i + 1) xs
mapped_more f xs now i t u e lt r q =
    ap (λ z. set z i u) e ∙ (ap (set (map f (take i xs) ++ drop i xs) i) q ∙
    (map_step f xs i t lt (r ∙ ap (λ z. get_or z i t) e) ∙ ap (λ n. map f (take n xs) ++ drop n xs) (sym (add-one i))))

-- a list from a place on
pub drop_step : {X : Type 0} (xs : List X) (i : ℕ) (x : X) → i < length xs → x ≡ get_or xs i x → drop i xs ≡ x ∷ drop (i + 1) xs
drop_step {X = X} xs i x lt e = split xs i x lt e ∙ ap (λ n. x ∷ drop n xs) (sym (add-one i))
  where
    split : (xs : List X) (i : ℕ) (x : X) → i < length xs → x ≡ get_or xs i x → drop i xs ≡ x ∷ drop (suc i) xs
    split [] i x lt e = absurd (omega arith)
    split (y ∷ ys) zero x lt e = ap (λ z. z ∷ ys) (sym e)
    split (y ∷ ys) (suc i) x lt e = split ys i x (omega arith) e

-- what a change of the last places leaves to do at one place
written_step : {X : Type 0} (f : X → X) (xs : List X) (i : ℕ) (d : X) → i < length xs → set (take (suc i) xs ++ map f (drop (suc i) xs)) i (f (get_or xs i d)) ≡ take i xs ++ map f (drop i xs)
written_step f [] i d lt = absurd (omega arith)
written_step f (x ∷ xs) zero d lt = refl
written_step f (x ∷ xs) (suc i) d lt = ap (λ z. x ∷ z) (written_step f xs i d (omega arith))

at_front : {X : Type 0} (xs ys : List X) (i : ℕ) (d e : X) → i < length xs → get_or (take (suc i) xs ++ ys) i d ≡ get_or xs i e
at_front [] ys i d e lt = absurd (omega arith)
at_front (x ∷ xs) ys zero d e lt = refl
at_front (x ∷ xs) ys (suc i) d e lt = at_front xs ys i d e (omega arith)

pub written_here : {X : Type 0} (f : X → X) (xs now : List X) (i : ℕ) (t old u : X) → i < length xs → now ≡ take (i + 1) xs ++ map f (drop (i + 1) xs) → t ≡ get_or now i t → old ≡ get_or xs i old → u ≡ f old →
    set now i u ≡ take i xs ++ map f (drop i xs)
written_here f xs now i t old u lt e r o q =
    ap (λ z. set z i u) e ∙ (ap (λ n. set (take n xs ++ map f (drop n xs)) i u) (add-one i) ∙ (ap (set (take (suc i) xs ++ map f (drop (suc i) xs)) i) (q ∙ ap f o) ∙ written_step f xs i old lt))

pub same_there : {X : Type 0} (f : X → X) (xs now : List X) (i : ℕ) (t old : X) → i < length xs → now ≡ take (i + 1) xs ++ map f (drop (i + 1) xs) → t ≡ get_or now i t → old ≡ get_or xs i old → t ≡ old
same_there f xs now i t old lt e r o =
    r ∙ (ap (λ z. get_or z i t) e ∙ (ap (λ n. get_or (take n xs ++ map f (drop n xs)) i t) (add-one i) ∙ (at_front xs (map f (drop (suc i) xs)) i t old lt ∙ sym o)))

filter_push : {X : Type 0} (p : X → Bool) (xs : List X) (x : X) → filter p (xs ++ x ∷ []) ≡ filter p xs ++ filter p (x ∷ [])
filter_push p [] x = refl
filter_push {X = X} p (y ∷ ys) x = by_cases (p y) (filter_push p ys x)
  where
    by_cases : (b : Bool) → filter p (ys ++ x ∷ []) ≡ filter p ys ++ filter p (x ∷ []) →
        cond b (y ∷ filter p (ys ++ x ∷ [])) (filter p (ys ++ x ∷ [])) ≡ cond b (y ∷ filter p ys) (filter p ys) ++ filter p (x ∷ [])
    by_cases true ih = ap (λ z. y ∷ z) ih
    by_cases false ih = ih

-- one more is kept where it passes
pub filter_more : {X : Type 0} (p : X → Bool) (xs now new : List X) (i : ℕ) (x : X) → i < length xs → x ≡ get_or xs i x → now ≡ filter p (take i xs) → new ≡ now ++ filter p (x ∷ []) → new ≡ filter p (take (i + 1) xs)
filter_more p xs now new i x lt at before added =
    added ∙ (ap (λ ys. ys ++ filter p (x ∷ [])) before ∙ (ap (λ z. filter p (take i xs) ++ filter p (z ∷ [])) at ∙ sym (ap (filter p) (take_more xs i x lt) ∙ filter_push p (take i xs) (get_or xs i x))))
