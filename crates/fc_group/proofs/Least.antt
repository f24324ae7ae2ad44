-- The least of a list that grows at its end.
use Rattle.std.proofs.Common.{◌≡◌, ℕ, min, Bool, true, false, cond, List, [], ◌∷◌, ◌++◌, map, Option, Some, None, refl, ap, ◌∙◌, append-nil}
use Rattle.std.proofs.lemmas.List.Elements.{filter_map-append, filter-append}
use Rattle.std.proofs.lemmas.List.{map-append}
use Rattle.std.specs.List.{fold, filter, filter_map, cons_option}
use Rattle.std.specs.Option.{option_map}
use Rattle.fc_books.specs.Groups.{least}
use Rattle.fc_group.specs.Found.{least_with, noted}

min_along : (x v : ℕ) (xs : List ℕ) → fold min x (xs ++ v ∷ []) ≡ min (fold min x xs) v
min_along x v [] = refl
min_along x v (y ∷ ys) = min_along (min x y) v ys

least-push : (xs : List ℕ) (v : ℕ) → least (xs ++ v ∷ []) ≡ Some (least_with (least xs) v)
least-push [] v = refl
least-push (x ∷ xs) v = ap Some (min_along x v xs)

push_if : (xs : List ℕ) (v : ℕ) (b : Bool) → least (xs ++ cond b (v ∷ []) []) ≡ cond b (Some (least_with (least xs) v)) (least xs)
push_if xs v true = least-push xs v
push_if xs v false = ap least (append-nil xs)

push_found : {Y : Type 0} (test : ℕ → Bool) (f : Y → ℕ) (o : Option Y) (xs : List ℕ) → least (xs ++ filter test (map f (cons_option o []))) ≡ noted test (option_map f o) (least xs)
push_found test f None xs = ap least (append-nil xs)
push_found test f (Some y) xs = push_if xs (f y) (test (f y))

-- one more id: what it names is noted
pub least_noted :
    {X Y : Type 0} (test : ℕ → Bool) (f : Y → ℕ) (h : X → Option Y) (xs : List X) (x : X) →
    least (filter test (map f (filter_map h (xs ++ x ∷ [])))) ≡ noted test (option_map f (h x)) (least (filter test (map f (filter_map h xs))))
least_noted test f h xs x =
    ap (λ ys. least (filter test (map f ys))) (filter_map-append h xs (x ∷ []))
    ∙ ap (λ ys. least (filter test ys)) (map-append f (filter_map h xs) (filter_map h (x ∷ [])))
    ∙ ap least (filter-append test (map f (filter_map h xs)) (map f (filter_map h (x ∷ []))))
    ∙ push_found test f (h x) (filter test (map f (filter_map h xs)))
