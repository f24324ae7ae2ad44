-- How many items pass a test.
use Rattle.std.proofs.Common.{◌≡◌, ◌∙◌, sym, ap, suc, Bool, true, false, cond, List, ◌∷◌, length, refl}
use Rattle.std.specs.List.{filter, count_by}
use Rattle.std.proofs.lemmas.List.Sums.{length-filter}

length_by : {X : Type 0} (x : X) (ys : List X) (b : Bool) → length (cond b (x ∷ ys) ys) ≡ cond b (suc (length ys)) (length ys)
length_by x ys true = refl
length_by x ys false = refl

pub count_cons : {X : Type 0} (p : X → Bool) (x : X) (xs : List X) → count_by p (x ∷ xs) ≡ cond (p x) (suc (count_by p xs)) (count_by p xs)
count_cons p x xs = sym (length-filter p (x ∷ xs)) ∙ length_by x (filter p xs) (p x) ∙ ap (λ n. cond (p x) (suc n) n) (length-filter p xs)
