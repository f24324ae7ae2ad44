-- What is done to each element of a list, and what is seen of it.
use Rattle.std.proofs.Common.{◌≡◌, List, [], ◌∷◌, map, refl, ap₂}

pub all_seen : {X Y : Type 0} → (seen : X → Y) (f : X → X) (f' : Y → Y) → ((x : X) → seen (f x) ≡ f' (seen x)) → (xs : List X) → map seen (map f xs) ≡ map f' (map seen xs)
all_seen seen f f' each [] = refl
all_seen seen f f' each (x ∷ xs) = ap₂ (λ a b. a ∷ b) (each x) (all_seen seen f f' each xs)

pub none_seen : {X Y : Type 0} → (seen : X → Y) (f : X → X) → ((x : X) → seen (f x) ≡ seen x) → (xs : List X) → map seen (map f xs) ≡ map seen xs
none_seen seen f each [] = refl
none_seen seen f each (x ∷ xs) = ap₂ (λ a b. a ∷ b) (each x) (none_seen seen f each xs)
