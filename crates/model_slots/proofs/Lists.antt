-- Loops over lists.
use Rattle.std.proofs.Common.{◌≡◌, ℕ, ◌+◌, ◌<◌, Option, Some, None, List, [], ◌∷◌, ◌++◌, take, get_or, length, refl, sym, ap, ◌∙◌}
use Rattle.std.specs.Prelude.{filter_map, option_to_list}
use Rattle.std.proofs.lemmas.List.{take_more}
use Rattle.std.proofs.lemmas.List.Elements.{filter_map-append}

-- one more place is looked up
pub filter_map_more : (f : ℕ → Option ℕ) (xs now new : List ℕ) (i : ℕ) (o : Option ℕ) → i < length xs → now ≡ filter_map f (take i xs) → o ≡ f (get_or xs i 0) → new ≡ now ++ option_to_list o →
    new ≡ filter_map f (take (i + 1) xs)
filter_map_more f xs now new i o lt before found added =
    let e : filter_map f (take (i + 1) xs) ≡ filter_map f (take i xs) ++ option_to_list (f (get_or xs i 0)) =
    ap (filter_map f) (take_more xs i 0 lt) ∙ (filter_map-append f (take i xs) (get_or xs i 0 ∷ []) ∙ ap (λ ys. filter_map f (take i xs) ++ ys) (one (f (get_or xs i 0)))) in
    added ∙ (ap (λ ys. ys ++ option_to_list o) before ∙ (ap (λ p. filter_map f (take i xs) ++ option_to_list p) found ∙ sym e))
  where
    one : (p : Option ℕ) → filter_map (λ (q : Option ℕ). q) (p ∷ []) ≡ option_to_list p
    one None = refl
    one (Some y) = refl
