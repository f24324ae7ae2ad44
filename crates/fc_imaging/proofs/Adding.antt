-- Lists, item by item.
use Rattle.std.proofs.Common.{◌≡◌, ℕ, ◌+◌, List, [], ◌∷◌, ◌++◌, map, sym, ap, ◌∙◌}
use Rattle.std.specs.List.{range_with_len}
use Rattle.std.proofs.lemmas.List.{map_push}
use Rattle.std.proofs.lemmas.List.FromFn.{map-range_with_len_more}

module _ {X Y : Type 0} (g : X → Y) (f : ℕ → X) where
  pub mapped_more : (a n m j : ℕ) (ys : List Y) (y : Y) → a + n ≡ j → n + 1 ≡ m → ys ≡ map g (map f (range_with_len a n)) → y ≡ g (f j) →
      ys ++ y ∷ [] ≡ map g (map f (range_with_len a m))
  mapped_more a n m j ys y e next was is =
      (λ i. was i ++ is i ∷ [])
      ∙ (sym (map_push g (map f (range_with_len a n)) (f j))
      ∙ (ap (map g) (sym (map-range_with_len_more f a n j e))
      ∙ ap (λ (k : ℕ). map g (map f (range_with_len a k))) next))
