-- The number that a name has, found one name after the other.
use Rattle.std.proofs.Common.{◌≡◌, ℕ, suc, ◌+◌, ◌<◌, ◌≤◌, Bool, true, false, not, cond, nat_lt, zero, List, [], ◌∷◌, drop, length, slice_index_or, Some, None, refl, sym, ap, ◌∙◌, arith}
use Rattle.std.specs.List.{position, position_or_len, slice_get}
use Rattle.std.specs.Option.{unwrap_or}
use Rattle.std.proofs.lemmas.Bool.{ltb-false}
use Rattle.std.proofs.lemmas.List.{drop_more}
use Rattle.std.proofs.lemmas.Option.{none-some}

by_test : (b : Bool) (p l n : ℕ) → nat_lt p l ≡ b → p ≡ n → n ≤ l → unwrap_or (cond b (Some p) None) l ≡ n
by_test true p l n e is within = is
by_test false p l n e is within = let over : l ≤ p = ltb-false p l e in omega (arith, over, is, within)

module _ {X : Type 0} (t : X → Bool) where
  -- The place, where it is one, is the number.
  pub number_at : (xs : List X) (n : ℕ) → position_or_len t xs ≡ n → n ≤ length xs → unwrap_or (position t xs) (length xs) ≡ n
  number_at xs n is within = by_test (nat_lt (position_or_len t xs) (length xs)) (position_or_len t xs) (length xs) n refl is within

  from_first : (x : X) (xs : List X) (b : Bool) → t x ≡ b → position_or_len t (x ∷ xs) ≡ cond (not b) (1 + position_or_len t xs) 0
  from_first x xs b e = ap (λ (c : Bool). cond (not c) (1 + position_or_len t xs) 0) e

  -- It stands here, or behind.
  pub found_at : (xs : List X) (n : ℕ) (x : X) → n < length xs → x ≡ slice_index_or xs n x → t x ≡ true → n + position_or_len t (drop n xs) ≡ n
  found_at xs n x inside is says =
      let here : position_or_len t (drop n xs) ≡ 0 = ap (position_or_len t) (drop_more xs n x inside) ∙ from_first (slice_index_or xs n x) (drop (n + 1) xs) true (ap t (sym is) ∙ says) in
      omega (arith, here)

  pub passed_at : (xs : List X) (n : ℕ) (x : X) → n < length xs → x ≡ slice_index_or xs n x → t x ≡ false → n + position_or_len t (drop n xs) ≡ (n + 1) + position_or_len t (drop (n + 1) xs)
  passed_at xs n x inside is denies =
      let behind : position_or_len t (drop n xs) ≡ 1 + position_or_len t (drop (n + 1) xs) =
      ap (position_or_len t) (drop_more xs n x inside) ∙ from_first (slice_index_or xs n x) (drop (n + 1) xs) false (ap t (sym is) ∙ denies) in
      omega (arith, behind)

-- What stands at a place.
pub get_some : {X : Type 0} (xs : List X) (n : ℕ) (x : X) → slice_get xs n ≡ Some x → (n < length xs) × (x ≡ slice_index_or xs n x)
get_some [] n x e = absurd (none-some x e)
get_some (y ∷ ys) zero x e = let same : y ≡ x = cc in (omega arith, sym same)
get_some (y ∷ ys) (suc n) x e = let rest = get_some ys n x e in let below = rest.0 in (omega (arith, below), rest.1)
