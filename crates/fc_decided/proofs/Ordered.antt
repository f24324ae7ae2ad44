-- Tables stay in order of ids, without two of one name.
use Rattle.std.proofs.Common.{◌≡◌, ◌≢◌, ℕ, ◌<◌, Bool, List, [], ◌∷◌, ◌++◌, length, map, get_or, Some, None, refl, sym, ap, subst, ◌∙◌, arith, Contains, inl, inr, All, bytes_eq}
use Rattle.std.specs.List.{filter, find}
use Rattle.std.specs.Prelude.{◌==◌}
use Rattle.std.proofs.lemmas.Bool.{both_ways, eq-eqb, eqb-true}
use Rattle.std.proofs.lemmas.List.{get_or-map, length-map}
use Rattle.std.proofs.lemmas.List.Elements.{Contains-get_or}
use Rattle.std.proofs.lemmas.List.Kept.{AllPairs-filter}
use Rattle.std.proofs.lemmas.List.Quantifiers.{all_pairs_push}
use Rattle.std.proofs.lemmas.Slice.Eq.{bytes_eq-Decides}
use Rattle.fc_base.specs.Tables.{IsOrdered, refers_to}
use Rattle.fc_base.specs.declared.name.Ref.TheVariants.{Name}
use Rattle.fc_pick.proofs.Rising.{IsAbove, Rises, rises}
use Rattle.fc_decided.proofs.Lists.{in_cases, none_in, all_from, find_one, find_misses}

module _ {X : Type 0} (id_of : X → ℕ) (name_of : X → List ℕ) where
  above_in : (k : ℕ) (xs : List X) (x : X) → IsAbove id_of k xs → Contains xs x → k < id_of x
  above_in k [] x above found = absurd (none_in x found)
  above_in k (y ∷ ys) x above found = elim (in_cases y x ys found) [ inl same ↦ subst (λ (z : X). k < id_of z) same above.0 | inr rest ↦ above_in k ys x above.1 rest ]

  one_rising : (xs : List X) (x y : X) → Rises id_of xs → Contains xs x → Contains xs y → id_of x ≡ id_of y → x ≡ y
  one_rising [] x y rising one other same = absurd (none_in x one)
  one_rising (z ∷ zs) x y rising one other same =
      elim (in_cases z x zs one) [
        | inl a ↦ elim (in_cases z y zs other) [
          | inl b ↦ sym a ∙ b
          | inr b ↦ absurd (let lt : id_of z < id_of y = above_in (id_of z) zs y rising.0 b in let e : id_of z ≡ id_of x = ap id_of a in omega (arith, lt, e, same))
        ]
        | inr a ↦ elim (in_cases z y zs other) [
          | inl b ↦ absurd (let lt : id_of z < id_of x = above_in (id_of z) zs x rising.0 a in let e : id_of z ≡ id_of y = ap id_of b in omega (arith, lt, e, same))
          | inr b ↦ one_rising zs x y rising.1 a b same
        ]
      ]

  -- an id names one
  pub one_of_id : (xs : List X) (x y : X) → IsOrdered id_of name_of xs → Contains xs x → Contains xs y → id_of x ≡ id_of y → x ≡ y
  one_of_id xs x y o one other same = one_rising xs x y (rises id_of xs o.rising) one other same

  pub push_ordered : (xs : List X) (y : X) → IsOrdered id_of name_of xs → All (λ x. id_of x < id_of y) xs → ((x : X) → Contains xs x → name_of x ≢ name_of y) → IsOrdered id_of name_of (xs ++ y ∷ [])
  push_ordered xs y o above other =
      record {
        rising = all_pairs_push (λ x y. id_of x < id_of y) xs y o.rising above;
        distinct = all_pairs_push (λ x y. name_of x ≢ name_of y) xs y o.distinct (all_from (λ x. name_of x ≢ name_of y) xs other);
      }

  pub filter_ordered : (p : X → Bool) (xs : List X) → IsOrdered id_of name_of xs → IsOrdered id_of name_of (filter p xs)
  filter_ordered p xs o =
      record {
        rising = AllPairs-filter (λ x y. id_of x < id_of y) p xs o.rising;
        distinct = AllPairs-filter (λ x y. name_of x ≢ name_of y) p xs o.distinct;
      }

  mapped_at : (f : X → X) (xs : List X) → ((x : X) → Contains xs x → id_of (f x) ≡ id_of x) → (i : ℕ) (d : X) → i < length xs → id_of (get_or (map f xs) i d) ≡ id_of (get_or xs i d)
  mapped_at f xs ids i d lt = ap id_of (get_or-map f xs i d d lt) ∙ ids (get_or xs i d) (Contains-get_or xs i d lt)

  named_at : (f : X → X) (xs : List X) → ((x : X) → Contains xs x → name_of (f x) ≡ name_of x) → (i : ℕ) (d : X) → i < length xs → name_of (get_or (map f xs) i d) ≡ name_of (get_or xs i d)
  named_at f xs names i d lt = ap name_of (get_or-map f xs i d d lt) ∙ names (get_or xs i d) (Contains-get_or xs i d lt)

  pub map_ordered : (f : X → X) (xs : List X) → ((x : X) → Contains xs x → id_of (f x) ≡ id_of x) → ((x : X) → Contains xs x → name_of (f x) ≡ name_of x) → IsOrdered id_of name_of xs → IsOrdered id_of name_of (map f xs)
  map_ordered f xs ids names o =
      let n : length (map f xs) ≡ length xs = length-map xs f in
      record {
        rising = λ i j d lt jl.
            let a = mapped_at f xs ids i d (omega (arith, lt, jl, n)) in
            let b = mapped_at f xs ids j d (omega (arith, jl, n)) in
            let c = o.rising i j d lt (omega (arith, jl, n)) in
            omega (arith, a, b, c);
        distinct = λ i j d lt jl same.
            o.distinct i j d lt (omega (arith, jl, n)) (sym (named_at f xs names i d (omega (arith, lt, jl, n))) ∙ same ∙ named_at f xs names j d (omega (arith, jl, n)));
      }

  -- a name that finds none is no one's
  pub unnamed : (name : List ℕ) (xs : List X) → find (λ x. refers_to (Name name) (id_of x) (name_of x)) xs ≡ None → (x : X) → Contains xs x → name_of x ≢ name
  unnamed name xs none x found same =
      both_ways (bytes_eq name (name_of x)) (find_misses (λ z. refers_to (Name name) (id_of z) (name_of z)) xs x none found) ((bytes_eq-Decides name (name_of x)).1 (sym same))

  -- what is searched by its id is found
  pub found_by_id : (xs : List X) (x : X) → IsOrdered id_of name_of xs → Contains xs x → find (λ y. id_of x == id_of y) xs ≡ Some x
  found_by_id xs x o found =
      find_one (λ y. id_of x == id_of y) xs x found (eq-eqb (id_of x) (id_of x) refl)
      (λ y other e. one_of_id xs y x o other found (sym (eqb-true (id_of x) (id_of y) e)))
