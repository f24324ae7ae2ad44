-- The object at a place of a table comes behind copies of those before it.
use Rattle.std.proofs.Common.{◌≡◌, ◌≢◌, ℕ, suc, ◌<◌, Bool, true, false, List, [], ◌∷◌, length, get_or, take, find, All, bytes_eq, is_some, refl, ap, sym, subst, ◌∙◌, arith}
use Rattle.std.proofs.lemmas.List.{get_or-take, get_or_default, length-take}
use Rattle.std.proofs.lemmas.Slice.Eq.{bytes_eq-Decides}
use Rattle.fc_base.specs.Tables.{IsOrdered}

no_unless : (b : Bool) → (b ≡ true → ⊥) → b ≡ false
no_unless true so = absurd (so refl)
no_unless false so = refl

none_found : {X : Type 0} (p : X → Bool) (xs : List X) → ((k : ℕ) (d : X) → k < length xs → p (get_or xs k d) ≡ false) → is_some (find p xs) ≡ false
none_found p [] none = refl
none_found p (x ∷ xs) none =
    let first : p x ≡ false = none 0 x (omega arith) in
    rw first (none_found p xs (λ k d within. none (suc k) d (omega arith)))

module _ {X : Type 0} (id_of : X → ℕ) (name_of : X → List ℕ) (items : List X) (i : ℕ) (ordered : IsOrdered id_of name_of items) where
  before : (k : ℕ) → k < length (take i items) → k < i
  before k lt = omega (arith, length-take i items)

  here : (x d : X) → i < length items → x ≡ get_or items i x → x ≡ get_or items i d
  here x d within read = read ∙ get_or_default items i x d within

  ids_below : (x : X) → i < length items → x ≡ get_or items i x → All (λ y. id_of y < id_of x) (take i items)
  ids_below x within read k d lt =
      let first : k < i = before k lt in
      let rises : id_of (get_or items k d) < id_of (get_or items i d) = ordered.rising k i d first within in
      omega (arith, ap id_of (get_or-take i items k d first), ap id_of (here x d within read))

  other_name : (x : X) → i < length items → x ≡ get_or items i x → (k : ℕ) (d : X) → k < length (take i items) → name_of (get_or (take i items) k d) ≢ name_of x
  other_name x within read k d lt same =
      let first : k < i = before k lt in
      ordered.distinct k i d first within (sym (ap name_of (get_or-take i items k d first)) ∙ (same ∙ ap name_of (here x d within read)))

  abbrev IsNameNew : X → List X → Type 0
  IsNameNew x xs = is_some (find (λ y. bytes_eq (name_of x) (name_of y)) xs) ≡ false

  name_new : (x : X) → i < length items → x ≡ get_or items i x → IsNameNew x (take i items)
  name_new x within read =
      none_found (λ y. bytes_eq (name_of x) (name_of y)) (take i items)
      (λ k d lt. no_unless (bytes_eq (name_of x) (name_of (get_or (take i items) k d)))
      (λ so. other_name x within read k d lt (sym ((bytes_eq-Decides (name_of x) (name_of (get_or (take i items) k d))).0 so))))

  -- so its copy can be put behind them
  pub comes_above : (slice now : List X) (item x : X) → slice ≡ items → now ≡ take i items → x ≡ item → i < length slice → item ≡ get_or slice i item → All (λ y. id_of y < id_of x) now
  comes_above slice now item x at so is within read =
      subst (λ (ys : List X). All (λ y. id_of y < id_of x) ys) (sym so)
      (subst (λ (z : X). All (λ y. id_of y < id_of z) (take i items)) (sym is)
      (ids_below item (subst (λ (xs : List X). i < length xs) at within) (subst (λ (xs : List X). item ≡ get_or xs i item) at read)))

  pub comes_new : (slice now : List X) (item x : X) → slice ≡ items → now ≡ take i items → x ≡ item → i < length slice → item ≡ get_or slice i item → is_some (find (λ y. bytes_eq (name_of x) (name_of y)) now) ≡ false
  comes_new slice now item x at so is within read =
      subst (λ (ys : List X). IsNameNew x ys) (sym so)
      (subst (λ (z : X). IsNameNew z (take i items)) (sym is)
      (name_new item (subst (λ (xs : List X). i < length xs) at within) (subst (λ (xs : List X). item ≡ get_or xs i item) at read)))
