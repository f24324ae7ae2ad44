-- The mappings as some of them are set.
use Rattle.std.proofs.Common.{◌≡◌, ◌∙◌, sym, ap, ℕ, zero, suc, ◌<◌, Bool, true, false, cond, ◌==◌, if◌then◌else◌, List, [], ◌∷◌, ◌++◌, length, map, fold, slice_index_or, refl, arith, inl, inr}
use Rattle.std.specs.List.{Contains, AllPairs, filter, flat_map}
use Rattle.std.proofs.lemmas.Bool.{eqb-true, eq-eqb, cases_order}
use Rattle.fc_base.specs.Tables.{IsOrdered}
use Rattle.fc_base.specs.declared.volume.Change.TheVariants.{SetMapping}
use Rattle.fc_base.specs.declared.volume.Mapping.{Mapping}
use Rattle.fc_books.specs.After.{after_table_change}
use Rattle.fc_books.specs.Books.{Books}

-- ---- one mapping as others are set

abbrev pub set_one : Mapping → Mapping → Mapping
set_one x y = if y.id.0 == x.id.0 then y else x

abbrev pub set_in : List Mapping → Mapping → List Mapping
set_in xs y = map (λ (x : Mapping). if y.id.0 == x.id.0 then y else x) xs

abbrev pub with_maps : Books → List Mapping → Books
with_maps b xs = record b { tables = record b.tables { mappings = xs } }

map_twice : {X : Type 0} (f g : X → X) (xs : List X) → map f (map g xs) ≡ map (λ x. f (g x)) xs
map_twice f g [] = refl
map_twice f g (x ∷ xs) = ap (λ ys. f (g x) ∷ ys) (map_twice f g xs)

map_same : {X : Type 0} (xs : List X) → xs ≡ map (λ x. x) xs
map_same [] = refl
map_same (x ∷ xs) = ap (λ ys. x ∷ ys) (map_same xs)

pub set_pointwise : (ys xs : List Mapping) → fold set_in xs ys ≡ map (λ x. fold set_one x ys) xs
set_pointwise [] xs = map_same xs
set_pointwise (y ∷ ys) xs = set_pointwise ys (set_in xs y) ∙ map_twice (λ x. fold set_one x ys) (λ x. set_one x y) xs

pub fold_append : {S X : Type 0} (f : S → X → S) (s : S) (xs ys : List X) → fold f s (xs ++ ys) ≡ fold f (fold f s xs) ys
fold_append f s [] ys = refl
fold_append f s (x ∷ xs) ys = fold_append f (f s x) xs ys

-- ---- the changes

pub changes_set : (b : Books) (f : Mapping → Mapping) (ms xs : List Mapping) → fold after_table_change (with_maps b xs) (map (λ m. SetMapping (f m)) ms) ≡ with_maps b (fold set_in xs (map f ms))
changes_set b f [] xs = refl
changes_set b f (m ∷ ms) xs = changes_set b f ms (set_in xs (f m))

pub flat_one : {X A : Type 0} (f : X → A) (xs : List X) → flat_map (λ x. f x ∷ []) xs ≡ map f xs
flat_one f [] = refl
flat_one f (x ∷ xs) = ap (λ ys. f x ∷ ys) (flat_one f xs)

-- ---- one of each id

-- the mappings of the list with the id of `x` are `x`
abbrev pub IsAlone : List Mapping → Mapping → Type 0
IsAlone xs x = (z : Mapping) → Contains xs z → (z.id.0 == x.id.0) ≡ true → z ≡ x

pub first_there : (x : Mapping) (xs : List Mapping) → Contains (x ∷ xs) x
first_there x xs = (0, omega arith, refl)

pub later_there : (z x : Mapping) (xs : List Mapping) → Contains xs z → Contains (x ∷ xs) z
later_there z x xs found = (suc found.0, omega (arith, found.1), found.2)

alone_later : (z x : Mapping) (zs : List Mapping) → IsAlone (z ∷ zs) x → IsAlone zs x
alone_later z x zs alone y found e = alone y (later_there y z zs found) e

any_default : (xs : List Mapping) (k : ℕ) (d e : Mapping) → k < length xs → slice_index_or xs k d ≡ slice_index_or xs k e
any_default [] k d e lt = grind (arith, lt)
any_default (x ∷ xs) zero d e lt = refl
any_default (x ∷ xs) (suc k) d e lt = any_default xs k d e (omega (arith, lt))

rising_alone : (xs : List Mapping) (x : Mapping) → AllPairs (λ (m n : Mapping). m.id.0 < n.id.0) xs → Contains xs x → IsAlone xs x
rising_alone xs x rising there z found e =
    let same_id : z.id.0 ≡ x.id.0 = eqb-true z.id.0 x.id.0 e in
    let z_is : slice_index_or xs found.0 x ≡ z = any_default xs found.0 x z found.1 ∙ found.2 in
    elim (cases_order found.0 there.0) [
      | inl same ↦ sym z_is ∙ ap (λ k. slice_index_or xs k x) same ∙ there.2
      | inr apart ↦
          elim apart [
            | inl lt ↦
                let less : (slice_index_or xs found.0 x).id.0 < (slice_index_or xs there.0 x).id.0 = rising found.0 there.0 x lt there.1 in
                let a : (slice_index_or xs found.0 x).id.0 ≡ z.id.0 = ap (λ (m : Mapping). m.id.0) z_is in
                let c : (slice_index_or xs there.0 x).id.0 ≡ x.id.0 = ap (λ (m : Mapping). m.id.0) there.2 in
                absurd (omega (arith, less, a, c, same_id))
            | inr gt ↦
                let less : (slice_index_or xs there.0 x).id.0 < (slice_index_or xs found.0 x).id.0 = rising there.0 found.0 x gt found.1 in
                let a : (slice_index_or xs found.0 x).id.0 ≡ z.id.0 = ap (λ (m : Mapping). m.id.0) z_is in
                let c : (slice_index_or xs there.0 x).id.0 ≡ x.id.0 = ap (λ (m : Mapping). m.id.0) there.2 in
                absurd (omega (arith, less, a, c, same_id))
          ]
    ]

pub alone : (xs : List Mapping) (x : Mapping) → IsOrdered (λ (m : Mapping). m.id.0) (λ (m : Mapping). m.name) xs → Contains xs x → IsAlone xs x
alone xs x ordered there = rising_alone xs x ordered.rising there

-- a mapping that was set stays as others with its id are set
again_one : (f : Mapping → Mapping) (x z : Mapping) (zs : List Mapping) (t : Bool) → ((m : Mapping) → (f m).id.0 ≡ m.id.0) → IsAlone (z ∷ zs) x → ((f z).id.0 == (f x).id.0) ≡ t → set_one (f x) (f z) ≡ f x
again_one f x z zs false keeps is_alone is = ap (λ b. if b then f z else f x) is
again_one f x z zs true keeps is_alone is =
    ap (λ b. if b then f z else f x) is
    ∙ ap f (is_alone z (first_there z zs) (eq-eqb z.id.0 x.id.0 (sym (keeps z) ∙ eqb-true (f z).id.0 (f x).id.0 is ∙ keeps x)))

again_by : (f : Mapping → Mapping) (x z : Mapping) (kept : List Mapping) (b : Bool) → set_one (f x) (f z) ≡ f x → fold set_one (f x) (map f kept) ≡ f x → fold set_one (f x) (map f (cond b (z ∷ kept) kept)) ≡ f x
again_by f x z kept false one rest = rest
again_by f x z kept true one rest = ap (λ m. fold set_one m (map f kept)) one ∙ rest

set_again : (f : Mapping → Mapping) (p : Mapping → Bool) (x : Mapping) (zs : List Mapping) → ((m : Mapping) → (f m).id.0 ≡ m.id.0) → IsAlone zs x → fold set_one (f x) (map f (filter p zs)) ≡ f x
set_again f p x [] keeps is_alone = refl
set_again f p x (z ∷ zs) keeps is_alone =
    again_by f x z (filter p zs) (p z) (again_one f x z zs ((f z).id.0 == (f x).id.0) keeps is_alone refl) (set_again f p x zs keeps (alone_later z x zs is_alone))

-- one that doesn't pass stays
other_one : (f : Mapping → Mapping) (p : Mapping → Bool) (x z : Mapping) (zs : List Mapping) (t : Bool) → ((m : Mapping) → (f m).id.0 ≡ m.id.0) → IsAlone (z ∷ zs) x → p x ≡ false → p z ≡ true → ((f z).id.0 == x.id.0) ≡ t → set_one x (f z) ≡ x
other_one f p x z zs false keeps is_alone none passes is = ap (λ b. if b then f z else x) is
other_one f p x z zs true keeps is_alone none passes is =
    let same = is_alone z (first_there z zs) (eq-eqb z.id.0 x.id.0 (sym (keeps z) ∙ eqb-true (f z).id.0 x.id.0 is)) in
    grind (arith, passes, none, ap p same)

other_by : (f : Mapping → Mapping) (p : Mapping → Bool) (x z : Mapping) (kept : List Mapping) (b : Bool) → p z ≡ b → (p z ≡ true → set_one x (f z) ≡ x) → fold set_one x (map f kept) ≡ x → fold set_one x (map f (cond b (z ∷ kept) kept)) ≡ x
other_by f p x z kept false is one rest = rest
other_by f p x z kept true is one rest = ap (λ m. fold set_one m (map f kept)) (one is) ∙ rest

set_other : (f : Mapping → Mapping) (p : Mapping → Bool) (x : Mapping) (zs : List Mapping) → ((m : Mapping) → (f m).id.0 ≡ m.id.0) → IsAlone zs x → p x ≡ false → fold set_one x (map f (filter p zs)) ≡ x
set_other f p x [] keeps is_alone none = refl
set_other f p x (z ∷ zs) keeps is_alone none =
    other_by f p x z (filter p zs) (p z) refl (λ passes. other_one f p x z zs ((f z).id.0 == x.id.0) keeps is_alone none passes refl) (set_other f p x zs keeps (alone_later z x zs is_alone) none)

-- one that passes is set
first_one : (f : Mapping → Mapping) (x z : Mapping) (zs kept : List Mapping) (t : Bool) → ((m : Mapping) → (f m).id.0 ≡ m.id.0) → IsAlone (z ∷ zs) x → ((f z).id.0 == x.id.0) ≡ t → fold set_one x (map f kept) ≡ f x → fold set_one (f x) (map f kept) ≡ f x → fold set_one (set_one x (f z)) (map f kept) ≡ f x
first_one f x z zs kept false keeps is_alone same rest again = ap (λ b. fold set_one (if b then f z else x) (map f kept)) same ∙ rest
first_one f x z zs kept true keeps is_alone same rest again =
    ap (λ b. fold set_one (if b then f z else x) (map f kept)) same
    ∙ ap (λ m. fold set_one (f m) (map f kept)) (is_alone z (first_there z zs) (eq-eqb z.id.0 x.id.0 (sym (keeps z) ∙ eqb-true (f z).id.0 x.id.0 same)))
    ∙ again

first_by : (f : Mapping → Mapping) (x z : Mapping) (kept : List Mapping) (b : Bool) → fold set_one x (map f kept) ≡ f x → fold set_one (set_one x (f z)) (map f kept) ≡ f x → fold set_one x (map f (cond b (z ∷ kept) kept)) ≡ f x
first_by f x z kept false rest one = rest
first_by f x z kept true rest one = one

set_first : (f : Mapping → Mapping) (p : Mapping → Bool) (x : Mapping) (zs : List Mapping) (k : ℕ) → ((m : Mapping) → (f m).id.0 ≡ m.id.0) → IsAlone zs x → p x ≡ true → k < length zs → slice_index_or zs k x ≡ x → fold set_one x (map f (filter p zs)) ≡ f x
set_first f p x [] k keeps is_alone passes lt is = grind (arith, lt)
set_first f p x (z ∷ zs) zero keeps is_alone passes lt is =
    ap (λ b. fold set_one x (map f (cond b (z ∷ filter p zs) (filter p zs)))) (ap p is ∙ passes)
    ∙ ap (λ m. fold set_one (set_one x (f m)) (map f (filter p zs))) is
    ∙ ap (λ b. fold set_one (if b then f x else x) (map f (filter p zs))) (eq-eqb (f x).id.0 x.id.0 (keeps x))
    ∙ set_again f p x zs keeps (alone_later z x zs is_alone)
set_first f p x (z ∷ zs) (suc k) keeps is_alone passes lt is =
    let rest = set_first f p x zs k keeps (alone_later z x zs is_alone) passes (omega (arith, lt)) is in
    first_by f x z (filter p zs) (p z) rest
    (first_one f x z zs (filter p zs) ((f z).id.0 == x.id.0) keeps is_alone refl rest (set_again f p x zs keeps (alone_later z x zs is_alone)))

-- Of mappings with one of each id, those that pass are set.
pub set_kept : (f : Mapping → Mapping) (p : Mapping → Bool) (x : Mapping) (zs : List Mapping) → ((m : Mapping) → (f m).id.0 ≡ m.id.0) → IsAlone zs x → Contains zs x → fold set_one x (map f (filter p zs)) ≡ cond (p x) (f x) x
set_kept f p x zs keeps is_alone there = by (p x) refl
  where
    by : (b : Bool) → p x ≡ b → fold set_one x (map f (filter p zs)) ≡ cond b (f x) x
    by true passes = set_first f p x zs there.0 keeps is_alone passes there.1 there.2
    by false none = set_other f p x zs keeps is_alone none

-- One whose id no set mapping has stays.
apart_one : (f : Mapping → Mapping) (y z : Mapping) → ((m : Mapping) → (f m).id.0 ≡ m.id.0) → (z.id.0 == y.id.0) ≡ false → set_one y (f z) ≡ y
apart_one f y z keeps e = ap (λ n. if n == y.id.0 then f z else y) (keeps z) ∙ ap (λ b. if b then f z else y) e

apart_by : (f : Mapping → Mapping) (p : Mapping → Bool) (y z : Mapping) (kept : List Mapping) (b : Bool) → p z ≡ b → ((m : Mapping) → (f m).id.0 ≡ m.id.0) → (p z ≡ true → (z.id.0 == y.id.0) ≡ false) → fold set_one y (map f kept) ≡ y → fold set_one y (map f (cond b (z ∷ kept) kept)) ≡ y
apart_by f p y z kept false is keeps apart rest = rest
apart_by f p y z kept true is keeps apart rest = ap (λ m. fold set_one m (map f kept)) (apart_one f y z keeps (apart is)) ∙ rest

pub set_apart : (f : Mapping → Mapping) (p : Mapping → Bool) (y : Mapping) (zs : List Mapping) → ((m : Mapping) → (f m).id.0 ≡ m.id.0) → ((z : Mapping) → Contains zs z → p z ≡ true → (z.id.0 == y.id.0) ≡ false) → fold set_one y (map f (filter p zs)) ≡ y
set_apart f p y [] keeps apart = refl
set_apart f p y (z ∷ zs) keeps apart =
    apart_by f p y z (filter p zs) (p z) refl keeps (apart z (first_there z zs)) (set_apart f p y zs keeps (λ x found. apart x (later_there x z zs found)))
