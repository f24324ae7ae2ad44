-- How the rows are found: what holds again after a row came, went or was told.
use Rattle.std.proofs.Common.{◌≡◌, ◌≢◌, ℕ, zero, suc, ◌+◌, ◌-◌, ◌<◌, ◌≤◌, min, Bool, true, false, not, ◌||◌, List, [], ◌∷◌, ◌++◌, map, length, get_or, set, take, drop, remove, filter, nat_eq, position, Option, Some, None, is_some, refl, ap, sym, subst, ◌∙◌, arith, All, AllPairs}
use Rattle.std.specs.List.{list_any}
use Rattle.std.proofs.lemmas.List.{get_or-map, length-map, map-append, take-append-le, take_all, take-map, take-append-drop, length-take-le, length-drop, length-replicate, length-take, take_min, get_or-take, get_or-drop, get_or_default}
use Rattle.std.proofs.lemmas.List.Edits.{length-remove, remove-append_left}
use Rattle.std.proofs.lemmas.List.Elements.{All-push, All-filter, filter_passes}
use Rattle.std.proofs.lemmas.List.Quantifiers.{position-Some, all_pairs_push, all_pairs_remove}
use Rattle.std.proofs.lemmas.Bool.Decides.{nat_tests}
use Rattle.fc_diff.specs.declared.tracked.Event.{Event}
use Rattle.fc_diff.specs.State.{NewRow}
use Rattle.fc_diff.specs.Index.{IsFound, Listing, named_by, is_listed, map_numbers, new_of, begun, begun_at}
use Rattle.fc_changed.specs.Row.{Row, is_of}
use Rattle.fc_diff.specs.Told.{row_after}
use Rattle.fc_diff.proofs.Places.{find-missed, all_fail, position_here, position_nowhere}
use Rattle.fc_diff.proofs.Events.{same_map, same_source, same_target, same_size}

equal : (a b : ℕ) → nat_eq a b ≡ true → a ≡ b
equal a b e = grind (arith, nat_tests)

unequal : (a b : ℕ) → nat_eq a b ≡ false → b ≢ a
unequal a b e same = grind (arith, nat_tests)

eq_false : (a b : ℕ) → b ≢ a → nat_eq a b ≡ false
eq_false a b other = grind (arith, nat_tests, other)

any_at : {X : Type 0} (test : X → Bool) (xs : List X) (i : ℕ) (d : X) → i < length xs → test (get_or xs i d) ≡ true → list_any test xs ≡ true
any_at test [] i d within here = absurd (omega arith)
any_at test (x ∷ xs) zero d within here = rw here refl
any_at test (x ∷ xs) (suc i) d within here = either (test x) (list_any test xs) (any_at test xs i d (omega arith) here)
  where
    either : (a b : Bool) → b ≡ true → (a || b) ≡ true
    either true b e = refl
    either false b e = e

pub place_any : (m : ℕ) (rows : List Row) (d : Row) (o : Option ℕ) → position (is_of m) rows ≡ o → is_some o ≡ true → list_any (is_of m) rows ≡ true
place_any m rows d None e there = cc
place_any m rows d (Some i) e there = let s = position-Some (is_of m) rows i d e in any_at (is_of m) rows i d s.0 s.1

-- no row is of the mapping
pub none_of : (m : ℕ) (rows : List Row) → All (λ row. row.map ≢ m) rows → position (is_of m) rows ≡ None
none_of m [] others = refl
none_of m (row ∷ rows) others = position_nowhere (is_of m) (row ∷ rows) row (λ k within. eq_false m (get_or (row ∷ rows) k row).map (others k row within))

-- ---- a filter that takes one row

filter_all : {X : Type 0} (test : X → Bool) (xs : List X) → ((k : ℕ) (d : X) → k < length xs → test (get_or xs k d) ≡ true) → filter test xs ≡ xs
filter_all test [] all = refl
filter_all test (x ∷ xs) all =
    let passes : test x ≡ true = all 0 x (omega arith) in
    rw passes (ap (λ ys. x ∷ ys) (filter_all test xs (λ k d within. all (suc k) d (omega arith))))

pub filter_missed : (m : ℕ) (rows : List Row) → position (is_of m) rows ≡ None → filter (λ row. not (is_of m row)) rows ≡ rows
filter_missed m rows missed = filter_all (λ row. not (is_of m row)) rows (λ k d within. ap not (all_fail (is_of m) rows (find-missed (is_of m) rows missed) k d within))

filter_at : (m : ℕ) (rows : List Row) (place : ℕ) (d : Row) → place < length rows → nat_eq m (get_or rows place d).map ≡ true → AllPairs (λ x y. x.map ≢ y.map) rows → filter (λ row. not (is_of m row)) rows ≡ remove rows place
filter_at m [] place d within here distinct = absurd (omega arith)
filter_at m (row ∷ rows) zero d within here distinct =
    rw here
    (filter_all (λ r. not (is_of m r)) rows
    (λ k e inside. ap not (eq_false m (get_or rows k e).map (λ same. distinct 0 (suc k) e (omega arith) (omega arith) (sym (equal m row.map here) ∙ sym same)))))
filter_at m (row ∷ rows) (suc place) d within here distinct =
    let fails : nat_eq m row.map ≡ false =
    eq_false m row.map (λ same. distinct 0 (suc place) d (omega arith) (omega arith) (same ∙ equal m (get_or rows place d).map here)) in
    rw fails
    (ap (λ rs. row ∷ rs) (filter_at m rows place d (omega arith) here (λ i j e less inside. distinct (suc i) (suc j) e (omega arith) (omega arith))))

pub filter_found : (m : ℕ) (rows : List Row) (place : ℕ) (d : Row) → position (is_of m) rows ≡ Some place → AllPairs (λ x y. x.map ≢ y.map) rows → filter (λ row. not (is_of m row)) rows ≡ remove rows place
filter_found m rows place d found distinct = let s = position-Some (is_of m) rows place d found in filter_at m rows place d s.0 s.1 distinct

-- ---- the rows after a change

-- The lists change, and keep all numbers but one, of which there is no row.
pub found_still : (ids : List ℕ) (namers namers' : Listing) (rows : List Row) (m : ℕ) → All (λ row. row.map ≢ m) rows
    → ((w n : ℕ) → n ≢ m → is_listed n (named_by namers w) ≡ true → is_listed n (named_by namers' w) ≡ true) → IsFound ids namers rows → IsFound ids namers' rows
found_still ids namers namers' rows m others kept old = record {
  beside = old.beside;
  distinct = old.distinct;
  by_source = λ k d within. kept (get_or rows k d).source (get_or rows k d).map (others k d within) (old.by_source k d within);
  by_target = λ k d within. kept (get_or rows k d).target (get_or rows k d).map (others k d within) (old.by_target k d within);
}

pub found_push : (ids : List ℕ) (namers : Listing) (rows : List Row) (row : Row) → IsFound ids namers rows → All (λ r. r.map ≢ row.map) rows
    → is_listed row.map (named_by namers row.source) ≡ true → is_listed row.map (named_by namers row.target) ≡ true
    → (ids' : List ℕ) (rows' : List Row) → ids' ≡ ids ++ row.map ∷ [] → rows' ≡ rows ++ row ∷ [] → IsFound ids' namers rows'
found_push ids namers rows row old others source target ids' rows' e f =
    subst (λ rs. IsFound ids' namers rs) (sym f) (record {
      beside = e ∙ (ap (λ xs. xs ++ row.map ∷ []) old.beside ∙ sym (map-append (λ r. r.map) rows (row ∷ [])));
      distinct = all_pairs_push (λ x y. x.map ≢ y.map) rows row old.distinct others;
      by_source = All-push (λ r. is_listed r.map (named_by namers r.source) ≡ true) rows row old.by_source source;
      by_target = All-push (λ r. is_listed r.map (named_by namers r.target) ≡ true) rows row old.by_target target;
    })

map-remove : (rows : List Row) (place : ℕ) → map_numbers (remove rows place) ≡ remove (map_numbers rows) place
map-remove [] zero = refl
map-remove [] (suc place) = refl
map-remove (row ∷ rows) zero = refl
map-remove (row ∷ rows) (suc place) = ap (λ xs. row.map ∷ xs) (map-remove rows place)

not_true : (b : Bool) → not b ≡ true → b ≡ false
not_true true e = cc
not_true false e = refl

pub found_remove : (ids : List ℕ) (namers namers' : Listing) (rows : List Row) (m place : ℕ) (row : Row) → IsFound ids namers rows → position (is_of m) rows ≡ Some place
    → ((w n : ℕ) → n ≢ m → is_listed n (named_by namers w) ≡ true → is_listed n (named_by namers' w) ≡ true)
    → (ids' : List ℕ) (rows' : List Row) → ids' ≡ remove ids place → rows' ≡ remove rows place → IsFound ids' namers' rows'
found_remove ids namers namers' rows m place row old found kept ids' rows' e f =
    subst (λ rs. IsFound ids' namers' rs) (sym f) (record {
      beside = e ∙ (ap (λ xs. remove xs place) old.beside ∙ sym (map-remove rows place));
      distinct = all_pairs_remove (λ x y. x.map ≢ y.map) rows place (position-Some (is_of m) rows place row found).0 old.distinct;
      by_source = subst (All (λ r. is_listed r.map (named_by namers' r.source) ≡ true)) gone
          (λ k d within. kept (get_or (filter others rows) k d).source (get_or (filter others rows) k d).map (other k d within)
          (All-filter others (λ r. is_listed r.map (named_by namers r.source) ≡ true) rows old.by_source k d within));
      by_target = subst (All (λ r. is_listed r.map (named_by namers' r.target) ≡ true)) gone
          (λ k d within. kept (get_or (filter others rows) k d).target (get_or (filter others rows) k d).map (other k d within)
          (All-filter others (λ r. is_listed r.map (named_by namers r.target) ≡ true) rows old.by_target k d within));
    })
  where
    others : Row → Bool
    others r = not (is_of m r)

    gone : filter (λ r. not (is_of m r)) rows ≡ remove rows place
    gone = filter_found m rows place row found old.distinct

    other : (k : ℕ) (d : Row) → k < length (filter (λ r. not (is_of m r)) rows) → (get_or (filter (λ r. not (is_of m r)) rows) k d).map ≢ m
    other k d within = unequal m (get_or (filter (λ r. not (is_of m r)) rows) k d).map (not_true (is_of m (get_or (filter (λ r. not (is_of m r)) rows) k d)) (filter_passes (λ r. not (is_of m r)) rows k d within))

-- A change that keeps of each row its mapping, its volumes and its size.
pub found_same : (ids : List ℕ) (namers : Listing) (rows rows' : List Row) → map new_of rows' ≡ map new_of rows → IsFound ids namers rows → IsFound ids namers rows'
found_same ids namers rows rows' same old = record {
  beside = old.beside ∙ (numbers_of rows ∙ (ap (λ ns. map (λ (n : NewRow). n.map) ns) (sym same) ∙ sym (numbers_of rows')));
  distinct = λ i j d less within e.
      let one = new_at i d (omega arith) in
      let two = new_at j d within in
      old.distinct i j d less (omega (arith, size)) (ap (λ (n : NewRow). n.map) (sym one) ∙ (e ∙ ap (λ (n : NewRow). n.map) two));
  by_source = λ k d within. ap (λ (n : NewRow). is_listed n.map (named_by namers n.source)) (new_at k d within) ∙ old.by_source k d (omega (arith, size));
  by_target = λ k d within. ap (λ (n : NewRow). is_listed n.map (named_by namers n.target)) (new_at k d within) ∙ old.by_target k d (omega (arith, size));
}
  where
    numbers_of : (rs : List Row) → map_numbers rs ≡ map (λ (n : NewRow). n.map) (map new_of rs)
    numbers_of [] = refl
    numbers_of (r ∷ rs) = ap (λ ns. r.map ∷ ns) (numbers_of rs)

    size : length rows' ≡ length rows
    size = sym (length-map rows' new_of) ∙ (ap (λ ns. length ns) same ∙ length-map rows new_of)

    new_at : (k : ℕ) (d : Row) → k < length rows' → new_of (get_or rows' k d) ≡ new_of (get_or rows k d)
    new_at k d within =
        sym (get_or-map new_of rows' k d (new_of d) within)
        ∙ (ap (λ ns. get_or ns k (new_of d)) same ∙ get_or-map new_of rows k d (new_of d) (omega (arith, size)))

-- The rows behind the first n go.
pub found_take : (ids : List ℕ) (namers namers' : Listing) (rows : List Row) (n : ℕ) → n ≤ length rows → IsFound ids namers rows
    → ((w m : ℕ) → All (λ row. m ≢ row.map) (drop n rows) → is_listed m (named_by namers w) ≡ true → is_listed m (named_by namers' w) ≡ true)
    → (ids' : List ℕ) (rows' : List Row) → ids' ≡ take n ids → rows' ≡ take n rows → IsFound ids' namers' rows'
found_take ids namers namers' rows n fits old kept ids' rows' e f =
    subst (λ rs. IsFound ids' namers' rs) (sym f) (record {
      beside = e ∙ (ap (take n) old.beside ∙ take-map (λ (r : Row). r.map) n rows);
      distinct = λ i j d less within.
          let below : j < n = omega (arith, length-take-le n rows fits) in
          λ same. old.distinct i j d less (omega arith) (ap (λ (r : Row). r.map) (sym (get_or-take n rows i d (omega arith))) ∙ (same ∙ ap (λ (r : Row). r.map) (get_or-take n rows j d below)));
      by_source = λ k d within.
          let below : k < n = omega (arith, length-take-le n rows fits) in
          subst (λ r. is_listed r.map (named_by namers' r.source) ≡ true) (sym (get_or-take n rows k d below))
          (kept (get_or rows k d).source (get_or rows k d).map (others k d below) (old.by_source k d (omega arith)));
      by_target = λ k d within.
          let below : k < n = omega (arith, length-take-le n rows fits) in
          subst (λ r. is_listed r.map (named_by namers' r.target) ≡ true) (sym (get_or-take n rows k d below))
          (kept (get_or rows k d).target (get_or rows k d).map (others k d below) (old.by_target k d (omega arith)));
    })
  where
    others : (k : ℕ) (d : Row) → k < n → All (λ row. (get_or rows k d).map ≢ row.map) (drop n rows)
    others k d below j d' within same =
        let inside : n + j < length rows = omega (arith, length-drop n rows) in
        old.distinct k (n + j) d (omega arith) inside
        (same ∙ ap (λ (r : Row). r.map) (get_or-drop n rows j d' ∙ get_or_default rows (n + j) d' d inside))

-- ---- what keeps of each row its mapping, its volumes and its size
new_is : (event : Event) (row : Row) → new_of (row_after event row) ≡ new_of row
new_is event row k = record { map = same_map event row k; source = same_source event row k; target = same_target event row k; grains = same_size event row k }

told_new : (event : Event) (rows : List Row) → map new_of (map (row_after event) rows) ≡ map new_of rows
told_new event [] = refl
told_new event (row ∷ rows) = λ k. new_is event row k ∷ told_new event rows k

pub told_same : (event : Event) (rows : List Row) (n : ℕ) → map new_of (map (row_after event) (take n rows) ++ drop n rows) ≡ map new_of rows
told_same event rows n =
    map-append new_of (map (row_after event) (take n rows)) (drop n rows)
    ∙ (ap (λ ns. ns ++ map new_of (drop n rows)) (told_new event (take n rows))
    ∙ (sym (map-append new_of (take n rows) (drop n rows)) ∙ ap (map new_of) (take-append-drop n rows)))

pub begun_same : (place : ℕ) (rows : List Row) → map new_of (begun_at place rows) ≡ map new_of rows
begun_same place [] = refl
begun_same zero (row ∷ rows) = λ k. record { map = row.map; source = row.source; target = row.target; grains = length-replicate (length row.same) true k } ∷ map new_of rows
begun_same (suc place) (row ∷ rows) = ap (λ ns. new_of row ∷ ns) (begun_same place rows)

pub begun_size : (place : ℕ) (rows : List Row) → length (begun_at place rows) ≡ length rows
begun_size place rows = sym (length-map (begun_at place rows) new_of) ∙ (ap (λ ns. length ns) (begun_same place rows) ∙ length-map rows new_of)

pub begun_is : (rows : List Row) (place : ℕ) (row new : Row) → place < length rows → row ≡ get_or rows place row → new ≡ begun row → set rows place new ≡ begun_at place rows
begun_is [] place row new within is e = absurd (omega arith)
begun_is (r ∷ rows) zero row new within is e = ap (λ x. x ∷ rows) (e ∙ ap begun is)
begun_is (r ∷ rows) (suc place) row new within is e = ap (λ rs. r ∷ rs) (begun_is rows place row new (omega arith) is e)

-- rows that were lent as a slice
pub put_back : (rows new : List Row) (n : ℕ) → n ≡ length rows → length new ≡ length rows → take n (new ++ drop (length new) rows) ≡ new
put_back rows new n e f = take-append-le n new (drop (length new) rows) (omega arith) ∙ take_all n new (omega arith)

-- ---- the first so many rows

pub first_ids : (ids : List ℕ) (rows : List Row) (n : ℕ) → ids ≡ map_numbers rows → take (length (take n rows)) ids ≡ map_numbers (take n rows)
first_ids ids rows n e =
    ap (λ k. take k ids) (length-take n rows ∙ ap (min n) (sym (length-map rows (λ (r : Row). r.map)) ∙ ap (λ xs. length xs) (sym e)))
    ∙ (take_min n ids ∙ (ap (take n) e ∙ take-map (λ (r : Row). r.map) n rows))

pairs_take : (rows : List Row) (n : ℕ) → AllPairs (λ x y. x.map ≢ y.map) rows → AllPairs (λ x y. x.map ≢ y.map) (take n rows)
pairs_take rows n distinct i j d less within same =
    let below : j < n = omega (arith, length-take n rows) in
    distinct i j d less (omega (arith, length-take n rows))
    (ap (λ (r : Row). r.map) (sym (get_or-take n rows i d (omega arith))) ∙ (same ∙ ap (λ (r : Row). r.map) (get_or-take n rows j d below)))

pub place_in_all : (m : ℕ) (rows : List Row) (n place : ℕ) (d : Row) → position (is_of m) (take n rows) ≡ Some place → position (is_of m) rows ≡ Some place
place_in_all m rows n place d found =
    let s = position-Some (is_of m) (take n rows) place d found in
    let below : place < n = omega (arith, length-take n rows, s.0) in
    position_here (is_of m) rows place d (omega (arith, length-take n rows, s.0))
    (λ k before. ap (is_of m) (sym (get_or-take n rows k d (omega arith))) ∙ s.2 k before)
    (ap (is_of m) (sym (get_or-take n rows place d below)) ∙ s.1)

-- a row of them goes
pub forgot : (m : ℕ) (rows : List Row) (n place : ℕ) (d : Row) → AllPairs (λ x y. x.map ≢ y.map) rows → position (is_of m) (take n rows) ≡ Some place
    → remove rows place ≡ filter (λ row. not (is_of m row)) (take n rows) ++ drop n rows
forgot m rows n place d distinct found =
    ap (λ xs. remove xs place) (sym (take-append-drop n rows))
    ∙ (remove-append_left (take n rows) (drop n rows) place (position-Some (is_of m) (take n rows) place d found).0
    ∙ ap (λ xs. xs ++ drop n rows) (sym (filter_found m (take n rows) place d found (pairs_take rows n distinct))))

pub forgot_left : (m : ℕ) (rows : List Row) (n place : ℕ) (d : Row) → n ≤ length rows → AllPairs (λ x y. x.map ≢ y.map) rows → position (is_of m) (take n rows) ≡ Some place
    → n - 1 ≡ length (filter (λ row. not (is_of m row)) (take n rows))
forgot_left m rows n place d fits distinct found =
    let gone : filter (λ row. not (is_of m row)) (take n rows) ≡ remove (take n rows) place = filter_found m (take n rows) place d found (pairs_take rows n distinct) in
    let size = length-remove (take n rows) place (position-Some (is_of m) (take n rows) place d found).0 in
    ap (λ k. k - 1) (sym (length-take-le n rows fits) ∙ sym size) ∙ (less_one (length (remove (take n rows) place)) ∙ ap (λ xs. length xs) (sym gone))
  where
    less_one : (k : ℕ) → k + 1 - 1 ≡ k
    less_one k = omega arith

pub stayed : (m : ℕ) (rows : List Row) (n : ℕ) → position (is_of m) (take n rows) ≡ None → rows ≡ filter (λ row. not (is_of m row)) (take n rows) ++ drop n rows
stayed m rows n missed = sym (take-append-drop n rows) ∙ ap (λ xs. xs ++ drop n rows) (sym (filter_missed m (take n rows) missed))

pub stayed_left : (m : ℕ) (rows : List Row) (n : ℕ) → n ≤ length rows → position (is_of m) (take n rows) ≡ None → n ≡ length (filter (λ row. not (is_of m row)) (take n rows))
stayed_left m rows n fits missed = sym (length-take-le n rows fits) ∙ ap (λ xs. length xs) (sym (filter_missed m (take n rows) missed))
