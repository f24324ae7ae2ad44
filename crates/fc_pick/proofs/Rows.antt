-- Rows in order of id: what a new row, a changed row and a row's going leave of the flags and of the numbers.
use Rattle.std.proofs.Common.{◌≡◌, ℕ, ◌<◌, Bool, true, false, not, cond, List, [], ◌∷◌, ◌++◌, map, length, filter, nat_eq, nat_lt, refl, ap, sym, ◌∙◌, ◌||◌, Result, Ok, Err, OnOk, OnErr, set, arith, ◌≤◌}
use Rattle.std.specs.List.{list_any, insert}
use Rattle.std.proofs.lemmas.List.Sums.{length-filter, count_by-le-length}
use Rattle.std.proofs.lemmas.Bool.Decides.{nat_tests}
use Rattle.std.proofs.Common.{get_or, append_assoc, subst}
use Rattle.std.proofs.lemmas.List.{map-append}
use Rattle.std.proofs.lemmas.List.Elements.{filter-append}
use Rattle.std.proofs.lemmas.List.Kept.{AllPairs-filter}
use Rattle.fc_base.specs.declared.outcome.NoMemory.{NoMemory}
use Rattle.fc_base.specs.declared.ids.MapId.{MapId}
use Rattle.fc_pick.specs.declared.work.WorkFlags.{WorkFlags}
use Rattle.fc_pick.specs.Flags.{WorkState, AreByMapping, is_flagged, rows_state, before, behind, has_mapping, with_row, with_flags, without_flags, is_known, with_number, without_number}
use Rattle.fc_pick.proofs.Rising.{Rises, rises, pairs_of, put_rises, put_known, at_known, at_new, apart, set_known, insert_new}

filter_both : {X : Type 0} (p q : X → Bool) (xs : List X) → filter p (filter q xs) ≡ filter q (filter p xs)
filter_both p q [] = refl
filter_both p q (x ∷ xs) = by (p x) refl (q x) refl (filter_both p q xs)
  where
    by : (b : Bool) → p x ≡ b → (c : Bool) → q x ≡ c → filter p (filter q xs) ≡ filter q (filter p xs) → filter p (filter q (x ∷ xs)) ≡ filter q (filter p (x ∷ xs))
    by true e true f rest = rw (e, f) (rw e (ap (λ ys. x ∷ ys) rest))
    by true e false f rest = rw (e, f) rest
    by false e true f rest = rw (e, f) (rw e rest)
    by false e false f rest = rw (e, f) rest

pub map-filter : {X Y : Type 0} (f : X → Y) (p : Y → Bool) (xs : List X) → map f (filter (λ x. p (f x)) xs) ≡ filter p (map f xs)
map-filter f p [] = refl
map-filter f p (x ∷ xs) = by (p (f x)) refl (map-filter f p xs)
  where
    by : (b : Bool) → p (f x) ≡ b → map f (filter (λ y. p (f y)) xs) ≡ filter p (map f xs) → map f (filter (λ y. p (f y)) (x ∷ xs)) ≡ filter p (map f (x ∷ xs))
    by true e rest = rw e (ap (λ ys. f x ∷ ys) rest)
    by false e rest = rw e rest

pub list_any-map : {X Y : Type 0} (f : X → Y) (p : Y → Bool) (xs : List X) → list_any p (map f xs) ≡ list_any (λ x. p (f x)) xs
list_any-map f p [] = refl
list_any-map f p (x ∷ xs) = ap (λ b. p (f x) || b) (list_any-map f p xs)

-- ---- A row at its place

abbrev pub number : WorkFlags → ℕ
number row = row.map.0

pub rising_with : (row : WorkFlags) (rows : List WorkFlags) → AreByMapping rows → AreByMapping (with_row row rows)
rising_with row rows rising = pairs_of number (with_row row rows) (put_rises number row.map.0 rows row refl (rises number rows rising))

one_row : (p : WorkFlags → Bool) (row : WorkFlags) (rows : List WorkFlags) → filter p (row ∷ rows) ≡ filter p (row ∷ []) ++ filter p rows
one_row p row rows = by (p row) refl
  where
    by : (b : Bool) → p row ≡ b → filter p (row ∷ rows) ≡ filter p (row ∷ []) ++ filter p rows
    by true e = rw e refl
    by false e = rw e refl

pub flags_with : (row : WorkFlags) (rows : List WorkFlags) → filter is_flagged (with_row row rows) ≡ with_flags row (filter is_flagged rows)
flags_with row rows =
    filter-append is_flagged (before row.map.0 rows) (row ∷ behind row.map.0 rows)
    ∙ (ap (λ zs. filter is_flagged (before row.map.0 rows) ++ zs) (one_row is_flagged row (behind row.map.0 rows))
    ∙ (sym (append_assoc (filter is_flagged (before row.map.0 rows)) (filter is_flagged (row ∷ [])) (filter is_flagged (behind row.map.0 rows)))
    ∙ (λ k. (filter_both is_flagged (λ x. nat_lt x.map.0 row.map.0) rows k ++ filter is_flagged (row ∷ [])) ++ filter_both is_flagged (λ x. nat_lt row.map.0 x.map.0) rows k)))

pub numbers_with : (row : WorkFlags) (rows : List WorkFlags) → map number (with_row row rows) ≡ with_number row.map.0 (map number rows)
numbers_with row rows =
    map-append number (before row.map.0 rows) (row ∷ behind row.map.0 rows)
    ∙ (λ k. map-filter number (λ x. nat_lt x row.map.0) rows k ++ row.map.0 ∷ map-filter number (nat_lt row.map.0) rows k)

pub known_is : (m : MapId) (rows : List WorkFlags) → is_known m (map number rows) ≡ has_mapping m.0 rows
known_is m rows = list_any-map number (λ k. nat_eq m.0 k) rows

-- a number that is known already
pub numbers_same : (m : ℕ) (rows : List WorkFlags) → AreByMapping rows → has_mapping m rows ≡ true → with_number m (map number rows) ≡ map number rows
numbers_same m [] rising there = cc
numbers_same m (row ∷ rows) rising there = by (get_or (row ∷ rows) (length (before m (row ∷ rows))) row) refl
  where
    rise : Rises number (row ∷ rows)
    rise = rises number (row ∷ rows) rising

    by : (z : WorkFlags) → get_or (row ∷ rows) (length (before m (row ∷ rows))) row ≡ z → with_number m (map number (row ∷ rows)) ≡ map number (row ∷ rows)
    by z is =
        let own : z.map.0 ≡ m = sym (ap number is) ∙ (at_known number m (row ∷ rows) rise there).1 row in
        let put : before m (row ∷ rows) ++ z ∷ behind m (row ∷ rows) ≡ row ∷ rows =
        ap (λ y. before m (row ∷ rows) ++ y ∷ behind m (row ∷ rows)) (sym is) ∙ put_known number m (row ∷ rows) rise there row in
        let told : with_number z.map.0 (map number (row ∷ rows)) ≡ map number (with_row z (row ∷ rows)) = sym (numbers_with z (row ∷ rows)) in
        subst (λ n. with_number n (map number (row ∷ rows)) ≡ map number (before n (row ∷ rows) ++ z ∷ behind n (row ∷ rows))) own told
        ∙ ap (map number) put

-- a row without a flag, of a mapping that had none
pub flags_same : (row : WorkFlags) (rows : List WorkFlags) → AreByMapping rows → has_mapping row.map.0 rows ≡ false → is_flagged row ≡ false → filter is_flagged (with_row row rows) ≡ filter is_flagged rows
flags_same row rows rising new plain =
    filter-append is_flagged (before row.map.0 rows) (row ∷ behind row.map.0 rows)
    ∙ (ap (λ b. filter is_flagged (before row.map.0 rows) ++ cond b (row ∷ filter is_flagged (behind row.map.0 rows)) (filter is_flagged (behind row.map.0 rows))) plain
    ∙ (sym (filter-append is_flagged (before row.map.0 rows) (behind row.map.0 rows))
    ∙ ap (filter is_flagged) (apart number row.map.0 rows (rises number rows rising) new)))

-- ---- A mapping that is forgotten

pub flags_without : (m : MapId) (rows : List WorkFlags) → filter is_flagged (filter (λ row. not (nat_eq m.0 row.map.0)) rows) ≡ without_flags m (filter is_flagged rows)
flags_without m rows = filter_both is_flagged (λ row. not (nat_eq m.0 row.map.0)) rows

pub numbers_without : (m : MapId) (rows : List WorkFlags) → map number (filter (λ row. not (nat_eq m.0 row.map.0)) rows) ≡ without_number m (map number rows)
numbers_without m rows = map-filter number (λ k. not (nat_eq m.0 k)) rows

-- ---- The row at a mapping's place

own : (a b : ℕ) → a ≡ b → nat_eq a b ≡ true
own a b e = grind (arith, nat_tests)

other : (a b : ℕ) → b < a → nat_eq a b ≡ false
other a b higher = grind (arith, nat_tests)

module _ (m : ℕ) (rows : List WorkFlags) (rising : AreByMapping rows) (place : ℕ) (is : place ≡ length (before m rows)) where
  rise : Rises number rows
  rise = rises number rows rising

  pub there_within : has_mapping m rows ≡ true → place < length rows
  there_within there = rw is (at_known number m rows rise there).0

  pub row_there : (d : WorkFlags) → place < length rows → nat_eq (get_or rows place d).map.0 m ≡ has_mapping m rows
  row_there d within = by (has_mapping m rows) refl
    where
      by : (b : Bool) → has_mapping m rows ≡ b → nat_eq (get_or rows place d).map.0 m ≡ b
      by true there = own (get_or rows place d).map.0 m (rw is ((at_known number m rows rise there).1 d))
      by false new = other (get_or rows place d).map.0 m (rw is (at_new number m rows d rise new (rw is at within)))

  pub none_there : length rows ≤ place → has_mapping m rows ≡ false
  none_there past = by (has_mapping m rows) refl
    where
      by : (b : Bool) → has_mapping m rows ≡ b → has_mapping m rows ≡ false
      by true there = absurd (omega (arith, there_within there))
      by false new = new

  pub place_within : place ≤ length rows
  place_within = rw (is, length-filter (λ row. nat_lt row.map.0 m) rows) (count_by-le-length (λ row. nat_lt row.map.0 m) rows)

pub set_there : (row : WorkFlags) (rows : List WorkFlags) → AreByMapping rows → (place : ℕ) → place ≡ length (before row.map.0 rows) → has_mapping row.map.0 rows ≡ true → set rows place row ≡ with_row row rows
set_there row rows rising place is there = rw is (set_known number row.map.0 rows row (rises number rows rising) there)

pub insert_there : (row : WorkFlags) (rows : List WorkFlags) → AreByMapping rows → (place : ℕ) → place ≡ length (before row.map.0 rows) → has_mapping row.map.0 rows ≡ false → insert rows place row ≡ with_row row rows
insert_there row rows rising place is new = rw is (insert_new number row.map.0 rows row (rises number rows rising) new)

-- a place and an answer that were told of the rows, as they were seen
pub placed_in : (m : ℕ) (rows : List WorkFlags) (place : ℕ) {seen : List WorkFlags} → seen ≡ rows → place ≡ length (before m seen) → place ≡ length (before m rows)
placed_in m rows place same is = is ∙ ap (λ xs. length (before m xs)) same

pub told_of : (m : ℕ) (rows : List WorkFlags) (held : Bool) {seen : List WorkFlags} {answer : Bool} → seen ≡ rows → answer ≡ has_mapping m seen → answer ≡ held → has_mapping m rows ≡ held
told_of m rows held same is told = ap (has_mapping m) (sym same) ∙ (sym is ∙ told)

-- ---- What a row that was put, or refused, leaves

module _ (new old : List WorkFlags) (row : WorkFlags) (state : WorkState) (seen : rows_state old ≡ state) where
  pub put_rising : (r : Result (Unit {0}) NoMemory) → AreByMapping old → OnOk r (new ≡ with_row row old) → OnErr r (new ≡ old) → AreByMapping new
  put_rising (Ok x) rising ok err = subst AreByMapping (sym ok) (rising_with row old rising)
  put_rising (Err e) rising ok err = subst AreByMapping (sym err) rising

  pub put_flags : (r : Result (Unit {0}) NoMemory) → OnOk r (new ≡ with_row row old) → OnOk r (filter is_flagged new ≡ with_flags row state.flags)
  put_flags (Ok x) ok = ap (filter is_flagged) ok ∙ (flags_with row old ∙ ap (λ s. with_flags row s.flags) seen)
  put_flags (Err e) ok = tt

  pub put_numbers : (r : Result (Unit {0}) NoMemory) → OnOk r (new ≡ with_row row old) → OnOk r (map number new ≡ with_number row.map.0 state.known)
  put_numbers (Ok x) ok = ap (map number) ok ∙ (numbers_with row old ∙ ap (λ s. with_number row.map.0 s.known) seen)
  put_numbers (Err e) ok = tt

  -- a row without a flag
  pub put_plain : (r : Result (Unit {0}) NoMemory) → AreByMapping old → has_mapping row.map.0 old ≡ false → is_flagged row ≡ false → OnOk r (new ≡ with_row row old) → OnErr r (new ≡ old) → filter is_flagged new ≡ state.flags
  put_plain (Ok x) rising absent plain ok err = ap (filter is_flagged) ok ∙ (flags_same row old rising absent plain ∙ ap (λ s. s.flags) seen)
  put_plain (Err e) rising absent plain ok err = ap (filter is_flagged) err ∙ ap (λ s. s.flags) seen

pub known_seen : (m : MapId) (old : List WorkFlags) (state : WorkState) → rows_state old ≡ state → is_known m state.known ≡ has_mapping m.0 old
known_seen m old state seen = ap (λ s. is_known m s.known) (sym seen) ∙ known_is m old

pub numbers_kept : (m : ℕ) (old : List WorkFlags) (state : WorkState) → rows_state old ≡ state → AreByMapping old → has_mapping m old ≡ true → state.known ≡ with_number m state.known
numbers_kept m old state seen rising there =
    let P : WorkState → Type 0 = λ s. s.known ≡ with_number m s.known in
    subst P seen (sym (numbers_same m old rising there))

pub forgotten_flags : (m : MapId) (new old : List WorkFlags) (state : WorkState) → rows_state old ≡ state → new ≡ filter (λ row. not (nat_eq m.0 row.map.0)) old → filter is_flagged new ≡ without_flags m state.flags
forgotten_flags m new old state seen is = ap (filter is_flagged) is ∙ (flags_without m old ∙ ap (λ s. without_flags m s.flags) seen)

pub forgotten_numbers : (m : MapId) (new old : List WorkFlags) (state : WorkState) → rows_state old ≡ state → new ≡ filter (λ row. not (nat_eq m.0 row.map.0)) old → map number new ≡ without_number m state.known
forgotten_numbers m new old state seen is = ap (map number) is ∙ (numbers_without m old ∙ ap (λ s. without_number m s.known) seen)

pub forgotten_rising : (m : MapId) (new old : List WorkFlags) → AreByMapping old → new ≡ filter (λ row. not (nat_eq m.0 row.map.0)) old → AreByMapping new
forgotten_rising m new old rising is = subst AreByMapping (sym is) (AllPairs-filter (λ x y. x.map.0 < y.map.0) (λ row. not (nat_eq m.0 row.map.0)) old rising)
