-- What changes of the rows make of what is kept: those that are followed, and those that stand ready.
use Rattle.std.proofs.Common.{◌≡◌, ◌≢◌, ℕ, zero, suc, ◌+◌, ◌-◌, ◌<◌, ◌≤◌, Bool, true, false, not, ◌&&◌, ◌||◌, List, [], ◌∷◌, ◌++◌, map, length, get_or, take, drop, nat_eq, position, replicate, Option, Some, None, is_some, refl, ap, sym, ◌∙◌, arith, All, ⊎_elim}
use Rattle.std.specs.List.{list_any}
use Rattle.std.proofs.lemmas.List.{get_or-map, length-map, length-take-le, length-take, length-drop, get_or-take, get_or-drop, get_or_default}
use Rattle.std.proofs.lemmas.List.Quantifiers.{position-Some}
use Rattle.std.proofs.lemmas.Bool.{cases_lt}
use Rattle.std.proofs.lemmas.Bool.Decides.{nat_tests}
use Rattle.fc_changed.specs.Row.{Row, is_of, row_began, row_restart, restart_in}
use Rattle.fc_diff.specs.declared.tracked.Event.{Event}
use Rattle.fc_diff.specs.declared.tracked.Event.TheVariants.{Began}
use Rattle.fc_diff.specs.Told.{row_after}
use Rattle.fc_diff.specs.State.{NewRow, ChangesState, IsFirstReady, after_beginning, takes_ready}
use Rattle.fc_diff.specs.Index.{new_of, state_of, begun, begun_at}
use Rattle.fc_diff.proofs.Places.{find-found, find-missed, any_found}
use Rattle.fc_diff.proofs.Found.{place_any}
use Rattle.fc_diff.proofs.Events.{same_map}

abbrev no_row : Row
no_row = record { map = 0; source = 0; target = 0; into = 0; same = [] }

abbrev state : List Row → List NewRow → ChangesState
state rows ready = record { rows = rows; ready = ready }

-- the first that stands ready is followed
state_begun : (n : ℕ) (rows : List Row) (row : Row) (rest : List Row) → drop n rows ≡ row ∷ rest → state_of (suc n) (begun_at n rows) ≡ state (take n rows ++ begun row ∷ []) (map new_of rest)
state_begun zero [] row rest e = cc
state_begun (suc n) [] row rest e = cc
state_begun zero (r ∷ rows) row rest e = λ i. state (begun (first r row rows rest e i) ∷ []) (map new_of (others r row rows rest e i))
  where
    first : (x y : Row) (xs ys : List Row) → x ∷ xs ≡ y ∷ ys → x ≡ y
    first x y xs ys f = cc

    others : (x y : Row) (xs ys : List Row) → x ∷ xs ≡ y ∷ ys → xs ≡ ys
    others x y xs ys f = cc
state_begun (suc n) (r ∷ rows) row rest e = ap (λ (s : ChangesState). state (r ∷ s.rows) s.ready) (state_begun n rows row rest e)

-- ---- whether a mapping is followed

pub place_is : (m : ℕ) (rows : List Row) → is_some (position (is_of m) rows) ≡ list_any (is_of m) rows
place_is m rows = by (position (is_of m) rows) refl
  where
    by : (o : Option ℕ) → position (is_of m) rows ≡ o → is_some (position (is_of m) rows) ≡ list_any (is_of m) rows
    by None e = ap is_some e ∙ sym (any_found (is_of m) rows (find-missed (is_of m) rows e))
    by (Some i) e = ap is_some e ∙ sym (place_any m rows no_row (Some i) e refl)

pub any_told : (m : ℕ) (event : Event) (rows : List Row) → list_any (is_of m) (map (row_after event) rows) ≡ list_any (is_of m) rows
any_told m event [] = refl
any_told m event (row ∷ rows) = λ k. nat_eq m (same_map event row k) || any_told m event rows k

any_false : (p : Row → Bool) (rows : List Row) (k : ℕ) (d : Row) → list_any p rows ≡ false → k < length rows → p (get_or rows k d) ≡ false
any_false p [] k d e within = absurd (omega arith)
any_false p (row ∷ rows) k d e within = by (p row) (list_any p rows) k refl refl e within (λ j f inside. any_false p rows j d f inside)
  where
    by : (a b : Bool) (j : ℕ) → p row ≡ a → list_any p rows ≡ b → (a || b) ≡ false → j < length (row ∷ rows)
        → ((i : ℕ) → list_any p rows ≡ false → i < length rows → p (get_or rows i d) ≡ false) → p (get_or (row ∷ rows) j d) ≡ false
    by true b j f g h inside rest = cc
    by false b zero f g h inside rest = f
    by false b (suc j) f g h inside rest = rest j (g ∙ h) (omega arith)

other : (a b : ℕ) → nat_eq a b ≡ false → b ≢ a
other a b e same = grind (arith, nat_tests)

-- none of all rows is of the mapping
pub none_anywhere : (m : ℕ) (rows : List Row) (n : ℕ) → n ≤ length rows → list_any (is_of m) (take n rows) ≡ false → All (λ new. new.map ≢ m) (map new_of (drop n rows)) → All (λ row. row.map ≢ m) rows
none_anywhere m rows n fits followed fresh k d within = ⊎_elim before behind (cases_lt k n)
  where
    before : k < n → (get_or rows k d).map ≢ m
    before below =
        let inside : k < length (take n rows) = omega (arith, length-take-le n rows fits) in
        other m (get_or rows k d).map (ap (is_of m) (sym (get_or-take n rows k d below)) ∙ any_false (is_of m) (take n rows) k d followed inside)

    behind : n ≤ k → (get_or rows k d).map ≢ m
    behind past same =
        let inside : k - n < length (drop n rows) = omega (arith, length-drop n rows) in
        let at : n + (k - n) ≡ k = omega arith in
        fresh (k - n) (new_of d) (omega (arith, length-map (drop n rows) new_of))
        (ap (λ (new : NewRow). new.map) (get_or-map new_of (drop n rows) (k - n) d (new_of d) inside)
        ∙ (ap (λ (row : Row). row.map) (get_or-drop n rows (k - n) d ∙ ap (λ j. get_or rows j d) at) ∙ same))

-- ---- the restart set

pub restart_found : (m n place : ℕ) (rows : List Row) (same : List Bool) → position (is_of m) (take n rows) ≡ Some place → ((row : Row) → row ≡ get_or rows place row → same ≡ row.same) → same ≡ restart_in m (take n rows)
restart_found m n place rows same found is =
    let s = position-Some (is_of m) (take n rows) place no_row found in
    let below : place < n = omega (arith, length-take n rows, s.0) in
    let within : place < length rows = omega (arith, length-take n rows, s.0) in
    let row : Row = get_or rows place no_row in
    is row (get_or_default rows place no_row row within)
    ∙ sym (ap row_restart (find-found (is_of m) (take n rows) place no_row found ∙ ap Some (get_or-take n rows place no_row below)))

pub restart_missed : (m : ℕ) (rows : List Row) → position (is_of m) rows ≡ None → restart_in m rows ≡ []
restart_missed m rows missed = ap row_restart (find-missed (is_of m) rows missed)

-- ---- a trigger

pub first_there : (m source target n : ℕ) (rows : List Row) → IsFirstReady m source target (map new_of (drop n rows)) → n < length rows
first_there m source target n rows first = by (drop n rows) refl first
  where
    by : (xs : List Row) → drop n rows ≡ xs → IsFirstReady m source target (map new_of xs) → n < length rows
    by [] e f = absurd f
    by (x ∷ xs) e f = let size = ap (λ ys. length ys) e in omega (arith, length-drop n rows)

-- A mapping that isn't followed after the trigger was noted wasn't before either: where it is incremental, this is its first.
pub first_trigger : (old noted : ChangesState) (m source target : ℕ) (following incremental : Bool) → noted ≡ record old { rows = map (row_began source target) old.rows }
    → following ≡ list_any (is_of m) noted.rows → following ≡ false → incremental ≡ true
    → (list_any (is_of m) old.rows ≡ false) × (list_any (is_of m) (map (row_began source target) old.rows) ≡ false) × (takes_ready old m incremental ≡ true)
first_trigger old noted m source target following incremental told is unfollowed first =
    let still : list_any (is_of m) (map (row_began source target) old.rows) ≡ false = ap (λ (x : ChangesState). list_any (is_of m) x.rows) (sym told) ∙ (sym is ∙ unfollowed) in
    let before : list_any (is_of m) old.rows ≡ false = sym (any_told m (Began source target) old.rows) ∙ still in
    (before, still, λ k. first k && not (before k))

-- The trigger is the first: the mapping that stands ready first is followed.
pub began_first : (old : ChangesState) (n : ℕ) (rows : List Row) (m source target : ℕ) → state_of n rows ≡ record old { rows = map (row_began source target) old.rows }
    → list_any (is_of m) old.rows ≡ false → list_any (is_of m) (map (row_began source target) old.rows) ≡ false → IsFirstReady m source target old.ready
    → state_of (n + 1) (begun_at n rows) ≡ after_beginning old m source target true
began_first old n rows m source target told unfollowed unfollowed_still first = ap (λ k. state_of k (begun_at n rows)) (behind n) ∙ by (drop n rows) refl old.ready refl first
  where
    behind : (k : ℕ) → k + 1 ≡ suc k
    behind k = omega arith

    now : List Row
    now = map (row_began source target) old.rows

    new_row : ℕ → Row
    new_row grains = record { map = m; source = source; target = target; into = target; same = replicate grains true }

    is_begun : (r : Row) (new : NewRow) → new_of r ≡ new → (new.map ≡ m) × (new.source ≡ source) × (new.target ≡ target) → begun r ≡ new_row new.grains
    is_begun r new e f =
        let a : r.map ≡ m = ap (λ (x : NewRow). x.map) e ∙ f.0 in
        let b : r.source ≡ source = ap (λ (x : NewRow). x.source) e ∙ f.1 in
        let c : r.target ≡ target = ap (λ (x : NewRow). x.target) e ∙ f.2 in
        let g : length r.same ≡ new.grains = ap (λ (x : NewRow). x.grains) e in
        λ k. record { map = a k; source = b k; target = c k; into = c k; same = replicate (g k) true }

    head : (x y : NewRow) (xs ys : List NewRow) → x ∷ xs ≡ y ∷ ys → x ≡ y
    head x y xs ys e = cc

    tail : (x y : NewRow) (xs ys : List NewRow) → x ∷ xs ≡ y ∷ ys → xs ≡ ys
    tail x y xs ys e = cc

    followed : take n rows ≡ now
    followed = ap (λ (s : ChangesState). s.rows) told

    after : (new : NewRow) (ready : List NewRow) → old.ready ≡ new ∷ ready → after_beginning old m source target true ≡ state (now ++ new_row new.grains ∷ []) ready
    after new ready e = rw (e, unfollowed, unfollowed_still) refl

    by : (xs : List Row) → drop n rows ≡ xs → (ready : List NewRow) → old.ready ≡ ready → IsFirstReady m source target ready → state_of (suc n) (begun_at n rows) ≡ after_beginning old m source target true
    by xs e [] f g = absurd g
    by [] e (new ∷ ready) f g =
        let none : [] ≡ new ∷ ready = sym (ap (map new_of) e) ∙ (ap (λ (s : ChangesState). s.ready) told ∙ f) in
        cc
    by (x ∷ xs) e (new ∷ ready) f g =
        let both : new_of x ∷ map new_of xs ≡ new ∷ ready = sym (ap (map new_of) e) ∙ (ap (λ (s : ChangesState). s.ready) told ∙ f) in
        state_begun n rows x xs e
        ∙ ((λ k. state (followed k ++ is_begun x new (head (new_of x) new (map new_of xs) ready both) g k ∷ []) (tail (new_of x) new (map new_of xs) ready both k))
        ∙ sym (after new ready f))

-- It isn't: no row comes.
pub began_later : (old : ChangesState) (m source target : ℕ) (incremental : Bool) → takes_ready old m incremental ≡ false
    → list_any (is_of m) (map (row_began source target) old.rows) ≡ list_any (is_of m) old.rows
    → record old { rows = map (row_began source target) old.rows } ≡ after_beginning old m source target incremental
began_later old m source target false e same = refl
began_later old m source target true e same =
    let there : list_any (is_of m) old.rows ≡ true = twice_not (list_any (is_of m) old.rows) e in
    let still : list_any (is_of m) (map (row_began source target) old.rows) ≡ true = same ∙ there in
    rw (there, still) refl
  where
    twice_not : (b : Bool) → not b ≡ false → b ≡ true
    twice_not true f = refl
    twice_not false f = cc

pub not_taken : (a b : Bool) → b ≡ true → (a && not b) ≡ false
not_taken true b e = ap not e
not_taken false b e = refl
