-- The loop that tells the named mappings of an event.
use Rattle.std.proofs.Common.{◌≡◌, ◌≢◌, ℕ, ◌<◌, ◌≤◌, Bool, true, false, ◌||◌, cond, List, [], ◌∷◌, ◌++◌, map, length, get_or, set, nat_eq, position, Some, None, refl, ap, sym, subst, ◌∙◌, arith, All, AllPairs, ⊎_elim, inl, inr, ◌⊎◌}
use Rattle.std.proofs.lemmas.List.{get_or_default, same_lists, length-map, length-set, get_or-map, get_or-set_same, get_or-set_other}
use Rattle.std.proofs.lemmas.List.Quantifiers.{position-Some}
use Rattle.std.proofs.lemmas.List.Folds.{list_any-append}
use Rattle.std.proofs.lemmas.Bool.Decides.{nat_tests}
use Rattle.std.proofs.lemmas.Bool.{cases_lt}
use Rattle.fc_diff.specs.declared.tracked.Event.{Event}
use Rattle.fc_diff.specs.Index.{is_listed, map_numbers}
use Rattle.fc_changed.specs.Row.{Row, row_names, is_of}
use Rattle.fc_diff.specs.Told.{row_after, volume_of, FitsRow}
use Rattle.fc_diff.proofs.Places.{all_fail, find-missed}
use Rattle.fc_diff.proofs.Events.{same_map, only_named, twice, fits_after}

-- a row after those named so far were told
abbrev pub told_row : Event → List ℕ → Row → Row
told_row event named row = cond (is_listed row.map named) (row_after event row) row

-- The rows now are those before, each told if it is among those named so far.
pub record IsTold (event : Event) (before : List Row) (named : List ℕ) (now : List Row) : Type 0 where
  pub same_length : length now ≡ length before
  pub row : (k : ℕ) (d : Row) → k < length before → get_or now k d ≡ told_row event named (get_or before k d)

told_map : (event : Event) (named : List ℕ) (row : Row) → (told_row event named row).map ≡ row.map
told_map event named row = by (is_listed row.map named)
  where
    by : (b : Bool) → (cond b (row_after event row) row).map ≡ row.map
    by true = same_map event row
    by false = refl

module _ (event : Event) (before : List Row) (named : List ℕ) (now : List Row) (told : IsTold event before named now) where
  -- the numbers stay
  pub told_numbers : map_numbers now ≡ map_numbers before
  told_numbers =
      same_lists (map_numbers now) (map_numbers before)
      (length-map now (λ row. row.map) ∙ (told.same_length ∙ sym (length-map before (λ row. row.map))))
      (λ k d within. by k d (rw length-map at within))
    where
      by : (k d : ℕ) → k < length now → get_or (map_numbers now) k d ≡ get_or (map_numbers before) k d
      by k d within =
          let no_row : Row = record { map = 0; source = 0; target = 0; into = 0; same = [] } in
          let below : k < length before = rw (sym told.same_length) within in
          get_or-map (λ row. row.map) now k no_row d within
          ∙ (ap (λ row. row.map) (told.row k no_row below)
          ∙ (told_map event named (get_or before k no_row) ∙ sym (get_or-map (λ row. row.map) before k no_row d below)))

  -- and the rows fit the event still
  pub told_fits : All (FitsRow event) before → All (FitsRow event) now
  told_fits fits k d within =
      let below : k < length before = rw (sym told.same_length) within in
      subst (FitsRow event) (sym (told.row k d below)) (by (is_listed (get_or before k d).map named) (get_or before k d) (fits k d below))
    where
      by : (b : Bool) (row : Row) → FitsRow event row → FitsRow event (cond b (row_after event row) row)
      by true row fit = fits_after event row fit
      by false row fit = fit

  listed_more : (m number : ℕ) → is_listed m (named ++ number ∷ []) ≡ (is_listed m named || nat_eq m number)
  listed_more m number = list_any-append (λ k. nat_eq m k) named (number ∷ []) ∙ by (is_listed m named) (nat_eq m number)
    where
      by : (a b : Bool) → (a || (b || false)) ≡ (a || b)
      by true b = refl
      by false true = refl
      by false false = refl

  -- a number that no row has
  pub told_missed : (number : ℕ) → position (is_of number) now ≡ None → IsTold event before (named ++ number ∷ []) now
  told_missed number missed = record {
    same_length = told.same_length;
    row = λ k d within.
        let here : k < length now = rw told.same_length within in
        let fails : nat_eq number (get_or now k d).map ≡ false = all_fail (is_of number) now (find-missed (is_of number) now missed) k d here in
        told.row k d within ∙ unlisted (get_or before k d) number (swap number (get_or before k d).map (ap (nat_eq number) (sym (ap (λ row. row.map) (told.row k d within) ∙ told_map event named (get_or before k d))) ∙ fails));
  }
    where
      swap : (a b : ℕ) → nat_eq a b ≡ false → nat_eq b a ≡ false
      swap a b e = grind (arith, nat_tests)

      unlisted : (row : Row) (n : ℕ) → nat_eq row.map n ≡ false → told_row event named row ≡ told_row event (named ++ n ∷ []) row
      unlisted row n other = ap (λ b. cond b (row_after event row) row) (sym (listed_more row.map n ∙ (ap (λ c. is_listed row.map named || c) other ∙ plain (is_listed row.map named))))
        where
          plain : (b : Bool) → (b || false) ≡ b
          plain true = refl
          plain false = refl

  -- a number that a row has
  pub told_found : AllPairs (λ x y. x.map ≢ y.map) before → (number place : ℕ) (row : Row) → position (is_of number) now ≡ Some place → row ≡ get_or now place row → IsTold event before (named ++ number ∷ []) (set now place (row_after event row))
  told_found distinct number place row found is = record {
    same_length = length-set now place (row_after event row) ∙ told.same_length;
    row = λ k d within. ⊎_elim (λ here. at_place k d within here) (λ other. elsewhere k d within other) (places k place);
  }
    where
      places : (a b : ℕ) → (a ≡ b) ⊎ (a ≢ b)
      places a b = ⊎_elim (λ less. inr (λ e. absurd (omega arith))) (λ more. ⊎_elim (λ greater. inr (λ e. absurd (omega arith))) (λ equal. inl (omega arith)) (cases_lt b a)) (cases_lt a b)

      inside : place < length now
      inside = (position-Some (is_of number) now place row found).0

      own : nat_eq number row.map ≡ true
      own = ap (λ r. nat_eq number r.map) is ∙ (position-Some (is_of number) now place row found).1

      below : place < length before
      below = rw (sym told.same_length) inside

      number_is : number ≡ row.map
      number_is = grind (arith, nat_tests, own)

      before_map : (d : Row) → (get_or before place d).map ≡ number
      before_map d = sym (told_map event named (get_or before place d)) ∙ (ap (λ r. r.map) (sym (told.row place d below)) ∙ (ap (λ r. r.map) (get_or_default now place d row inside ∙ sym is) ∙ sym number_is))

      listed_now : (r : Row) → r.map ≡ number → is_listed r.map (named ++ number ∷ []) ≡ true
      listed_now r e = listed_more r.map number ∙ both (is_listed r.map named) (nat_eq r.map number) (same_number r.map number e)
        where
          both : (a b : Bool) → b ≡ true → (a || b) ≡ true
          both true b f = refl
          both false b f = f

          same_number : (a b : ℕ) → a ≡ b → nat_eq a b ≡ true
          same_number a b f = grind (arith, nat_tests)

      once : (r : Row) → row_after event (told_row event named r) ≡ row_after event r
      once r = by (is_listed r.map named)
        where
          by : (b : Bool) → row_after event (cond b (row_after event r) r) ≡ row_after event r
          by true = twice event r
          by false = refl

      at_place : (k : ℕ) (d : Row) → k < length before → k ≡ place → get_or (set now place (row_after event row)) k d ≡ told_row event (named ++ number ∷ []) (get_or before k d)
      at_place k d within here =
          rw here
          (get_or-set_same now place (row_after event row) d inside
          ∙ (ap (row_after event) (is ∙ (get_or_default now place row d inside ∙ told.row place d below))
          ∙ (once (get_or before place d)
          ∙ sym (ap (λ b. cond b (row_after event (get_or before place d)) (get_or before place d)) (listed_now (get_or before place d) (before_map d))))))

      apart : (k : ℕ) (d : Row) → k < length before → k ≢ place → nat_eq (get_or before k d).map number ≡ false
      apart k d within other = unequal (get_or before k d).map number (λ e. ⊎_elim
          (λ less. distinct k place d less below (e ∙ sym (before_map d)))
          (λ more. distinct place k d (ahead k place other more) within (before_map d ∙ sym e)) (cases_lt k place))
        where
          unequal : (a b : ℕ) → a ≢ b → nat_eq a b ≡ false
          unequal a b e = grind (arith, nat_tests, e)

          ahead : (a b : ℕ) → a ≢ b → b ≤ a → b < a
          ahead a b e le = ⊎_elim (λ less. less) (λ same. absurd (e (omega arith))) (cases_lt b a)

      elsewhere : (k : ℕ) (d : Row) → k < length before → k ≢ place → get_or (set now place (row_after event row)) k d ≡ told_row event (named ++ number ∷ []) (get_or before k d)
      elsewhere k d within other =
          get_or-set_other now place k (row_after event row) d other
          ∙ (told.row k d within
          ∙ ap (λ b. cond b (row_after event (get_or before k d)) (get_or before k d))
          (sym (listed_more (get_or before k d).map number ∙ (ap (λ c. is_listed (get_or before k d).map named || c) (apart k d within other) ∙ plain (is_listed (get_or before k d).map named)))))
        where
          plain : (b : Bool) → (b || false) ≡ b
          plain true = refl
          plain false = refl

-- all that name the volume were named
pub told_all : (event : Event) (before : List Row) (named : List ℕ) (now : List Row) → IsTold event before named now → All (λ row. row_names row (volume_of event) ≡ true → is_listed row.map named ≡ true) before → now ≡ map (row_after event) before
told_all event before named now told complete =
    same_lists now (map (row_after event) before) (told.same_length ∙ sym (length-map before (row_after event)))
    (λ k d within. let below : k < length before = rw (sym told.same_length) within in
    told.row k d below ∙ (by k d below (row_names (get_or before k d) (volume_of event)) refl ∙ sym (get_or-map (row_after event) before k d d below)))
  where
    by : (k : ℕ) (d : Row) → k < length before → (b : Bool) → row_names (get_or before k d) (volume_of event) ≡ b → told_row event named (get_or before k d) ≡ row_after event (get_or before k d)
    by k d within true e = ap (λ b. cond b (row_after event (get_or before k d)) (get_or before k d)) (complete k d within e)
    by k d within false e = either (is_listed (get_or before k d).map named)
      where
        either : (b : Bool) → cond b (row_after event (get_or before k d)) (get_or before k d) ≡ row_after event (get_or before k d)
        either true = refl
        either false = sym (only_named event (get_or before k d) e)

pub moved : (event : Event) (before : List Row) (named named' : List ℕ) (now now' : List Row) → named ≡ named' → now ≡ now' → IsTold event before named now → IsTold event before named' now'
moved event before named named' now now' e f told =
    subst (λ n. IsTold event before n now') e (subst (λ rows. IsTold event before named rows) f told)
