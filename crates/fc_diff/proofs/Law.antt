-- The rows are what the definition says over all that was noted.
use Rattle.std.proofs.Common.{◌≡◌, ℕ, Bool, true, false, not, ◌&&◌, ◌||◌, cond, List, [], ◌∷◌, ◌++◌, map, filter, fold, length, find, set, nat_eq, Option, Some, None, is_some, option_map, refl, ap, sym, ◌∙◌, arith, append-nil, append_assoc}
use Rattle.std.specs.List.{list_any}
use Rattle.std.proofs.lemmas.Bool.{true≢false}
use Rattle.std.proofs.lemmas.Bool.Decides.{nat_tests}
use Rattle.fc_changed.specs.Notes.{Note, has, grains_with, joins}
use Rattle.fc_changed.specs.Notes.Note.{Began, Wrote, Left, Cut, Forgotten}
use Rattle.fc_changed.specs.Changed.{story, restart_told}
use Rattle.fc_changed.specs.Row.{Row, row_names, row_began, row_wrote, row_left, row_cut, with_all, with_none, is_of, with_new, after_note, row_restart}
use Rattle.fc_diff.specs.Law.{rows_of, RestartLaw}
use Rattle.fc_diff.proofs.Ends.{story_push, story_shape}
use Rattle.fc_diff.proofs.Notes.{row_told, row_step, new_row, told_push}

-- ---- the row that is found in the table

-- a change that keeps each row's mapping
find_map : (m : ℕ) (f : Row → Row) → ((row : Row) → (f row).map ≡ row.map) → (rows : List Row) → find (is_of m) (map f rows) ≡ option_map f (find (is_of m) rows)
find_map m f same [] = refl
find_map m f same (row ∷ rows) = ap (λ k. cond (nat_eq m k) (Some (f row)) (find (is_of m) (map f rows))) (same row) ∙ by (is_of m row) (find_map m f same rows)
  where
    by : (c : Bool) → find (is_of m) (map f rows) ≡ option_map f (find (is_of m) rows) → cond c (Some (f row)) (find (is_of m) (map f rows)) ≡ option_map f (cond c (Some row) (find (is_of m) rows))
    by true rest = refl
    by false rest = rest

began_map : (s t : ℕ) (row : Row) → (row_began s t row).map ≡ row.map
began_map s t row = by (joins row.source row.target s t) (row_names row t)
  where
    by : (c d : Bool) → (cond c (record (with_all row) { into = t }) (cond d (with_none row) row)).map ≡ row.map
    by true d = refl
    by false true = refl
    by false false = refl

wrote_map : (v g : ℕ) (row : Row) → (row_wrote v g row).map ≡ row.map
wrote_map v g row = by (row_names row v)
  where
    by : (c : Bool) → (cond c (record row { same = set row.same g false }) row).map ≡ row.map
    by true = refl
    by false = refl

left_map : (t : ℕ) (held : List Bool) (row : Row) → (row_left t held row).map ≡ row.map
left_map t held row = by (row_names row t)
  where
    by : (c : Bool) → (cond c (record row { same = grains_with (λ g. has row.same g && has held g) (length row.same) }) row).map ≡ row.map
    by true = refl
    by false = refl

cut_map : (t : ℕ) (row : Row) → (row_cut t row).map ≡ row.map
cut_map t row = by (row_names row t && not (nat_eq row.into t))
  where
    by : (c : Bool) → (cond c (with_none row) row).map ≡ row.map
    by true = refl
    by false = refl

equal : (x y : ℕ) → nat_eq x y ≡ true → x ≡ y
equal x y e = grind (arith, nat_tests)

-- a mapping that is followed no more
find_without : (m p : ℕ) (rows : List Row) → find (is_of m) (filter (λ row. not (is_of p row)) rows) ≡ cond (nat_eq m p) None (find (is_of m) rows)
find_without m p [] = by (nat_eq m p)
  where
    by : (c : Bool) → None ≡ cond {A = Option Row} c None None
    by true = refl
    by false = refl
find_without m p (row ∷ rows) = by (nat_eq p row.map) refl (nat_eq m row.map) refl (nat_eq m p) refl (find_without m p rows)
  where
    by : (x : Bool) → nat_eq p row.map ≡ x → (y : Bool) → nat_eq m row.map ≡ y → (z : Bool) → nat_eq m p ≡ z
        → find (is_of m) (filter (λ r. not (is_of p r)) rows) ≡ cond (nat_eq m p) None (find (is_of m) rows)
        → find (is_of m) (filter (λ r. not (is_of p r)) (row ∷ rows)) ≡ cond (nat_eq m p) None (find (is_of m) (row ∷ rows))
    by true e true f true g rest = rw (e, f, g) (rw g at rest)
    by true e true f false g rest = absurd (true≢false (sym (same_eq m p (equal m row.map f ∙ sym (equal p row.map e))) ∙ g))
      where
        same_eq : (u v : ℕ) → u ≡ v → nat_eq u v ≡ true
        same_eq u v h = grind (arith, nat_tests)
    by true e false f z g rest = rw (e, f) rest
    by false e true f true g rest = absurd (true≢false (sym f ∙ (ap (λ u. nat_eq u row.map) (equal m p g) ∙ e)))
    by false e true f false g rest = rw (e, f, g) refl
    by false e false f z g rest = rw (e, f) rest

-- a mapping that is followed from here on
find_push : (m : ℕ) (rows : List Row) (row : Row) → find (is_of m) (rows ++ row ∷ []) ≡ cond (is_some (find (is_of m) rows)) (find (is_of m) rows) (cond (is_of m row) (Some row) None)
find_push m [] row = refl
find_push m (r ∷ rows) row = by (is_of m r) (find_push m rows row)
  where
    by : (c : Bool) → find (is_of m) (rows ++ row ∷ []) ≡ cond (is_some (find (is_of m) rows)) (find (is_of m) rows) (cond (is_of m row) (Some row) None)
        → cond c (Some r) (find (is_of m) (rows ++ row ∷ [])) ≡ cond (is_some (cond c (Some r) (find (is_of m) rows))) (cond c (Some r) (find (is_of m) rows)) (cond (is_of m row) (Some row) None)
    by true rest = refl
    by false rest = rest

any_is : (m : ℕ) (rows : List Row) → list_any (is_of m) rows ≡ is_some (find (is_of m) rows)
any_is m [] = refl
any_is m (row ∷ rows) = by (is_of m row) (any_is m rows)
  where
    by : (c : Bool) → list_any (is_of m) rows ≡ is_some (find (is_of m) rows) → (c || list_any (is_of m) rows) ≡ is_some (cond c (Some row) (find (is_of m) rows))
    by true rest = refl
    by false rest = rest

-- a row more, unless the mapping is followed
abbrev with_step : (m p s t n : ℕ) → Option Row → Option Row
with_step m p s t n None = cond (nat_eq m p) (Some (new_row p s t n)) None
with_step m p s t n (Some row) = Some row

find_with : (m p s t n : ℕ) (rows : List Row) → find (is_of m) (with_new p s t (Some n) rows) ≡ with_step m p s t n (find (is_of m) rows)
find_with m p s t n rows = by (list_any (is_of p) rows) refl (find (is_of m) rows) refl
  where
    new : Row
    new = new_row p s t n

    step : (o : Option Row) → cond (is_some o) o (cond (nat_eq m p) (Some new) None) ≡ with_step m p s t n o
    step None = refl
    step (Some r) = refl

    there : (c : Bool) → nat_eq m p ≡ c → list_any (is_of p) rows ≡ true → find (is_of m) rows ≡ None → None ≡ cond (nat_eq m p) (Some new) None
    there true e any none = absurd (true≢false (sym any ∙ (any_is p rows ∙ (ap (λ u. is_some (find (is_of u) rows)) (sym (equal m p e)) ∙ ap is_some none))))
    there false e any none = ap (λ z. cond z (Some new) None) (sym e)

    by : (c : Bool) → list_any (is_of p) rows ≡ c → (o : Option Row) → find (is_of m) rows ≡ o → find (is_of m) (with_new p s t (Some n) rows) ≡ with_step m p s t n (find (is_of m) rows)
    by true any None e = ap (λ z. find (is_of m) (cond z rows (rows ++ new ∷ []))) any ∙ (e ∙ (there (nat_eq m p) refl any e ∙ ap (with_step m p s t n) (sym e)))
    by true any (Some r) e = ap (λ z. find (is_of m) (cond z rows (rows ++ new ∷ []))) any ∙ (e ∙ ap (with_step m p s t n) (sym e))
    by false any o e = ap (λ z. find (is_of m) (cond z rows (rows ++ new ∷ []))) any ∙ (find_push m rows new ∙ step (find (is_of m) rows))

find_began : (m p s t : ℕ) (followed : Option ℕ) (rows : List Row) → find (is_of m) (with_new p s t followed (map (row_began s t) rows)) ≡ row_step m (Began p s t followed) (find (is_of m) rows)
find_began m p s t None rows = find_map m (row_began s t) (began_map s t) rows ∙ step (find (is_of m) rows)
  where
    step : (o : Option Row) → option_map (row_began s t) o ≡ row_step m (Began p s t None) o
    step None = refl
    step (Some r) = refl
find_began m p s t (Some n) rows = find_with m p s t n (map (row_began s t) rows) ∙ (ap (with_step m p s t n) (find_map m (row_began s t) (began_map s t) rows) ∙ step (find (is_of m) rows))
  where
    step : (o : Option Row) → with_step m p s t n (option_map (row_began s t) o) ≡ row_step m (Began p s t (Some n)) o
    step None = refl
    step (Some r) = refl

pub find_step : (m : ℕ) (note : Note) (rows : List Row) → find (is_of m) (after_note rows note) ≡ row_step m note (find (is_of m) rows)
find_step m (Began p s t followed) rows = find_began m p s t followed rows
find_step m (Wrote v g) rows = find_map m (row_wrote v g) (wrote_map v g) rows
find_step m (Left t held) rows = find_map m (row_left t held) (left_map t held) rows
find_step m (Cut t) rows = find_map m (row_cut t) (cut_map t) rows
find_step m (Forgotten p) rows = find_without m p rows

-- ---- the rows and the notes

-- Rows that say of each mapping what these notes say still do so after one note more.
pub rows_push : (notes : List Note) (rows : List Row) (note : Note) → ((m : ℕ) → find (is_of m) rows ≡ row_told (story m notes)) → (m : ℕ) → find (is_of m) (after_note rows note) ≡ row_told (story m (notes ++ note ∷ []))
rows_push notes rows note so_far m =
    find_step m note rows
    ∙ (ap (row_step m note) (so_far m)
    ∙ (sym (told_push m note (story m notes) (story_shape m notes)) ∙ ap row_told (sym (story_push m notes note))))

rows_from : (done todo : List Note) (rows : List Row) → ((m : ℕ) → find (is_of m) rows ≡ row_told (story m done)) → (m : ℕ) → find (is_of m) (fold after_note rows todo) ≡ row_told (story m (done ++ todo))
rows_from done [] rows so_far m = so_far m ∙ ap (λ notes. row_told (story m notes)) (sym (append-nil done))
rows_from done (note ∷ todo) rows so_far m =
    rows_from (done ++ note ∷ []) todo (after_note rows note) (rows_push done rows note so_far) m
    ∙ ap (λ notes. row_told (story m notes)) (append_assoc done (note ∷ []) todo)

-- There is of each mapping the row that the notes say, and none exactly where it isn't followed.
pub rows_are : (notes : List Note) (m : ℕ) → find (is_of m) (rows_of notes) ≡ row_told (story m notes)
rows_are notes m = rows_from [] notes [] (λ k. refl) m

restart_of_told : (tale : List Note) → row_restart (row_told tale) ≡ restart_told tale
restart_of_told [] = refl
restart_of_told (Began m a b (Some n) ∷ notes) = refl
restart_of_told (Began m a b None ∷ notes) = refl
restart_of_told (Wrote v g ∷ notes) = refl
restart_of_told (Left t held ∷ notes) = refl
restart_of_told (Cut t ∷ notes) = refl
restart_of_told (Forgotten p ∷ notes) = refl

pub restart_is : RestartLaw
restart_is notes m = ap row_restart (rows_are notes m) ∙ restart_of_told (story m notes)
