-- The rows of a table, one more.
use Rattle.std.proofs.Common.{◌≡◌, ◌∙◌, ap, ℕ, ◌+◌, ◌<◌, cond, Bool, List, [], ◌∷◌, ◌++◌, map, length, get_or, take}
use Rattle.std.specs.List.{filter}
use Rattle.std.proofs.lemmas.List.{take_more, map-append}
use Rattle.std.proofs.lemmas.List.Elements.{filter_more}
use Rattle.fc_books.specs.Layout.{ReportColumn, headings, fields, table}

pub table_more : {X : Type 0} (columns : List (ReportColumn X)) (xs : List X) (i : ℕ) (d : X) → i < length xs → table columns (take (i + 1) xs) ≡ table columns (take i xs) ++ fields columns (get_or xs i d) ∷ []
table_more columns xs i d lt =
    ap (table columns) (take_more xs i d lt)
    ∙ ap (λ rows. headings columns ∷ rows) (map-append (fields columns) (take i xs) (get_or xs i d ∷ []))

-- of those that pass a test
pub table_kept : {X : Type 0} (columns : List (ReportColumn X)) (test : X → Bool) (xs : List X) (i : ℕ) (d : X) → i < length xs →
    table columns (filter test (take (i + 1) xs)) ≡ table columns (filter test (take i xs)) ++ map (fields columns) (cond (test (get_or xs i d)) (get_or xs i d ∷ []) [])
table_kept columns test xs i d lt =
    ap (table columns) (filter_more test xs i d lt)
    ∙ ap (λ rows. headings columns ∷ rows) (map-append (fields columns) (filter test (take i xs)) (cond (test (get_or xs i d)) (get_or xs i d ∷ []) []))
