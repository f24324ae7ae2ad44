-- The row of a mapping, found at its place by id.
use Rattle.std.proofs.Common.{◌≡◌, ◌∙◌, ℕ, ◌<◌, Bool, true, false, List, [], ◌∷◌, length, get_or, nat_eq, refl, arith, Some, None, true≢false, sym}
use Rattle.std.proofs.lemmas.Bool.Decides.{nat_tests}
use Rattle.std.specs.List.{find}
use Rattle.fc_pick.proofs.First.{find_first}
use Rattle.fc_pick.proofs.Rows.{there_within, row_there}
use Rattle.fc_pick.specs.Flags.{AreByMapping, before, has_mapping}
use Rattle.fc_pick.specs.declared.work.WorkFlags.{WorkFlags}

-- where no row is the mapping's, none is found
pub none_found : (m : ℕ) (rows : List WorkFlags) → has_mapping m rows ≡ false → find (λ (row : WorkFlags). nat_eq row.map.0 m) rows ≡ None
none_found m [] new = refl
none_found m (row ∷ rows) new = by (none_found m rows) (nat_eq m row.map.0) refl
  where
    by : (has_mapping m rows ≡ false → find (λ (row : WorkFlags). nat_eq row.map.0 m) rows ≡ None) → (b : Bool) → nat_eq m row.map.0 ≡ b → find (λ (row : WorkFlags). nat_eq row.map.0 m) (row ∷ rows) ≡ None
    by rest true is = let there : has_mapping m (row ∷ rows) ≡ true = rw is refl in absurd (true≢false (sym there ∙ new))
    by rest false is =
        let differs : nat_eq row.map.0 m ≡ false = grind (arith, nat_tests, is) in
        let same : has_mapping m rows ≡ has_mapping m (row ∷ rows) = rw is refl in
        rw differs (rest (same ∙ new))

-- the row at the mapping's place is the one that is found, since those before it have lower ids
pub row_found : (m : ℕ) (rows : List WorkFlags) → AreByMapping rows → (place : ℕ) → place ≡ length (before m rows) → has_mapping m rows ≡ true → (d : WorkFlags) → Some (get_or rows place d) ≡ find (λ (row : WorkFlags). nat_eq row.map.0 m) rows
row_found m rows rising place is there d = sym (find_first (λ (row : WorkFlags). nat_eq row.map.0 m) rows place d lower within (own d))
  where
    within : place < length rows
    within = there_within m rows rising place is there

    own : (row : WorkFlags) → nat_eq (get_or rows place row).map.0 m ≡ true
    own row = row_there m rows rising place is row within ∙ there

    lower : (k : ℕ) (row : WorkFlags) → k < place → nat_eq (get_or rows k row).map.0 m ≡ false
    lower k row below =
        let less : (get_or rows k row).map.0 < (get_or rows place row).map.0 = rising k place row below within in
        grind (arith, nat_tests, less, own row)
