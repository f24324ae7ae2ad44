use Rattle.std.proofs.Common.{◌≡◌, ◌≢◌, ℕ, true, All}
use Rattle.fc_changed.specs.Row.{Row}
use Rattle.fc_diff.specs.Index.{is_listed, named_by}
use Rattle.fc_diff.proofs.table.unlist.Given as goal

-- mappings other than these are listed as they were
abbrev pub invariant-loop-row : goal.invariant-loop-row
invariant-loop-row l =
    (v m : ℕ) → All (λ (row : Row). m ≢ row.map) l.rows → is_listed m (named_by l.initial.namers v) ≡ true → is_listed m (named_by l.namers v) ≡ true
