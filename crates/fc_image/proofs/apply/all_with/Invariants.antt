use Rattle.std.proofs.Common.{◌≡◌, map, take}
use Rattle.std.specs.List.{fold}
use Rattle.fc_image.proofs.apply.all_with.Given as goal

-- the rows so far, with all records applied
abbrev pub invariant-loop-row : goal.invariant-loop-row
invariant-loop-row g l = l.all ≡ map (λ row. fold (g.T.Row.after l.mappings) row l.records) (take l.row-index l.rows)
