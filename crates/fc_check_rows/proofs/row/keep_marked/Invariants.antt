use Rattle.std.proofs.Common.{◌≡◌, ◌++◌, take, drop}
use Rattle.fc_check_rows.specs.Marks.{same_and_held}
use Rattle.fc_check_rows.proofs.row.keep_marked.Given as goal

-- the marks so far are kept or not, the others as they were
abbrev pub invariant-loop-grain : goal.invariant-loop-grain
invariant-loop-grain l = l.marks ≡ take l.grain (same_and_held l.initial.marks l.others) ++ drop l.grain l.initial.marks
