use Rattle.std.proofs.Common.{◌≡◌, ◌++◌}
use Rattle.fc_base.specs.Counts.{names_below, is_unneeded}
use Rattle.fc_tallies.proofs.count.add_unneeded.Given as goal

-- those so far are added
abbrev pub invariant-loop-place : goal.invariant-loop-place
invariant-loop-place l = l.out ≡ l.fn.out ++ names_below l.slots (is_unneeded l.slots) l.place
