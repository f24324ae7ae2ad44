use Rattle.std.proofs.Common.{ℕ, List}
use Rattle.fc_check_lines.specs.Passing.{PassTo}
use Rattle.law_stands.specs.Names.{named}
use Rattle.fc_check_lines.proofs.passing.Passing.pass.Given as goal

-- so far they passed without an entry
abbrev pub invariant-seconds : goal.invariant-seconds
invariant-seconds g l = (names : List (List ℕ)) → PassTo (g.T.Told.grain l.told) (named names (g.T.Told.whole l.told)) l.initial.self l.self

abbrev pub decreases-seconds : goal.decreases-seconds
decreases-seconds g l = l.self.seconds
