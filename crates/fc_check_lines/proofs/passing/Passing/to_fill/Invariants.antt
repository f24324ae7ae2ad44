use Rattle.std.proofs.Common.{◌≡◌, ℕ, List}
use Rattle.fc_check_lines.specs.Passing.{PassTo, turns_in}
use Rattle.law_stands.specs.Names.{named}
use Rattle.fc_check_lines.proofs.passing.Passing.to_fill.Given as goal

-- so far they passed without an entry, in the same second
abbrev pub invariant-turns : goal.invariant-turns
invariant-turns g l = record {
  passed : (names : List (List ℕ)) → PassTo (g.T.Told.grain l.told) (named names (g.T.Told.whole l.told)) l.initial.self l.self;
  seconds : l.self.seconds ≡ l.initial.self.seconds;
}

abbrev pub decreases-turns : goal.decreases-turns
decreases-turns g l = turns_in l.self
