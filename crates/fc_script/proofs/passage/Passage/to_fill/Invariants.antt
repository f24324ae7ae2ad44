use Rattle.std.proofs.Common.{◌≡◌}
use Rattle.fc_legal.specs.Whole.{Whole}
use Rattle.fc_script.specs.Passage.{PassTo, passing_of, turns_in}
use Rattle.fc_stands.specs.Store.{StandsFor}
use Rattle.fc_script.proofs.passage.Passage.to_fill.Given as goal

-- so far they passed without an entry, in the same second
abbrev pub invariant-turns : goal.invariant-turns
invariant-turns g l = record {
  passed : (w : Whole) → StandsFor l.store w → PassTo l.store.control.grain w (passing_of l.store.control.grain l.initial.self) (passing_of l.store.control.grain l.self);
  seconds : l.self.seconds ≡ l.initial.self.seconds;
}

abbrev pub decreases-turns : goal.decreases-turns
decreases-turns g l = turns_in l.self
