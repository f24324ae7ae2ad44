use Rattle.fc_legal.specs.Whole.{Whole}
use Rattle.fc_script.specs.Passage.{PassTo, passing_of}
use Rattle.fc_stands.specs.Store.{StandsFor}
use Rattle.fc_script.proofs.passage.Passage.pass.Given as goal

-- so far they passed without an entry
abbrev pub invariant-seconds : goal.invariant-seconds
invariant-seconds g l = (w : Whole) → StandsFor l.store w → PassTo l.store.control.grain w (passing_of l.store.control.grain l.initial.self) (passing_of l.store.control.grain l.self)

abbrev pub decreases-seconds : goal.decreases-seconds
decreases-seconds g l = l.self.seconds
