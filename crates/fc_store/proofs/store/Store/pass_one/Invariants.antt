use Rattle.std.proofs.Common.{ℕ, List, Ok}
use Rattle.fc_legal.specs.Seconds.{Work}
use Rattle.fc_legal.specs.Whole.{Whole}
use Rattle.fc_legal.specs.Added.{IsTold}
use Rattle.fc_stands.specs.Passing.{Passed, at}
use Rattle.fc_stands.specs.Store.{StandsFor}
use Rattle.fc_store.proofs.GoingOn.{GoesOn}
use Rattle.fc_store.proofs.store.Store.pass_one.Given as goal

-- the work is at hand with what is left of its credit
abbrev pub invariant-turns : goal.invariant-turns
invariant-turns g l = record {
  passed : (w : Whole) (seconds : ℕ) (over left : List Work) → IsTold (StandsFor l.initial.self) l.initial.history w →
      Passed {A = Unit {0}} (Ok tt) (StandsFor l.self) l.initial.self.control.grain w (at seconds over l.initial.work left) (at seconds over l.work left) l.initial.history l.history;
  goes : GoesOn l.initial.self l.initial.history l.self l.history;
}

abbrev pub decreases-turns : goal.decreases-turns
decreases-turns g l = l.work.credit
