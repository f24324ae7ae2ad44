use Rattle.std.proofs.Common.{[], Ok}
use Rattle.fc_legal.specs.Whole.{Whole}
use Rattle.fc_legal.specs.Added.{IsTold}
use Rattle.fc_stands.specs.Passing.{Passed, between}
use Rattle.fc_stands.specs.Store.{StandsFor}
use Rattle.fc_store.proofs.GoingOn.{GoesOn}
use Rattle.fc_store.proofs.store.Store.advance.Given as goal

-- so many seconds are left
abbrev pub invariant-loop-left : goal.invariant-loop-left
invariant-loop-left g l = record {
  passed : (w : Whole) → IsTold (StandsFor l.initial.self) l.initial.history w →
      Passed {A = Unit {0}} (Ok tt) (StandsFor l.self) l.initial.self.control.grain w (between l.initial.left l.initial.works.items [])
      (between l.left l.works.items []) l.initial.history l.history;
  goes : GoesOn l.initial.self l.initial.history l.self l.history;
}

abbrev pub decreases-loop-left : goal.decreases-loop-left
decreases-loop-left g l = l.left
