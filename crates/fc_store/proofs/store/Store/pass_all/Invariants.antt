use Rattle.std.proofs.Common.{ℕ, suc, [], Ok, take, drop}
use Rattle.fc_legal.specs.Whole.{Whole}
use Rattle.fc_legal.specs.Added.{IsTold}
use Rattle.fc_stands.specs.Passing.{Passed, between}
use Rattle.fc_stands.specs.Store.{StandsFor}
use Rattle.fc_store.proofs.GoingOn.{GoesOn}
use Rattle.fc_store.proofs.store.Store.pass_all.Given as goal

-- the work before this one is over for this second, and the work from it on is left
abbrev pub invariant-loop-place : goal.invariant-loop-place
invariant-loop-place g l = record {
  passed : (w : Whole) (seconds : ℕ) → IsTold (StandsFor l.initial.self) l.initial.history w →
      Passed {A = Unit {0}} (Ok tt) (StandsFor l.self) l.initial.self.control.grain w (between (suc seconds) l.initial.works [])
      (between seconds (take l.place l.works) (drop l.place l.works)) l.initial.history l.history;
  goes : GoesOn l.initial.self l.initial.history l.self l.history;
}
