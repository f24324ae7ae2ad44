-- The faults from this one on are left.
use Rattle.std.proofs.Common.{◌≤◌, drop, length}
use Rattle.fc_base.specs.declared.limits.TheConstants.{MAX_ENTRIES}
use Rattle.fc_legal.specs.Added.{IsTold, TellsSome}
use Rattle.fc_legal.specs.Scripts.{faults_asked}
use Rattle.fc_legal.specs.Whole.{Whole}
use Rattle.fc_stands.specs.Quiet.{QuietBy}
use Rattle.fc_stands.specs.Store.{StandsFor}
use Rattle.fc_opening.proofs.Onwards.{SoFar}
use Rattle.fc_opening.proofs.faults.tell_faults.Given as goal

abbrev pub invariant-loop-fault : goal.invariant-loop-fault
invariant-loop-fault g l = record {
  told : (w : Whole) → IsTold (StandsFor l.store) l.initial.history w →
      SoFar (StandsFor l.store) l.store.control.grain w l.faults (faults_asked (drop l.fault-index l.faults)) l.initial.history l.history;
  stands : TellsSome (StandsFor l.store) l.history;
  room : length l.history.entries ≤ MAX_ENTRIES;
  quiet : QuietBy l.initial.history.entries l.store → QuietBy l.history.entries l.store;
}
