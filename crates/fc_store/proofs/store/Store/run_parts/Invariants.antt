use Rattle.std.proofs.Common.{◌+◌, ◌-◌, [], map, Ok}
use Rattle.fc_base.specs.declared.behind.Behind.TheVariants.{Passing as PassingSeconds}
use Rattle.fc_legal.specs.Added.{IsTold}
use Rattle.fc_legal.specs.Agenda.{Own, Reading, session_rules}
use Rattle.fc_legal.specs.Asked.{numbers}
use Rattle.fc_legal.specs.Whole.{Whole}
use Rattle.fc_lanes.specs.Asking.{part_of}
use Rattle.fc_stands.specs.Logged.{Brought}
use Rattle.fc_stands.specs.Store.{StandsFor}
use Rattle.fc_stands.proofs.Lining.{asks_from}
use Rattle.fc_store.proofs.GoingOn.{GoesOn}
use Rattle.fc_store.proofs.store.Store.run_parts.Given as goal

-- the grains from this one on are left
abbrev pub invariant-loop-grain : goal.invariant-loop-grain
invariant-loop-grain g l = record {
  brought : (read : Reading) (w : Whole) → IsTold (StandsFor l.initial.self) l.initial.history w →
      Brought {A = Unit {0}} (Ok tt) (StandsFor l.self) (session_rules l.initial.self.control.grain read)
      (Own (map (part_of l.initial.self.control.grain l.access l.volume l.block l.count) (numbers l.first (l.last + 1 - l.first))) (PassingSeconds 0) [])
      (asks_from (part_of l.initial.self.control.grain l.access l.volume l.block l.count) l.grain (l.last + 1))
      w l.initial.history l.history;
  goes : GoesOn l.initial.self l.initial.history l.self l.history;
}
