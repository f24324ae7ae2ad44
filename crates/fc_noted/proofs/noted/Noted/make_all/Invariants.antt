use Rattle.fc_noted.proofs.Lines.{Comes}
use Rattle.fc_noted.specs.Making.{KeepLanes, KeepsCount, done}
use Rattle.fc_noted.proofs.noted.Noted.make_all.Given as goal

-- the steps so far brought the script of the line to what is left of it, and kept the disks of each lane, and the count of calls
abbrev pub invariant-steps : goal.invariant-steps
invariant-steps g l =
    record {
      comes : Comes g.M.MetaDisk.seen g.M.MetaDisk.may_leave l.initial.self l.initial.history l.self l.history;
      lanes : KeepLanes l.initial.self.store l.self.store;
      counted : KeepsCount g.M.MetaDisk.seen g.M.MetaDisk.fault_count g.M.MetaDisk.calls done l.initial.self l.self;
    }
