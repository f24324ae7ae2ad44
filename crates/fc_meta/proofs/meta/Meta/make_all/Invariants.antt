use Rattle.std.proofs.Common.{◌≡◌, length, take}
use Rattle.std.specs.List.{sum_by}
use Rattle.fc_meta.specs.Answers.{more_calls}
use Rattle.fc_meta.specs.Order.{disk_calls}
use Rattle.fc_meta.proofs.Runs.{Going}
use Rattle.fc_meta.proofs.meta.Meta.make_all.Given as goal

-- the calls before this one were made
abbrev pub invariant-loop-done : goal.invariant-loop-done
invariant-loop-done g l = record {
  going : Going g.M.MetaDisk.seen g.M.MetaDisk.may_leave g.M.MetaDisk.moment g.M.MetaDisk.left_since l.calls l.done l.fn.self l.self;
  calls : g.M.MetaDisk.calls l.self.disk ≡ more_calls (sum_by disk_calls (take l.done l.calls)) (g.M.MetaDisk.calls l.fn.self.disk);
  quiet : g.M.MetaDisk.fault_count l.self.disk ≡ g.M.MetaDisk.fault_count l.fn.self.disk;
  size : length (g.M.MetaDisk.seen l.self.disk) ≡ length (g.M.MetaDisk.seen l.fn.self.disk);
}
