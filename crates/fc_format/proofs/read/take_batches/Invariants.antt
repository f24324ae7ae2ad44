use Rattle.std.proofs.Common.{◌≡◌, ◌-◌}
use Rattle.fc_format.specs.Halves.{batches_up_to}
use Rattle.fc_format.proofs.Steps.{behind}
use Rattle.fc_format.proofs.read.take_batches.Given as goal

-- the batches so far are taken
abbrev pub invariant-loop-taken : goal.invariant-loop-taken
invariant-loop-taken l = batches_up_to l.count l.initial.cursor ≡ behind l.all.items (batches_up_to (l.count - l.taken) l.cursor)
