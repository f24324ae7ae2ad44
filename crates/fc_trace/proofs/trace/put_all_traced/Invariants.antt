-- The entries from the first number on and before this one were put.
use Rattle.std.proofs.Common.{◌-◌, ◌≤◌, take, drop, false}
use Rattle.std.specs.List.{flat_map}
use Rattle.fc_entry.specs.Written.{Written}
use Rattle.fc_trace.specs.Trace.{traced_text}
use Rattle.fc_trace.proofs.trace.put_all_traced.Given as goal

abbrev pub invariant-loop-index : goal.invariant-loop-index
invariant-loop-index g l =
    (l.fn.from ≤ l.index)
    × Written (g.K.Sink.meaning l.fn.sink) (flat_map (traced_text l.history.actors) (take (l.index - l.fn.from) (drop l.fn.from l.history.entries))) false
    (g.K.Sink.meaning l.sink)
