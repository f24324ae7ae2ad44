-- The items before this one were put.
use Rattle.std.proofs.Common.{◌++◌, take, false, codes, decimal}
use Rattle.std.specs.List.{flat_map}
use Rattle.fc_entry.specs.Written.{Written}
use Rattle.fc_trace.specs.Trace.{disks_of}
use Rattle.fc_trace.proofs.header.put_counts.Given as goal

abbrev pub invariant-loop-lane : goal.invariant-loop-lane
invariant-loop-lane g l =
    Written (g.K.Sink.meaning l.fn.sink) (flat_map (λ lane. codes " " ++ decimal (disks_of l.kind lane)) (take l.lane-index l.lanes)) false
    (g.K.Sink.meaning l.sink)
