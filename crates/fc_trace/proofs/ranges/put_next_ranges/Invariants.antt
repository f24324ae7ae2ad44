-- The items before this one were put.
use Rattle.std.proofs.Common.{◌++◌, take, false, codes}
use Rattle.std.specs.List.{flat_map}
use Rattle.fc_trace.specs.Notes.{range_text}
use Rattle.fc_entry.specs.Written.{Written}
use Rattle.fc_trace.proofs.ranges.put_next_ranges.Given as goal

abbrev pub invariant-loop-range : goal.invariant-loop-range
invariant-loop-range g l =
    Written (g.K.Sink.meaning l.fn.sink) (flat_map (λ range. codes "," ++ range_text range) (take l.range-index l.ranges)) false
    (g.K.Sink.meaning l.sink)
