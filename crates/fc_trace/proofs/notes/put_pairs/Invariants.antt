-- The items before this one were put.
use Rattle.std.proofs.Common.{take, false}
use Rattle.std.specs.List.{flat_map}
use Rattle.fc_trace.specs.Notes.{pair_text}
use Rattle.fc_entry.specs.Written.{Written}
use Rattle.fc_trace.proofs.notes.put_pairs.Given as goal

abbrev pub invariant-loop-pair : goal.invariant-loop-pair
invariant-loop-pair g l =
    Written (g.K.Sink.meaning l.fn.sink) (flat_map pair_text (take l.pair-index l.pairs)) false
    (g.K.Sink.meaning l.sink)
