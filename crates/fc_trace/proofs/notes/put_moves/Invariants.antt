-- The items before this one were put.
use Rattle.std.proofs.Common.{take, false}
use Rattle.std.specs.List.{flat_map}
use Rattle.fc_trace.specs.Notes.{move_text}
use Rattle.fc_entry.specs.Written.{Written}
use Rattle.fc_trace.proofs.notes.put_moves.Given as goal

abbrev pub invariant-loop-made : goal.invariant-loop-made
invariant-loop-made g l =
    Written (g.K.Sink.meaning l.fn.sink) (flat_map move_text (take l.made-index l.moves)) false
    (g.K.Sink.meaning l.sink)
