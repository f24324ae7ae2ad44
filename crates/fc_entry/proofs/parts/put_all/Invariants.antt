-- The parts before this one were put.
use Rattle.std.proofs.Common.{take, false}
use Rattle.std.specs.List.{flat_map}
use Rattle.fc_entry.specs.Written.{Written}
use Rattle.fc_entry.proofs.parts.put_all.Given as goal

abbrev pub invariant-loop-part : goal.invariant-loop-part
invariant-loop-part g l =
    Written (g.K.Sink.meaning l.fn.sink) (flat_map (λ part. part.now) (take l.part-index l.parts)) false
    (g.K.Sink.meaning l.sink)
