-- The volumes before this one were put.
use Rattle.std.proofs.Common.{take, false}
use Rattle.std.specs.List.{flat_map}
use Rattle.fc_entry.specs.Text.{volume_text}
use Rattle.fc_entry.specs.Written.{Written}
use Rattle.fc_entry.proofs.phrase.put_volumes.Given as goal

abbrev pub invariant-loop-volume : goal.invariant-loop-volume
invariant-loop-volume g l =
    Written (g.K.Sink.meaning l.fn.sink) (flat_map volume_text (take l.volume-index l.volumes)) false
    (g.K.Sink.meaning l.sink)
