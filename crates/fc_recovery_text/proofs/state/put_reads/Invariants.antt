use Rattle.std.proofs.Common.{false}
use Rattle.fc_recovery_text.proofs.Reading.{ReadSoFar}
use Rattle.fc_recovery_text.proofs.state.put_reads.Given as goal

-- the volumes so far are read
abbrev pub invariant-loop-place : goal.invariant-loop-place
invariant-loop-place g l = ReadSoFar l.fn.recovered l.recovered (g.K.Sink.meaning l.fn.sink) false (g.K.Sink.meaning l.sink) l.place
