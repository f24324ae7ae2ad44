use Rattle.std.proofs.Common.{◌≡◌, ◌++◌, List, ℕ, length}
use Rattle.std.specs.Io.KnownBytes.{Appends}
use Rattle.std.specs.Io.Buffered.{writer_contents}
use Rattle.fc_io.proofs.std_sink.StdSinkSink.put.Given as goal

-- a front of the part was added
abbrev pub invariant-loop-rest : goal.invariant-loop-rest
invariant-loop-rest g l =
    ((front : List ℕ) × (l.fn.part ≡ front ++ l.rest) × Appends (writer_contents g.W.Write.contents l.fn.self.writer) (writer_contents g.W.Write.contents l.self.writer) front) × (l.self.faults ≡ l.fn.self.faults)

abbrev pub decreases-loop-rest : goal.decreases-loop-rest
decreases-loop-rest g l = length l.rest
