use Rattle.std.proofs.Common.{arith}
use Rattle.fc_io.proofs.Puts.{failed_put, one_fault}
use Rattle.fc_io.proofs.mem_sink.MemSinkSink.put.Goals as goal

pub returns-then-next : goal.returns-then-next
returns-then-next c =
    rw (← c.self.view_is, c.next.ensures.passed)
    (failed_put _ _ _ _ _ _ _ _ _ (omega arith) c.extend_from_slice.ensures.items (one_fault _ _ (omega arith) c.saturating_add-self-inside.ensures))
