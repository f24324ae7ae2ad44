-- What was taken is one byte.
use Rattle.std.proofs.Common.{arith, Ok}
use Rattle.fc_run.proofs.TakesLemmas.{GaveAny-taken}
use Rattle.fc_run.proofs.ReadingLemmas.{PastLimit-byte}
use Rattle.fc_run.proofs.reading.ask_past_limit.Goals as goal

pub returns-in-Ok-clause-ends : goal.returns-in-Ok-clause-ends
returns-in-Ok-clause-ends g c =
    PastLimit-byte (g.S.Source.meaning c.args.source.now) (g.S.Source.meaning c.take.new.self) c.in-Ok.field-0 c.take.new.out
    c.in-Ok.field-0-test.1 c.in-Ok.ensures.taken.fits (omega arith) c.in-Ok.ensures.taken.next

pub returns-in-Ok-clause-took : goal.returns-in-Ok-clause-took
returns-in-Ok-clause-took g c =
    GaveAny-taken (g.S.Source.meaning c.args.source.now) (g.S.Source.meaning c.take.new.self) (Ok c.in-Ok.field-0) c.take.new.out
    c.in-Ok.ensures
