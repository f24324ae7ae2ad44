-- A call that took bytes gave some.
use Rattle.std.proofs.Common.{arith, length, Err}
use Rattle.fc_run.proofs.GrowingLemmas.{GrowsTo-same}
use Rattle.fc_run.proofs.TakesLemmas.{GaveAny-taken, GaveSome-taken}
use Rattle.fc_run.proofs.ReadingLemmas.{FedPiece-taken}
use Rattle.fc_run.proofs.reading.take_turn.Goals as goal

pub returns-in-Ok-feed-clause-took : goal.returns-in-Ok-feed-clause-took
returns-in-Ok-feed-clause-took g c =
    GaveSome-taken (g.S.Source.meaning c.args.source.now) (g.S.Source.meaning c.take.new.self) c.in-Ok.n c.take.new.out
    c.in-Ok.ensures c.in-Ok.n-test.1

pub returns-in-Err-feed-clause-took : goal.returns-in-Err-feed-clause-took
returns-in-Err-feed-clause-took g c =
    GaveSome-taken (g.S.Source.meaning c.args.source.now) (g.S.Source.meaning c.take.new.self) c.in-Ok.n c.take.new.out
    c.in-Ok.ensures c.in-Ok.n-test.1

pub returns-in-Ok-feed-clause-turned : goal.returns-in-Ok-feed-clause-turned
returns-in-Ok-feed-clause-turned g c = λ start bytes before.
    FedPiece-taken c.in-Ok.n (length c.args.buffer.now) (g.S.Source.meaning c.args.source.now) (g.S.Source.meaning c.take.new.self)
    c.take.new.out bytes _ c.in-Ok.n-test.1 c.in-Ok.ensures.taken.fits (omega arith) c.in-Ok.ensures.taken.next
    (c.in-Ok-feed.ensures.fed start bytes before)

pub returns-in-Err-feed-clause-turned : goal.returns-in-Err-feed-clause-turned
returns-in-Err-feed-clause-turned g c = λ start bytes before.
    FedPiece-taken c.in-Ok.n (length c.args.buffer.now) (g.S.Source.meaning c.args.source.now) (g.S.Source.meaning c.take.new.self)
    c.take.new.out bytes _ c.in-Ok.n-test.1 c.in-Ok.ensures.taken.fits (omega arith) c.in-Ok.ensures.taken.next
    (c.in-Err-feed.ensures.fed start bytes before)

pub returns-in-Ok-eq0-clause-grows : goal.returns-in-Ok-eq0-clause-grows
returns-in-Ok-eq0-clause-grows g c = GrowsTo-same c.args.history.now

pub returns-in-Err-clause-grows : goal.returns-in-Err-clause-grows
returns-in-Err-clause-grows g c = GrowsTo-same c.args.history.now

pub returns-in-Err-clause-took : goal.returns-in-Err-clause-took
returns-in-Err-clause-took g c =
    GaveAny-taken (g.S.Source.meaning c.args.source.now) (g.S.Source.meaning c.take.new.self) (Err c.in-Err.field-0) c.take.new.out
    c.in-Err.ensures
