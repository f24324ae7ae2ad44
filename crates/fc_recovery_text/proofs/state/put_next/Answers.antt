use Rattle.std.proofs.Common.{None, is_err, refl}
use Rattle.fc_recovery_text.proofs.Reading.{none_next, read_next}
use Rattle.fc_recovery_text.proofs.state.put_next.Goals as goal

pub returns-in-Some : goal.returns-in-Some
returns-in-Some g c =
    read_next c.args.recovered.now c.read-reply.new.self c.args.place c.in-Some.part c.read-reply.result (g.K.Sink.meaning c.args.sink.now) (is_err c.put_read.result) (g.K.Sink.meaning c.put_read.new.sink)
    c.requires c.in-Some.ensures.part c.read-reply.ensures.shown c.read-reply.ensures.disks c.read-reply.ensures.grain c.read-reply.ensures.image c.put_read.ensures

pub returns-in-None : goal.returns-in-None
returns-in-None g c = none_next c.args.recovered.now c.args.place None (g.K.Sink.meaning c.args.sink.now) c.requires c.in-None.ensures.part refl
