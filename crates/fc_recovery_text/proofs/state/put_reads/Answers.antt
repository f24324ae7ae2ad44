use Rattle.std.proofs.Common.{◌+◌, false, true}
use Rattle.fc_recovery_text.proofs.Reading.{more_so_far, none_so_far, reads_stopped}
use Rattle.fc_recovery_text.proofs.state.put_reads.Goals as goal

pub loop-place-init : goal.loop-place-init
loop-place-init g c = none_so_far c.args.recovered.now (g.K.Sink.meaning c.args.sink.now)

pub loop-place-preserved : goal.loop-place-preserved
loop-place-preserved g c =
    more_so_far c.args.recovered.now c.loop-place.recovered c.put_next.new.recovered (g.K.Sink.meaning c.args.sink.now) (g.K.Sink.meaning c.loop-place.sink) (g.K.Sink.meaning c.put_next.new.sink) false c.loop-place.place
    c.loop-place.invariant c.in_ok-put_next.ensures

pub returns-in_err-put_next : goal.returns-in_err-put_next
returns-in_err-put_next g c =
    rw c.from_residual.ensures.0
    (reads_stopped c.args.recovered.now c.put_next.new.recovered (g.K.Sink.meaning c.args.sink.now) (g.K.Sink.meaning c.put_next.new.sink) (c.loop-place.place + 1)
    (more_so_far c.args.recovered.now c.loop-place.recovered c.put_next.new.recovered (g.K.Sink.meaning c.args.sink.now) (g.K.Sink.meaning c.loop-place.sink) (g.K.Sink.meaning c.put_next.new.sink) true c.loop-place.place
    c.loop-place.invariant c.in_err-put_next.ensures))
