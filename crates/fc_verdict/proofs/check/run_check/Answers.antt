-- A verdict was said and its line written, or nothing is said.
use Rattle.std.proofs.Common.{refl, Ok, Err}
use Rattle.fc_verdict.proofs.CheckLemmas.{check_ends}
use Rattle.fc_verdict.proofs.check.run_check.Goals as goal

pub returns-in-Err : goal.returns-in-Err
returns-in-Err g c = λ disks history empty.
    check_ends c.check.result (Err c.in-Err.stop)
    record {
      status = c.status_stopped.result;
      source = g.S.Source.meaning c.args.source.now;
      source' = g.S.Source.meaning c.check.new.source;
      sink = g.K.Sink.meaning c.args.sink.now;
      sink' = g.K.Sink.meaning c.args.sink.now;
      disks = disks;
      disks' = disks;
      history = history;
    }
    c.in-Err.is c.check.ensures (c.status_stopped.ensures, refl) refl empty

pub returns-in-Ok : goal.returns-in-Ok
returns-in-Ok g c = λ disks history empty.
    check_ends c.check.result (Ok c.in-Ok.verdict)
    record {
      status = c.write_verdict.result;
      source = g.S.Source.meaning c.args.source.now;
      source' = g.S.Source.meaning c.check.new.source;
      sink = g.K.Sink.meaning c.args.sink.now;
      sink' = g.K.Sink.meaning c.write_verdict.new.sink;
      disks = disks;
      disks' = disks;
      history = history;
    }
    c.in-Ok.is c.check.ensures c.write_verdict.ensures refl empty
