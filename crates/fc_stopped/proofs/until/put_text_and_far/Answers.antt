-- One text behind the other.
use Rattle.std.proofs.Common.{is_err}
use Rattle.fc_entry.proofs.WrittenLemmas.{Written-then}
use Rattle.fc_entry.specs.Text.{history_text}
use Rattle.fc_stopped.specs.Text.{far_text}
use Rattle.fc_stopped.proofs.until.put_text_and_far.Goals as goal

pub returns : goal.returns
returns g c =
    Written-then (g.K.Sink.meaning c.args.sink.now) (history_text c.args.history.now) (g.K.Sink.meaning c.put_history.new.sink) (far_text c.args.far)
    (is_err c.put_far.result) (g.K.Sink.meaning c.put_far.new.sink) c.in_ok-put_history.ensures c.put_far.ensures
