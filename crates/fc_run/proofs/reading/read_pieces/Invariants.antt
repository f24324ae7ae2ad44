use Rattle.std.proofs.Common.{◌-◌, ◌≡◌, ◌≤◌, [], length}
use Rattle.fc_entry.specs.Text.{HasNames}
use Rattle.fc_run.specs.Output.{HasGot, text_so_far}
use Rattle.fc_run.specs.ReadTo.{SoFar}
use Rattle.fc_run.proofs.reading.read_pieces.Given as goal

-- so many bytes were taken, the lines that ended in them answered, and the answers put
abbrev pub invariant-loop-taken : goal.invariant-loop-taken
invariant-loop-taken g l = record {
  so_far : (start : g.A.Answers.Start) → (g.A.Answers.runs l.fn.answers start).Whole [] l.fn.history →
      SoFar (g.S.Source.meaning l.fn.source) (g.S.Source.meaning l.source) (g.A.Answers.runs l.answers start) l.line.items l.history l.taken;
  within : l.taken ≤ 67108864;
  room : length l.history.entries ≤ 262144;
  named : HasNames l.history;
  form : l.output.form ≡ l.fn.output.form;
  put : l.output.put ≤ length l.history.entries;
  got : HasGot (g.K.Sink.meaning l.fn.sink) (text_so_far l.fn.output.form l.output.put l.history) (g.K.Sink.meaning l.sink);
}

abbrev pub decreases-loop-taken : goal.decreases-loop-taken
decreases-loop-taken g l = 67108864 - l.taken
