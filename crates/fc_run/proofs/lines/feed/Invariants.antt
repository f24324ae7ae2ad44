use Rattle.std.proofs.Common.{◌≤◌, ℕ, List, ◌++◌, length, take}
use Rattle.fc_entry.specs.Text.{HasNames}
use Rattle.fc_run.specs.Progress.{Progress}
use Rattle.fc_run.specs.Runs.{GrowsTo}
use Rattle.fc_run.proofs.lines.feed.Given as goal

-- the bytes so far were fed
abbrev pub invariant-loop-byte : goal.invariant-loop-byte
invariant-loop-byte g l = record {
  room : length l.history.entries ≤ 262144;
  named : HasNames l.fn.history → HasNames l.history;
  grows : GrowsTo l.fn.history l.history;
  fed : (start : g.A.Answers.Start) (bytes : List ℕ) →
      Progress (g.A.Answers.runs l.fn.answers start) bytes l.fn.line.items l.fn.history →
      Progress (g.A.Answers.runs l.answers start) (bytes ++ take l.byte-index l.piece) l.line.items l.history;
}
