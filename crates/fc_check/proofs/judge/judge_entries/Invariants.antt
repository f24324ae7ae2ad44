use Rattle.std.proofs.Common.{◌-◌, ◌≤◌, length, take}
use Rattle.fc_check.specs.Progress.{IsProgress}
use Rattle.fc_check.specs.Traces.{IsTraceOf}
use Rattle.fc_check.proofs.judge.judge_entries.Given as goal

-- the bytes before the place are the trace of the history
abbrev pub invariant-loop-place : goal.invariant-loop-place
invariant-loop-place l = record {
  within : l.place ≤ length l.bytes;
  trace : IsTraceOf l.header l.progress.history (take l.place l.bytes);
  known : IsProgress l.header l.progress;
}

abbrev pub decreases-loop-place : goal.decreases-loop-place
decreases-loop-place l = length l.bytes - l.place
