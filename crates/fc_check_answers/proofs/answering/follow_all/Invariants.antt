use Rattle.std.proofs.Common.{[], ◌+◌, map, vec_len}
use Rattle.fc_check_answers.proofs.Coming.{HaveGiven}
use Rattle.fc_check_answers.proofs.Running.{RunGives}
use Rattle.fc_check_answers.specs.Runs.{AreRunsAt, place_at}
use Rattle.fc_check_answers.proofs.answering.follow_all.Given as goal

-- So far just what the runs led to came, that aren't left.
abbrev pub invariant-loop-run : goal.invariant-loop-run
invariant-loop-run l = record {
  given : HaveGiven (RunGives l.name l.entry) l.fn.runs.items l.runs.items [] (map place_at l.after.items);
  runs : AreRunsAt l.fn.grain (l.entry.number + 1) l.after.items;
}

abbrev pub decreases-loop-run : goal.decreases-loop-run
decreases-loop-run l = vec_len l.runs
