use Rattle.std.proofs.Common.{ℕ, map, vec_len}
use Rattle.fc_base.specs.declared.size.GrainSize.{GrainSize}
use Rattle.fc_check_answers.proofs.Coming.{HaveGiven}
use Rattle.fc_check_answers.specs.Runs.{AreRunsAt, WayLeadsOn, place_at}
use Rattle.fc_check_follow.specs.Following.{AreCandidates}
use Rattle.fc_check_answers.proofs.run.go_on_ways.Given as goal

-- So far just what the ways led to came, that aren't left.
abbrev pub invariant-loop-way : goal.invariant-loop-way
invariant-loop-way l = record {
  given : HaveGiven (WayLeadsOn l.fn.lines l.name l.entry) l.initial.ways.items l.ways.items (map place_at l.fn.after.items) (map place_at l.after.items);
  runs : (grain : GrainSize) (entries : ℕ) → AreCandidates grain entries l.fn.ways.items → AreRunsAt grain entries l.fn.after.items → AreRunsAt grain entries l.after.items;
}

abbrev pub decreases-loop-way : goal.decreases-loop-way
decreases-loop-way l = vec_len l.ways
